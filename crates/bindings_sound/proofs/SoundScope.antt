-- The scope of a sound room: each slot stands for the value that is read out of it, in every rooms that have these bindings; and that scope
-- is the one of a binding room of the definition. Assumes nothing.
use Prim.Native.Nat.{ℕ, zero, suc, ◌+◌, ◌≤◌, ◌<◌}
use mathlib.Core.Path.{◌≡◌, refl, sym, ◌∙◌}
use mathlib.Core.List.{List, []}
use Rattle.std.specs.Prelude.{Option, None, Some, Ok}
use mathlib.Core.Bool.{Bool, true, false, ◌||◌}
use native.Mathlib.Omega.{arith}
use lib.Dec.{eqb, ltb}
use lib.ListN.{length}
use borrow.Author.Tests.{eqb-true, eqb-false, ne_eqb, ltb-true, ltb-false}
use Rattle.meaning.specs.Value as Meaning
use Rattle.meaning.specs.Comprehension as Loops
use Rattle.meaning.specs.Comprehension.{empty_scope, store}
use Rattle.meaning.specs.Bindings.{bound_in, scope_of}
use Rattle.rooms.specs.declared.value.Value.{Value}
use Rattle.rooms.specs.Cells.{Fits}
use Rattle.rooms.specs.Rooms.{rooms}
use Rattle.rooms.specs.Reading.{read_to, reading}
use Rattle.rooms.specs.Scope.{slot_of, StandsSlot, StandsScope}
use Rattle.rooms.proofs.Depths.{stands-nesting}
use Rattle.rooms.proofs.ReadBack.{reads}
use Rattle.rooms.proofs.Scopes.{no_slot}
use Rattle.bindings_sound.specs.declared.Bindings.{Bindings}
use Rattle.bindings_sound.specs.Fits.{value_fits, is_absent, slot_fits}
use Rattle.bindings_sound.specs.Sound.{sound_of}
use Rattle.bindings_sound.specs.Held.{binding_rooms, held_scope, also_bound, bound_from, room_of, alive_below}
use Rattle.bindings_sound.specs.SoundRoom.{SoundRoom}
use Rattle.bindings_sound.proofs.FitLaws.{sound-room, fits-nesting}
use Rattle.bindings_sound.proofs.HeldLaws.{HeldBy, held}

-- ---- what is read of a name without a value

pub absent-is : (v : Value) → is_absent v ≡ true → v ≡ Value.Absent
absent-is Value.Null e = let z : ◌≡◌ {A = ℕ} 0 1 = cc in absurd (omega arith)
absent-is (Value.Bool b) e = let z : ◌≡◌ {A = ℕ} 0 1 = cc in absurd (omega arith)
absent-is (Value.Int n) e = let z : ◌≡◌ {A = ℕ} 0 1 = cc in absurd (omega arith)
absent-is (Value.Uint n) e = let z : ◌≡◌ {A = ℕ} 0 1 = cc in absurd (omega arith)
absent-is (Value.Double x) e = let z : ◌≡◌ {A = ℕ} 0 1 = cc in absurd (omega arith)
absent-is (Value.Nan b) e = let z : ◌≡◌ {A = ℕ} 0 1 = cc in absurd (omega arith)
absent-is (Value.String sp) e = let z : ◌≡◌ {A = ℕ} 0 1 = cc in absurd (omega arith)
absent-is (Value.Bytes sp) e = let z : ◌≡◌ {A = ℕ} 0 1 = cc in absurd (omega arith)
absent-is (Value.List d ro) e = let z : ◌≡◌ {A = ℕ} 0 1 = cc in absurd (omega arith)
absent-is (Value.Map d ro) e = let z : ◌≡◌ {A = ℕ} 0 1 = cc in absurd (omega arith)
absent-is Value.OptionalNone e = let z : ◌≡◌ {A = ℕ} 0 1 = cc in absurd (omega arith)
absent-is (Value.OptionalOf d s a) e = let z : ◌≡◌ {A = ℕ} 0 1 = cc in absurd (omega arith)
absent-is Value.Absent e = refl

pub beyond : (w t : List ℕ) (b : Bindings) (n : ℕ) → slot_of b.scope n ≡ Value.Absent → held_scope w t b n ≡ None
unfolding held_scope reading read_to
beyond w t b n e = rw e

module _ (w t : List ℕ) (b : Bindings) (s : sound_of w t b ≡ Ok tt) where
  room : SoundRoom w t b
  room = sound-room w t b s

  -- a value that fits is held
  pub fits-held : (v : Value) (least : ℕ) → value_fits w t b.cells b.bytes least v ≡ true → HeldBy w t b.cells b.bytes v
  fits-held v least e =
      held w t b.cells b.bytes (omega (arith, room.bytes_in)) room.cells 33 v least (omega (arith, fits-nesting w t b.cells b.bytes least v e)) e

  pub held-read : (n : ℕ) → (h : HeldBy w t b.cells b.bytes (slot_of b.scope n)) → held_scope w t b n ≡ Some h.value
  unfolding held_scope
  held-read n h = reads (alive_below b.cells) (binding_rooms w t) h.value (slot_of b.scope n) (h.stands [] [] [])

  slot-by : (n : ℕ) (c : Bool) → is_absent (slot_of b.scope n) ≡ c → (c || value_fits w t b.cells b.bytes 0 (slot_of b.scope n)) ≡ true →
      Fits (slot_of b.scope n) → (l e x : List ℕ) → StandsSlot (held_scope w t b n) (alive_below b.cells) (rooms l w t e x) (slot_of b.scope n)
  slot-by n true a f g l e x = rw (beyond w t b n (absent-is (slot_of b.scope n) a)) (absent-is (slot_of b.scope n) a)
  slot-by n false a f g l e x =
      let h = fits-held (slot_of b.scope n) 0 f in
      let i = stands-nesting (alive_below b.cells) (rooms l w t e x) h.value (slot_of b.scope n) (h.stands l e x) in
      rw (held-read n h)
      (record { stands = h.stands l e x; fits = g; nests = omega (arith, i, fits-nesting w t b.cells b.bytes 0 (slot_of b.scope n) f) })

  -- Each name of a sound room has what it holds.
  pub sound-scope : length b.scope.slots ≡ 128 → ((n : ℕ) → Fits (slot_of b.scope n)) → (l e x : List ℕ) →
      StandsScope (held_scope w t b) (alive_below b.cells) (rooms l w t e x) b.scope
  unfolding slot_fits
  sound-scope long fits l e x = record { long = long; each = λ n. by_name n (ltb n 128) refl }
    where
      by_name : (n : ℕ) (c : Bool) → ltb n 128 ≡ c → StandsSlot (held_scope w t b n) (alive_below b.cells) (rooms l w t e x) (slot_of b.scope n)
      by_name n true c = slot-by n (is_absent (slot_of b.scope n)) refl (room.slots n (ltb-true n 128 c)) (fits n) l e x
      by_name n false c =
          let a = no_slot b.scope n long (ltb-false n 128 c) in rw (beyond w t b n a) a

-- ---- a binding room of the definition

module _ (s : Loops.Scope) where
  bound-before : (m n k : ℕ) → m < n → bound_in (bound_from s n k) m ≡ None
  unfolding bound_from bound_in empty_scope store
  bound-before m n zero h = refl
  bound-before m n (suc k) h = by-slot (s n) (bound-before m (suc n) k (omega arith))
    where
      by-slot : (o : Option Meaning.Value) → bound_in (bound_from s (suc n) k) m ≡ None → bound_in (also_bound n o (bound_from s (suc n) k)) m ≡ None
      by-slot None e = e
      by-slot (Some v) e = rw (ne_eqb m n (λ z. omega (arith, z, h))) e

  -- each name from n on has what it has in the scope
  bound-has : (m n k : ℕ) → n ≤ m → m < n + k → bound_in (bound_from s n k) m ≡ s m
  unfolding bound_from bound_in store
  bound-has m n zero h i = absurd (omega arith)
  bound-has m n (suc k) h i = by-slot (s n) refl (eqb m n) refl (bound-before m (suc n) k) (bound-has m (suc n) k)
    where
      by-slot : (o : Option Meaning.Value) → s n ≡ o → (c : Bool) → eqb m n ≡ c → (m < suc n → bound_in (bound_from s (suc n) k) m ≡ None) →
          (suc n ≤ m → m < suc n + k → bound_in (bound_from s (suc n) k) m ≡ s m) → bound_in (also_bound n o (bound_from s (suc n) k)) m ≡ s m
      by-slot None e true c f g = let z = eqb-true m n c in f (omega (arith, z)) ∙ (rw z (sym e))
      by-slot None e false c f g = g (omega (arith, eqb-false m n c)) (omega arith)
      by-slot (Some v) e true c f g = rw (c, eqb-true m n c) (sym e)
      by-slot (Some v) e false c f g = rw c (g (omega (arith, eqb-false m n c)) (omega arith))

  bound-after : (m n k : ℕ) → n + k ≤ m → bound_in (bound_from s n k) m ≡ None
  unfolding bound_from bound_in empty_scope store
  bound-after m n zero h = refl
  bound-after m n (suc k) h = by-slot (s n) (bound-after m (suc n) k (omega arith))
    where
      by-slot : (o : Option Meaning.Value) → bound_in (bound_from s (suc n) k) m ≡ None → bound_in (also_bound n o (bound_from s (suc n) k)) m ≡ None
      by-slot None e = e
      by-slot (Some v) e = rw (ne_eqb m n (λ z. omega (arith, z, h))) e

-- The room that a lent one stands for has the same scope.
pub room-scope : (w t : List ℕ) (b : Bindings) → length b.scope.slots ≡ 128 → (n : ℕ) → scope_of (room_of w t b) n ≡ held_scope w t b n
unfolding scope_of room_of
room-scope w t b long n = by_name (ltb n 128) refl
  where
    by_name : (c : Bool) → ltb n 128 ≡ c → bound_in (bound_from (held_scope w t b) 0 128) n ≡ held_scope w t b n
    by_name true c = bound-has (held_scope w t b) n 0 128 (omega arith) (omega (arith, ltb-true n 128 c))
    by_name false c =
        bound-after (held_scope w t b) n 0 128 (omega (arith, ltb-false n 128 c))
        ∙ sym (beyond w t b n (no_slot b.scope n long (ltb-false n 128 c)))
