-- What the verdict on a lent binding room says of it. In order: a sound room; an unsound one; both. Rests on Formed and FirstBad.
-- Assumes nothing.
use Prim.Native.Nat.{ℕ, ◌≤◌, ◌<◌}
use mathlib.Core.Path.{◌≡◌, refl, sym, ◌∙◌, subst}
use mathlib.Core.Logic.{◌⊎◌, inl, inr}
use mathlib.Core.List.{List, []}
use Rattle.std.specs.Prelude.{Option, None, Some, Result, Ok, Err}
use mathlib.Core.Bool.{Bool, true, false, ◌&&◌, ◌||◌}
use native.Mathlib.Omega.{arith}
use lib.Dec.{leb, ltb}
use borrow.Author.Tests.{ltb-true, ltb-false}
use Rattle.meaning.specs.Value as Meaning
use Rattle.meaning.specs.WellFormed.{WellFormed}
use Rattle.rooms.specs.Scope.{slot_of}
use Rattle.rooms.proofs.Depths.{stands-nesting}
use Rattle.rooms.proofs.Scopes.{no_slot}
use Rattle.rooms_taking.specs.Taking.{cell_room, text_room}
use Rattle.bindings_sound.specs.declared.Bindings.{Bindings}
use Rattle.bindings_sound.specs.Fits.{value_fits, is_absent, slot_fits}
use Rattle.bindings_sound.specs.Sound.{verdict, cell_fits, first_bad, slots_fit, used_cells, used_bytes, sound_of}
use Rattle.bindings_sound.specs.Held.{binding_rooms, held_scope, alive_below}
use Rattle.bindings_sound.specs.SoundRoom.{SoundRoom}
use Rattle.bindings_sound.proofs.FitLaws.{all-good, sound-room, room-sound, fits-nesting}
use Rattle.bindings_sound.proofs.SoundScope.{absent-is, beyond, fits-held, held-read}
use Rattle.bindings_laws.specs.Verdicts.{Lent, HoldsFormed, FirstBadCell, BadElsewhere, Says}
use Rattle.bindings_laws.proofs.Formed.{formed}
use Rattle.bindings_laws.proofs.FirstBad.{first-bad}

-- ---- a sound room

nothing-there : {A : Type 0} {x : A} {o : Option A} → o ≡ None → o ≡ Some x → ⊥
nothing-there {A} {x} {o} e f = let i : ◌≡◌ {A = Option A} None (Some x) = sym e ∙ f in let z : ◌≡◌ {A = ℕ} 0 1 = cc in omega arith

one-there : {A : Type 0} {x y : A} {o : Option A} → o ≡ Some x → o ≡ Some y → x ≡ y
one-there {A} {x} {y} {o} e f = let i : ◌≡◌ {A = Option A} (Some x) (Some y) = sym e ∙ f in cc

module _ (w t : List ℕ) (b : Bindings) (lent : Lent w t b) (s : sound_of w t b ≡ Ok tt) where
  room : SoundRoom w t b
  room = sound-room w t b s

  slot-formed : (n : ℕ) (v : Meaning.Value) → held_scope w t b n ≡ Some v → value_fits w t b.cells b.bytes 0 (slot_of b.scope n) ≡ true → WellFormed v
  slot-formed n v e f =
      let h = fits-held w t b s (slot_of b.scope n) 0 f in
      let i = stands-nesting (alive_below b.cells) (binding_rooms w t) h.value (slot_of b.scope n) (h.stands [] [] []) in
      subst WellFormed (one-there (held-read w t b s n h) e)
      (record {
        sound =
            formed w t b.cells b.bytes lent.words lent.text room.cells h.value (slot_of b.scope n) 0 (h.stands [] [] []) f (lent.values n);
        nests = omega (arith, i, fits-nesting w t b.cells b.bytes 0 (slot_of b.scope n) f);
      })

  -- What a sound room holds is well formed.
  pub sound-formed : HoldsFormed w t b
  unfolding slot_fits
  sound-formed n v e = by_name (ltb n 128) refl
    where
      by-slot : (c : Bool) → is_absent (slot_of b.scope n) ≡ c → (c || value_fits w t b.cells b.bytes 0 (slot_of b.scope n)) ≡ true → WellFormed v
      by-slot true a f = absurd (nothing-there (beyond w t b n (absent-is (slot_of b.scope n) a)) e)
      by-slot false a f = slot-formed n v e f

      by_name : (c : Bool) → ltb n 128 ≡ c → WellFormed v
      by_name true c = by-slot (is_absent (slot_of b.scope n)) refl (room.slots n (ltb-true n 128 c))
      by_name false c = absurd (nothing-there (beyond w t b n (no_slot b.scope n lent.slots (ltb-false n 128 c))) e)

-- ---- an unsound one

unlike : {s : Result (Unit {0}) ℕ} {p : ℕ} → s ≡ Ok tt → s ≡ Err p → ⊥
unlike {s} {p} e f = let z : ◌≡◌ {A = ℕ} 0 1 = cc in omega arith

-- nothing else can be bad
good-sound : (w t : List ℕ) (b : Bindings) → b.cells ≤ cell_room w → b.bytes ≤ text_room t →
    ((i : ℕ) → i < used_cells w t b → cell_fits w t (used_cells w t b) (used_bytes w t b) i ≡ true) →
    ((n : ℕ) → n < 128 → slot_fits w t b.cells b.bytes (slot_of b.scope n) ≡ true) → sound_of w t b ≡ Ok tt
unfolding cell_fits
good-sound w t b c d cells slots =
    let u : used_cells w t b ≡ b.cells = omega (arith, c) in
    let v : used_bytes w t b ≡ b.bytes = omega (arith, d) in
    room-sound w t b (record { cells_in = c; bytes_in = d; cells = λ i h. rw (u, v) at (cells i (omega (arith, h, u))); slots = slots })

-- An unsound room's place is its first bad cell; it is 0 if no cell is bad, but a used count or a slot.
pub unsound-place : (w t : List ℕ) (b : Bindings) (p : ℕ) → sound_of w t b ≡ Err p → FirstBadCell w t b p ⊎ BadElsewhere w t b p
unfolding sound_of
unsound-place w t b p u =
    by_tests (first_bad w t used bytes 0 used) refl (leb b.cells (cell_room w) && (leb b.bytes (text_room t) && slots_fit w t used bytes b.scope 0 128)) u
  where
    used : ℕ
    used = used_cells w t b

    bytes : ℕ
    bytes = used_bytes w t b

    by_tests : (o : Option ℕ) → first_bad w t used bytes 0 used ≡ o → (d : Bool) → verdict o d ≡ Err p → FirstBadCell w t b p ⊎ BadElsewhere w t b p
    by_tests (Some q) e d g =
        let same : q ≡ p = cc in
        let f = first-bad w t used bytes 0 used q e in
        inl (subst (FirstBadCell w t b) same (record { used = omega (arith, f.inside); bad = f.bad; before = λ i h. f.before i (omega arith) h }))
    by_tests None e true g = let z : ◌≡◌ {A = ℕ} 0 1 = cc in absurd (omega arith)
    by_tests None e false g =
        let zero_is : p ≡ 0 = cc in
        let cells : (i : ℕ) → i < used → cell_fits w t used bytes i ≡ true = λ i k. all-good w t used bytes 0 used e i (omega arith) (omega (arith, k)) in
        inr (record { place = zero_is; cells = cells; bad = λ c d slots. unlike (good-sound w t b c d cells slots) u })

-- ---- both

-- What the verdict says of every room that can be lent.
pub verdict-says : (w t : List ℕ) (b : Bindings) → Lent w t b → Says w t b
verdict-says w t b lent = record { sound = λ s. sound-formed w t b lent s; unsound = λ p u. unsound-place w t b p u }
