-- What a binding brought in comes to is what the definition brings in. In order: two readings side by side; names without a value; the room
-- afterwards; refusals and the theorem; an emptied room. Rests on LaidValues and OlderValues. Assumes nothing.
use Prim.Native.Nat.{ℕ, suc, ◌+◌, ◌*◌, ◌/◌, ◌≤◌, ◌<◌, min}
use mathlib.Core.Path.{◌≡◌, refl, sym, ap, ap₂, ◌∙◌}
use mathlib.Core.Logic.{◌⊎◌, inl, inr}
use mathlib.Core.List.{List, []}
use Rattle.std.specs.Prelude.{Option, None, Some, Ok}
use mathlib.Core.Bool.{Bool, true, false, not, ◌&&◌, ◌||◌, cond}
use native.Mathlib.Omega.{arith}
use lib.Dec.{leb, eqb, ltb}
use lib.ListN.{length}
use borrow.Author.Tests.{eqb-true, eqb-false, ltb-true, ltb-false}
use Rattle.meaning.specs.Limits.{most_cells, most_bytes}
use Rattle.meaning.specs.declared.refusal.Reason.{Reason}
use Rattle.meaning.specs.declared.refusal.Reason.TheVariants.{WrongField, NameBound, BindingRoomFull}
use Rattle.meaning.specs.Value as Meaning
use Rattle.meaning.specs.Maps.{is_found}
use Rattle.meaning.specs.Comprehension.{empty_scope, store}
use Rattle.meaning.specs.Heads.{Got, got, refused, ◌>>=◌, ◌>>◌, demand, or_refuse, start}
use Rattle.meaning.specs.Kinds.{name_of}
use Rattle.meaning.specs.Table.{read_table}
use Rattle.meaning.specs.Bindings.{cells_of, bytes_of, BindingRoom, empty_room, bound_in, scope_of, bring}
use Rattle.meaning.specs.Spelling.{Literal, literal_of, spelled_root}
use Rattle.meaning.specs.WellFormed.{AllBytes, WellFormed}
use Rattle.meaning_laws.specs.Brought.{with_binding}
use Rattle.meaning_laws.proofs.Reading.{was_read}
use Rattle.meaning_laws.proofs.TableFormed.{table-formed}
use Rattle.meaning_laws.proofs.Spelled.{literal-sound, spelled-well-formed}
use Rattle.table_check.specs.Records.{expr_of}
use Rattle.rooms.specs.declared.value.Value.{Value}
use Rattle.rooms.specs.Value.{nesting_of}
use Rattle.rooms.specs.Cells.{cell_in}
use Rattle.rooms.specs.Rooms.{rooms}
use Rattle.rooms.specs.Reading.{read_to, reading}
use Rattle.rooms_taking.specs.Taking.{cell_room, text_room}
use Rattle.rooms.specs.Scope.{empty_slots, slot_of}
use Rattle.rooms.proofs.ReadBack.{reads}
use Rattle.rooms.proofs.Scopes.{scope-empty, no_slot, stored_same, stored_other}
use Rattle.bindings_sound.specs.declared.Bindings.{Bindings}
use Rattle.bindings_sound.specs.Fits.{value_fits, is_absent, slot_fits}
use Rattle.bindings_sound.specs.Sound.{sound_of}
use Rattle.bindings_sound.specs.Held.{binding_rooms, held_scope, room_of, alive_below}
use Rattle.bindings_sound.specs.SoundRoom.{SoundRoom}
use Rattle.bindings_sound.proofs.FitLaws.{sound-room, room-sound}
use Rattle.bindings_sound.proofs.SoundScope.{absent-is, beyond, fits-held, held-read, room-scope}
use Rattle.bindings_literals.specs.Laying.{Room, room, laid}
use Rattle.bindings.specs.Bringing.{literal_for, accepted, bound, after, outcome_of, emptied}
use Rattle.bindings.proofs.LayLaws.{laid_cells, laid-bytes}
use Rattle.bindings_literals.proofs.SpelledLaws.{spells-cells, spells-bytes}
use Rattle.bindings.proofs.AcceptedLaws.{Fits, accepted-fits}
use Rattle.bindings_laws.specs.Brings.{StandsFor, Holds, Brings, BringsIn}
use Rattle.bindings_laws.proofs.LayingKeeps.{Later, take_same, drop-same, later-cell, later-text, laid-later}
use Rattle.bindings_laws.proofs.OlderValues.{never, fits_kept, read_kept}
use Rattle.bindings_laws.proofs.LaidValues.{LaidAt, literal-laid, either_side, lower}

-- ---- two readings side by side

-- both refuse alike, or both give something
abbrev Both : {A B : Type 0} → (A → B → Type 0) → Got A → Got B → Type 0
Both R (got a) (got b) = R a b
Both R (got a) (refused r p) = ⊥
Both R (refused r p) (got b) = ⊥
Both R (refused r p) (refused s q) = (r ≡ s) × (p ≡ q)

both-bind : {A C D : Type 0} (S : C → D → Type 0) (g : Got A) (k : A → Got C) (j : A → Got D) → ((a : A) → g ≡ got a → Both S (k a) (j a)) → Both S (◌>>=◌ g k) (◌>>=◌ g j)
unfolding ◌>>=◌
both-bind S (got a) k j h = h a refl
both-bind S (refused r p) k j h = (refl, refl)

both-demand : {C D : Type 0} (S : C → D → Type 0) (a b : Bool) → a ≡ b → (r : Reason) (p : ℕ) (k : Got C) (j : Got D) → (a ≡ true → Both S k j) →
    Both S (◌>>◌ (demand a r p) k) (◌>>◌ (demand b r p) j)
unfolding ◌>>◌ ◌>>=◌ demand
both-demand S true true e r p k j h = h refl
both-demand S true false e r p k j h = never refl e
both-demand S false true e r p k j h = never refl (sym e)
both-demand S false false e r p k j h = (refl, refl)

-- ---- names without a value

or-either : (a b : Bool) → (a || b) ≡ true → a ≡ false → b ≡ true
or-either true b e f = never refl f
or-either false b e f = e

module _ (w t : List ℕ) (b : Bindings) (s : sound_of w t b ≡ Ok tt) where
  old : SoundRoom w t b
  old = sound-room w t b s

  -- a name that has no value has none in the scope, and every other has one
  pub absent-found : (n : ℕ) → n < 128 → is_absent (slot_of b.scope n) ≡ not (is_found (held_scope w t b n))
  unfolding is_found slot_fits
  absent-found n h = by-test (is_absent (slot_of b.scope n)) refl
    where
      by-test : (a : Bool) → is_absent (slot_of b.scope n) ≡ a → is_absent (slot_of b.scope n) ≡ not (is_found (held_scope w t b n))
      by-test true e = rw (beyond w t b n (absent-is (slot_of b.scope n) e)) e
      by-test false e =
          let f = or-either (is_absent (slot_of b.scope n)) (value_fits w t b.cells b.bytes 0 (slot_of b.scope n)) (old.slots n h) e in
          rw (held-read w t b s n (fits-held w t b s (slot_of b.scope n) 0 f)) e

named-below : (n : ℕ) (o : Option ℕ) → name_of n ≡ o → (m : ℕ) → or_refuse WrongField start o ≡ got m → (m ≡ n) × (n < 128)
unfolding name_of or_refuse
named-below n o e m f = by-test (ltb n 128) refl e f
  where
    by-test : (c : Bool) → ltb n 128 ≡ c → cond c (Some n) None ≡ o → or_refuse WrongField start o ≡ got m → (m ≡ n) × (n < 128)
    by-test true i j k = let u : n ≡ m = cc in (sym u, ltb-true n 128 i)
    by-test false i j k = absurd (let z : ◌≡◌ {A = ℕ} 0 1 = cc in omega arith)

-- ---- what the definition brings in, beside what the rooms do

module _ (w t : List ℕ) (b : Bindings) (room : BindingRoom) (stands : StandsFor w t b room) (name : ℕ) (table text : List ℕ) where
  -- the literals that are laid down spell the value that is bound
  abbrev Alike : Literal → BindingRoom → Type 0
  Alike l more = (v : Meaning.Value) × (spelled_root l ≡ got v) × (more ≡ with_binding room name v)

  free-alike : (n : ℕ) → n < 128 → is_absent (slot_of b.scope n) ≡ not (is_found (scope_of room n))
  free-alike n h = absent-found w t b stands.sound n h ∙ ap (λ (o : Option Meaning.Value). not (is_found o)) (stands.scope n)

  full-alike : (v : Meaning.Value) → (leb (b.cells + cells_of v) (cell_room w) && leb (b.bytes + bytes_of v) (text_room t)) ≡
      (leb (room.used_cells + cells_of v) (min (length w / 2) most_cells) && leb (room.used_bytes + bytes_of v) (min (length t) most_bytes))
  full-alike v = rw (stands.cells, stands.bytes)

  alike : Both Alike (accepted w t b name table text) (bring (length w / 2) (length t) room name table text)
  unfolding accepted bring literal_for
  alike =
      rw stands.sound
      (both-bind Alike (or_refuse WrongField start (name_of name)) _ _
      (λ n e. let i = named-below name (name_of name) refl n e in
      both-demand Alike _ _ (free-alike n (omega (arith, i))) NameBound start _ _
      (λ free. both-bind Alike (read_table table text) _ _
      (λ x r. both-bind Alike (literal_of x) _ _
      (λ l m. both-bind Alike (spelled_root l) _ _
      (λ v u. both-demand Alike _ _ (full-alike v) BindingRoomFull start _ _
      (λ d. (v, u, ap (λ k. with_binding room k v) i.0))))))))

-- ---- the room afterwards

module _ (w t : List ℕ) (b : Bindings) (slots : length b.scope.slots ≡ 128) (name : ℕ) (table text : List ℕ) (table_bytes : AllBytes table) (text_bytes : AllBytes text)
    (l : Literal) (fits : Fits w t b name table text l) where
  abbrev r : Room
  r = room w t b.cells b.bytes

  abbrev a : Value × Room
  a = laid l r

  abbrev q : Room
  q = a.1

  abbrev next : Bindings
  next = bound b name a

  was : SoundRoom w t b
  was = sound-room w t b fits.sound

  well : WellFormed fits.value
  well =
      was_read (spelled-well-formed l (was_read (literal-sound (expr_of table text 0) (was_read (table-formed table text table_bytes text_bytes) fits.read.is)) fits.literals))
      fits.spells

  later : Later b.cells b.cells r q
  later = laid-later l r

  cells-in : q.cells ≤ cell_room q.words
  cells-in = omega (arith, laid_cells l r, fits.cells, later.words_long)

  bytes-in : q.bytes ≤ text_room q.text
  bytes-in = omega (arith, laid-bytes l r, fits.bytes, later.text_long)

  laid-at : LaidAt q.words q.text q.cells q.bytes (omega (arith, cells-in)) (omega (arith, cells-in)) (omega (arith, bytes-in)) (omega (arith, bytes-in)) fits.value r a
  laid-at =
      literal-laid q.words q.text q.cells q.bytes (omega (arith, cells-in)) (omega (arith, cells-in)) (omega (arith, bytes-in)) (omega (arith, bytes-in))
      fits.spelt well.sound fits.nests r
      (record { cells = omega arith; within = omega arith; words_long = refl; text_long = refl; same = λ i u v. refl; texts = refl })

  cell-kept : (i : ℕ) → i < b.cells → cell_in q.words i ≡ cell_in w i
  cell-kept i h = later-cell later i (inl h) h

  value-kept : (v : Value) (least : ℕ) → value_fits w t b.cells b.bytes least v ≡ true → value_fits q.words q.text q.cells q.bytes least v ≡ true
  value-kept = fits_kept w t b.cells b.bytes was.cells q.words q.text q.cells q.bytes later.cells later.bytes cell-kept (later-text later)

  new-slot : slot_of next.scope name ≡ a.0
  new-slot = stored_same b.scope name a.0 (omega (arith, slots, fits.named))

  slot_kept : (n : ℕ) → (n ≡ name → ⊥) → slot_of next.scope n ≡ slot_of b.scope n
  slot_kept n d = stored_other b.scope name n a.0 d

  -- ---- it is sound

  or-true : (x : Bool) {y : Bool} → y ≡ true → (x || y) ≡ true
  or-true true e = refl
  or-true false e = e

  old-slot : (x : Bool) (v : Value) → is_absent v ≡ x → (x || value_fits w t b.cells b.bytes 0 v) ≡ true →
      (is_absent v || value_fits q.words q.text q.cells q.bytes 0 v) ≡ true
  old-slot true v e f = rw e
  old-slot false v e f = or-true (is_absent v) (value-kept v 0 f)

  sound-slot : (n : ℕ) → n < 128 → slot_fits q.words q.text q.cells q.bytes (slot_of next.scope n) ≡ true
  unfolding slot_fits
  sound-slot n h = by-test (eqb n name) refl
    where
      by-test : (c : Bool) → eqb n name ≡ c → slot_fits q.words q.text q.cells q.bytes (slot_of next.scope n) ≡ true
      by-test true e =
          rw (eqb-true n name e, new-slot)
          (or-true (is_absent a.0)
          (lower q.words q.text q.cells q.bytes (omega (arith, cells-in)) (omega (arith, cells-in)) (omega (arith, bytes-in)) (omega (arith, bytes-in))
          a.0 0 b.cells (omega arith) laid-at.good.fits))
      by-test false e =
          rw (slot_kept n (eqb-false n name e)) (old-slot (is_absent (slot_of b.scope n)) (slot_of b.scope n) refl (was.slots n h))

  sound-again : sound_of q.words q.text next ≡ Ok tt
  sound-again =
      room-sound q.words q.text next
      (record { cells_in = cells-in; bytes_in = bytes-in; cells = λ i h. by_side i h (either_side i b.cells); slots = sound-slot })
    where
      by_side : (i : ℕ) → i < q.cells → (i < b.cells) ⊎ (b.cells ≤ i) → value_fits q.words q.text q.cells q.bytes (suc i) (cell_in q.words i) ≡ true
      by_side i h (inl u) = rw (cell-kept i u) (value-kept (cell_in w i) (suc i) (was.cells i u))
      by_side i h (inr u) = laid-at.inner i u h

  -- ---- each name has its value

  slot_read : (x : Bool) (v : Value) → is_absent v ≡ x → (x || value_fits w t b.cells b.bytes 0 v) ≡ true → reading (binding_rooms q.words q.text) v ≡ reading (binding_rooms w t) v
  unfolding reading read_to
  slot_read true v e f = rw (absent-is v e)
  slot_read false v e f =
      read_kept w t b.cells b.bytes was.cells q.words q.text q.cells q.bytes later.cells later.bytes cell-kept (later-text later) (suc (nesting_of v)) v 0 f

  scope-again : (n : ℕ) → held_scope q.words q.text next n ≡ store (held_scope w t b) name fits.value n
  unfolding held_scope store slot_fits
  scope-again n = by_name (eqb n name) refl
    where
      other : (c : Bool) → ltb n 128 ≡ c → reading (binding_rooms q.words q.text) (slot_of b.scope n) ≡ reading (binding_rooms w t) (slot_of b.scope n)
      other true h = slot_read (is_absent (slot_of b.scope n)) (slot_of b.scope n) refl (was.slots n (ltb-true n 128 h))
      other false h = slot_read true (slot_of b.scope n) (ap is_absent (no_slot b.scope n slots (ltb-false n 128 h))) refl

      by_name : (c : Bool) → eqb n name ≡ c → held_scope q.words q.text next n ≡ cond c (Some fits.value) (held_scope w t b n)
      by_name true e =
          rw (eqb-true n name e, new-slot) (reads (alive_below q.cells) (binding_rooms q.words q.text) fits.value a.0 (laid-at.good.stands [] [] []))
      by_name false e = rw (slot_kept n (eqb-false n name e)) (other (ltb n 128) refl)

  -- ---- all of it

  spelt-once : {A : Type 0} {g : Got A} {x y : A} → g ≡ got x → g ≡ got y → x ≡ y
  spelt-once {A} {g} {x} {y} e f = let i : ◌≡◌ {A = Got A} (got x) (got y) = sym e ∙ f in cc

  holds : (room : BindingRoom) → StandsFor w t b room → (more : BindingRoom) (v : Meaning.Value) → spelled_root l ≡ got v → more ≡ with_binding room name v →
      Holds w t b more (after w t b name (got l))
  unfolding scope_of bound_in store
  holds room s more v u e =
      let same : fits.value ≡ v = spelt-once fits.spells u in
      let c : q.cells ≡ more.used_cells =
      omega (arith, laid_cells l r, spells-cells fits.spelt, s.cells, ap (λ (m : BindingRoom). m.used_cells) e, ap cells_of same) in
      let d : q.bytes ≡ more.used_bytes =
      omega (arith, laid-bytes l r, spells-bytes fits.spelt, s.bytes, ap (λ (m : BindingRoom). m.used_bytes) e, ap bytes_of same) in
      record {
        done = refl;
        stands =
            record {
              sound = sound-again;
              cells = c;
              bytes = d;
              scope = λ n.
                  scope-again n
                  ∙ (ap₂ (λ (x : Meaning.Value) (o : Option Meaning.Value). cond (eqb n name) (Some x) o) same (s.scope n)
                  ∙ sym (ap (λ (m : BindingRoom). scope_of m n) e));
            };
        words =
            record {
              long = later.words_long;
              before = take_same (2 * b.cells) q.words w later.words_long (λ k h. later.words_kept k (inl h) h);
              behind = drop-same (2 * more.used_cells) q.words w later.words_long (λ k h. later.words_above k (omega (arith, h, c)));
            };
        text =
            record {
              long = later.text_long;
              before = take_same b.bytes q.text t later.text_long (λ k h. later.text_kept k h);
              behind = drop-same more.used_bytes q.text t later.text_long (λ k h. later.text_above k (omega (arith, h, d)));
            };
      }

-- ---- every call

module _ (w t : List ℕ) (b : Bindings) (slots : length b.scope.slots ≡ 128) (name : ℕ) (table text : List ℕ) (table_bytes : AllBytes table) (text_bytes : AllBytes text) where
  brings-by : (room : BindingRoom) (s : StandsFor w t b room) (g : Got Literal) → accepted w t b name table text ≡ g → (h : Got BindingRoom) →
      Both (Alike w t b room s name table text) g h → Brings w t b h (after w t b name g)
  brings-by room s (got l) e (got more) k =
      holds w t b slots name table text table_bytes text_bytes l (was_read (accepted-fits w t b name table text) e) room s more k.0 k.1 k.2
  brings-by room s (got l) e (refused why p) k = absurd k
  brings-by room s (refused r p) e (got more) k = absurd k
  brings-by room s (refused r p) e (refused why place) k = rw (k.0, k.1)

  -- Bringing in a binding refuses where the definition does, with its number and place, and leaves all as it was; and where the definition
  -- gives a room, the lent one stands for it, and nothing is written but what it takes.
  pub brings-in : BringsIn w t b name table text
  unfolding outcome_of accepted
  brings-in =
      record {
        unsound = λ p e. rw e;
        sound = λ room s. brings-by room s (accepted w t b name table text) refl (bring (length w / 2) (length t) room name table text) (alike w t b room s name table text);
      }

-- ---- rooms to begin with

-- An emptied room, on any lent memory, stands for the definition's.
pub emptied-stands : (w t : List ℕ) → StandsFor w t emptied empty_room
unfolding empty_scope slot_fits scope_of bound_in
emptied-stands w t =
    record {
      sound =
          room-sound w t emptied
          (record { cells_in = omega arith; bytes_in = omega arith; cells = λ i h. absurd (omega (arith, h)); slots = λ n h. rw (each n) });
      cells = refl;
      bytes = refl;
      scope = λ n. beyond w t emptied n (each n);
    }
  where
    each : (n : ℕ) → slot_of empty_slots n ≡ Value.Absent
    each n = (scope-empty (alive_below 0) (rooms [] w t [] [])).each n

-- Every sound room stands for the room that is read out of it.
pub sound-stands : (w t : List ℕ) (b : Bindings) → length b.scope.slots ≡ 128 → sound_of w t b ≡ Ok tt → StandsFor w t b (room_of w t b)
unfolding room_of
sound-stands w t b slots s = record { sound = s; cells = refl; bytes = refl; scope = λ n. sym (room-scope w t b slots n) }
