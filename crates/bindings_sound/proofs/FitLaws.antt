-- What follows for a value that fits a binding room, and for each cell of a sound one. Assumes nothing.
use Prim.Native.Nat.{ℕ, zero, suc, ◌+◌, ◌*◌, ◌≤◌, ◌<◌}
use mathlib.Core.Path.{◌≡◌, refl, sym, ap, ◌∙◌}
use mathlib.Core.List.{List}
use mathlib.Core.Bool.{Bool, true, false, ◌&&◌, cond}
use native.Mathlib.Omega.{arith}
use lib.Dec.{leb, eqb}
use borrow.Author.Tests.{le-leb, leb-true, eqb-true, eqb-false}
use Rattle.text.specs.Utf8.{well_formed}
use Rattle.rooms.specs.declared.value.Value.{Value}
use Rattle.rooms.specs.declared.value.TextSpace.{TextSpace}
use Rattle.rooms.specs.declared.value.TextSpace.TheVariants as Text
use Rattle.rooms.specs.declared.value.CellSpace.{CellSpace}
use Rattle.rooms.specs.declared.value.CellSpace.TheVariants as Cells
use Rattle.rooms.specs.declared.scope.Scope.{Scope}
use Rattle.rooms.specs.Value.{nesting_of}
use Rattle.rooms.specs.Cells.{cell_in}
use Rattle.rooms.specs.Rooms.{part}
use Rattle.rooms_taking.specs.Taking.{cell_room, text_room}
use Rattle.rooms.specs.Scope.{slot_of}
use Rattle.bindings_sound.specs.declared.Bindings.{Bindings}
use Rattle.std.specs.Prelude.{Option, None, Some, Ok}
use Rattle.bindings_sound.specs.Keys.{keys_fit}
use Rattle.bindings_sound.specs.Fits.{deepest_in, span_fits, string_fits, row_fits, map_fits, value_fits, slot_fits}
use Rattle.bindings_sound.specs.Sound.{verdict, cell_fits, first_bad, slots_fit, used_cells, used_bytes, sound_of}
use Rattle.bindings_sound.specs.SoundRoom.{SoundRoom}

never : {A : Type 0} {b : Bool} → b ≡ true → b ≡ false → A
never e f = let z : true ≡ false = sym e ∙ f in let y : ◌≡◌ {A = ℕ} 1 0 = ap (λ b. cond b 1 0) z in absurd (omega arith)

pub both_true : {a b : Bool} → (a && b) ≡ true → (a ≡ true) × (b ≡ true)
both_true {a} {b} e = go a b e
  where
    go : (a b : Bool) → (a && b) ≡ true → (a ≡ true) × (b ≡ true)
    go true b e = (refl, e)
    go false b e = never e refl

-- ---- spans and rows

pub record Span (bytes : ℕ) (space : TextSpace) (a n : ℕ) : Type 0 where
  pub bound : space ≡ Text.Binding
  pub inside : a + n ≤ bytes

pub span-good : (bytes : ℕ) (s : TextSpace) (a n : ℕ) → span_fits bytes s a n ≡ true → Span bytes s a n
unfolding span_fits
span-good bytes Text.Literal a n e = never e refl
span-good bytes Text.Binding a n e = record { bound = refl; inside = leb-true (a + n) bytes e }
span-good bytes Text.Evaluation a n e = never e refl

pub string-good : (t : List ℕ) (bytes : ℕ) (s : TextSpace) (a n : ℕ) → string_fits t bytes s a n ≡ true → Span bytes s a n × (well_formed (part t a n) ≡ true)
unfolding string_fits
string-good t bytes s a n e = let f = both_true e in (span-good bytes s a n f.0, f.1)

pub record Row (w : List ℕ) (used least d : ℕ) (space : CellSpace) (a n : ℕ) : Type 0 where
  pub bound : space ≡ Cells.Binding
  pub later : least ≤ a
  pub inside : a + n ≤ used
  pub shallow : d ≤ 32
  pub nests : d ≡ suc (deepest_in w a n)

pub row-good : (w : List ℕ) (used least d : ℕ) (s : CellSpace) (a n : ℕ) → row_fits w used least d s a n ≡ true → Row w used least d s a n
unfolding row_fits
row-good w used least d Cells.Evaluation a n e = never e refl
row-good w used least d Cells.Binding a n e =
    let f = both_true e in
    let g = both_true f.1 in
    let h = both_true g.1 in
    record {
      bound = refl;
      later = leb-true least a f.0;
      inside = leb-true (a + n) used g.0;
      shallow = leb-true d 32 h.0;
      nests = eqb-true d (suc (deepest_in w a n)) h.1;
    }

pub map-good : (w t : List ℕ) (used least d : ℕ) (s : CellSpace) (a n : ℕ) → map_fits w t used least d s a n ≡ true →
    Row w used least d s a (2 * n) × (keys_fit w t a n ≡ true)
unfolding map_fits
map-good w t used least d s a n e = let f = both_true e in (row-good w used least d s a (2 * n) f.0, f.1)

-- no part nests deeper than the deepest
pub deepest-part : (w : List ℕ) (a n i : ℕ) → i < n → nesting_of (cell_in w (a + i)) ≤ deepest_in w a n
unfolding deepest_in
deepest-part w a zero i h = absurd (omega arith)
deepest-part w a (suc n) zero h = let e : a + 0 ≡ a = omega arith in rw e (omega arith)
deepest-part w a (suc n) (suc i) h =
    let e : a + suc i ≡ suc a + i = omega arith in rw e (omega (arith, deepest-part w (suc a) n i (omega arith)))

-- ---- a room

module _ (w t : List ℕ) (used bytes : ℕ) where
  good-by : (i j n : ℕ) (b : Bool) → cell_fits w t used bytes i ≡ b → cond b (first_bad w t used bytes (suc i) n) (Some i) ≡ None → (c : Bool) → eqb i j ≡ c →
      (first_bad w t used bytes (suc i) n ≡ None → (i ≡ j → ⊥) → cell_fits w t used bytes j ≡ true) → cell_fits w t used bytes j ≡ true
  good-by i j n true e m true f rest = rw (eqb-true i j f) at e
  good-by i j n true e m false f rest = rest m (eqb-false i j f)
  good-by i j n false e m c f rest = cc

  pub all-good : (i n : ℕ) → first_bad w t used bytes i n ≡ None → (j : ℕ) → i ≤ j → j < i + n → cell_fits w t used bytes j ≡ true
  unfolding first_bad
  all-good i zero h j k l = absurd (omega arith)
  all-good i (suc n) h j k l =
      good-by i j n (cell_fits w t used bytes i) refl h (eqb i j) refl
      (λ m d. all-good (suc i) n m j (omega (arith, d)) (omega arith))

  slot-by : (s : Scope) (i j n : ℕ) → slot_fits w t used bytes (slot_of s i) ≡ true → (c : Bool) → eqb i j ≡ c →
      ((i ≡ j → ⊥) → slot_fits w t used bytes (slot_of s j) ≡ true) → slot_fits w t used bytes (slot_of s j) ≡ true
  slot-by s i j n f true c rest = rw (eqb-true i j c) at f
  slot-by s i j n f false c rest = rest (eqb-false i j c)

  slots-good : (s : Scope) (i n : ℕ) → slots_fit w t used bytes s i n ≡ true → (j : ℕ) → i ≤ j → j < i + n → slot_fits w t used bytes (slot_of s j) ≡ true
  unfolding slots_fit
  slots-good s i zero e j k l = absurd (omega arith)
  slots-good s i (suc n) e j k l =
      let f = both_true e in slot-by s i j n f.0 (eqb i j) refl (λ d. slots-good s (suc i) n f.1 j (omega (arith, d)) (omega arith))

-- A room that is sound has good cells, slots and used counts.
pub sound-room : (w t : List ℕ) (b : Bindings) → sound_of w t b ≡ Ok tt → SoundRoom w t b
unfolding sound_of cell_fits
sound-room w t b s =
    by_tests (first_bad w t used bytes 0 used) refl (leb b.cells (cell_room w) && (leb b.bytes (text_room t) && slots_fit w t used bytes b.scope 0 128)) refl s
  where
    used : ℕ
    used = used_cells w t b

    bytes : ℕ
    bytes = used_bytes w t b

    by_tests : (o : Option ℕ) → first_bad w t used bytes 0 used ≡ o → (q : Bool) →
        (leb b.cells (cell_room w) && (leb b.bytes (text_room t) && slots_fit w t used bytes b.scope 0 128)) ≡ q → verdict o q ≡ Ok tt → SoundRoom w t b
    by_tests (Some p) e q f g = let z : ◌≡◌ {A = ℕ} 0 1 = cc in absurd (omega arith)
    by_tests None e false f g = let z : ◌≡◌ {A = ℕ} 0 1 = cc in absurd (omega arith)
    by_tests None e true f g =
        let h = both_true f in
        let i = both_true h.1 in
        let c = leb-true b.cells (cell_room w) h.0 in
        let d = leb-true b.bytes (text_room t) i.0 in
        let u : used ≡ b.cells = omega (arith, c) in
        let v : bytes ≡ b.bytes = omega (arith, d) in
        record {
          cells_in = c;
          bytes_in = d;
          cells = λ j k. rw (u, v) at (all-good w t used bytes 0 used e j (omega arith) (omega (arith, k, u)));
          slots = λ n k. rw (u, v) at (slots-good w t used bytes b.scope 0 128 i.1 n (omega arith) (omega (arith, k)));
        }

-- ---- and the other way

module _ (w t : List ℕ) (used bytes : ℕ) where
  none-bad : (i n : ℕ) → ((j : ℕ) → i ≤ j → j < i + n → cell_fits w t used bytes j ≡ true) → first_bad w t used bytes i n ≡ None
  unfolding first_bad
  none-bad i zero h = refl
  none-bad i (suc n) h = rw (h i (omega arith) (omega arith)) (none-bad (suc i) n (λ j a b. h j (omega arith) (omega arith)))

  all_slots : (s : Scope) (i n : ℕ) → ((j : ℕ) → i ≤ j → j < i + n → slot_fits w t used bytes (slot_of s j) ≡ true) → slots_fit w t used bytes s i n ≡ true
  unfolding slots_fit
  all_slots s i zero h = refl
  all_slots s i (suc n) h = rw (h i (omega arith) (omega arith)) (all_slots s (suc i) n (λ j a b. h j (omega arith) (omega arith)))

-- A room with good cells, slots and used counts is sound.
pub room-sound : (w t : List ℕ) (b : Bindings) → SoundRoom w t b → sound_of w t b ≡ Ok tt
unfolding sound_of cell_fits
room-sound w t b r =
    let u : used_cells w t b ≡ b.cells = omega (arith, r.cells_in) in
    let v : used_bytes w t b ≡ b.bytes = omega (arith, r.bytes_in) in
    let i = none-bad w t b.cells b.bytes 0 b.cells (λ j a c. r.cells j (omega (arith, c))) in
    let s = all_slots w t b.cells b.bytes b.scope 0 128 (λ j a c. r.slots j (omega (arith, c))) in
    rw (u, v, i, le-leb b.cells (cell_room w) r.cells_in, le-leb b.bytes (text_room t) r.bytes_in, s)

-- nothing that fits nests too deep
pub fits-nesting : (w t : List ℕ) (used bytes least : ℕ) (v : Value) → value_fits w t used bytes least v ≡ true → nesting_of v ≤ 32
fits-nesting w t used bytes least Value.Null e = omega arith
fits-nesting w t used bytes least (Value.Bool b) e = omega arith
fits-nesting w t used bytes least (Value.Int z) e = omega arith
fits-nesting w t used bytes least (Value.Uint n) e = omega arith
fits-nesting w t used bytes least (Value.Double x) e = omega arith
fits-nesting w t used bytes least (Value.Nan b) e = omega arith
fits-nesting w t used bytes least (Value.String sp) e = omega arith
fits-nesting w t used bytes least (Value.Bytes sp) e = omega arith
fits-nesting w t used bytes least (Value.List d ro) e = (row-good w used least d ro.space ro.first ro.length e).shallow
fits-nesting w t used bytes least (Value.Map d ro) e = (map-good w t used least d ro.space ro.first ro.length e).0.shallow
fits-nesting w t used bytes least Value.OptionalNone e = omega arith
fits-nesting w t used bytes least (Value.OptionalOf d s a) e = never e refl
fits-nesting w t used bytes least Value.Absent e = omega arith
