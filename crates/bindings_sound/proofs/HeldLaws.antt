-- Each value that fits a room with good cells stands for a value of the definition, the same one whatever lies outside of the room.
-- By the depth to which it nests. Assumes nothing.
use Prim.Native.Nat.{ℕ, zero, suc, ◌+◌, ◌*◌, ◌≤◌, ◌<◌, max}
use mathlib.Core.Path.{◌≡◌, refl, sym, ap, ◌∙◌}
use mathlib.Core.List.{List, []}
use mathlib.Core.Bool.{Bool, true, false, not, cond}
use native.Mathlib.Omega.{arith}
use lib.ListN.{length, length-take, length-drop}
use Rattle.numbers.specs.declared.double.Double.TheVariants as Double
use Rattle.numbers.specs.Double.{bits_of}
use Rattle.meaning.specs.Value as Meaning
use Rattle.meaning.specs.Value.{null, bool, int, uint, double, string, bytes, scalar, list, map, nil, cons, empty, entry, Key, int_key, uint_key, bool_key, string_key, key_scalar, nesting_in, nesting_over, count, count_entries}
use Rattle.rooms.specs.declared.value.Value.{Value}
use Rattle.rooms.specs.declared.value.TextSpace.{TextSpace}
use Rattle.rooms.specs.declared.value.TextSpace.TheVariants as Text
use Rattle.rooms.specs.declared.value.CellSpace.{CellSpace}
use Rattle.rooms.specs.declared.value.CellSpace.TheVariants as Cells
use Rattle.rooms.specs.Value.{nesting_of, is_key}
use Rattle.rooms.specs.Cells.{cell_in}
use Rattle.rooms.specs.Rooms.{rooms, cell_at, part}
use Rattle.rooms.specs.Stands.{TextAt, StandsScalar, Stands, StandsCells, StandsEntries}
use Rattle.rooms.proofs.Depths.{stands-nesting}
use Rattle.bindings_sound.specs.Keys.{repeated_in, keys_fit}
use Rattle.bindings_sound.specs.Fits.{deepest_in, value_fits}
use Rattle.bindings_sound.specs.Held.{alive_below}
use Rattle.bindings_sound.proofs.FitLaws.{both_true, Span, span-good, string-good, row-good, map-good}
use Rattle.rooms.specs.Spans.{span, row}

never : {A : Type 0} {b : Bool} → b ≡ true → b ≡ false → A
never e f = let z : true ≡ false = sym e ∙ f in let y : ◌≡◌ {A = ℕ} 1 0 = ap (λ b. cond b 1 0) z in absurd (omega arith)

pub part_length : (t : List ℕ) (a n : ℕ) → a + n ≤ length t → length (part t a n) ≡ n
part_length t a n h = simp (length-take, length-drop) (omega arith)

entry-nests : {a b c x y : ℕ} → a ≡ 0 → b ≡ x → y ≡ c → max x y ≡ max a (max b c)
entry-nests e f g = omega arith

list-is : {k j n m : ℕ} {s : CellSpace} (a : ℕ) → k ≡ j → s ≡ Cells.Binding → n ≡ m → Value.List k (row s a n) ≡ Value.List j (row Cells.Binding a m)
list-is a p q r i = Value.List (p i) (row (q i) a (r i))

map_is : {k j n m : ℕ} {s : CellSpace} (a : ℕ) → k ≡ j → s ≡ Cells.Binding → n ≡ m → Value.Map k (row s a n) ≡ Value.Map j (row Cells.Binding a m)
map_is a p q r i = Value.Map (p i) (row (q i) a (r i))

module _ (w t : List ℕ) (used bytes : ℕ) where
  -- in rooms with these binding cells and this binding text
  pub record HeldScalar (v : Value) : Type 0 where
    pub value : Meaning.Scalar
    pub stands : (l e x : List ℕ) → StandsScalar value (alive_below used) (rooms l w t e x) v

  pub record HeldBy (v : Value) : Type 0 where
    pub value : Meaning.Value
    pub stands : (l e x : List ℕ) → Stands value (alive_below used) (rooms l w t e x) v

  pub record HeldCells (a n : ℕ) : Type 0 where
    pub values : Meaning.Values
    pub long : count values ≡ n
    pub nests : nesting_in values ≡ deepest_in w a n
    pub stands : (l e x : List ℕ) → StandsCells values (alive_below used) (rooms l w t e x) Cells.Binding a

  pub record HeldEntries (a n : ℕ) : Type 0 where
    pub entries : Meaning.Entries
    pub long : count_entries entries ≡ n
    pub nests : nesting_over entries ≡ deepest_in w a (2 * n)
    pub stands : (l e x : List ℕ) → StandsEntries entries (alive_below used) (rooms l w t e x) Cells.Binding a

  module _ (lent : bytes ≤ length t) where
    text-held : (s : TextSpace) (a n : ℕ) → Span bytes s a n → (l e x : List ℕ) → TextAt (part t a n) (alive_below used) (rooms l w t e x) Text.Binding a
    text-held s a n g l e x = record { within = tt; spells = ap (λ m. part t a m) (part_length t a n (omega (arith, g.inside))) }

    string-held : (s : TextSpace) (a n : ℕ) → Span bytes s a n → (l e x : List ℕ) →
        StandsScalar (string (part t a n)) (alive_below used) (rooms l w t e x) (Value.String (span s a n))
    unfolding StandsScalar
    string-held s a n g l e x =
        (Text.Binding, a, (rw (g.bound, part_length t a n (omega (arith, g.inside)))), text-held s a n g l e x)

    bytes-held : (s : TextSpace) (a n : ℕ) → Span bytes s a n → (l e x : List ℕ) →
        StandsScalar (Meaning.bytes (part t a n)) (alive_below used) (rooms l w t e x) (Value.Bytes (span s a n))
    unfolding StandsScalar
    bytes-held s a n g l e x =
        (Text.Binding, a, (rw (g.bound, part_length t a n (omega (arith, g.inside)))), text-held s a n g l e x)

    -- ---- keys

    pub record HeldKey (v : Value) : Type 0 where
      pub key : Key
      pub stands : (l e x : List ℕ) → StandsScalar (key_scalar key) (alive_below used) (rooms l w t e x) v
      pub flat : nesting_of v ≡ 0

    pub key-held : (v : Value) (least : ℕ) → is_key v ≡ true → value_fits w t used bytes least v ≡ true → HeldKey v
    unfolding StandsScalar key_scalar
    key-held Value.Null least k e = never k refl
    key-held (Value.Bool b) least k e = record { key = bool_key b; stands = λ l e x. refl; flat = refl }
    key-held (Value.Int z) least k e = record { key = int_key z; stands = λ l e x. refl; flat = refl }
    key-held (Value.Uint n) least k e = record { key = uint_key n; stands = λ l e x. refl; flat = refl }
    key-held (Value.Double y) least k e = never k refl
    key-held (Value.Nan b) least k e = never k refl
    key-held (Value.String sp) least k e =
        record { key = string_key (part t sp.first sp.length); stands = string-held sp.space sp.first sp.length (string-good t bytes sp.space sp.first sp.length e).0; flat = refl }
    key-held (Value.Bytes sp) least k e = never k refl
    key-held (Value.List d ro) least k e = never k refl
    key-held (Value.Map d ro) least k e = never k refl
    key-held Value.OptionalNone least k e = never k refl
    key-held (Value.OptionalOf d s a) least k e = never k refl
    key-held Value.Absent least k e = never k refl

    -- ---- containers, whose parts are held

    module _ (good : (i : ℕ) → i < used → value_fits w t used bytes (suc i) (cell_in w i) ≡ true) where
      module _ (d : ℕ) (inner : (v : Value) (least : ℕ) → nesting_of v < d → value_fits w t used bytes least v ≡ true → HeldBy v) where
        cells-held : (n a : ℕ) → a + n ≤ used → deepest_in w a n < d → HeldCells a n
        unfolding deepest_in count nesting_in StandsCells cell_at
        cells-held zero a h e = record { values = nil; long = refl; nests = refl; stands = λ l e x. tt }
        cells-held (suc n) a h e =
            let f = inner (cell_in w a) (suc a) (omega (arith, e)) (good a (omega arith)) in
            let g = cells-held n (suc a) (omega arith) (omega (arith, e)) in
            let i = stands-nesting (alive_below used) (rooms [] w t [] []) f.value (cell_in w a) (f.stands [] [] []) in
            record {
              values = cons f.value g.values;
              long = ap suc g.long;
              nests = omega (arith, i, g.nests);
              stands = λ l e x. (omega arith, f.stands l e x, g.stands l e x);
            }

        two-more : (n : ℕ) → 2 * suc n ≡ suc (suc (2 * n))
        two-more n = omega arith

        entries-held : (n a : ℕ) → a + 2 * n ≤ used → deepest_in w a (2 * n) < d → keys_fit w t a n ≡ true → HeldEntries a n
        unfolding deepest_in count_entries nesting_over StandsEntries cell_at keys_fit
        entries-held zero a h e k = record { entries = empty; long = refl; nests = refl; stands = λ l e x. tt }
        entries-held (suc n) a h e k =
            let deep : max (nesting_of (cell_in w a)) (max (nesting_of (cell_in w (suc a))) (deepest_in w (suc (suc a)) (2 * n))) < d = rw (two-more n) at e in
            let q = both_true k in
            let o : keys_fit w t (suc (suc a)) n ≡ true = (both_true {a = not (repeated_in w t (cell_in w a) (suc (suc a)) n)} q.1).1 in
            let y = key-held (cell_in w a) (suc a) q.0 (good a (omega arith)) in
            let f = inner (cell_in w (suc a)) (suc (suc a)) (omega (arith, deep)) (good (suc a) (omega arith)) in
            let g = entries-held n (suc (suc a)) (omega arith) (omega (arith, deep)) o in
            let i = stands-nesting (alive_below used) (rooms [] w t [] []) f.value (cell_in w (suc a)) (f.stands [] [] []) in
            record {
              entries = entry y.key f.value g.entries;
              long = ap suc g.long;
              nests = entry-nests y.flat i g.nests ∙ ap (λ m. deepest_in w a m) (sym (two-more n));
              stands = λ l e x. (omega arith, y.stands l e x, omega arith, f.stands l e x, g.stands l e x);
            }

        by_value : (v : Value) (least : ℕ) → nesting_of v < suc d → value_fits w t used bytes least v ≡ true → HeldBy v
        unfolding Stands StandsScalar
        by_value Value.Null least h e = record { value = scalar null; stands = λ l e x. refl }
        by_value (Value.Bool b) least h e = record { value = scalar (bool b); stands = λ l e x. refl }
        by_value (Value.Int z) least h e = record { value = scalar (int z); stands = λ l e x. refl }
        by_value (Value.Uint n) least h e = record { value = scalar (uint n); stands = λ l e x. refl }
        by_value (Value.Double y) least h e = record { value = scalar (double (bits_of (Double.Plain y))); stands = λ l e x. (Double.Plain y, refl, refl) }
        by_value (Value.Nan b) least h e = record { value = scalar (double b); stands = λ l e x. (Double.Nan b, refl, refl) }
        by_value (Value.String sp) least h e =
            record { value = scalar (string (part t sp.first sp.length)); stands = string-held sp.space sp.first sp.length (string-good t bytes sp.space sp.first sp.length e).0 }
        by_value (Value.Bytes sp) least h e = record { value = scalar (Meaning.bytes (part t sp.first sp.length)); stands = bytes-held sp.space sp.first sp.length (span-good bytes sp.space sp.first sp.length e) }
        by_value (Value.List k ro) least h e =
            let r = row-good w used least k ro.space ro.first ro.length e in
            let c = cells-held ro.length ro.first r.inside (omega (arith, r.nests, h)) in
            record {
              value = list c.values;
              stands = λ l e x. (Cells.Binding, ro.first, list-is ro.first (r.nests ∙ ap suc (sym c.nests)) r.bound (sym c.long), c.stands l e x);
            }
        by_value (Value.Map k ro) least h e =
            let m = map-good w t used least k ro.space ro.first ro.length e in
            let r = m.0 in
            let c = entries-held ro.length ro.first r.inside (omega (arith, r.nests, h)) m.1 in
            record {
              value = map c.entries;
              stands = λ l e x. (Cells.Binding, ro.first, map_is ro.first (r.nests ∙ ap suc (sym c.nests)) r.bound (sym c.long), c.stands l e x);
            }
        by_value Value.OptionalNone least h e = never e refl
        by_value (Value.OptionalOf k s a) least h e = never e refl
        by_value Value.Absent least h e = never e refl

      pub held : (d : ℕ) (v : Value) (least : ℕ) → nesting_of v < d → value_fits w t used bytes least v ≡ true → HeldBy v
      held zero v least h e = absurd (omega arith)
      held (suc d) v least h e = by_value d (λ u m g f. held d u m g f) v least h e
