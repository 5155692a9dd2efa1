-- Literals laid down, in the room as it is at the end: each cell that was taken fits, and the value stands for what the table spells.
-- In order: what the end keeps; one part in its cell; a row of parts; entries; any literal. Assumes nothing.
use Prim.Native.Nat.{ℕ, suc, ◌+◌, ◌*◌, ◌/◌, ◌≤◌, ◌<◌, max}
use mathlib.Core.Path.{◌≡◌, refl, sym, ap, ap₂, ◌∙◌}
use mathlib.Core.Logic.{◌⊎◌, inl, inr}
use mathlib.Core.List.{List, []}
use mathlib.Core.Bool.{Bool, true, false}
use native.Mathlib.Omega.{arith}
use lib.Dec.{ltb, eqb}
use lib.ListN.{length, take}
use lib.Seq.{take-take}
use borrow.Author.Tests.{ltb-true, ltb-false, eqb-true, eqb-false}
use Rattle.meaning.specs.Value as Meaning
use Rattle.meaning.specs.Value.{Scalar, null, bool, int, uint, double, string, scalar, key_scalar, nesting, nesting_in, nesting_over, count, count_entries}
use Rattle.meaning.specs.Spelling.{Literal, scalar_at, Literals, LiteralPairs, literal_nesting, literals_nesting, literal_pairs_nesting}
use Rattle.meaning.specs.WellFormed.{SoundScalar, Sound, SoundElements, SoundEntries}
use Rattle.rooms.specs.declared.value.Value.{Value}
use Rattle.rooms.specs.declared.value.CellSpace.TheVariants as Cells
use Rattle.rooms.specs.Value.{nesting_of}
use Rattle.rooms.specs.Cells.{cell_in}
use Rattle.rooms.specs.Rooms.{rooms, cell_at}
use Rattle.rooms.specs.Stands.{Stands, StandsCells, StandsEntries}
use Rattle.rooms.proofs.CellLaws.{small-back, written-length, written-words, written-other}
use Rattle.bindings_sound.specs.Keys.{keys_fit}
use Rattle.bindings_sound.specs.Fits.{deepest_in, value_fits}
use Rattle.bindings_sound.specs.Held.{alive_below}
use Rattle.bindings_sound.proofs.FitLaws.{row-good, map-good}
use Rattle.bindings_literals.specs.Laying.{Room, put, taking, laid_scalar, count_literals, count_pairs, laid, laid_row, laid_pairs}
use Rattle.bindings.proofs.LayLaws.{laid-nesting}
use Rattle.bindings_literals.proofs.SpelledLaws.{Spells, spells_scalar, spells_list, spells_map, SpellsAll, spells_none, spells_more, SpellsPairs, spells_no_pairs, spells_pair}
use Rattle.bindings_laws.proofs.LayingKeeps.{Later, later-cell, later-text, put-later, later-then, laid-later, row-later, pairs-later}
use Rattle.bindings_laws.proofs.OlderValues.{never, row_fits_lem, map-fits}
use Rattle.bindings_laws.proofs.LaidScalars.{Good, scalar-laid, keys-laid}
use Rattle.rooms.specs.Spans.{row}

-- ---- numbers

from_first : (i a : ℕ) → a ≤ i → (i ≡ a) ⊎ (suc a ≤ i)
from_first i a h = go (eqb i a) refl
  where
    go : (b : Bool) → eqb i a ≡ b → (i ≡ a) ⊎ (suc a ≤ i)
    go true e = inl (eqb-true i a e)
    go false e = inr (omega (arith, eqb-false i a e))

pub either_side : (i a : ℕ) → (i < a) ⊎ (a ≤ i)
either_side i a = go (ltb i a) refl
  where
    go : (b : Bool) → ltb i a ≡ b → (i < a) ⊎ (a ≤ i)
    go true e = inl (ltb-true i a e)
    go false e = inr (ltb-false i a e)

-- ---- what is spelled is as long and nests as deep

mutual
  unfolding literal_nesting nesting key_scalar

  spells-nesting : {l : Literal} {v : Meaning.Value} → Spells l v → literal_nesting l ≡ nesting v
  spells-nesting (spells_scalar p x) = refl
  spells-nesting (spells_list p s) = ap suc (all-nesting s)
  spells-nesting (spells_map p s) = ap suc (pairs-nesting s)

  all-nesting : {ls : Literals} {vs : Meaning.Values} → SpellsAll ls vs → literals_nesting ls ≡ nesting_in vs
  all-nesting spells_none = refl
  all-nesting (spells_more s r) = ap₂ max (spells-nesting s) (all-nesting r)

  pairs-nesting : {ls : LiteralPairs} {es : Meaning.Entries} → SpellsPairs ls es → literal_pairs_nesting ls ≡ nesting_over es
  pairs-nesting spells_no_pairs = refl
  pairs-nesting (spells_pair p x k e s r) = let f = spells-nesting s in let g = pairs-nesting r in omega arith

all-count : {ls : Literals} {vs : Meaning.Values} → SpellsAll ls vs → count_literals ls ≡ count vs
unfolding count_literals count
all-count spells_none = refl
all-count (spells_more s r) = ap suc (all-count r)

pairs-count : {ls : LiteralPairs} {es : Meaning.Entries} → SpellsPairs ls es → count_pairs ls ≡ count_entries es
unfolding count_pairs count_entries
pairs-count spells_no_pairs = refl
pairs-count (spells_pair p x k e s r) = ap suc (pairs-count r)

scalar-cells : (x : Scalar) (r : Room) → (laid_scalar x r).1.cells ≡ r.cells
unfolding laid_scalar
scalar-cells null r = refl
scalar-cells (bool b) r = refl
scalar-cells (int z) r = refl
scalar-cells (uint n) r = refl
scalar-cells (double d) r = refl
scalar-cells (string s) r = refl
scalar-cells (Meaning.bytes s) r = refl

list-is : {d e n m : ℕ} (a : ℕ) → d ≡ e → n ≡ m → Value.List d (row Cells.Binding a n) ≡ Value.List e (row Cells.Binding a m)
list-is a p q i = Value.List (p i) (row Cells.Binding a (q i))

map_is : {d e n m : ℕ} (a : ℕ) → d ≡ e → n ≡ m → Value.Map d (row Cells.Binding a n) ≡ Value.Map e (row Cells.Binding a m)
map_is a p q i = Value.Map (p i) (row Cells.Binding a (q i))

-- ---- the room at the end

module _ (w t : List ℕ) (used bytes : ℕ) (lent : used ≤ length w / 2) (few : used ≤ 4096) (lent_text : bytes ≤ length t) (short : bytes ≤ 16384) where
  -- the cells of a room from one on, and its text, are those of the end
  pub record Final (from : ℕ) (q : Room) : Type 0 where
    pub cells : q.cells ≤ used
    pub within : q.bytes ≤ bytes
    pub words_long : length q.words ≡ length w
    pub text_long : length q.text ≡ length t
    pub same : (i : ℕ) → from ≤ i → i < q.cells → cell_in w i ≡ cell_in q.words i
    pub texts : take q.bytes t ≡ take q.bytes q.text

  -- a room before it
  final-back : (lo hi : ℕ) (p q : Room) (from least : ℕ) → from ≤ least → hi ≤ least → Later lo hi p q → Final from q → Final least p
  final-back lo hi p q from least a b g h =
      record {
        cells = omega (arith, g.cells, h.cells);
        within = omega (arith, g.bytes, h.within);
        words_long = sym g.words_long ∙ h.words_long;
        text_long = sym g.text_long ∙ h.text_long;
        same = λ i u v. h.same i (omega (arith, u)) (omega (arith, v, g.cells)) ∙ later-cell g i (inr (omega (arith, u))) v;
        texts =
            sym (take-take p.bytes q.bytes t g.bytes)
            ∙ (ap (take p.bytes) h.texts ∙ (take-take p.bytes q.bytes q.text g.bytes ∙ later-text g));
      }

  -- before a part was put into its cell
  final-put : (a : Value × Room) (to from : ℕ) → to < from → Final from (put a to) → Final from a.1
  final-put a to from h g =
      record {
        cells = g.cells;
        within = g.within;
        words_long = sym (written-length a.1.words to a.0) ∙ g.words_long;
        text_long = g.text_long;
        same = λ i u v. g.same i u v ∙ written-other a.1.words to i a.0 (λ e. omega (arith, e, u, h));
        texts = g.texts;
      }

  abbrev FitsAt : ℕ → Type 0
  FitsAt i = value_fits w t used bytes (suc i) (cell_in w i) ≡ true

  -- a value that may refer to cells from one on may refer to those from an earlier one on
  pub lower : (v : Value) (least more : ℕ) → least ≤ more → value_fits w t used bytes more v ≡ true → value_fits w t used bytes least v ≡ true
  lower Value.Null least more h e = refl
  lower (Value.Bool b) least more h e = refl
  lower (Value.Int z) least more h e = refl
  lower (Value.Uint n) least more h e = refl
  lower (Value.Double x) least more h e = refl
  lower (Value.Nan b) least more h e = refl
  lower (Value.String sp) least more h e = e
  lower (Value.Bytes sp) least more h e = e
  lower (Value.List d ro) least more h e =
      let g = row-good w used more d ro.space ro.first ro.length e in
      rw g.bound (row_fits_lem w used least d ro.first ro.length (omega (arith, g.later)) g.inside g.shallow g.nests)
  lower (Value.Map d ro) least more h e =
      let m = map-good w t used more d ro.space ro.first ro.length e in
      let g = m.0 in
      rw g.bound (map-fits w t used least d ro.first ro.length (omega (arith, g.later)) g.inside g.shallow g.nests m.1)
  lower Value.OptionalNone least more h e = never e refl
  lower (Value.OptionalOf d s a) least more h e = never e refl
  lower Value.Absent least more h e = never e refl

  final-from : (from least : ℕ) (q : Room) → from ≤ least → Final from q → Final least q
  final-from from least q h g =
      record {
        cells = g.cells;
        within = g.within;
        words_long = g.words_long;
        text_long = g.text_long;
        same = λ i u v. g.same i (omega (arith, u)) v;
        texts = g.texts;
      }

  at_first : {i a : ℕ} → (i ≡ a) ⊎ (suc a ≤ i) → FitsAt a → (suc a ≤ i → FitsAt i) → FitsAt i
  at_first (inl e) f g = rw e f
  at_first (inr h) f g = g h

  by_side : {i a : ℕ} → (i < a) ⊎ (a ≤ i) → (i < a → FitsAt i) → (a ≤ i → FitsAt i) → FitsAt i
  by_side (inl h) f g = f h
  by_side (inr h) f g = g h

  -- ---- what is said of a literal

  pub record LaidAt (v : Meaning.Value) (r : Room) (a : Value × Room) : Type 0 where
    pub good : Good w t used bytes v r.cells a.0
    pub inner : (i : ℕ) → r.cells ≤ i → i < a.1.cells → FitsAt i

  abbrev Lays : Literal → Meaning.Value → Type 0
  Lays l v = (r : Room) → Final r.cells (laid l r).1 → LaidAt v r (laid l r)

  -- ---- one part in its cell, of a room that becomes q

  record PartAt (v : Meaning.Value) (to : ℕ) (r : Room) (a : Value × Room) : Type 0 where
    pub is : cell_in w to ≡ a.0
    pub fits : FitsAt to
    pub stands : (l e x : List ℕ) → Stands v (alive_below used) (rooms l w t e x) (cell_in w to)
    pub inner : (i : ℕ) → r.cells ≤ i → i < a.1.cells → FitsAt i

  part-laid : (l : Literal) (v : Meaning.Value) → Lays l v → (to hi : ℕ) (r q : Room) → to < r.cells → hi ≤ r.cells →
      Later (suc to) hi (put (laid l r) to) q → Final r.cells q → cell_in w to ≡ cell_in q.words to → PartAt v to r (laid l r)
  part-laid l v lays to hi r q h k g f s =
      let p = final-back (suc to) hi (put (laid l r) to) q r.cells r.cells (omega arith) k g f in
      let o = final-put (laid l r) to r.cells h p in
      let a = lays r o in
      let j = laid-later l r in
      let e : cell_in w to ≡ (laid l r).0 =
      s ∙ (later-cell g to (inl (omega arith)) (omega (arith, j.cells))
      ∙ (written-words (laid l r).1.words to (laid l r).0 (omega (arith, h, j.cells, o.cells, o.words_long))
      ∙ (small-back (laid l r).0 a.good.small ∙ a.good.same))) in
      record {
        is = e;
        fits = rw e (lower (laid l r).0 (suc to) r.cells h a.good.fits);
        stands = λ x y z. rw e (a.good.stands x y z);
        inner = a.inner;
      }

  -- ---- a row

  record RowAt (vs : Meaning.Values) (ls : Literals) (to : ℕ) (r q : Room) : Type 0 where
    pub stands : (l e x : List ℕ) → StandsCells vs (alive_below used) (rooms l w t e x) Cells.Binding to
    pub deepest : deepest_in w to (count_literals ls) ≡ literals_nesting ls
    pub cells : (i : ℕ) → to ≤ i → i < to + count_literals ls → FitsAt i
    pub inner : (i : ℕ) → r.cells ≤ i → i < q.cells → FitsAt i

  record PairsAt (es : Meaning.Entries) (ls : LiteralPairs) (to : ℕ) (r q : Room) : Type 0 where
    pub stands : (l e x : List ℕ) → StandsEntries es (alive_below used) (rooms l w t e x) Cells.Binding to
    pub deepest : deepest_in w to (2 * count_pairs ls) ≡ literal_pairs_nesting ls
    pub cells : (i : ℕ) → to ≤ i → i < to + 2 * count_pairs ls → FitsAt i
    pub inner : (i : ℕ) → r.cells ≤ i → i < q.cells → FitsAt i

  two-more : (n : ℕ) → 2 * suc n ≡ suc (suc (2 * n))
  two-more n = omega arith

  scalar-at : (p : ℕ) (x : Scalar) → SoundScalar x → Lays (scalar_at p x) (scalar x)
  unfolding laid
  scalar-at p x f r g =
      record {
        good = scalar-laid w t used bytes short r.cells r x f g.within (omega (arith, g.within, g.text_long, (laid-later (scalar_at p x) r).text_long)) g.texts;
        inner = λ i a b. absurd (omega (arith, a, b, scalar-cells x r));
      }

  mutual
    unfolding laid laid_row laid_pairs count_literals count_pairs literal_nesting Stands StandsCells StandsEntries cell_at deepest_in

    -- A literal that is laid down.
    pub literal-laid : {l : Literal} {v : Meaning.Value} → Spells l v → Sound v → literal_nesting l ≤ 32 → Lays l v
    literal-laid (spells_scalar p x) f n r g = scalar-at p x f r g
    literal-laid (spells_list p {ls} {vs} s) f n r g =
        let q = row_laid s f (omega arith) r.cells (taking r (count_literals ls)) (omega arith) (λ i a b. g.same i a (omega (arith, b, (row-later ls r.cells (taking r (count_literals ls)) (omega arith)).cells))) (final-from r.cells (r.cells + count_literals ls) _ (omega arith) g) in
        let m = (row-later ls r.cells (taking r (count_literals ls)) (omega arith)).cells in
        record {
          good =
              record {
                fits = row_fits_lem w used r.cells (suc (literals_nesting ls)) r.cells (count_literals ls) (omega arith) (omega (arith, m, g.cells)) n (ap suc (sym q.deepest));
                stands = λ l e x. (Cells.Binding, r.cells, list-is r.cells (ap suc (all-nesting s)) (all-count s), q.stands l e x);
                small = (omega (arith, n), omega (arith, m, g.cells), omega (arith, m, g.cells));
                same = refl;
              };
          inner = λ i a b. by_side (either_side i (r.cells + count_literals ls)) (λ u. q.cells i a u) (λ u. q.inner i u b);
        }
    literal-laid (spells_map p {ls} {es} s) f n r g =
        let q = pairs-laid s f (omega arith) r.cells (taking r (2 * count_pairs ls)) (omega arith) (λ i a b. g.same i a (omega (arith, b, (pairs-later ls r.cells (taking r (2 * count_pairs ls)) (omega arith)).cells))) (final-from r.cells (r.cells + 2 * count_pairs ls) _ (omega arith) g) in
        let m = (pairs-later ls r.cells (taking r (2 * count_pairs ls)) (omega arith)).cells in
        let k : keys_fit w t r.cells (count_pairs ls) ≡ true = rw (pairs-count s) (keys-laid w t used bytes (alive_below used) es r.cells (q.stands [] [] []) f) in
        record {
          good =
              record {
                fits = map-fits w t used r.cells (suc (literal_pairs_nesting ls)) r.cells (count_pairs ls) (omega arith) (omega (arith, m, g.cells)) n (ap suc (sym q.deepest)) k;
                stands = λ l e x. (Cells.Binding, r.cells, map_is r.cells (ap suc (pairs-nesting s)) (pairs-count s), q.stands l e x);
                small = (omega (arith, n), omega (arith, m, g.cells), omega (arith, m, g.cells));
                same = refl;
              };
          inner = λ i a b. by_side (either_side i (r.cells + 2 * count_pairs ls)) (λ u. q.cells i a u) (λ u. q.inner i u b);
        }

    row_laid : {ls : Literals} {vs : Meaning.Values} → SpellsAll ls vs → SoundElements vs → literals_nesting ls < 32 → (to : ℕ) (r : Room) → to + count_literals ls ≤ r.cells →
        ((i : ℕ) → to ≤ i → i < to + count_literals ls → cell_in w i ≡ cell_in (laid_row ls to r).words i) → Final r.cells (laid_row ls to r) →
        RowAt vs ls to r (laid_row ls to r)
    row_laid spells_none f n to r h s g =
        record { stands = λ l e x. tt; deepest = refl; cells = λ i a b. absurd (omega (arith, a, b)); inner = λ i a b. absurd (omega (arith, a, b)) }
    row_laid (spells_more {l} {v} {ls} {vs} sp rest) f n to r h s g =
        let j = put-later r (laid l r) to (omega arith) (laid-later l r) in
        let k = row-later ls (suc to) (put (laid l r) to) (omega (arith, h, j.cells)) in
        let a = part-laid l v (λ q m. literal-laid sp f.0 (omega (arith, n)) q m) to (suc to + count_literals ls) r _ (omega arith) (omega arith) k g (s to (omega arith) (omega arith)) in
        let b = row_laid rest f.1 (omega (arith, n)) (suc to) (put (laid l r) to) (omega (arith, h, j.cells)) (λ i c d. s i (omega (arith, c)) (omega (arith, d))) (final-from r.cells (laid l r).1.cells _ j.cells g) in
        record {
          stands = λ x y z. (omega (arith, h, j.cells, k.cells, g.cells), a.stands x y z, b.stands x y z);
          deepest = ap₂ (λ u d. max u d) (ap nesting_of a.is ∙ laid-nesting l r) b.deepest;
          cells = λ i c d. at_first (from_first i to c) a.fits (λ u. b.cells i u (omega (arith, d)));
          inner = λ i c d. by_side (either_side i (laid l r).1.cells) (λ u. a.inner i c u) (λ u. b.inner i u d);
        }

    pairs-laid : {ls : LiteralPairs} {es : Meaning.Entries} → SpellsPairs ls es → SoundEntries es → literal_pairs_nesting ls < 32 → (to : ℕ) (r : Room) → to + 2 * count_pairs ls ≤ r.cells →
        ((i : ℕ) → to ≤ i → i < to + 2 * count_pairs ls → cell_in w i ≡ cell_in (laid_pairs ls to r).words i) → Final r.cells (laid_pairs ls to r) →
        PairsAt es ls to r (laid_pairs ls to r)
    pairs-laid spells_no_pairs f n to r h s g =
        record { stands = λ l e x. tt; deepest = refl; cells = λ i a b. absurd (omega (arith, a, b)); inner = λ i a b. absurd (omega (arith, a, b)) }
    pairs-laid (spells_pair p x k {m} {v} {ls} {es} e sp rest) f n to r h s g =
        let keyed = put (laid (scalar_at p x) r) to in
        let both = put (laid m keyed) (suc to) in
        let i1 = put-later r (laid (scalar_at p x) r) to (omega arith) (laid-later (scalar_at p x) r) in
        let i2 = put-later keyed (laid m keyed) (suc to) (omega (arith, i1.cells)) (laid-later m keyed) in
        let i3 = pairs-later ls (suc (suc to)) both (omega (arith, i1.cells, i2.cells)) in
        let i4 = later-then (suc to) (suc (suc to)) (suc (suc to) + 2 * count_pairs ls) keyed both _ (omega arith) (omega arith) i2 i3 in
        let a = part-laid (scalar_at p x) (scalar x) (scalar-at p x (rw e f.0)) to (suc (suc to) + 2 * count_pairs ls) r _ (omega arith) (omega arith) i4 g (s to (omega arith) (omega arith)) in
        let b = part-laid m v (λ q u. literal-laid sp f.1 (omega (arith, n)) q u) (suc to) (suc (suc to) + 2 * count_pairs ls) keyed _ (omega (arith, i1.cells)) (omega (arith, i1.cells)) i3 (final-from r.cells keyed.cells _ i1.cells g) (s (suc to) (omega arith) (omega arith)) in
        let c = pairs-laid rest f.3 (omega (arith, n)) (suc (suc to)) both (omega (arith, i1.cells, i2.cells)) (λ i u z. s i (omega (arith, u)) (omega (arith, z))) (final-from r.cells both.cells _ (omega (arith, i1.cells, i2.cells)) g) in
        record {
          stands = λ y z o. (omega (arith, h, i1.cells, i4.cells, g.cells), (rw e at (a.stands y z o)), omega (arith, h, i1.cells, i4.cells, g.cells), b.stands y z o, c.stands y z o);
          deepest = ap (λ j. deepest_in w to j) (two-more (count_pairs ls)) ∙ ap₂ (λ u d. max u d) (ap nesting_of a.is ∙ laid-nesting (scalar_at p x) r) (ap₂ (λ u d. max u d) (ap nesting_of b.is ∙ laid-nesting m keyed) c.deepest);
          cells = λ i u z. at_first (from_first i to u) a.fits (λ y. at_first (from_first i (suc to) y) b.fits (λ o. c.cells i o (omega (arith, z))));
          inner = λ i u z. by_side (either_side i keyed.cells) (λ y. a.inner i u y) (λ y. by_side (either_side i both.cells) (λ o. b.inner i y o) (λ o. c.inner i o z));
        }
