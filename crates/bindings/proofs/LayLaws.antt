-- What is laid down: how much it takes and how deep it nests, and the parts of a Map as a row. Assumes nothing.
use Prim.Native.Nat.{ℕ, zero, suc, ◌+◌, ◌*◌, ◌≤◌, max}
use mathlib.Core.Path.{◌≡◌, refl, ap, ◌∙◌}
use mathlib.Core.List.{List}
use native.Mathlib.Omega.{arith}
use Rattle.numbers.specs.declared.double.Double.{Double}
use Rattle.numbers.specs.Double.{double_of}
use Rattle.meaning.specs.Value.{Scalar, null, bool, int, uint, double, string, bytes}
use Rattle.meaning.specs.Bindings.{text_bytes}
use Rattle.meaning.specs.Expr.{Expr, Elements, Pairs}
use Rattle.meaning.specs.Table.{Part, bare, marked, add_element, add_pair}
use Rattle.meaning.specs.Spelling.{Literal, scalar_at, list_at, map_at, Literals, no_literals, literals, LiteralPairs, no_literal_pairs, literal_pairs, literal_nesting, literals_nesting, literal_pairs_nesting}
use Rattle.table_layout.specs.Layout.{after}
use Rattle.table_check.specs.Records.{expr_of, part_of, elements_of, pairs_of}
use Rattle.rooms.specs.Value.{nesting_of, double_value}
use Rattle.bindings_literals.specs.Literals.{literal_in, literals_in, literal_pairs_in, part_literal, row_literals, Entries}
use Rattle.bindings_literals.specs.Judging.{cells_for, cells_among, cells_over, bytes_for, bytes_among, bytes_over}
use Rattle.bindings_literals.specs.Laying.{Room, put, taking, laid_scalar, count_literals, count_pairs, laid, laid_row, laid_pairs, flat}
use Rattle.bindings_literals.proofs.PartLaws.{bare-part}

-- ---- how much is used afterwards

scalar-used : (x : Scalar) (r : Room) → ((laid_scalar x r).1.cells ≡ r.cells) × ((laid_scalar x r).1.bytes ≡ r.bytes + text_bytes x)
unfolding laid_scalar text_bytes
scalar-used null r = (refl, omega arith)
scalar-used (bool b) r = (refl, omega arith)
scalar-used (int z) r = (refl, omega arith)
scalar-used (uint n) r = (refl, omega arith)
scalar-used (double d) r = (refl, omega arith)
scalar-used (string s) r = (refl, refl)
scalar-used (bytes s) r = (refl, refl)

mutual
  unfolding laid laid_row laid_pairs cells_for cells_among cells_over count_literals count_pairs

  pub laid_cells : (l : Literal) (r : Room) → (laid l r).1.cells ≡ r.cells + cells_for l
  laid_cells (scalar_at p x) r = omega (arith, (scalar-used x r).0)
  laid_cells (list_at p ls) r = omega (arith, row-cells ls r.cells (taking r (count_literals ls)))
  laid_cells (map_at p ls) r = omega (arith, pairs-cells ls r.cells (taking r (2 * count_pairs ls)))

  row-cells : (ls : Literals) (to : ℕ) (r : Room) → (laid_row ls to r).cells + count_literals ls ≡ r.cells + cells_among ls
  row-cells no_literals to r = refl
  row-cells (literals l ls) to r = omega (arith, row-cells ls (suc to) (put (laid l r) to), laid_cells l r)

  pairs-cells : (ls : LiteralPairs) (to : ℕ) (r : Room) → (laid_pairs ls to r).cells + 2 * count_pairs ls ≡ r.cells + cells_over ls
  pairs-cells no_literal_pairs to r = refl
  pairs-cells (literal_pairs l m ls) to r =
      omega (arith, pairs-cells ls (suc (suc to)) (put (laid m (put (laid l r) to)) (suc to)), laid_cells m (put (laid l r) to), laid_cells l r)

mutual
  unfolding laid laid_row laid_pairs bytes_for bytes_among bytes_over

  pub laid-bytes : (l : Literal) (r : Room) → (laid l r).1.bytes ≡ r.bytes + bytes_for l
  laid-bytes (scalar_at p x) r = (scalar-used x r).1
  laid-bytes (list_at p ls) r = row-bytes ls r.cells (taking r (count_literals ls))
  laid-bytes (map_at p ls) r = pairs-bytes ls r.cells (taking r (2 * count_pairs ls))

  row-bytes : (ls : Literals) (to : ℕ) (r : Room) → (laid_row ls to r).bytes ≡ r.bytes + bytes_among ls
  row-bytes no_literals to r = omega arith
  row-bytes (literals l ls) to r = omega (arith, row-bytes ls (suc to) (put (laid l r) to), laid-bytes l r)

  pairs-bytes : (ls : LiteralPairs) (to : ℕ) (r : Room) → (laid_pairs ls to r).bytes ≡ r.bytes + bytes_over ls
  pairs-bytes no_literal_pairs to r = omega arith
  pairs-bytes (literal_pairs l m ls) to r =
      omega (arith, pairs-bytes ls (suc (suc to)) (put (laid m (put (laid l r) to)) (suc to)), laid-bytes m (put (laid l r) to), laid-bytes l r)

-- ---- nesting

double-flat : (d : Double) → nesting_of (double_value d) ≡ 0
double-flat (Double.Plain x) = refl
double-flat (Double.Nan b) = refl

scalar-flat : (x : Scalar) (r : Room) → nesting_of (laid_scalar x r).0 ≡ 0
unfolding laid_scalar
scalar-flat null r = refl
scalar-flat (bool b) r = refl
scalar-flat (int z) r = refl
scalar-flat (uint n) r = refl
scalar-flat (double d) r = double-flat (double_of d)
scalar-flat (string s) r = refl
scalar-flat (bytes s) r = refl

pub laid-nesting : (l : Literal) (r : Room) → nesting_of (laid l r).0 ≡ literal_nesting l
unfolding laid literal_nesting
laid-nesting (scalar_at p x) r = scalar-flat x r
laid-nesting (list_at p ls) r = refl
laid-nesting (map_at p ls) r = refl

-- ---- a Map's parts as a row

pub pairs-row : (ls : LiteralPairs) (to : ℕ) (r : Room) → laid_pairs ls to r ≡ laid_row (flat ls) to r
unfolding laid_pairs laid_row flat
pairs-row no_literal_pairs to r = refl
pairs-row (literal_pairs l m ls) to r = pairs-row ls (suc (suc to)) (put (laid m (put (laid l r) to)) (suc to))

pub flat-nesting : (ls : LiteralPairs) → literal_pairs_nesting ls ≡ literals_nesting (flat ls)
unfolding literal_pairs_nesting literals_nesting flat
flat-nesting no_literal_pairs = refl
flat-nesting (literal_pairs l m ls) = ap (λ n. max (literal_nesting l) (max (literal_nesting m) n)) (flat-nesting ls)

pub flat-cells : (ls : LiteralPairs) → cells_over ls ≡ cells_among (flat ls)
unfolding cells_over cells_among flat
flat-cells no_literal_pairs = refl
flat-cells (literal_pairs l m ls) = ap (λ n. suc (cells_for l + suc (cells_for m + n))) (flat-cells ls)

pub flat-bytes : (ls : LiteralPairs) → bytes_over ls ≡ bytes_among (flat ls)
unfolding bytes_over bytes_among flat
flat-bytes no_literal_pairs = refl
flat-bytes (literal_pairs l m ls) = ap (λ n. bytes_for l + (bytes_for m + n)) (flat-bytes ls)

-- ---- the operands of an accepted table as a row

added-element : (a : Part) (es : Elements) → literals_in (add_element a es) ≡ literals (part_literal a) (literals_in es)
unfolding add_element literals_in part_literal
added-element (bare e) es = refl
added-element (marked p e) es = refl

counted : (k : Expr) (a : Part) (ps : Pairs) → count_pairs (literal_pairs_in (add_pair k a ps)) ≡ suc (count_pairs (literal_pairs_in ps))
unfolding add_pair literal_pairs_in count_pairs
counted k (bare e) ps = refl
counted k (marked p e) ps = refl

flattened : (k : Expr) (a : Part) (ps : Pairs) →
    flat (literal_pairs_in (add_pair k a ps)) ≡ literals (literal_in k) (literals (part_literal a) (flat (literal_pairs_in ps)))
unfolding add_pair literal_pairs_in flat part_literal
flattened k (bare e) ps = refl
flattened k (marked p e) ps = refl

module _ (t x : List ℕ) where
  pub elements-row : (n q : ℕ) → literals_in (elements_of t x n q) ≡ row_literals t x n q
  unfolding row_literals literals_in
  elements-row zero q = refl
  elements-row (suc n) q =
      added-element (part_of t x q) (elements_of t x n (after t q)) ∙ ap (λ (ls : Literals). literals (part_literal (part_of t x q)) ls) (elements-row n (after t q))

  pub row_count : (n q : ℕ) → count_literals (row_literals t x n q) ≡ n
  unfolding row_literals count_literals
  row_count zero q = refl
  row_count (suc n) q = ap suc (row_count n (after t q))

  pub count-cells : (n q : ℕ) → n ≤ cells_among (row_literals t x n q)
  unfolding row_literals cells_among
  count-cells zero q = omega arith
  count-cells (suc n) q = omega (arith, count-cells n (after t q))

  pub pairs-count : (n q : ℕ) → count_pairs (literal_pairs_in (pairs_of t x n q)) ≡ n
  unfolding literal_pairs_in count_pairs
  pairs-count zero q = refl
  pairs-count (suc n) q = counted (expr_of t x q) (part_of t x (after t q)) (pairs_of t x n (after t (after t q))) ∙ ap suc (pairs-count n (after t (after t q)))

  two-more : (n : ℕ) → 2 * suc n ≡ suc (suc (2 * n))
  two-more n = omega arith

  pub entries-row : (n q : ℕ) → Entries t x n q → flat (literal_pairs_in (pairs_of t x n q)) ≡ row_literals t x (2 * n) q
  unfolding row_literals literal_pairs_in flat part_literal
  entries-row zero q es = refl
  entries-row (suc n) q es =
      rw (two-more n, (bare-part t x q es.0).1)
      (flattened (expr_of t x q) (part_of t x (after t q)) (pairs_of t x n (after t (after t q)))
      ∙ ap (λ (ls : Literals). literals (literal_in (expr_of t x q)) (literals (part_literal (part_of t x (after t q))) ls)) (entries-row n (after t (after t q)) es.2))
