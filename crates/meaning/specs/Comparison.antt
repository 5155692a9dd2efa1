-- Module 2, comparison: order, and equality with the number of pairs of values that it compares. Numbers of all three kinds are points
-- of one exact line, as the crate numbers says; text is ordered by its bytes, as the crate text says.
use Rattle.std.specs.Prelude.{ℕ, suc, ◌+◌, List, [], Bool, true, false, not, ◌&&◌, cond, eqb, replicate, Option, None, Some}
use Rattle.std.specs.Bool.{beq}
use Rattle.std.specs.declared.cmp.Ordering.{Ordering}
use Rattle.std.specs.Ordering.{is_lt, is_le, is_gt, is_ge, partial_ordering_then}
use Rattle.numbers.specs.Double.{Point, point_of}
use Rattle.numbers.specs.Order.{int_point, uint_point, order_of, is_equal}
use Rattle.text.specs.Bytes as Bytes
use Rattle.meaning.specs.Errors.{NoOverload, Unordered}
use Rattle.meaning.specs.Value.{Scalar, null, bool, int, uint, double, string, bytes, key_scalar, Value, scalar, list, map, optional_none, optional_of, Values, nil, cons, Entries, empty, entry, count, count_entries, scalar_of, elements_of, entries_of, is_none, part_of}
use Rattle.meaning.specs.Expr.{Comparison, less, less_equals, greater, greater_equals}
use Rattle.meaning.specs.Run.{step, Rule, pure, charged, ◌>>=◌, or_fail, truth}

-- ---- scalars

-- what a scalar is compared by: its class, and within the class its point, then its text.
-- In a class of text all points are one, in any other class all texts are empty
pub record Rank : Type 0 where
  pub class : ℕ
  pub point : Point
  pub text : List ℕ

abbrev pub null_class : ℕ
null_class = 0

abbrev pub bool_class : ℕ
bool_class = 1

abbrev pub number_class : ℕ
number_class = 2

abbrev pub string_class : ℕ
string_class = 3

abbrev pub bytes_class : ℕ
bytes_class = 4

abbrev pub by_point : ℕ → Point → Rank
by_point c p = record { class = c; point = p; text = [] }

abbrev pub by_text : ℕ → List ℕ → Rank
by_text c s = record { class = c; point = uint_point 0; text = s }

-- false comes before true
abbrev pub bool_point : Bool → Point
bool_point b = cond b (uint_point 1) (uint_point 0)

unfoldable pub rank : Scalar → Rank
rank null = by_text null_class []
rank (bool b) = by_point bool_class (bool_point b)
rank (int z) = by_point number_class (int_point z)
rank (uint n) = by_point number_class (uint_point n)
rank (double d) = by_point number_class (point_of d)
rank (string s) = by_text string_class s
rank (bytes s) = by_text bytes_class s

unfoldable pub then_text : Option Ordering → Ordering → Option Ordering
then_text o t = partial_ordering_then o (Some t)

-- within a class
unfoldable pub rank_order : Rank → Rank → Option Ordering
rank_order r s = then_text (order_of r.point s.point) (Bytes.order_of r.text s.text)

unfoldable pub same_class : Rank → Rank → Bool
same_class r s = eqb r.class s.class

unfoldable pub scalar_equal : Scalar → Scalar → Bool
scalar_equal x y = same_class (rank x) (rank y) && is_equal (rank_order (rank x) (rank y))

-- ---- `<` and its like

-- Null has no order; a number and NaN are of one class, and in no order
unfoldable pub scalar_order : Rank → Rank → Option (Option Ordering)
scalar_order r s = cond (same_class r s && not (eqb r.class null_class)) (Some (rank_order r s)) None

unfoldable pub holds : Comparison → Ordering → Bool
holds less o = is_lt o
holds less_equals o = is_le o
holds greater o = is_gt o
holds greater_equals o = is_ge o

unfoldable pub ordered : Option Ordering → Rule Ordering
ordered o = or_fail Unordered o

unfoldable pub compare_values : Value → Value → Rule Ordering
compare_values v w = do
  x ← or_fail NoOverload (scalar_of v)
  y ← or_fail NoOverload (scalar_of w)
  o ← or_fail NoOverload (scalar_order (rank x) (rank y))
  ordered o

unfoldable pub compare_rule : Comparison → Value → Value → Rule Value
compare_rule c v w = do
  o ← compare_values v w
  truth (holds c o)

-- ---- equality

-- how many pairs were compared, and the answer
abbrev pub Tally : Type 0 → Type 0
Tally A = ℕ × A

-- one pair more
unfoldable pub tick : {A : Type 0} → Tally A → Tally A
tick t = (suc t.0, t.1)

-- the second is reached only if the first holds
unfoldable pub both : Tally Bool → Tally Bool → Tally Bool
both t u = cond t.1 (t.0 + u.0, u.1) t

-- the second is reached only if the first does not hold
unfoldable pub either : Tally Bool → Tally Bool → Tally Bool
either t u = cond t.1 t (t.0 + u.0, u.1)

-- the first entry whose key is equal to x, Int and Uint of one number being equal. Every look-up in a map comes here
unfoldable pub find : Scalar → Entries → Tally (Option Value)
find x empty = (0, None)
find x (entry k v es) = tick (cond (scalar_equal x (key_scalar k)) (0, Some v) (find x es))

-- decided without a pair
abbrev pub decided : Bool → Tally Bool
decided b = (0, b)

-- the right value of a pair, taken as one of the left value's kind; false if it is of another kind
unfoldable pub against : {A : Type 0} → (A → Tally Bool) → Option A → Tally Bool
against parts None = decided false
against parts (Some a) = parts a

-- element by element; the lists are equally long
unfoldable pub elements_against : (Value → Tally Bool) → (Values → Tally Bool) → Values → Tally Bool
elements_against first others nil = decided false
elements_against first others (cons w ws) = both (first w) (others ws)

-- the pairs of a look-up, then the value that it found
unfoldable pub found_against : (Value → Tally Bool) → Tally (Option Value) → Tally Bool
found_against part t = both (t.0, true) (against part t.1)

-- every pair of values counts, containers too: lengths first, then parts in order, up to the first pair that decides
unfoldable mutual
  pub equal : Value → Value → Tally Bool
  equal (scalar x) w = tick (against (λ y. decided (scalar_equal x y)) (scalar_of w))
  equal (list vs) w = tick (against (λ ws. both (decided (eqb (count vs) (count ws))) (equal_elements vs ws)) (elements_of w))
  equal (map es) w = tick (against (λ fs. both (decided (eqb (count_entries es) (count_entries fs))) (equal_entries es fs)) (entries_of w))
  equal optional_none w = tick (decided (is_none w))
  equal (optional_of v) w = tick (against (λ u. equal v u) (part_of w))

  pub equal_elements : Values → Values → Tally Bool
  equal_elements nil ws = decided true
  equal_elements (cons v vs) ws = elements_against (λ w. equal v w) (λ us. equal_elements vs us) ws

  -- each left key is looked up on the right, then the values are compared
  pub equal_entries : Entries → Entries → Tally Bool
  equal_entries empty fs = decided true
  equal_entries (entry k v es) fs = both (found_against (λ w. equal v w) (find (key_scalar k) fs)) (equal_entries es fs)

-- `in` a list: up to the first element that is equal
unfoldable pub among : Value → Values → Tally Bool
among v nil = decided false
among v (cons w ws) = either (equal v w) (among v ws)

-- a step for each pair
unfoldable pub compared : {A : Type 0} → Tally A → Rule A
compared t = charged (replicate t.0 step) (pure t.1)

-- `==` and `!=`
unfoldable pub equal_rule : (wanted : Bool) → Value → Value → Rule Value
equal_rule wanted v w = do
  b ← compared (equal v w)
  truth (beq wanted b)
