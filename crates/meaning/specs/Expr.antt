-- Expressions: what a node table spells. Each record carries its place, the byte where it starts in the table.
use Rattle.std.specs.Prelude.{ℕ, suc, List, Bool}
use Rattle.meaning.specs.Value.{Scalar}

pub data Unary : Type 0 where
  -- `!`, `-` and not-strictly-false
  not_op negate_op not_strictly_false : Unary

-- `&&` and `||`
pub data LogicalFold : Type 0 where
  And Or : LogicalFold

-- `+`, `-`, `/`, `*`, `%`
pub data Arith : Type 0 where
  add sub div mul rem : Arith

-- `<`, `<=`, `>`, `>=`
pub data Comparison : Type 0 where
  less less_equals greater greater_equals : Comparison

pub data Binary : Type 0 where
  logic : LogicalFold → Binary
  equals not_equals : Binary
  index opt_index opt_select : Binary
  arith : Arith → Binary
  compare : Comparison → Binary
  is_in : Binary

-- the functions of one operand: size, optional.of, hasValue, value
pub data Function : Type 0 where
  size_call of_call has_value_call value_call : Function

mutual
  pub data Expr : Type 0 where
    literal : ℕ → Scalar → Expr
    name : ℕ → ℕ → Expr
    unary : ℕ → Unary → Expr → Expr
    binary : ℕ → Binary → Expr → Expr → Expr
    conditional : ℕ → Expr → Expr → Expr → Expr
    -- true for a test, has(e.field)
    select : ℕ → Bool → List ℕ → Expr → Expr
    list_of : ℕ → Elements → Expr
    map_of : ℕ → Pairs → Expr
    -- accumulator, item; range, init, condition, step, result
    comprehension : ℕ → ℕ → ℕ → Expr → Expr → Expr → Expr → Expr → Expr
    call : ℕ → Function → Expr → Expr
    none_call : ℕ → Expr
    -- target, default
    or_value : ℕ → Expr → Expr → Expr

  -- a marked one carries the mark's place
  pub data Elements : Type 0 where
    no_elements : Elements
    element : Expr → Elements → Elements
    marked_element : ℕ → Expr → Elements → Elements

  pub data Pairs : Type 0 where
    no_pairs : Pairs
    pair : Expr → Expr → Pairs → Pairs
    marked_pair : Expr → ℕ → Expr → Pairs → Pairs

unfoldable pub count_elements : Elements → ℕ
count_elements no_elements = 0
count_elements (element e es) = suc (count_elements es)
count_elements (marked_element p e es) = suc (count_elements es)

unfoldable pub count_pairs : Pairs → ℕ
count_pairs no_pairs = 0
count_pairs (pair k e es) = suc (count_pairs es)
count_pairs (marked_pair k p e es) = suc (count_pairs es)
