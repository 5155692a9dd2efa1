-- Module 6, logic: `||`, `&&`, not-strictly-false and the conditional.
use Rattle.std.specs.Prelude.{[], Bool, true, false, eqb, Option, None, Some}
use Rattle.std.specs.Bool.{beq}
use Rattle.meaning.specs.Errors.{Error, UnexpectedType, a_bool, NoOverload, error_number}
use Rattle.meaning.specs.Value.{Value, bool_of}
use Rattle.meaning.specs.Expr.{LogicalFold, And, Or}
use Rattle.meaning.specs.Run.{Result, value, error, Raised, by_rule, by_operand, Eval, Rule, after, ◌>>=◌, fail, or_fail, operand, truth, try_bool, choose}

-- the operand that decides whatever the other is
unfoldable pub absorbing : LogicalFold → Bool
absorbing And = false
absorbing Or = true

unfoldable pub absorbs : LogicalFold → Option Bool → Bool
absorbs fold None = false
absorbs fold (Some b) = beq b (absorbing fold)

unfoldable pub raised_error : Raised → Error
raised_error (by_rule e) = e
raised_error (by_operand e) = e.error

unfoldable pub bool_wanted : Error → Bool
bool_wanted e = eqb (error_number e) (error_number (UnexpectedType a_bool))

-- a left error stays the answer; only one that wanted a Bool, here or below, becomes the error that there is no overload
unfoldable pub left_error : Raised → Rule Value
left_error e = choose (fail NoOverload) ([], error e) (bool_wanted (raised_error e))

-- the left Bool does not decide: the right one is the answer
unfoldable pub right_bool : Eval Value → Rule Value
right_bool right = do
  v ← operand right
  b ← or_fail NoOverload (bool_of v)
  truth b

-- from the left operand's Bool, before the right one is begun
unfoldable pub after_left : LogicalFold → Eval Value → Result Raised Bool → Rule Value
after_left fold right (value a) = choose (truth a) (right_bool right) (absorbs fold (Some a))
after_left fold right (error e) = do
  w ← operand right
  choose (truth (absorbing fold)) (left_error e) (absorbs fold (bool_of w))

unfoldable pub logic_rule : LogicalFold → Eval Value → Eval Value → Rule Value
logic_rule fold left right = after (try_bool left) (after_left fold right)

unfoldable pub bool_or_true : Result Raised Bool → Rule Value
bool_or_true (value b) = truth b
bool_or_true (error e) = truth true

unfoldable pub not_strictly_false_rule : Eval Value → Rule Value
not_strictly_false_rule r = after (try_bool r) bool_or_true

unfoldable pub conditional_rule : Eval Value → Eval Value → Eval Value → Rule Value
conditional_rule condition if_true if_false = do
  b ← try_bool condition
  choose (operand if_true) (operand if_false) b
