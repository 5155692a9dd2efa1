-- The enums of the code as the types of the definition and the machine.
use Rattle.meaning.specs.Expr as Expr
use Rattle.meaning.specs.Expr.{LogicalFold}
use Rattle.machine.specs.Views as Views
use Rattle.eval_outcomes.specs.declared.outcomes.Optional.{Optional}
use Rattle.eval_outcomes.specs.declared.operators.Fold.{Fold}
use Rattle.eval_outcomes.specs.declared.operators.Arith.{Arith}
use Rattle.eval_outcomes.specs.declared.operators.Comparison.{Comparison}
use Rattle.eval_outcomes.specs.declared.operators.Unary.{Unary}
use Rattle.eval_outcomes.specs.declared.operators.Binary.{Binary}
use Rattle.eval_outcomes.specs.declared.operators.Function.{Function}

-- ---- of values

abbrev pub optional_seen : Optional → Views.Optional
optional_seen Optional.Not = Views.not_optional
optional_seen Optional.None = Views.none_present
optional_seen (Optional.Present s a) = Views.present s a

-- ---- operators

abbrev pub fold_seen : Fold → LogicalFold
fold_seen Fold.And = Expr.And
fold_seen Fold.Or = Expr.Or

abbrev pub arith_seen : Arith → Expr.Arith
arith_seen Arith.Add = Expr.add
arith_seen Arith.Subtract = Expr.sub
arith_seen Arith.Divide = Expr.div
arith_seen Arith.Multiply = Expr.mul
arith_seen Arith.Remainder = Expr.rem

abbrev pub comparison_seen : Comparison → Expr.Comparison
comparison_seen Comparison.Less = Expr.less
comparison_seen Comparison.LessEquals = Expr.less_equals
comparison_seen Comparison.Greater = Expr.greater
comparison_seen Comparison.GreaterEquals = Expr.greater_equals

abbrev pub unary_seen : Unary → Expr.Unary
unary_seen Unary.Not = Expr.not_op
unary_seen Unary.Negate = Expr.negate_op
unary_seen Unary.NotStrictlyFalse = Expr.not_strictly_false

abbrev pub binary_seen : Binary → Expr.Binary
binary_seen (Binary.Logic f) = Expr.logic (fold_seen f)
binary_seen Binary.Equals = Expr.equals
binary_seen Binary.NotEquals = Expr.not_equals
binary_seen Binary.Index = Expr.index
binary_seen Binary.OptionalIndex = Expr.opt_index
binary_seen Binary.OptionalSelect = Expr.opt_select
binary_seen (Binary.Arithmetic o) = Expr.arith (arith_seen o)
binary_seen (Binary.Order o) = Expr.compare (comparison_seen o)
binary_seen Binary.In = Expr.is_in

abbrev pub function_seen : Function → Expr.Function
function_seen Function.Size = Expr.size_call
function_seen Function.Of = Expr.of_call
function_seen Function.HasValue = Expr.has_value_call
function_seen Function.Value = Expr.value_call
