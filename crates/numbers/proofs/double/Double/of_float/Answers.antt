-- `Double::of_float` meets its contract. Assumes nothing.
use Rattle.std.proofs.Common.{rules}
use mathlib.Core.Path.{sym, ◌∙◌}
use Rattle.numbers.proofs.DoubleLaws.{double-of-nan, double-of-plain}
use Rattle.numbers.proofs.double.Double.of_float.Goals as goal

pub returns-then-is_nan : goal.returns-then-is_nan
returns-then-is_nan c = sym (double-of-nan _ (sym c.is_nan.ensures.value ∙ c.if-is_nan.true))

pub returns-else-is_nan : goal.returns-else-is_nan
returns-else-is_nan c = sym (double-of-plain _ (search rules) (sym c.is_nan.ensures.value ∙ c.if-is_nan.false))
