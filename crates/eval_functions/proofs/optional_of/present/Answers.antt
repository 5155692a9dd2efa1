-- `optional_of::present` meets its contract. Assumes nothing.
use mathlib.Core.Path.{◌∙◌, sym}
use native.Mathlib.Omega.{arith}
use Rattle.eval_outcomes.proofs.Taking.{cells-within}
use Rattle.eval_functions.proofs.optional_of.present.Goals as goal

pub overflow_cast-result : goal.overflow_cast-result
overflow_cast-result c = record { fits = omega (arith, cells-within c.args.cells.now c.args.used.cells 1 _ (sym c.in-Some.is ∙ c.take_cells.ensures.0)) }
