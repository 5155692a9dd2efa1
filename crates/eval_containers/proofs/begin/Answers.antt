-- `begin` meets its contract. Assumes nothing.
use mathlib.Core.Path.{◌∙◌, sym}
use native.Mathlib.Omega.{arith}
use Rattle.eval_outcomes.proofs.Taking.{cells-within}
use Rattle.eval_containers.proofs.begin.Goals as goal

pub overflow_cast-result : goal.overflow_cast-result
overflow_cast-result c = record { fits = omega (arith, cells-within c.args.lent.now.cells.now c.args.used.cells c.args.count _ (sym c.in_ok-end.was ∙ c.take_cells.ensures.0)) }
