-- `append_turn::gather_elements` meets its contract. Assumes nothing.
use mathlib.Core.Path.{sym, ◌∙◌}
use native.Mathlib.Omega.{arith}
use Rattle.eval_outcomes.proofs.Taking.{cells-within}
use Rattle.eval_comprehension.proofs.append_turn.gather_elements.Goals as goal

pub copy_cells-requires : goal.copy_cells-requires
copy_cells-requires c = omega (arith, cells-within c.args.lent.now.cells.now c.args.used.cells _ _ (sym c.in-Some.is ∙ c.take_cells.ensures.0))

pub overflow_cast-run : goal.overflow_cast-run
overflow_cast-run c = record { fits = omega (arith, cells-within c.args.lent.now.cells.now c.args.used.cells _ _ (sym c.in-Some.is ∙ c.take_cells.ensures.0)) }
