-- `append_result::collected_list` meets its contract. Assumes nothing.
use mathlib.Core.Path.{sym, ◌∙◌}
use native.Mathlib.Omega.{arith}
use Rattle.eval_outcomes.proofs.Taking.{cells-within}
use Rattle.eval_comprehension.proofs.append_result.collected_list.Goals as goal

pub copy_runs-requires : goal.copy_runs-requires
copy_runs-requires c = (c.requires, omega (arith, cells-within c.args.lent.now.cells.now c.args.used.cells _ _ (sym c.in-Some.is ∙ c.take_cells.ensures.0)))

pub overflow_cast-row : goal.overflow_cast-row
overflow_cast-row c = record { fits = omega (arith, cells-within c.args.lent.now.cells.now c.args.used.cells _ _ (sym c.in-Some.is ∙ c.take_cells.ensures.0)) }

pub overflow_cast-row-2 : goal.overflow_cast-row-2
overflow_cast-row-2 c = record { fits = omega (arith, cells-within c.args.lent.now.cells.now c.args.used.cells _ _ (sym c.in-Some.is ∙ c.take_cells.ensures.0)) }
