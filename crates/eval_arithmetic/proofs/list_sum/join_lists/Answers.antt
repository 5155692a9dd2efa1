-- `list_sum::join_lists` meets its contract: the room has both lists. Assumes nothing.
use mathlib.Core.Path.{sym, ◌∙◌}
use native.Mathlib.Omega.{arith}
use Rattle.eval_outcomes.proofs.Taking.{cells-within}
use Rattle.eval_arithmetic.proofs.list_sum.join_lists.Goals as goal

pub copy_cells-requires : goal.copy_cells-requires
copy_cells-requires c = omega (arith, cells-within c.args.lent.now.cells.now c.args.used.cells _ _ (sym c.in-Some.is ∙ c.take_cells.ensures.0))

pub overflow_add-base : goal.overflow_add-base
overflow_add-base c = record { fits = omega (arith, cells-within c.args.lent.now.cells.now c.args.used.cells _ _ (sym c.in-Some.is ∙ c.take_cells.ensures.0)) }

pub copy_cells-requires-2 : goal.copy_cells-requires-2
copy_cells-requires-2 c = omega (arith, cells-within c.args.lent.now.cells.now c.args.used.cells _ _ (sym c.in-Some.is ∙ c.take_cells.ensures.0))

pub overflow_cast-sum : goal.overflow_cast-sum
overflow_cast-sum c = record { fits = omega (arith, cells-within c.args.lent.now.cells.now c.args.used.cells _ _ (sym c.in-Some.is ∙ c.take_cells.ensures.0)) }

pub overflow_cast-sum-2 : goal.overflow_cast-sum-2
overflow_cast-sum-2 c = record { fits = omega (arith, cells-within c.args.lent.now.cells.now c.args.used.cells _ _ (sym c.in-Some.is ∙ c.take_cells.ensures.0)) }
