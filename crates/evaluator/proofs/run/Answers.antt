-- `run` meets its contract. Assumes nothing.
use Rattle.std.proofs.Common.{rules}
use Rattle.rooms.specs.Memory.{rooms_lent}
use Rattle.table_check.specs.Records.{expr_of}
use Rattle.evaluator.proofs.Running.{run-answers}
use Rattle.evaluator.proofs.run.Goals as goal

pub returns : goal.returns
returns c = record {
  same_literal = c.eval-outcome.ensures.same_literal;
  same_binding_cells = c.eval-outcome.ensures.same_binding_cells;
  same_binding_text = c.eval-outcome.ensures.same_binding_text;
  same_cells = c.eval-outcome.ensures.same_cells;
  same_text = c.eval-outcome.ensures.same_text;
  cells_long = search rules;
  text_long = search rules;
  gives = run-answers c.args.table.now c.step_limit-limit.result c.args.steps (expr_of c.args.table.now c.args.lent.now.literal.now 0) c.args.scope _ _ _ _ _ _ _ (rooms_lent c.args.lent.now) c.eval-outcome.result c.answered.result c.step_limit-limit.ensures c.eval-outcome.ensures.gives c.answered.ensures;
}
