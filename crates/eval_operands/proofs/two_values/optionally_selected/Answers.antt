-- `two_values::optionally_selected` meets its contract. Assumes nothing.
use Rattle.std.proofs.Common.{rules}
use Rattle.eval_operands.proofs.two_values.optionally_selected.Goals as goal

pub returns : goal.returns
returns c = search (rules, c.inputs-inputs.ensures c.optional_select.new.cells c.args.lent.now.text.now, c.inputs-inputs.ensures c.args.lent.now.cells.now c.args.lent.now.text.now)
