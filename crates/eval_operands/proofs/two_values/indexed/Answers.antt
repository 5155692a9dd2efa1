-- `two_values::indexed` meets its contract. Assumes nothing.
use Rattle.std.proofs.Common.{rules}
use Rattle.eval_operands.proofs.two_values.indexed.Goals as goal

pub returns : goal.returns
returns c = search (rules, c.inputs-inputs.ensures c.index.new.cells c.args.lent.now.text.now, c.inputs-inputs.ensures c.args.lent.now.cells.now c.args.lent.now.text.now)
