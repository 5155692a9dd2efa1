-- `map_records::enter` meets its contract. Assumes nothing.
use Rattle.std.proofs.Common.{rules}
use Rattle.eval_record.proofs.map_records.enter.Goals as goal

pub returns : goal.returns
returns c = search (rules, c.inputs-inputs.ensures c.add_entry.new.cells c.args.lent.now.text.now, c.inputs-inputs.ensures c.args.lent.now.cells.now c.args.lent.now.text.now)
