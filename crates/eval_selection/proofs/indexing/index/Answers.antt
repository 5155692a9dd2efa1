-- `indexing::index` meets its contract. Assumes nothing.
use Rattle.std.proofs.Common.{rules}
use Rattle.rooms.specs.Memory.{rooms_with}
use Rattle.eval_selection.proofs.indexing.index.Goals as goal

pub returns-in-Not : goal.returns-in-Not
returns-in-Not c = search (rules, c.perhaps.ensures (rooms_with c.args.inputs.now c.args.cells.now c.args.text.now))

pub returns-in-Present : goal.returns-in-Present
returns-in-Present c = search (rules, c.optionally.ensures (rooms_with c.args.inputs.now c.args.cells.now c.args.text.now))
