-- `select::select_in_present` meets its contract. Assumes nothing.
use Rattle.std.proofs.Common.{rules}
use Rattle.rooms.specs.Memory.{rooms_with}
use Rattle.eval_selection.proofs.select.select_in_present.Goals as goal

pub returns-in-Elements : goal.returns-in-Elements
returns-in-Elements c = search (rules, c.select_in_container.ensures (rooms_with c.args.inputs.now c.args.cells.now c.args.text.now))
