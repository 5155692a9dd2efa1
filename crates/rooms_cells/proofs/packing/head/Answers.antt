-- `packing::head` meets its contract. Assumes nothing.
use Rattle.rooms.specs.Cells.{packed}
use borrow.Author.Rules.{rules}
use Rattle.rooms_cells.proofs.packing.head.Goals as goal

pub returns : goal.returns
unfolding packed
returns c = search rules
