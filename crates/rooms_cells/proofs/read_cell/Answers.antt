-- `read_cell` meets its contract. Assumes nothing.
use borrow.Author.Tests.{le-ltb, lt-ltb}
use Rattle.rooms.specs.Cells.{cell_in}
use Rattle.rooms_cells.proofs.read_cell.Goals as goal

pub returns-then-index-words : goal.returns-then-index-words
unfolding cell_in
returns-then-index-words c = simp (lt-ltb _ _ c.if-index-words.true, ← c.value_of.ensures)

pub returns-else-index-words : goal.returns-else-index-words
unfolding cell_in
returns-else-index-words c = simp (le-ltb _ _ c.if-index-words.false)
