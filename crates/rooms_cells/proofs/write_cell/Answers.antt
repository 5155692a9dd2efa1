-- `write_cell` meets its contract. Assumes nothing.
use borrow.Author.Tests.{le-ltb, lt-ltb}
use native.Mathlib.Omega.{arith}
use lib.ListN.{length-set}
use Rattle.rooms.specs.Cells.{written_in}
use Rattle.rooms_cells.proofs.write_cell.Goals as goal

pub bounds-words-index-then-index-words : goal.bounds-words-index-then-index-words
bounds-words-index-then-index-words c = simp length-set (omega arith)

pub returns-then-index-words : goal.returns-then-index-words
unfolding written_in
returns-then-index-words c = simp (lt-ltb _ _ c.if-index-words.true, ← c.head_of.ensures, ← c.payload_of.ensures)

pub returns-else-index-words : goal.returns-else-index-words
unfolding written_in
returns-else-index-words c = simp (le-ltb _ _ c.if-index-words.false)
