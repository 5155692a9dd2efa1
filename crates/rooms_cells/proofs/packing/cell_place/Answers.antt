-- `packing::cell_place` meets its contract. Assumes nothing.
use borrow.Author.Tests.{le-ltb, lt-ltb, ne_eqb}
use Rattle.rooms.specs.Cells.{cell_place}
use Rattle.rooms_cells.proofs.packing.cell_place.Goals as goal

pub returns-then-first-gt-WIDEST : goal.returns-then-first-gt-WIDEST
unfolding cell_place
returns-then-first-gt-WIDEST c = simp (lt-ltb _ _ c.if-first-gt-WIDEST.true)

pub returns-then-length-gt-WIDEST : goal.returns-then-length-gt-WIDEST
unfolding cell_place
returns-then-length-gt-WIDEST c = simp (le-ltb _ _ c.if-first-gt-WIDEST.false, lt-ltb _ _ c.if-length-gt-WIDEST.true)

pub returns-in-0 : goal.returns-in-0
unfolding cell_place
returns-in-0 c = simp (le-ltb _ _ c.if-first-gt-WIDEST.false, le-ltb _ _ c.if-length-gt-WIDEST.false, c.in-0.is)

pub returns-in-1 : goal.returns-in-1
unfolding cell_place
returns-in-1 c = simp (le-ltb _ _ c.if-first-gt-WIDEST.false, le-ltb _ _ c.if-length-gt-WIDEST.false, c.in-1.is)

pub returns-in_default : goal.returns-in_default
unfolding cell_place
returns-in_default c = simp (le-ltb _ _ c.if-first-gt-WIDEST.false, le-ltb _ _ c.if-length-gt-WIDEST.false, ne_eqb _ _ c.in_default.in_default-own.rest.0.1, ne_eqb _ _ c.in_default.in_default-own.rest.1)
