-- `packing::container` meets its contract. Assumes nothing.
use borrow.Author.Tests.{le-ltb, lt-ltb, ne_eqb}
use Rattle.rooms.specs.Cells.{container_of}
use Rattle.rooms_cells.proofs.packing.container.Goals as goal

pub returns-in_default : goal.returns-in_default
unfolding container_of
returns-in_default c = simp (← c.cell_place.ensures, c.in_default.is)

pub returns-then-nesting-gt255 : goal.returns-then-nesting-gt255
unfolding container_of
returns-then-nesting-gt255 c = simp (← c.cell_place.ensures, c.in-Some.is, lt-ltb _ _ c.if-nesting-gt255.true)

pub returns-in-12 : goal.returns-in-12
unfolding container_of
returns-in-12 c = simp (← c.cell_place.ensures, c.in-Some.is, le-ltb _ _ c.if-nesting-gt255.false, c.in-12.is)

pub returns-in-13 : goal.returns-in-13
unfolding container_of
returns-in-13 c = simp (← c.cell_place.ensures, c.in-Some.is, le-ltb _ _ c.if-nesting-gt255.false, c.in-13.is)

pub returns-in-0 : goal.returns-in-0
unfolding container_of
returns-in-0 c = simp (← c.cell_place.ensures, c.in-Some.is, le-ltb _ _ c.if-nesting-gt255.false, ne_eqb _ _ c.in_default-kind.in_default-kind-own.rest.0.1, ne_eqb _ _ c.in_default-kind.in_default-kind-own.rest.1, c.in-0.is)

pub returns-in_default-length : goal.returns-in_default-length
unfolding container_of
returns-in_default-length c = simp (← c.cell_place.ensures, c.in-Some.is, le-ltb _ _ c.if-nesting-gt255.false, ne_eqb _ _ c.in_default-kind.in_default-kind-own.rest.0.1, ne_eqb _ _ c.in_default-kind.in_default-kind-own.rest.1, ne_eqb _ _ c.in_default-length.in_default-length-own.rest.1)
