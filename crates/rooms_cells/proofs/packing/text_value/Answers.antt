-- `packing::text_value` meets its contract. Assumes nothing.
use borrow.Author.Tests.{eq-eqb, ne_eqb}
use Rattle.rooms.specs.Cells.{text_of}
use Rattle.rooms_cells.proofs.packing.text_value.Goals as goal

pub returns-in_default : goal.returns-in_default
unfolding text_of
returns-in_default c = simp (← c.text_place.ensures, c.in_default.is)

pub returns-then-nesting-ne0 : goal.returns-then-nesting-ne0
unfolding text_of
returns-then-nesting-ne0 c = simp (← c.text_place.ensures, c.in-Some.is, ne_eqb _ _ c.if-nesting-ne0.true)

pub returns-in-5 : goal.returns-in-5
unfolding text_of
returns-in-5 c = simp (← c.text_place.ensures, c.in-Some.is, eq-eqb _ _ c.if-nesting-ne0.false, c.in-5.is)

pub returns-in_default-kind : goal.returns-in_default-kind
unfolding text_of
returns-in_default-kind c = simp (← c.text_place.ensures, c.in-Some.is, eq-eqb _ _ c.if-nesting-ne0.false, ne_eqb _ _ c.in_default-kind.in_default-kind-own.rest.1)
