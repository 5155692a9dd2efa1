-- `packing::bare_value` meets its contract. Assumes nothing.
use borrow.Author.Tests.{ne_eqb}
use mir.Syntax.{w64}
use borrow.Author.Rules.{sfits_of}
use mir.ValLaws.{to_z-of_z}
use Rattle.rooms.specs.Cells.{bare_of}
use Rattle.rooms_cells.proofs.packing.bare_value.Goals as goal

pub returns-in-0-payload : goal.returns-in-0-payload
unfolding bare_of
returns-in-0-payload c = simp (c.in-0.is, c.in-0-payload.is)

pub returns-in_default-payload : goal.returns-in_default-payload
unfolding bare_of
returns-in_default-payload c = simp (c.in-0.is, ne_eqb _ _ c.in_default-payload.in_default-payload-own.rest.1)

pub returns-in-0-payload-2 : goal.returns-in-0-payload-2
unfolding bare_of
returns-in-0-payload-2 c = simp (c.in-1.is, c.in-0-payload-2.is)

pub returns-in-1-payload : goal.returns-in-1-payload
unfolding bare_of
returns-in-1-payload c = simp (c.in-1.is, c.in-1-payload.is)

pub returns-in_default-payload-2 : goal.returns-in_default-payload-2
unfolding bare_of
returns-in_default-payload-2 c = simp (c.in-1.is, ne_eqb _ _ c.in_default-payload-2.in_default-payload-2-own.rest.0.1, ne_eqb _ _ c.in_default-payload-2.in_default-payload-2-own.rest.1)

pub returns-in-2 : goal.returns-in-2
unfolding bare_of
returns-in-2 c = rw (to_z-of_z w64 c.signed_of.result (sfits_of c.signed_of.type_inv)) (simp (c.in-2.is, ← c.signed_of.ensures))

pub returns-in-3 : goal.returns-in-3
unfolding bare_of
returns-in-3 c = simp c.in-3.is

pub returns-in-4 : goal.returns-in-4
unfolding bare_of
returns-in-4 c = simp (c.in-4.is, ← c.double_value.ensures)

pub returns-in-0-payload-3 : goal.returns-in-0-payload-3
unfolding bare_of
returns-in-0-payload-3 c = simp (c.in-14.is, c.in-0-payload-3.is)

pub returns-in_default-payload-3 : goal.returns-in_default-payload-3
unfolding bare_of
returns-in_default-payload-3 c = simp (c.in-14.is, ne_eqb _ _ c.in_default-payload-3.in_default-payload-3-own.rest.1)

pub returns-in_default : goal.returns-in_default
unfolding bare_of
returns-in_default c = simp (ne_eqb _ _ c.in_default.in_default-own.rest.0.0.0.0.0.1, ne_eqb _ _ c.in_default.in_default-own.rest.0.0.0.0.1, ne_eqb _ _ c.in_default.in_default-own.rest.0.0.0.1, ne_eqb _ _ c.in_default.in_default-own.rest.0.0.1, ne_eqb _ _ c.in_default.in_default-own.rest.0.1, ne_eqb _ _ c.in_default.in_default-own.rest.1)
