-- `value_of` meets its contract. Assumes nothing.
use mathlib.Core.Path.{◌∙◌}
use borrow.Author.Tests.{eq-eqb, ne_eqb}
use Rattle.rooms.specs.Cells.{cell_of, value_of}
use Rattle.rooms_cells.proofs.BareCells.{bare-first}
use Rattle.rooms_cells.proofs.value_of.Goals as goal

pub returns-then-head-lt-STRING : goal.returns-then-head-lt-STRING
returns-then-head-lt-STRING c = c.bare_value.ensures ∙ bare-first _ _ c.if-head-lt-STRING.true

pub returns-in-5 : goal.returns-in-5
unfolding cell_of value_of
returns-in-5 c = c.text_value.ensures ∙ rw c.in-5.is

pub returns-in-6 : goal.returns-in-6
unfolding cell_of value_of
returns-in-6 c = c.text_value-in-6.ensures ∙ rw c.in-6.is

pub returns-in-12 : goal.returns-in-12
unfolding cell_of value_of
returns-in-12 c = c.container.ensures ∙ rw c.in-12.is

pub returns-in-13 : goal.returns-in-13
unfolding cell_of value_of
returns-in-13 c = c.container-in-13.ensures ∙ rw c.in-13.is

pub returns-in-15 : goal.returns-in-15
unfolding cell_of value_of
returns-in-15 c = c.container-in-15.ensures ∙ rw c.in-15.is

pub returns-then-kind-head : goal.returns-then-kind-head
unfolding cell_of value_of
returns-then-kind-head c = simp (ne_eqb _ _ c.in_default.in_default-own.rest.0.0.0.0.1, ne_eqb _ _ c.in_default.in_default-own.rest.0.0.0.1, ne_eqb _ _ c.in_default.in_default-own.rest.0.0.1, ne_eqb _ _ c.in_default.in_default-own.rest.0.1, ne_eqb _ _ c.in_default.in_default-own.rest.1, eq-eqb _ _ c.if-kind-head.true, ← c.bare_value-then-kind-head.ensures)

pub returns-else-kind-head : goal.returns-else-kind-head
unfolding cell_of value_of
returns-else-kind-head c = simp (ne_eqb _ _ c.in_default.in_default-own.rest.0.0.0.0.1, ne_eqb _ _ c.in_default.in_default-own.rest.0.0.0.1, ne_eqb _ _ c.in_default.in_default-own.rest.0.0.1, ne_eqb _ _ c.in_default.in_default-own.rest.0.1, ne_eqb _ _ c.in_default.in_default-own.rest.1, ne_eqb _ _ c.if-kind-head.false)
