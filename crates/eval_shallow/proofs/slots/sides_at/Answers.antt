-- `slots::sides_at` meets its contract. Assumes nothing.
use mathlib.Core.Path.{sym, ◌∙◌}
use Rattle.meaning.specs.Kinds.{function_kind}
use Rattle.table_check.proofs.Opened.{opened}
use Rattle.eval_shapes.proofs.KindLaws.{sound-stands}
use Rattle.eval_shallow.proofs.SideLaws.{neither-here, unary-side, select-side, call-side, first-start, binary-sides}
use Rattle.eval_shallow.proofs.slots.sides_at.Goals as goal

pub kind_at-requires : goal.kind_at-requires
kind_at-requires c = (sound-stands c.args.table.now c.args.literal.now c.args.at c.requires).here

pub first_operand-requires : goal.first_operand-requires
first_operand-requires c = let h = sound-stands c.args.table.now c.args.literal.now c.args.at c.requires in (h.here, h.known)

pub first_operand-one-requires : goal.first_operand-one-requires
first_operand-one-requires c = let h = sound-stands c.args.table.now c.args.literal.now c.args.at c.requires in (h.here, h.known)

pub end_at-requires : goal.end_at-requires
end_at-requires c = first-start c.args.table.now c.args.literal.now c.args.at c.requires c.first_operand-one.ensures (sym c.kind_at.ensures ∙ c.in-9.is)

pub first_operand-requires-in-11 : goal.first_operand-requires-in-11
first_operand-requires-in-11 c = let h = sound-stands c.args.table.now c.args.literal.now c.args.at c.requires in (h.here, h.known)

pub number_at-requires : goal.number_at-requires
number_at-requires c = (opened c.args.table.now c.args.literal.now c.args.at function_kind (sym c.kind_at.ensures ∙ c.in-16.is) c.requires).body

pub first_operand-requires-in-16 : goal.first_operand-requires-in-16
first_operand-requires-in-16 c = let h = sound-stands c.args.table.now c.args.literal.now c.args.at c.requires in (h.here, h.known)

pub returns-in-8 : goal.returns-in-8
returns-in-8 c = unary-side c.args.table.now c.args.literal.now c.args.at c.requires c.first_operand.ensures (sym c.kind_at.ensures ∙ c.in-8.is)

pub returns-in-9 : goal.returns-in-9
returns-in-9 c = binary-sides c.args.table.now c.args.literal.now c.args.at c.requires c.first_operand-one.ensures (sym c.kind_at.ensures ∙ c.in-9.is) c.end_at.ensures

pub returns-in-11 : goal.returns-in-11
returns-in-11 c = select-side c.args.table.now c.args.literal.now c.args.at c.requires c.first_operand-in-11.ensures (sym c.kind_at.ensures ∙ c.in-11.is)

pub returns-in-16 : goal.returns-in-16
returns-in-16 c = call-side c.args.table.now c.args.literal.now c.args.at c.requires c.first_operand-in-16.ensures (sym c.kind_at.ensures ∙ c.in-16.is) c.number_at.ensures c.call_sides.ensures

pub returns-in_default : goal.returns-in_default
returns-in_default c = neither-here c.args.table.now c.args.literal.now c.args.at c.requires (λ i. c.in_default.in_default-own.rest.0.0.0.1 (c.kind_at.ensures ∙ i)) (λ i. c.in_default.in_default-own.rest.0.0.1 (c.kind_at.ensures ∙ i)) (λ i. c.in_default.in_default-own.rest.0.1 (c.kind_at.ensures ∙ i)) (λ i. c.in_default.in_default-own.rest.1 (c.kind_at.ensures ∙ i))
