-- `after_first` meets its contract. Assumes nothing.
use Rattle.rooms.specs.Memory.{rooms_with}
use Rattle.eval_shapes.proofs.KindLaws.{sound-stands}
use Rattle.eval_shapes.proofs.NextLaws.{operand-start, operand-is, second-start, select-body, next-unary, next-binary, next-conditional, next-select, next-call, next-default}
use Rattle.eval_operands.proofs.after_first.Goals as goal

pub first_operand-requires : goal.first_operand-requires
first_operand-requires c = let h = sound-stands c.args.table.now c.args.inputs.now.literal.now c.args.at c.requires.0 in (h.here, h.known)

pub end_at-second-requires : goal.end_at-second-requires
end_at-second-requires c = operand-start c.args.table.now c.args.inputs.now.literal.now c.args.at c.requires.0 c.args.fixed c.requires.1 c.first_operand.result c.first_operand.ensures

pub first_operand-requires-in-Conditional : goal.first_operand-requires-in-Conditional
first_operand-requires-in-Conditional c = let h = sound-stands c.args.table.now c.args.inputs.now.literal.now c.args.at c.requires.0 in (h.here, h.known)

pub end_at-second-requires-in-Conditional : goal.end_at-second-requires-in-Conditional
end_at-second-requires-in-Conditional c = operand-start c.args.table.now c.args.inputs.now.literal.now c.args.at c.requires.0 c.args.fixed c.requires.1 c.first_operand-in-Conditional.result c.first_operand-in-Conditional.ensures

pub end_at-requires : goal.end_at-requires
end_at-requires c = second-start c.args.table.now c.args.inputs.now.literal.now c.args.at c.requires.0 c.args.fixed c.requires.1 c.first_operand-in-Conditional.result c.first_operand-in-Conditional.ensures c.in-Conditional.is c.end_at-second-in-Conditional.result c.end_at-second-in-Conditional.ensures

pub field_value-requires : goal.field_value-requires
field_value-requires c = select-body c.args.table.now c.args.inputs.now.literal.now c.args.at c.requires.0 c.args.fixed c.requires.1 _ c.in-Select.is

pub first_operand-requires-in-OrValue : goal.first_operand-requires-in-OrValue
first_operand-requires-in-OrValue c = let h = sound-stands c.args.table.now c.args.inputs.now.literal.now c.args.at c.requires.0 in (h.here, h.known)

pub returns-in-Unary : goal.returns-in-Unary
returns-in-Unary c = next-unary c.args.table.now c.args.limit c.args.at c.args.fixed c.args.first (rooms_with c.args.inputs.now c.args.cells.now c.args.text.now) _ c.in-Unary.is c.unary.ensures

pub returns-in-Binary : goal.returns-in-Binary
returns-in-Binary c = next-binary c.args.table.now c.args.limit c.args.at c.args.fixed c.args.first (rooms_with c.args.inputs.now c.args.cells.now c.args.text.now) _ c.in-Binary.is c.first_operand.result (operand-is c.args.table.now c.args.inputs.now.literal.now c.args.at c.requires.0 c.args.fixed c.requires.1 c.first_operand.result c.first_operand.ensures _ c.in-Binary.is) c.end_at-second.result c.end_at-second.ensures c.after_left.ensures

pub returns-in-Conditional : goal.returns-in-Conditional
returns-in-Conditional c = next-conditional c.args.table.now c.args.limit c.args.at c.args.fixed c.args.first (rooms_with c.args.inputs.now c.args.cells.now c.args.text.now) c.in-Conditional.is c.first_operand-in-Conditional.result (operand-is c.args.table.now c.args.inputs.now.literal.now c.args.at c.requires.0 c.args.fixed c.requires.1 c.first_operand-in-Conditional.result c.first_operand-in-Conditional.ensures _ c.in-Conditional.is) c.end_at-second-in-Conditional.result c.end_at-second-in-Conditional.ensures c.end_at.result c.end_at.ensures c.after_condition.ensures

pub returns-in-Select : goal.returns-in-Select
returns-in-Select c = next-select c.args.table.now c.args.limit c.args.at c.args.fixed c.args.first (rooms_with c.args.inputs.now c.args.cells.now c.args.text.now) _ c.in-Select.is c.field_value.ensures c.select.ensures

pub returns-in-Call : goal.returns-in-Call
returns-in-Call c = next-call c.args.table.now c.args.limit c.args.at c.args.fixed c.args.first (rooms_with c.args.inputs.now c.args.cells.now c.args.text.now) _ c.in-Call.is c.call.ensures

pub returns-in-OrValue : goal.returns-in-OrValue
returns-in-OrValue c = next-default c.args.table.now c.args.limit c.args.at c.args.fixed c.args.first (rooms_with c.args.inputs.now c.args.cells.now c.args.text.now) c.in-OrValue.is c.first_operand-in-OrValue.result (operand-is c.args.table.now c.args.inputs.now.literal.now c.args.at c.requires.0 c.args.fixed c.requires.1 c.first_operand-in-OrValue.result c.first_operand-in-OrValue.ensures _ c.in-OrValue.is) c.after_default.ensures
