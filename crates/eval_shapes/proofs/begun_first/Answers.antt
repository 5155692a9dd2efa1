-- `begun_first` meets its contract. Assumes nothing.
use borrow.Enum.Refused.{opened}
use Rattle.eval_shapes.proofs.KindLaws.{sound-stands}
use Rattle.eval_shapes.proofs.NextLaws.{first-place, operand-start, default-place}
use Rattle.eval_shapes.proofs.begun_first.Goals as goal

pub first_operand-requires : goal.first_operand-requires
first_operand-requires c = let h = sound-stands c.args.table.now c.args.literal.now c.args.at c.requires.0 in (h.here, h.known)

pub end_at-requires : goal.end_at-requires
end_at-requires c = operand-start c.args.table.now c.args.literal.now c.args.at c.requires.0 c.args.fixed c.requires.1 c.first_operand.result c.first_operand.ensures

pub first_operand-requires-in_default : goal.first_operand-requires-in_default
first_operand-requires-in_default c = let h = sound-stands c.args.table.now c.args.literal.now c.args.at c.requires.0 in (h.here, h.known)

pub returns-in-OrValue : goal.returns-in-OrValue
returns-in-OrValue c = default-place c.args.table.now c.args.literal.now c.args.at c.requires.0 c.args.fixed c.requires.1 c.first_operand.result c.first_operand.ensures c.in-OrValue.is c.end_at.result c.end_at.ensures

pub returns-in_default : goal.returns-in_default
returns-in_default c = first-place c.args.table.now c.args.literal.now c.args.at c.requires.0 c.args.fixed c.requires.1 c.first_operand-in_default.result c.first_operand-in_default.ensures (opened c.in_default.in_default-own.keys2)
