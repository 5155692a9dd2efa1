-- `comprehensions::guarded_step` meets its contract. Assumes nothing.
use Prim.Native.Nat.{◌+◌}
use mathlib.Core.Path.{sym, ◌∙◌}
use Rattle.eval_shapes.proofs.KindLaws.{sound-stands}
use Rattle.eval_shapes.proofs.SeenOfRecords.{conditional-at, then-sound, guard-sound, guard-missing, guard-unlisted, guard-found}
use Rattle.eval_shapes.proofs.comprehensions.guarded_step.Goals as goal

pub first_operand-guard-requires : goal.first_operand-guard-requires
first_operand-guard-requires c = let h = sound-stands c.args.table.now c.args.literal.now c.args.step c.requires.0 in (h.here, h.known)

pub end_at-then-requires : goal.end_at-then-requires
end_at-then-requires c = let o = conditional-at c.args.table.now c.args.literal.now c.args.step c.requires.0 c.requires.1 in rw (c.first_operand-guard.ensures ∙ o.first) (sound-stands c.args.table.now c.args.literal.now (c.args.step + 3) o.condition).start

pub end_at-requires : goal.end_at-requires
end_at-requires c = (sound-stands c.args.table.now c.args.literal.now c.end_at-then.result (then-sound c.args.table.now c.args.literal.now c.args.step c.requires.0 c.requires.1 c.args.accumulator c.first_operand-guard.result c.first_operand-guard.ensures c.end_at-then.result c.end_at-then.ensures)).start

pub is_name-requires : goal.is_name-requires
is_name-requires c = (guard-sound c.args.table.now c.args.literal.now c.args.step c.requires.0 c.requires.1 c.args.accumulator c.first_operand-guard.result c.first_operand-guard.ensures c.end_at-then.result c.end_at-then.ensures c.end_at.result c.end_at.ensures).1.1

pub returns-then-not-is_name : goal.returns-then-not-is_name
returns-then-not-is_name c = (guard-missing c.args.table.now c.args.literal.now c.args.step c.requires.0 c.requires.1 c.args.accumulator c.first_operand-guard.result c.first_operand-guard.ensures c.end_at-then.result c.end_at-then.ensures c.end_at.result c.end_at.ensures (sym (c.if-not-is_name.true) ∙ c.is_name.ensures), tt)

pub items_of-requires : goal.items_of-requires
items_of-requires c = (guard-sound c.args.table.now c.args.literal.now c.args.step c.requires.0 c.requires.1 c.args.accumulator c.first_operand-guard.result c.first_operand-guard.ensures c.end_at-then.result c.end_at-then.ensures c.end_at.result c.end_at.ensures).1.0

pub returns : goal.returns
returns c = guard-found c.args.table.now c.args.literal.now c.args.step c.requires.0 c.requires.1 c.args.accumulator c.first_operand-guard.result c.first_operand-guard.ensures c.end_at-then.result c.end_at-then.ensures c.end_at.result c.end_at.ensures (sym (c.if-not-is_name.false) ∙ c.is_name.ensures) c.in_ok-list.list c.in_ok-list.ensures

pub returns-in_err-list : goal.returns-in_err-list
returns-in_err-list c = rw c.from_residual.ensures (guard-unlisted c.args.table.now c.args.literal.now c.args.step c.requires.0 c.requires.1 c.args.accumulator c.first_operand-guard.result c.first_operand-guard.ensures c.end_at-then.result c.end_at-then.ensures c.end_at.result c.end_at.ensures (sym (c.if-not-is_name.false) ∙ c.is_name.ensures) c.in_err-list.ensures.0, tt)
