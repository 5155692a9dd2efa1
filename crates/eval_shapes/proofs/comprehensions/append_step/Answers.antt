-- `comprehensions::append_step` meets its contract. Assumes nothing.
use mathlib.Core.Path.{sym, ◌∙◌}
use Rattle.eval_shapes.proofs.KindLaws.{sound-stands}
use Rattle.eval_shapes.proofs.SeenOfRecords.{step-found, step-unlisted}
use Rattle.eval_shapes.proofs.comprehensions.append_step.Goals as goal

pub kind_at-requires : goal.kind_at-requires
kind_at-requires c = (sound-stands c.args.table.now c.args.literal.now c.args.step c.requires).here

pub guarded_step-requires : goal.guarded_step-requires
guarded_step-requires c = (c.requires, sym c.kind_at.ensures ∙ c.if-kind_at-eq-CONDITIONAL.true)

pub returns-then-kind_at-eq-CONDITIONAL : goal.returns-then-kind_at-eq-CONDITIONAL
returns-then-kind_at-eq-CONDITIONAL c = c.guarded_step.ensures

pub returns : goal.returns
returns c = step-found c.args.table.now c.args.literal.now c.args.step c.requires (λ k. c.if-kind_at-eq-CONDITIONAL.false (c.kind_at.ensures ∙ k)) c.args.accumulator c.in_ok-list.list c.in_ok-list.ensures

pub returns-in_err-list : goal.returns-in_err-list
returns-in_err-list c = rw c.from_residual.ensures (step-unlisted c.args.table.now c.args.literal.now c.args.step c.requires (λ k. c.if-kind_at-eq-CONDITIONAL.false (c.kind_at.ensures ∙ k)) c.args.accumulator c.in_err-list.ensures.0, tt)
