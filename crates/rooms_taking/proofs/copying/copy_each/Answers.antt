-- `copying::copy_each` meets its contract. Assumes nothing.
use mathlib.Core.Path.{ap, ◌∙◌}
use lib.ListN as Lists
use lib.ListN.{set, length-set}
use Prim.Native.Nat.{◌+◌}
use Rattle.rooms_taking.proofs.CopySteps.{pastes, pastes-all, pastes-on, pastes-none}
use Rattle.rooms_taking.proofs.copying.copy_each.Goals as goal

pub loop-done-preserved : goal.loop-done-preserved
loop-done-preserved c = (
  ap Lists.length c.put_byte.ensures ∙ length-set c.loop-done.text (c.args.to + c.loop-done.done) c.byte_at-byte.result ∙ c.loop-done.invariant.0,
  ap (λ t. pastes c.args.literal.now c.args.binding_text.now c.args.space t c.args.first c.args.to c.args.length (c.loop-done.done + 1)) (c.put_byte.ensures ∙ ap (set c.loop-done.text (c.args.to + c.loop-done.done)) c.byte_at-byte.ensures)
      ∙ pastes-on c.args.literal.now c.args.binding_text.now c.args.space c.loop-done.text c.args.first c.args.to c.args.length c.loop-done.done c.loop-done-test.true
      ∙ c.loop-done.invariant.1,
)

pub shape_of-text : goal.shape_of-text
shape_of-text c = c.loop-done.invariant.0

pub returns : goal.returns
returns c =
    pastes-none c.args.literal.now c.args.binding_text.now c.args.space c.loop-done.text c.args.first c.args.to c.args.length c.loop-done.done c.loop-done-test.false
    ∙ c.loop-done.invariant.1 ∙ pastes-all c.args.literal.now c.args.binding_text.now c.args.space c.args.text.now c.args.first c.args.to c.args.length
