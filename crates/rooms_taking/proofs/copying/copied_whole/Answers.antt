-- `copying::copied_whole` meets its contract. Assumes nothing.
use mathlib.Core.Path.{◌∙◌}
use native.Mathlib.Omega.{arith}
use lib.ListN.{length-set}
use Rattle.rooms.specs.declared.value.TextSpace.TheVariants.{Literal}
use Rattle.rooms_taking.proofs.CopySteps.{pastes-all, pastes-on, pastes-none}
use Rattle.rooms_taking.proofs.copying.copied_whole.Goals as goal

pub loop-done-preserved : goal.loop-done-preserved
loop-done-preserved c = (
  length-set c.loop-done.text _ _ ∙ c.loop-done.invariant.0,
  pastes-on c.args.from.now c.args.from.now Literal c.loop-done.text c.args.first c.args.to c.args.length c.loop-done.done c.loop-done-test.true ∙ c.loop-done.invariant.1,
)

pub returns : goal.returns
returns c =
    pastes-none c.args.from.now c.args.from.now Literal c.loop-done.text c.args.first c.args.to c.args.length c.loop-done.done c.loop-done-test.false
    ∙ c.loop-done.invariant.1 ∙ pastes-all c.args.from.now c.args.from.now Literal c.args.text.now c.args.first c.args.to c.args.length
