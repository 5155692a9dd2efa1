-- `put_scope`: the slots written so far, over the lent words. Assumes nothing.
use mathlib.Core.Path.{refl, ◌∙◌}
use native.Mathlib.Omega.{arith}
use Rattle.board_state.proofs.SlotSteps.{over_none, over-on, over-all}
use Rattle.board_state.proofs.put_scope.Goals as goal

pub loop-name-init : goal.loop-name-init
loop-name-init c = (refl, over_none c.args.scope.slots c.args.words.now)

pub loop-name-preserved : goal.loop-name-preserved
loop-name-preserved c = over-on c.args.scope.slots c.args.words.now c.loop-name.words c.write_cell.new.words c.loop-name.name _ c.well_formed.1.0.1.1.0.1.0.1 c.requires c.loop-name-test.true c.loop-name.invariant.0 c.loop-name.invariant.1 c.write_cell.ensures

pub shape_of-words : goal.shape_of-words
shape_of-words c = c.loop-name.invariant.0

pub returns : goal.returns
returns c = c.loop-name.invariant.1 ∙ over-all c.args.scope.slots c.args.words.now c.loop-name.name c.well_formed.1.0.1.1.0.1.0.1 (omega arith)
