-- `put_bindings`. Assumes nothing.
use native.Mathlib.Omega.{arith}
use lib.ListN.{length-set}
use Rattle.board_state.proofs.SlotSteps.{slots-long, state-written, no-state-written}
use Rattle.board_state.proofs.put_bindings.Goals as goal

pub returns-then-words-ne-STATE_WORDS : goal.returns-then-words-ne-STATE_WORDS
returns-then-words-ne-STATE_WORDS c = no-state-written c.args.words.now c.args.bindings c.if-words-ne-STATE_WORDS.true

pub bounds-words-257 : goal.bounds-words-257
bounds-words-257 c = let long = slots-long c.args.bindings.scope.slots c.args.words.now c.put_scope.new.words c.well_formed.1.0.1.1.0.1.1.0.1.0.1 c.if-words-ne-STATE_WORDS.false c.put_scope.ensures in simp length-set (omega (arith, long))

pub bounds-words-258 : goal.bounds-words-258
bounds-words-258 c = let long = slots-long c.args.bindings.scope.slots c.args.words.now c.put_scope.new.words c.well_formed.1.0.1.1.0.1.1.0.1.0.1 c.if-words-ne-STATE_WORDS.false c.put_scope.ensures in simp length-set (omega (arith, long))

pub returns : goal.returns
returns c = state-written c.args.words.now c.put_scope.new.words c.args.bindings c.well_formed.1.0.1.1.0.1.1.0.1.0.1 c.if-words-ne-STATE_WORDS.false c.put_scope.ensures
