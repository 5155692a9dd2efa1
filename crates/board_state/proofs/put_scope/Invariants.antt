-- `put_scope`: the slots written so far, over the lent words. Assumes nothing.
use mathlib.Core.Path.{◌≡◌}
use lib.ListN.{length}
use Rattle.board_state.proofs.SlotSteps.{slots_over}
use Rattle.board_state.proofs.put_scope.Given as goal

abbrev pub invariant-loop-name : goal.invariant-loop-name
invariant-loop-name l = (length l.words ≡ length l.initial.words) × (l.words ≡ slots_over l.scope.slots l.initial.words l.name)
