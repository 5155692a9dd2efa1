-- `scope_in`: the slots read so far, and absent ones behind them. Assumes nothing.
use Prim.Native.Nat.{◌-◌}
use mathlib.Core.Path.{◌≡◌}
use Rattle.board_state.proofs.SlotSteps.{slots_so_far}
use Rattle.board_state.proofs.scope_in.Given as goal

abbrev pub invariant-loop-name : goal.invariant-loop-name
invariant-loop-name l = l.scope.slots ≡ slots_so_far l.words l.name (128 - l.name)
