-- `copying::copy_each` meets its contract: what is left of the bytes is still to be copied. Assumes nothing.
use mathlib.Core.Path.{◌≡◌}
use lib.ListN as Lists
use Rattle.rooms_taking.proofs.CopySteps.{pastes}
use Rattle.rooms_taking.proofs.copying.copy_each.Given as goal

abbrev pub invariant-loop-done : goal.invariant-loop-done
invariant-loop-done l = (Lists.length l.text ≡ Lists.length l.initial.text) × (pastes l.literal l.binding_text l.space l.text l.first l.to l.length l.done ≡ pastes l.literal l.binding_text l.space l.initial.text l.first l.to l.length 0)
