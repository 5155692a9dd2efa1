-- `copying::copied_whole` meets its contract: what is left of the bytes is still to be copied. Assumes nothing.
use mathlib.Core.Path.{◌≡◌}
use lib.ListN as Lists
use Rattle.rooms.specs.declared.value.TextSpace.TheVariants.{Literal}
use Rattle.rooms_taking.proofs.CopySteps.{pastes}
use Rattle.rooms_taking.proofs.copying.copied_whole.Given as goal

abbrev pub invariant-loop-done : goal.invariant-loop-done
invariant-loop-done l = (Lists.length l.text ≡ Lists.length l.initial.text) × (pastes l.from l.from Literal l.text l.first l.to l.length l.done ≡ pastes l.from l.from Literal l.initial.text l.first l.to l.length 0)
