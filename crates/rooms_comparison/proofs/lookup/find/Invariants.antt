-- `lookup::find` meets its contract: the entries that are left are looked through as the whole. Assumes nothing.
use mathlib.Core.Path.{◌≡◌}
use Rattle.rooms.specs.Memory.{rooms_seen}
use Rattle.rooms_comparison.specs.LookUp.{find_in}
use Rattle.rooms_comparison.proofs.LookUpSteps.{finds}
use Rattle.rooms_comparison.proofs.lookup.find.Given as goal

abbrev pub invariant-loop-done : goal.invariant-loop-done
invariant-loop-done l = finds l.limit (rooms_seen l.view) l.probe l.row l.done l.pairs ≡ find_in l.limit (rooms_seen l.view) l.probe l.row.space l.row.first l.row.length l.steps
