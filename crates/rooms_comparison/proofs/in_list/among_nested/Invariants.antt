-- `in_list::among_nested` meets its contract: the elements that are left are looked through as the whole. Assumes nothing.
use mathlib.Core.Path.{◌≡◌}
use Rattle.rooms.specs.Memory.{rooms_seen}
use Rattle.rooms_comparison.specs.Equality.{among_in}
use Rattle.rooms_comparison.proofs.AmongSteps.{looked}
use Rattle.rooms_comparison.proofs.in_list.among_nested.Given as goal

abbrev pub invariant-loop-done : goal.invariant-loop-done
invariant-loop-done l = looked l.limit (rooms_seen l.view) l.value l.row l.done l.pairs ≡ among_in l.limit (rooms_seen l.view) l.value l.row.space l.row.first l.row.length l.steps
