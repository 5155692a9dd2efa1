-- `equality::pair`, `elements` and `entries`, which call one another, meet their contracts: the depth falls. Assumes nothing.
use Prim.Native.Nat.{◌+◌, ◌*◌}
use mathlib.Core.Path.{◌≡◌}
use Rattle.rooms.specs.Memory.{rooms_seen}
use Rattle.rooms_comparison.specs.Equality.{elements_equal, equal_in, entries_equal}
use Rattle.rooms_comparison.proofs.EqualitySteps.{compared, matched}
use Rattle.rooms_comparison.proofs.equality.+elements_entries_pair.Given as goal

abbrev pub invariant-elements-loop-done : goal.invariant-elements-loop-done
invariant-elements-loop-done l = compared (λ v w j. equal_in l.depth l.limit (rooms_seen l.view) v w j) (rooms_seen l.view) l.row l.there l.done l.pairs ≡ elements_equal (λ v w j. equal_in l.depth l.limit (rooms_seen l.view) v w j) (rooms_seen l.view) l.row.space l.row.first l.there.space l.there.first l.row.length l.steps

abbrev pub invariant-entries-loop-done : goal.invariant-entries-loop-done
invariant-entries-loop-done l = matched (λ v w j. equal_in l.depth l.limit (rooms_seen l.view) v w j) l.limit (rooms_seen l.view) l.row l.there l.done l.pairs ≡ entries_equal (λ v w j. equal_in l.depth l.limit (rooms_seen l.view) v w j) l.limit (rooms_seen l.view) l.row.space l.row.first l.there.space l.there.first l.there.length l.row.length l.steps

abbrev pub decreases-elements : goal.decreases-elements
decreases-elements l = 2 * l.depth + 1

abbrev pub decreases-entries : goal.decreases-entries
decreases-entries l = 2 * l.depth + 1

abbrev pub decreases-pair : goal.decreases-pair
decreases-pair l = 2 * l.depth
