-- `records::record_at` and `records::operands_at` meet their contracts: the proofs of the two, joined. The levels left fall. Assumes nothing.
use Prim.Native.Nat.{◌+◌, ◌-◌, ◌*◌}
use mathlib.Core.Path.{◌≡◌}
use Rattle.table_check.specs.Reading.{read_of, operands_of}
use Rattle.table_check.proofs.records.+operands_at_record_at.Given as goal

abbrev pub decreases-operands_at : goal.decreases-operands_at
decreases-operands_at l = 2 * l.levels + 1

abbrev pub decreases-record_at : goal.decreases-record_at
decreases-record_at l = 2 * l.levels

abbrev pub invariant-operands_at-loop-read : goal.invariant-operands_at-loop-read
invariant-operands_at-loop-read l =
    operands_of (read_of l.table l.text l.levels) l.place l.marks l.end (l.count - l.read) l.at ≡ operands_of (read_of l.table l.text l.levels) l.place l.marks l.end l.count l.first
