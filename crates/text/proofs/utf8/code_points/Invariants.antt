-- `utf8::code_points`: the count so far is that of the bytes so far.
use Rattle.std.proofs.Common.{◌≡◌, take}
use Rattle.text.specs.Utf8.{code_points}
use Rattle.text.proofs.utf8.code_points.Given as goal

abbrev pub invariant-loop-byte : goal.invariant-loop-byte
invariant-loop-byte l = l.count ≡ code_points (take l.byte-index l.part)
