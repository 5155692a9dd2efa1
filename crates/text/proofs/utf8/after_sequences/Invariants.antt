-- `utf8::after_sequences`: what is left is well formed as the text is.
use Rattle.std.proofs.Common.{length}
use Rattle.text.specs.Passing.{Passes}
use Rattle.text.proofs.utf8.after_sequences.Given as goal

abbrev pub invariant-loop-rest : goal.invariant-loop-rest
invariant-loop-rest l = Passes l.text l.rest

abbrev pub decreases-loop-rest : goal.decreases-loop-rest
decreases-loop-rest l = length l.rest
