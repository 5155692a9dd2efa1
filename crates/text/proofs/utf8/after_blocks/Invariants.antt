-- `utf8::after_blocks`: what is left is well formed as the text is.
use Rattle.std.proofs.Common.{length}
use Rattle.text.specs.Passing.{Passes}
use Rattle.text.proofs.utf8.after_blocks.Given as goal

abbrev pub invariant-loop-first : goal.invariant-loop-first
invariant-loop-first l = Passes l.text l.rest

abbrev pub decreases-loop-first : goal.decreases-loop-first
decreases-loop-first l = length l.rest
