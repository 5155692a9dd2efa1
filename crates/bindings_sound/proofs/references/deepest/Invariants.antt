-- The deepest so far and what is left. Assumes nothing.
use Rattle.std.proofs.Common.{◌≡◌, ◌-◌, max}
use Rattle.bindings_sound.specs.Fits.{deepest_in}
use Rattle.bindings_sound.proofs.references.deepest.Given as goal

abbrev pub invariant-loop-at : goal.invariant-loop-at
invariant-loop-at l = max l.most (deepest_in l.cells l.at (l.at-end - l.at)) ≡ deepest_in l.cells l.first l.count
