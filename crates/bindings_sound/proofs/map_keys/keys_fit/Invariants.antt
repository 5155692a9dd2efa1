-- What is left to judge behind the keys that fit. Assumes nothing.
use Rattle.std.proofs.Common.{◌≡◌, ◌+◌, ◌-◌, ◌*◌}
use Rattle.bindings_sound.specs.Keys.{keys_fit}
use Rattle.bindings_sound.proofs.map_keys.keys_fit.Given as goal

abbrev pub invariant-loop-entry : goal.invariant-loop-entry
invariant-loop-entry l =
    keys_fit l.cells l.text (l.first + 2 * l.entry) (l.count - l.entry) ≡ keys_fit l.cells l.text l.first l.length
