-- What is left to compare behind the keys that are unlike. Assumes nothing.
use Rattle.std.proofs.Common.{◌≡◌, ◌+◌, ◌-◌, ◌*◌}
use Rattle.bindings_sound.specs.Keys.{repeated_in}
use Rattle.bindings_sound.proofs.map_keys.repeated.Given as goal

abbrev pub invariant-loop-entry : goal.invariant-loop-entry
invariant-loop-entry l =
    repeated_in l.cells l.text l.key (l.first + 2 * l.entry) (l.count - l.entry) ≡ repeated_in l.cells l.text l.key l.first l.count
