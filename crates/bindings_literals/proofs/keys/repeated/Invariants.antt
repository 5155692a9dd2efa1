-- The keys that are left. Assumes nothing.
use Rattle.bindings_literals.proofs.KeySteps.{KeysLeft}
use Rattle.bindings_literals.proofs.keys.repeated.Given as goal

abbrev pub invariant-loop : goal.invariant-loop
invariant-loop l = KeysLeft l.table l.literal l.key l.first l.count l.at l.counter
