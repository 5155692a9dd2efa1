-- `Scope::value_of`: a name below 128 has what its slot holds. Assumes nothing.
use mathlib.Core.Path.{◌≡◌, sym}
use lib.ListN.{length}
use native.Mathlib.Omega.{arith}
use Rattle.rooms.proofs.Scopes.{read-slot, no_slot}
use Rattle.rooms.proofs.scope.Scope.value_of.Goals as goal
use Rattle.rooms.proofs.scope.Scope.value_of.Goals.{Else-name-lt-NAMES}

whole : (c : Else-name-lt-NAMES) → length c.args.scope.slots ≡ 128
whole c = c.well_formed.0.1.1.0.1.0.1

pub returns-then-name-lt-NAMES : goal.returns-then-name-lt-NAMES
returns-then-name-lt-NAMES c = read-slot c.args.scope c.args.name _ (c.well_formed.0.1.1.0.1.0.1) (omega arith)

pub returns-else-name-lt-NAMES : goal.returns-else-name-lt-NAMES
returns-else-name-lt-NAMES c = sym (no_slot c.args.scope c.args.name (whole c) (omega arith))
