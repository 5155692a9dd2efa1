-- `Scope::with`: a name below 128 has its slot stored. Assumes nothing.
use mathlib.Core.Path.{◌≡◌, sym}
use lib.ListN.{length}
use native.Mathlib.Omega.{arith}
use Rattle.rooms.proofs.Scopes.{none-stored}
use Rattle.rooms.proofs.scope.Scope.with.Goals as goal
use Rattle.rooms.proofs.scope.Scope.with.Goals.{Else-name-lt-NAMES}

whole : (c : Else-name-lt-NAMES) → length c.args.scope.slots ≡ 128
whole c = c.well_formed.0.1.1.0.1.0.1

pub returns-else-name-lt-NAMES : goal.returns-else-name-lt-NAMES
returns-else-name-lt-NAMES c = sym (none-stored c.args.scope c.args.name c.args.value (whole c) (omega arith))
