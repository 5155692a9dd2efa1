-- An outcome that leaves the rooms as they are.
use Rattle.std.specs.Prelude.{◌≡◌}
use Rattle.rooms.specs.Rooms.{Rooms}
use Rattle.machine.specs.declared.outcome.Outcome.{Outcome}
use Rattle.machine.specs.Outcomes.{Res}

abbrev pub InMap : Outcome → Rooms → Res → Type 0
InMap o q m = ◌≡◌ {A = Res} (o, q) m
