-- `+` of what has parts.
use Rattle.std.specs.Prelude.{ℕ, max}
use Rattle.rooms.specs.declared.value.Value.{Value}
use Rattle.rooms.specs.declared.value.Parts.{Parts}
use Rattle.rooms.specs.Value.{parts_of, nesting_of}
use Rattle.rooms.specs.Rooms.{Rooms}
use Rattle.machine.specs.declared.outcome.Used.{Used}
use Rattle.machine.specs.Outcomes.{Res, no_overload}
use Rattle.machine.specs.Numbers.{list_sum}

abbrev pub sum_parts : ℕ → Value → Value → Parts → Used → Rooms → Res
sum_parts p v w (Parts.Elements ro) u r = list_sum p (max (nesting_of v) (nesting_of w)) ro.space ro.first ro.length (parts_of w) u r
sum_parts p v w (Parts.Entries ro) u r = (no_overload p u, r)
sum_parts p v w (Parts.Present s a) u r = (no_overload p u, r)
sum_parts p v w Parts.Nothing u r = (no_overload p u, r)
