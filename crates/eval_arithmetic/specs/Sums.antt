-- `+` of what is no number, by what the left operand is.
use Rattle.std.specs.Prelude.{ℕ}
use Rattle.rooms.specs.declared.value.Value.{Value}
use Rattle.rooms.specs.declared.value.Plain.{Plain}
use Rattle.rooms.specs.Value.{plain_of, parts_of}
use Rattle.rooms.specs.Rooms.{Rooms}
use Rattle.machine.specs.declared.outcome.Used.{Used}
use Rattle.machine.specs.Outcomes.{Res, no_overload}
use Rattle.machine.specs.Numbers.{string_sum, bytes_sum}
use Rattle.eval_arithmetic.specs.ListSums.{sum_parts}

abbrev pub sum_plain : ℕ → Value → Value → Plain → Used → Rooms → Res
sum_plain p v w Plain.Null u r = (no_overload p u, r)
sum_plain p v w (Plain.Bool b) u r = (no_overload p u, r)
sum_plain p v w (Plain.Number a) u r = (no_overload p u, r)
sum_plain p v w (Plain.String sp) u r = string_sum p sp.space sp.first sp.length (plain_of w) u r
sum_plain p v w (Plain.Bytes sp) u r = bytes_sum p sp.space sp.first sp.length (plain_of w) u r
sum_plain p v w Plain.OptionalNone u r = (no_overload p u, r)
sum_plain p v w Plain.Other u r = sum_parts p v w (parts_of v) u r

abbrev pub sum_of : ℕ → Value → Value → Used → Rooms → Res
sum_of p v w u r = sum_plain p v w (plain_of v) u r
