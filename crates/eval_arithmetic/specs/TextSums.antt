-- Two texts one after the other.
use Rattle.std.specs.Prelude.{◌+◌, ℕ, Option, None, Some}
use Rattle.rooms.specs.declared.value.Value.{Value}
use Rattle.rooms.specs.declared.value.Span.{Span}
use Rattle.rooms.specs.declared.value.TextSpace.TheVariants as Text
use Rattle.rooms.specs.Rooms.{Rooms, with_text}
use Rattle.rooms.specs.Spans.{span}
use Rattle.rooms_taking.specs.Taking.{text_room, taken_of}
use Rattle.machine.specs.declared.outcome.Used.{Used}
use Rattle.machine.specs.declared.outcome.Limit.TheVariants as Limit
use Rattle.machine.specs.declared.outcome.Outcome.{Outcome}
use Rattle.machine.specs.Outcomes.{with_bytes}
use Rattle.machine.specs.Numbers.{both_texts}
use Rattle.eval_arithmetic.specs.declared.text_sum.Joined.{Joined}

abbrev pub joined_to : Option ℕ → Span → Span → Used → Rooms → Option Joined × Rooms
joined_to (Some end) a b u r = (
  Some (record { span = span Text.Evaluation u.bytes (a.length + b.length); used = with_bytes u end }),
  with_text r (both_texts r u.bytes a.space a.first a.length b.space b.first b.length),
)
joined_to None a b u r = (None, r)

-- the bytes of a span, then those of another
abbrev pub joined_of : Span → Span → Used → Rooms → Option Joined × Rooms
joined_of a b u r = joined_to (taken_of (text_room r.text) u.bytes (a.length + b.length)) a b u r

-- what they are as a value
abbrev pub joined_out : Option Joined → (ℕ → ℕ → Value) → Used → Outcome
joined_out (Some g) make u = Outcome.Value (make g.span.first g.span.length) g.used
joined_out None make u = Outcome.Exhausted Limit.Text u
