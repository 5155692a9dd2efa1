-- The size of a value, and where an index falls in a list, where there is one.
use Rattle.std.specs.Prelude.{ℕ, Option, None, Some, cond, ltb, ℤ, pos, negsuc}
use Rattle.text.specs.Utf8.{code_points}
use Rattle.meaning.specs.Errors.{NoOverload}
use Rattle.meaning.specs.Run.{Rule, fail}
use Rattle.meaning.specs.Value as Meaning
use Rattle.meaning.specs.Calls.{counted}
use Rattle.rooms.specs.declared.value.Value.{Value}
use Rattle.rooms_text.specs.declared.sizes.Position.{Position}
use Rattle.rooms.specs.Rooms.{Rooms, span_in}

-- ---- size

abbrev pub size_of : Rooms → Value → Option ℕ
size_of r Value.Null = None
size_of r (Value.Bool x) = None
size_of r (Value.Int z) = None
size_of r (Value.Uint n) = None
size_of r (Value.Double x) = None
size_of r (Value.Nan x) = None
size_of r (Value.String sp) = Some (code_points (span_in r sp.space sp.first sp.length))
size_of r (Value.Bytes sp) = Some sp.length
size_of r (Value.List d ro) = Some ro.length
size_of r (Value.Map d ro) = Some ro.length
size_of r Value.OptionalNone = None
size_of r (Value.OptionalOf d s a) = None
size_of r Value.Absent = None

-- what the function `size` makes of it
abbrev pub sized_rule : Option ℕ → Rule Meaning.Value
sized_rule (Some n) = counted n
sized_rule None = fail NoOverload

-- ---- index

abbrev pub inside : ℕ → ℕ → Position
inside i n = cond (ltb i n) (Position.At i) Position.Outside

abbrev pub inside_int : ℤ → ℕ → Position
inside_int (pos i) n = inside i n
inside_int (negsuc i) n = Position.Outside

abbrev pub position_of : Value → ℕ → Position
position_of Value.Null n = Position.Unsuited
position_of (Value.Bool x) n = Position.Unsuited
position_of (Value.Int z) n = inside_int z n
position_of (Value.Uint i) n = inside i n
position_of (Value.Double x) n = Position.Unsuited
position_of (Value.Nan x) n = Position.Unsuited
position_of (Value.String sp) n = Position.Unsuited
position_of (Value.Bytes sp) n = Position.Unsuited
position_of (Value.List d ro) n = Position.Unsuited
position_of (Value.Map d ro) n = Position.Unsuited
position_of Value.OptionalNone n = Position.Unsuited
position_of (Value.OptionalOf d s a) n = Position.Unsuited
position_of Value.Absent n = Position.Unsuited
