-- What is seen of a value of the code without looking into a room.
use Rattle.std.specs.Prelude.{ℕ, Bool, true, false}
use Rattle.numbers.specs.declared.double.Double as Numbers
use Rattle.numbers.specs.declared.double.Double.TheVariants as Bits
use Rattle.rooms.specs.declared.value.Value.{Value}
use Rattle.numbers.specs.declared.order.Number.TheVariants as Number
use Rattle.rooms.specs.declared.value.Plain.{Plain}
use Rattle.rooms.specs.declared.value.Parts.{Parts}

abbrev pub nesting_of : Value → ℕ
nesting_of Value.Null = 0
nesting_of (Value.Bool b) = 0
nesting_of (Value.Int z) = 0
nesting_of (Value.Uint n) = 0
nesting_of (Value.Double x) = 0
nesting_of (Value.Nan b) = 0
nesting_of (Value.String sp) = 0
nesting_of (Value.Bytes sp) = 0
nesting_of (Value.List d ro) = d
nesting_of (Value.Map d ro) = d
nesting_of Value.OptionalNone = 0
nesting_of (Value.OptionalOf d s a) = d
nesting_of Value.Absent = 0

abbrev pub parts_of : Value → Parts
parts_of Value.Null = Parts.Nothing
parts_of (Value.Bool b) = Parts.Nothing
parts_of (Value.Int z) = Parts.Nothing
parts_of (Value.Uint n) = Parts.Nothing
parts_of (Value.Double x) = Parts.Nothing
parts_of (Value.Nan b) = Parts.Nothing
parts_of (Value.String sp) = Parts.Nothing
parts_of (Value.Bytes sp) = Parts.Nothing
parts_of (Value.List d ro) = Parts.Elements ro
parts_of (Value.Map d ro) = Parts.Entries ro
parts_of Value.OptionalNone = Parts.Nothing
parts_of (Value.OptionalOf d s a) = Parts.Present s a
parts_of Value.Absent = Parts.Nothing

-- a Double of the crate numbers as a value
abbrev pub double_value : Numbers.Double → Value
double_value (Bits.Plain x) = Value.Double x
double_value (Bits.Nan b) = Value.Nan b

abbrev pub plain_of : Value → Plain
plain_of Value.Null = Plain.Null
plain_of (Value.Bool b) = Plain.Bool b
plain_of (Value.Int z) = Plain.Number (Number.Int z)
plain_of (Value.Uint n) = Plain.Number (Number.Uint n)
plain_of (Value.Double x) = Plain.Number (Number.Double (Bits.Plain x))
plain_of (Value.Nan b) = Plain.Number (Number.Double (Bits.Nan b))
plain_of (Value.String sp) = Plain.String sp
plain_of (Value.Bytes sp) = Plain.Bytes sp
plain_of (Value.List d ro) = Plain.Other
plain_of (Value.Map d ro) = Plain.Other
plain_of Value.OptionalNone = Plain.OptionalNone
plain_of (Value.OptionalOf d s a) = Plain.Other
plain_of Value.Absent = Plain.Other

-- what may stand as a key, or be looked up in a map
abbrev pub is_key : Value → Bool
is_key Value.Null = false
is_key (Value.Bool b) = true
is_key (Value.Int z) = true
is_key (Value.Uint n) = true
is_key (Value.Double x) = false
is_key (Value.Nan b) = false
is_key (Value.String sp) = true
is_key (Value.Bytes sp) = false
is_key (Value.List d ro) = false
is_key (Value.Map d ro) = false
is_key Value.OptionalNone = false
is_key (Value.OptionalOf d s a) = false
is_key Value.Absent = false
