-- The number that is read off a value.
use Rattle.std.specs.Prelude.{Option, None, Some}
use Rattle.numbers.specs.declared.order.Number.{Number}
use Rattle.numbers.specs.Double.{bits_of}
use Rattle.rooms.specs.declared.value.Plain.{Plain}
use Rattle.answer_values.specs.declared.numeric.Numeric.{Numeric}

abbrev pub numeric_of : Number → Numeric
numeric_of (Number.Int z) = Numeric.Int z
numeric_of (Number.Uint n) = Numeric.Uint n
numeric_of (Number.Double x) = Numeric.Bits (bits_of x)

abbrev pub number_in : Plain → Option Numeric
number_in Plain.Null = None
number_in (Plain.Bool b) = None
number_in (Plain.Number x) = Some (numeric_of x)
number_in (Plain.String sp) = None
number_in (Plain.Bytes sp) = None
number_in Plain.OptionalNone = None
number_in Plain.Other = None
