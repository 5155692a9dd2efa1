-- What is read off a value of the code: its kind, and a Bool.
use Rattle.std.specs.Prelude.{ℕ, Bool, Option, None, Some}
use Rattle.rooms.specs.declared.value.Value.{Value}
use Rattle.rooms.specs.declared.value.Plain.{Plain}

-- the numbers that the kinds have in a cell
abbrev pub kind_of : Value → ℕ
kind_of Value.Null = 0
kind_of (Value.Bool b) = 1
kind_of (Value.Int z) = 2
kind_of (Value.Uint n) = 3
kind_of (Value.Double x) = 4
kind_of (Value.Nan b) = 4
kind_of (Value.String sp) = 5
kind_of (Value.Bytes sp) = 6
kind_of (Value.List d ro) = 12
kind_of (Value.Map d ro) = 13
kind_of Value.OptionalNone = 14
kind_of (Value.OptionalOf d s a) = 15
kind_of Value.Absent = 16

abbrev pub truth_in : Plain → Option Bool
truth_in Plain.Null = None
truth_in (Plain.Bool b) = Some b
truth_in (Plain.Number x) = None
truth_in (Plain.String sp) = None
truth_in (Plain.Bytes sp) = None
truth_in Plain.OptionalNone = None
truth_in Plain.Other = None
