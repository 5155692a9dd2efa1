-- Literals and names. A literal's text lies in the table's literal text, where the record's fields say.
use Rattle.std.specs.Prelude.{ℕ, ◌+◌, List}
use Rattle.numbers.specs.Double.{double_of}
use Rattle.meaning.specs.Value.{Scalar, null, bool, int, uint, double, string, bytes}
use Rattle.table_layout.specs.Layout.{word_at}
use Rattle.rooms.specs.declared.value.Value.{Value}
use Rattle.rooms.specs.declared.value.TextSpace.TheVariants as Text
use Rattle.rooms.specs.Value.{double_value}
use Rattle.machine.specs.declared.outcome.Used.{Used}
use Rattle.machine.specs.declared.outcome.Error.TheVariants as Error
use Rattle.machine.specs.declared.outcome.Outcome.{Outcome}
use Rattle.rooms.specs.Spans.{span}

module _ (table : List ℕ) where
  -- the literal at a place
  abbrev pub literal_value : ℕ → Scalar → Value
  literal_value p null = Value.Null
  literal_value p (bool b) = Value.Bool b
  literal_value p (int z) = Value.Int z
  literal_value p (uint n) = Value.Uint n
  literal_value p (double d) = double_value (double_of d)
  literal_value p (string s) = Value.String (span Text.Literal (word_at table (p + 3)) (word_at table (p + 5)))
  literal_value p (bytes s) = Value.Bytes (span Text.Literal (word_at table (p + 3)) (word_at table (p + 5)))

  -- the field of the select at a place
  abbrev pub field_value : ℕ → Value
  field_value p = Value.String (span Text.Literal (word_at table (p + 4)) (word_at table (p + 6)))

-- what a name's slot holds
abbrev pub name_out : ℕ → Value → Used → Outcome
name_out p Value.Null u = Outcome.Value Value.Null u
name_out p (Value.Bool b) u = Outcome.Value (Value.Bool b) u
name_out p (Value.Int z) u = Outcome.Value (Value.Int z) u
name_out p (Value.Uint n) u = Outcome.Value (Value.Uint n) u
name_out p (Value.Double x) u = Outcome.Value (Value.Double x) u
name_out p (Value.Nan b) u = Outcome.Value (Value.Nan b) u
name_out p (Value.String sp) u = Outcome.Value (Value.String sp) u
name_out p (Value.Bytes sp) u = Outcome.Value (Value.Bytes sp) u
name_out p (Value.List d ro) u = Outcome.Value (Value.List d ro) u
name_out p (Value.Map d ro) u = Outcome.Value (Value.Map d ro) u
name_out p Value.OptionalNone u = Outcome.Value Value.OptionalNone u
name_out p (Value.OptionalOf d s a) u = Outcome.Value (Value.OptionalOf d s a) u
name_out p Value.Absent u = Outcome.Error Error.UndeclaredReference p u
