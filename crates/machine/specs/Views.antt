-- What is seen of a value of the code: a Bool, a String, an Optional. One view for each question.
use Rattle.std.specs.Prelude.{ℕ, Bool, true, false, Option, None, Some}
use Rattle.rooms.specs.declared.value.Value.{Value}
use Rattle.rooms.specs.declared.value.CellSpace.{CellSpace}
use Rattle.rooms.specs.declared.value.Plain.{Plain}
use Rattle.rooms.specs.declared.value.Parts.{Parts}
use Rattle.rooms.specs.Value.{plain_of, parts_of}
use Rattle.rooms.specs.Rooms.{Rooms, cell_at}

-- ---- a Bool

abbrev pub plain_bool : Plain → Option Bool
plain_bool Plain.Null = None
plain_bool (Plain.Bool b) = Some b
plain_bool (Plain.Number n) = None
plain_bool (Plain.String sp) = None
plain_bool (Plain.Bytes sp) = None
plain_bool Plain.OptionalNone = None
plain_bool Plain.Other = None

abbrev pub bool_in : Value → Option Bool
bool_in v = plain_bool (plain_of v)

-- ---- a String

abbrev pub plain_string : Plain → Bool
plain_string Plain.Null = false
plain_string (Plain.Bool b) = false
plain_string (Plain.Number n) = false
plain_string (Plain.String sp) = true
plain_string (Plain.Bytes sp) = false
plain_string Plain.OptionalNone = false
plain_string Plain.Other = false

abbrev pub is_string : Value → Bool
is_string v = plain_string (plain_of v)

-- ---- an Optional

pub data Optional : Type 0 where
  not_optional : Optional
  none_present : Optional
  -- where its part lies
  present : CellSpace → ℕ → Optional

abbrev pub plain_none : Plain → Optional
plain_none Plain.Null = not_optional
plain_none (Plain.Bool b) = not_optional
plain_none (Plain.Number n) = not_optional
plain_none (Plain.String sp) = not_optional
plain_none (Plain.Bytes sp) = not_optional
plain_none Plain.OptionalNone = none_present
plain_none Plain.Other = not_optional

abbrev pub optional_parts : Value → Parts → Optional
optional_parts v (Parts.Elements ro) = not_optional
optional_parts v (Parts.Entries ro) = not_optional
optional_parts v (Parts.Present s a) = present s a
optional_parts v Parts.Nothing = plain_none (plain_of v)

abbrev pub optional_in : Value → Optional
optional_in v = optional_parts v (parts_of v)

-- ---- marks

abbrev pub unmarked_in : Rooms → Value → Optional → Option Value
unmarked_in r v not_optional = Some v
unmarked_in r v none_present = None
unmarked_in r v (present s a) = Some (cell_at r s a)

-- what an element or an entry's value adds; without a mark, itself
abbrev pub part_in : Rooms → (marked : Bool) → Value → Option Value
part_in r true v = unmarked_in r v (optional_in v)
part_in r false v = Some v
