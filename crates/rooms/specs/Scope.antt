-- A scope of the code: 128 slots, each with a value or absent. Its slots read and stored, and what a scope stands for.
use Rattle.std.specs.Prelude.{ℕ, ◌≡◌, length, get_or, set, replicate, Option, None, Some}
use Rattle.meaning.specs.Limits.{names}
use Rattle.meaning.specs.Value as Meaning
use Rattle.meaning.specs.Comprehension as Scopes
use Rattle.rooms.specs.declared.value.Value.{Value}
use Rattle.rooms.specs.declared.scope.Slot.{Slot}
use Rattle.rooms.specs.declared.scope.Scope.{Scope}
use Rattle.rooms.specs.Rooms.{Rooms}
use Rattle.rooms.specs.Stands.{Alive, Holds}

abbrev pub absent : Slot
absent = record { value = Value.Absent }

abbrev pub empty_slots : Scope
empty_slots = record { slots = replicate names absent }

abbrev pub slot_of : Scope → ℕ → Value
slot_of s n = (get_or s.slots n absent).value

abbrev pub stored : Scope → ℕ → Value → Scope
stored s n v = record { slots = set s.slots n (record { value = v }) }

-- ---- what a scope stands for

abbrev pub StandsSlot : Option Meaning.Value → Alive → Rooms → Value → Type 0
StandsSlot None L r m = m ≡ Value.Absent
StandsSlot (Some v) L r m = Holds v L r m

-- each name has in m what it has in s
pub record StandsScope (s : Scopes.Scope) (L : Alive) (r : Rooms) (m : Scope) : Type 0 where
  pub long : length m.slots ≡ names
  pub each : (n : ℕ) → StandsSlot (s n) L r (slot_of m n)
