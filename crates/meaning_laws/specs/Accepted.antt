-- The binding rooms that calls make: an empty one, and any of these after a binding is brought in. What is true of their values and of the
-- rooms.
use Rattle.std.specs.Prelude.{ℕ, ◌+◌, ◌≤◌, ◌<◌, min, ◌≡◌, List, [], ◌∷◌, Some}
use Rattle.meaning.specs.Limits.{names, most_cells, most_bytes}
use Rattle.meaning.specs.Value.{Value}
use Rattle.meaning.specs.Comprehension.{Scope}
use Rattle.meaning.specs.Heads.{got}
use Rattle.meaning.specs.Bindings.{cells_of, bytes_of, BindingRoom, empty_room, bring}
use Rattle.meaning.specs.WellFormed.{AllBytes, WellFormed}
use Rattle.meaning_laws.specs.Each.{Each}

-- with lent_cells cells and lent_bytes bytes lent; tables and texts are bytes
pub data Accepted (lent_cells lent_bytes : ℕ) : BindingRoom → Type 0 where
  fresh : Accepted lent_cells lent_bytes empty_room
  brought : {room next : BindingRoom} (number : ℕ) (table text : List ℕ) → Accepted lent_cells lent_bytes room → AllBytes table → AllBytes text
      → bring lent_cells lent_bytes room number table text ≡ got next → Accepted lent_cells lent_bytes next

-- well formed, and no larger than a binding room
pub record BoundValue (v : Value) : Type 0 where
  pub formed : WellFormed v
  pub cells_fit : cells_of v ≤ most_cells
  pub bytes_fit : bytes_of v ≤ most_bytes

abbrev pub BoundScope : Scope → Type 0
BoundScope s = (n : ℕ) (v : Value) → s n ≡ Some v → BoundValue v

-- what all the values of a room take together
abbrev pub cells_taken : List (ℕ × Value) → ℕ
cells_taken [] = 0
cells_taken (b ∷ bs) = cells_taken bs + cells_of b.1

abbrev pub bytes_taken : List (ℕ × Value) → ℕ
bytes_taken [] = 0
bytes_taken (b ∷ bs) = bytes_taken bs + bytes_of b.1

-- names below 128, under each a well-formed value; the counts are what the values take, and are at most what was lent and the limits
pub record FormedRoom (lent_cells lent_bytes : ℕ) (room : BindingRoom) : Type 0 where
  pub bindings : Each (λ b. (b.0 < names) × WellFormed b.1) room.bound
  pub cells_sum : room.used_cells ≡ cells_taken room.bound
  pub bytes_sum : room.used_bytes ≡ bytes_taken room.bound
  pub cells_fit : room.used_cells ≤ min lent_cells most_cells
  pub bytes_fit : room.used_bytes ≤ min lent_bytes most_bytes
