-- The limits of every rule, whatever rooms are lent; and what a run counts.
use Rattle.std.specs.Prelude.{ℕ, min}

-- bytes of a table
abbrev pub shortest_table : ℕ
shortest_table = 1

abbrev pub longest_table : ℕ
longest_table = 16384

-- records inside one another, the root counting 1
abbrev pub deepest_record : ℕ
deepest_record = 64

-- containers and present Optionals inside one another
abbrev pub deepest_value : ℕ
deepest_value = 32

-- names are the numbers below this one
abbrev pub names : ℕ
names = 128

-- bytes are the numbers below this one
abbrev pub byte_numbers : ℕ
byte_numbers = 256

abbrev pub most_steps : ℕ
most_steps = 1000000

abbrev pub most_cells : ℕ
most_cells = 4096

-- bytes of text
abbrev pub most_bytes : ℕ
most_bytes = 16384

-- steps made, cells taken, bytes of text written: as counts or as limits
pub record Counts : Type 0 where
  pub steps : ℕ
  pub cells : ℕ
  pub bytes : ℕ

abbrev pub nothing_yet : Counts
nothing_yet = record { steps = 0; cells = 0; bytes = 0 }

-- the limits that are in force where these are lent
unfoldable pub cut : Counts → Counts
cut lent = record { steps = min lent.steps most_steps; cells = min lent.cells most_cells; bytes = min lent.bytes most_bytes }
