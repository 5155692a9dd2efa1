-- Charges added up and compared with limits, without making them one after the other: what "a run fits" and "a run is stopped" mean.
-- Rests on what a charge is, and which limit it is counted against (`limit_of`).
use Rattle.std.specs.Prelude.{ℕ, suc, ◌+◌, ◌≤◌, ◌<◌, ◌≡◌, [], ◌∷◌, ◌++◌, length}
use Rattle.meaning.specs.Limits.{Counts, deepest_value}
use Rattle.meaning.specs.Errors.{Exhausted}
use Rattle.meaning.specs.Value.{count}
use Rattle.meaning.specs.Run.{Charge, step, cells, text, nest, Trace}
use Rattle.meaning.specs.Limited.{limit_of, Outcome, value, error, exhausted}

-- ---- the charges of a trace, added up

unfoldable pub steps_in : Trace → ℕ
steps_in [] = 0
steps_in (step ∷ t) = suc (steps_in t)
steps_in (cells vs ∷ t) = steps_in t
steps_in (text s ∷ t) = steps_in t
steps_in (nest d ∷ t) = steps_in t

unfoldable pub cells_in : Trace → ℕ
cells_in [] = 0
cells_in (step ∷ t) = cells_in t
cells_in (cells vs ∷ t) = count vs + cells_in t
cells_in (text s ∷ t) = cells_in t
cells_in (nest d ∷ t) = cells_in t

unfoldable pub bytes_in : Trace → ℕ
bytes_in [] = 0
bytes_in (step ∷ t) = bytes_in t
bytes_in (cells vs ∷ t) = bytes_in t
bytes_in (text s ∷ t) = length s + bytes_in t
bytes_in (nest d ∷ t) = bytes_in t

abbrev pub total : Trace → Counts
total t = record { steps = steps_in t; cells = cells_in t; bytes = bytes_in t }

-- ---- what fits

pub record AtMost (c limits : Counts) : Type 0 where
  pub steps : c.steps ≤ limits.steps
  pub cells : c.cells ≤ limits.cells
  pub bytes : c.bytes ≤ limits.bytes

-- no new value nests above the limit
abbrev pub Shallow : Trace → Type 0
Shallow [] = Unit {0}
Shallow (step ∷ t) = Shallow t
Shallow (cells vs ∷ t) = Shallow t
Shallow (text s ∷ t) = Shallow t
Shallow (nest d ∷ t) = (d ≤ deepest_value) × Shallow t

-- all charges of a trace fit
pub record Within (limits : Counts) (t : Trace) : Type 0 where
  pub counts : AtMost (total t) limits
  pub nests : Shallow t

-- after the counts c there is room for one charge more
abbrev pub Room : Counts → Counts → Charge → Type 0
Room limits c step = c.steps + 1 ≤ limits.steps
Room limits c (cells vs) = c.cells + count vs ≤ limits.cells
Room limits c (text s) = c.bytes + length s ≤ limits.bytes
Room limits c (nest d) = d ≤ deepest_value

-- ---- what does not

-- .. or none: it would pass its limit
abbrev pub Passes : Counts → Counts → Charge → Type 0
Passes limits c step = limits.steps < c.steps + 1
Passes limits c (cells vs) = limits.cells < c.cells + count vs
Passes limits c (text s) = limits.bytes < c.bytes + length s
Passes limits c (nest d) = deepest_value < d

-- the charges `made` all fit and add up to c; the next one would pass its limit x
pub record Stops (limits : Counts) (t : Trace) (x : Exhausted) (c : Counts) : Type 0 where
  pub made : Trace
  pub next : Charge
  pub rest : Trace
  pub whole : t ≡ made ++ next ∷ rest
  pub within : Within limits made
  pub counted : total made ≡ c
  pub passes : Passes limits c next
  pub limit : limit_of next ≡ x

-- ---- the counts of an answer

abbrev pub counts_of : Outcome → Counts
counts_of (value v c) = c
counts_of (error e c) = c
counts_of (exhausted x c) = c
