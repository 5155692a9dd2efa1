-- A run under limits: its charges are made in order, and the first that would pass its limit is not made and ends the run.
use Rattle.std.specs.Prelude.{ℕ, suc, ◌+◌, List, [], ◌∷◌, ◌++◌, map, Bool, cond, length, replicate, leb}
use Rattle.meaning.specs.Limits.{Counts, deepest_value, nothing_yet}
use Rattle.meaning.specs.Errors.{ErrorAt, Exhausted, Steps, Cells, Text, Nesting}
use Rattle.meaning.specs.Value.{Value, Values, nil, count, join, value_list}
use Rattle.meaning.specs.Run.{Charge, step, cells, text, nest, Trace, Result, Eval}

-- ---- one charge

unfoldable pub charge : Counts → Charge → Counts
charge c step = record { steps = suc c.steps; cells = c.cells; bytes = c.bytes }
charge c (cells vs) = record { steps = c.steps; cells = c.cells + count vs; bytes = c.bytes }
charge c (text s) = record { steps = c.steps; cells = c.cells; bytes = c.bytes + length s }
charge c (nest d) = c

-- the counts after a charge are within its limit
unfoldable pub fits : Counts → Counts → Charge → Bool
fits limits after step = leb after.steps limits.steps
fits limits after (cells vs) = leb after.cells limits.cells
fits limits after (text s) = leb after.bytes limits.bytes
fits limits after (nest d) = leb d deepest_value

-- the limit that a charge is counted against
unfoldable pub limit_of : Charge → Exhausted
limit_of step = Steps
limit_of (cells vs) = Cells
limit_of (text s) = Text
limit_of (nest d) = Nesting

-- ---- all of them

-- how far the charges went
pub data Spent : Type 0 where
  through : Counts → Spent
  stopped : Exhausted → Counts → Spent

unfoldable pub onward : (Counts → Spent) → Spent → Spent
onward rest (through c) = rest c
onward rest (stopped x c) = stopped x c

unfoldable pub make : Counts → Counts → Charge → Spent
make limits c x = cond (fits limits (charge c x) x) (through (charge c x)) (stopped (limit_of x) c)

unfoldable pub spend : Counts → Trace → Counts → Spent
spend limits [] c = through c
spend limits (x ∷ t) c = onward (λ d. spend limits t d) (make limits c x)

-- the outcome of a run, with the charges made
pub data Outcome : Type 0 where
  value : Value → Counts → Outcome
  error : ErrorAt → Counts → Outcome
  exhausted : Exhausted → Counts → Outcome

unfoldable pub ended : Result ErrorAt Value → Counts → Outcome
ended (Result.value v) c = value v c
ended (Result.error e) c = error e c

unfoldable pub outcome : Result ErrorAt Value → Spent → Outcome
outcome r (through c) = ended r c
outcome r (stopped x c) = exhausted x c

unfoldable pub limited : Counts → Eval Value → Outcome
limited limits r = outcome r.1 (spend limits r.0 nothing_yet)

-- ---- what the rooms hold

-- a cell of a room, zero or with a value in it
pub data Cell : Type 0 where
  zero_cell : Cell
  holding : Value → Cell

-- what stands below the counts; above them the rooms are unchanged
pub record Rooms : Type 0 where
  pub cells : List Cell
  pub bytes : List ℕ

-- in the order of building
unfoldable pub cells_built : Trace → Values
cells_built [] = nil
cells_built (step ∷ t) = cells_built t
cells_built (cells vs ∷ t) = join vs (cells_built t)
cells_built (text s ∷ t) = cells_built t
cells_built (nest d ∷ t) = cells_built t

unfoldable pub text_built : Trace → List ℕ
text_built [] = []
text_built (step ∷ t) = text_built t
text_built (cells vs ∷ t) = text_built t
text_built (text s ∷ t) = s ++ text_built t
text_built (nest d ∷ t) = text_built t

unfoldable pub rooms_built : Trace → Rooms
rooms_built t = record { cells = map holding (value_list (cells_built t)); bytes = text_built t }

unfoldable pub cleared : Counts → Rooms
cleared c = record { cells = replicate c.cells zero_cell; bytes = replicate c.bytes 0 }

-- afterwards, from the charges of the run and its outcome
unfoldable pub rooms_after : Trace → Outcome → Rooms
rooms_after t (value v c) = rooms_built t
rooms_after t (error e c) = cleared c
rooms_after t (exhausted x c) = cleared c
