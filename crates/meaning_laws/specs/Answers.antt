-- The answer to a table: which of four it is, and what it rests on; that the rooms hold as much as it counts; that what comes back is well formed.
-- Rests on the definition of answers and on Charges.
use Rattle.std.specs.Prelude.{ℕ, ◌≡◌, List, [], length}
use Rattle.meaning.specs.Limits.{Counts, nothing_yet, cut}
use Rattle.meaning.specs.Errors.{ErrorAt, Exhausted}
use Rattle.meaning.specs.declared.refusal.Reason.{Reason}
use Rattle.meaning.specs.Value.{Value}
use Rattle.meaning.specs.Expr.{Expr}
use Rattle.meaning.specs.Run.{Result}
use Rattle.meaning.specs.Meaning.{run}
use Rattle.meaning.specs.Limited.{Outcome, value, error, exhausted, Cell, zero_cell, holding, Rooms, rooms_built, cleared}
use Rattle.meaning.specs.Heads.{got, refused}
use Rattle.meaning.specs.Table.{read_table}
use Rattle.meaning.specs.Bindings.{BindingRoom, scope_of}
use Rattle.meaning.specs.Answer.{Answer, refusal, ran, answer_of}
use Rattle.meaning.specs.WellFormed.{AllBytes, WellFormed}
use Rattle.meaning_laws.specs.Charges.{total, Within, Stops, counts_of}
use Rattle.meaning_laws.specs.Each.{Each}

-- ---- the four answers

-- refused, a value, an error or exhaustion
pub data Ending : Type 0 where
  is_refused gives_value gives_error is_exhausted : Ending

-- what the answer to a table is in each case, with the rooms afterwards, and what it rests on
abbrev pub Answers : (table text : List ℕ) → BindingRoom → Counts → Ending → Type 0
Answers table text room lent is_refused =
    (r : Reason) × (p : ℕ) ×
    (read_table table text ≡ refused r p) ×
    (answer_of table text room lent ≡ record { answer = refusal r p; rooms = record { cells = []; bytes = [] } })
Answers table text room lent gives_value =
    (e : Expr) × (v : Value) ×
    (read_table table text ≡ got e) ×
    ((run e (scope_of room)).1 ≡ Result.value v) ×
    Within (cut lent) (run e (scope_of room)).0 ×
    (answer_of table text room lent ≡
    record { answer = ran (value v (total (run e (scope_of room)).0)); rooms = rooms_built (run e (scope_of room)).0 })
Answers table text room lent gives_error =
    (e : Expr) × (v : ErrorAt) ×
    (read_table table text ≡ got e) ×
    ((run e (scope_of room)).1 ≡ Result.error v) ×
    Within (cut lent) (run e (scope_of room)).0 ×
    (answer_of table text room lent ≡
    record { answer = ran (error v (total (run e (scope_of room)).0)); rooms = cleared (total (run e (scope_of room)).0) })
Answers table text room lent is_exhausted =
    (e : Expr) × (x : Exhausted) × (c : Counts) ×
    (read_table table text ≡ got e) ×
    Stops (cut lent) (run e (scope_of room)).0 x c ×
    (answer_of table text room lent ≡ record { answer = ran (exhausted x c); rooms = cleared c })

-- the counts of an answer; a refusal counts nothing
abbrev pub counts_in : Answer → Counts
counts_in (refusal r p) = nothing_yet
counts_in (ran o) = counts_of o

-- ---- what the rooms hold

-- as many cells and bytes as the counts say
pub record Fills (rooms : Rooms) (c : Counts) : Type 0 where
  pub cells : length rooms.cells ≡ c.cells
  pub bytes : length rooms.bytes ≡ c.bytes

-- ---- well formed

-- a value that comes back is well formed
abbrev pub FormedOutcome : Outcome → Type 0
FormedOutcome (value v c) = WellFormed v
FormedOutcome (error e c) = Unit {0}
FormedOutcome (exhausted x c) = Unit {0}

-- of a rule that ran; a refusal gives none
abbrev pub FormedAnswer : Answer → Type 0
FormedAnswer (refusal r p) = Unit {0}
FormedAnswer (ran o) = FormedOutcome o

-- zero, or holding a well-formed value
abbrev pub FormedCell : Cell → Type 0
FormedCell zero_cell = Unit {0}
FormedCell (holding v) = WellFormed v

-- each cell is zero or holds a well-formed value, and the bytes are bytes
pub record FormedRooms (rooms : Rooms) : Type 0 where
  pub cells_formed : Each FormedCell rooms.cells
  pub bytes_formed : AllBytes rooms.bytes
