-- Worked examples as rows: an answer as a reader would say it, a row with the answer that must come, and that rows hold.
use Rattle.std.specs.Prelude.{ℕ, ◌≡◌, List, [], map, replicate}
use Rattle.meaning.specs.Limits.{Counts}
use Rattle.meaning.specs.Errors.{Exhausted, error_number, refusal_number}
use Rattle.meaning.specs.Value.{Value}
use Rattle.meaning.specs.Limited.{Outcome, value, error, exhausted, Rooms, zero_cell, holding}
use Rattle.meaning.specs.Bindings.{BindingRoom}
use Rattle.meaning.specs.Answer.{Answer, refusal, ran, Answered, answer_of}

-- ---- answers

-- a value with its counts, the cells' values and the text; an error's number and place; what ran out; a refusal's number and place
pub data Shown : Type 0 where
  gives : Value → Counts → List Value → List ℕ → Shown
  fails : ℕ → ℕ → Counts → Shown
  exhausts : Exhausted → Counts → Shown
  refuses : ℕ → ℕ → Shown

-- with what the rooms hold
pub record Seen : Type 0 where
  pub shown : Shown
  pub rooms : Rooms

-- zeros below the counts; this is not the definition's `cleared`, since the rows are there to test that
abbrev pub zeros : Counts → Rooms
zeros c = record { cells = replicate c.cells zero_cell; bytes = replicate c.bytes 0 }

-- the whole answer that this says, rooms included: zeros below the counts where it is no value, and nothing after a refusal
abbrev pub expected : Shown → Seen
expected (gives v c cells text) = record { shown = gives v c cells text; rooms = record { cells = map holding cells; bytes = text } }
expected (fails n p c) = record { shown = fails n p c; rooms = zeros c }
expected (exhausts x c) = record { shown = exhausts x c; rooms = zeros c }
expected (refuses n p) = record { shown = refuses n p; rooms = record { cells = []; bytes = [] } }

-- what an answer shows; a value's cells and text are given, since the rooms are compared separately
abbrev pub outcome_shown : List Value → List ℕ → Outcome → Shown
outcome_shown cells text (value v c) = gives v c cells text
outcome_shown cells text (error e c) = fails (error_number e.error) e.place c
outcome_shown cells text (exhausted x c) = exhausts x c

-- a refusal by its number
abbrev pub answer_shown : List Value → List ℕ → Answer → Shown
answer_shown cells text (refusal r p) = refuses (refusal_number r) p
answer_shown cells text (ran o) = outcome_shown cells text o

-- the values that cells are expected to hold, and the text
abbrev pub cells_expected : Shown → List Value
cells_expected (gives v c cells text) = cells
cells_expected (fails n p c) = []
cells_expected (exhausts x c) = []
cells_expected (refuses n p) = []

abbrev pub text_in : Shown → List ℕ
text_in (gives v c cells text) = text
text_in (fails n p c) = []
text_in (exhausts x c) = []
text_in (refuses n p) = []

-- what the whole answer shows, where this is expected
abbrev pub seen : Shown → Answered → Seen
seen s a = record { shown = answer_shown (cells_expected s) (text_in s) a.answer; rooms = a.rooms }

-- ---- rows

-- a table, its text, what is bound, what is lent, and the answer that must come
pub record Row : Type 0 where
  pub table : List ℕ
  pub text : List ℕ
  pub bound : List (ℕ × Value)
  pub lent : Counts
  pub answer : Shown

-- a room with these bindings
abbrev pub room_of : List (ℕ × Value) → BindingRoom
room_of bound = record { bound = bound; used_cells = 0; used_bytes = 0 }

-- what the definition answers to a row
abbrev pub answered : Row → Seen
answered r = seen r.answer (answer_of r.table r.text (room_of r.bound) r.lent)

-- every row's answer is the one that must come
abbrev pub Hold : List Row → Type 0
Hold rows = map answered rows ≡ map (λ r. expected r.answer) rows
