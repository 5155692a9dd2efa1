-- What a call of the interface in C comes to, said of the room of the definition that a state, its cells and its text stand for.
-- In order: standing for a room; a binding brought in; one that is refused; every call that brings in; an evaluation;
-- the states that calls make, each with the definition's room.
use Rattle.std.specs.Prelude.{ℕ, ◌*◌, ◌/◌, ◌≤◌, ◌<◌, ◌≡◌, List, length, Some}
use Rattle.meaning.specs.Errors.{error_number, refusal_number}
use Rattle.meaning.specs.declared.refusal.Reason.TheVariants.{UnsoundBinding}
use Rattle.meaning.specs.Limited as Limited
use Rattle.meaning.specs.Heads.{Got, got, refused}
use Rattle.meaning.specs.Bindings as Meaning
use Rattle.meaning.specs.Bindings.{empty_room, bring}
use Rattle.meaning.specs.Answer as Answers
use Rattle.meaning.specs.Answer.{Answer, ran, Answered}
use Rattle.meaning.specs.WellFormed.{AllBytes}
use Rattle.rooms.specs.declared.value.Value.{Value}
use Rattle.rooms.specs.Cells.{head_of, payload_of, cell_of}
use Rattle.rooms.specs.Rooms.{Rooms}
use Rattle.rooms.specs.Reading.{reading}
use Rattle.std.specs.Prelude.{Err}
use Rattle.bindings_sound.specs.Sound.{sound_of}
use Rattle.bindings_laws.specs.Brings.{StandsFor, Kept}
use Rattle.machine.specs.Refines.{used_of}
use Rattle.answer.specs.Numbers.{limit_number}
use Rattle.answer.specs.declared.Answer.{Answer as Said}
use Rattle.answer.specs.Meant.{Says}
use Rattle.board_words.specs.Overlay.{over, no_room}
use Rattle.board_state.specs.State.{state_words, bindings_in}
use Rattle.board_state.specs.Bringing.{BindingRoom, binding_room}
use Rattle.board_words.specs.Answers.{answer_words, report, which_done, which_value, which_error, which_exhausted, which_refused, done, refusal}
use Rattle.board_calls.specs.Intake.{empties, brings}
use Rattle.board_laws.specs.InOrder.{Words}

-- the bindings that the state's words stand for, over its cells and text, are sound, and each name has what it has in a room of the definition
abbrev pub Stands : BindingRoom → Meaning.BindingRoom → Type 0
Stands r room = StandsFor r.cells r.text (bindings_in r.state) room

-- what a call returns, the words of its answer afterwards, and the state with its cells and text
pub record Left : Type 0 where
  pub returned : ℕ
  pub answer : List ℕ
  pub room : BindingRoom

-- of what the contract's equation says
abbrev pub left_by : (ℕ × List ℕ) × BindingRoom → Left
left_by x = record { returned = x.0.0; answer = x.0.1; room = x.1 }

-- 0 is returned and written; the definition's new room is what is there, and nothing is written but what it takes
pub record BroughtIn (before : BindingRoom) (room more : Meaning.BindingRoom) (answer : List ℕ) (left : Left) : Type 0 where
  pub returns : left.returned ≡ which_done
  pub answers : left.answer ≡ over done answer
  pub stands : Stands left.room more
  pub cells : Kept (2 * room.used_cells) (2 * more.used_cells) before.cells left.room.cells
  pub text : Kept room.used_bytes more.used_bytes before.text left.room.text

-- 4 is returned, number and place are written, and nothing else has changed
pub record RefusedAt (number place : ℕ) (before : BindingRoom) (answer : List ℕ) (left : Left) : Type 0 where
  pub returns : left.returned ≡ which_refused
  pub answers : left.answer ≡ over (refusal number place) answer
  pub unchanged : left.room ≡ before

-- by what the definition says
abbrev pub AsMeant : Got Meaning.BindingRoom → (before : BindingRoom) → Meaning.BindingRoom → (answer : List ℕ) → Left → Type 0
AsMeant (got more) before room answer left = BroughtIn before room more answer left
AsMeant (refused why place) before room answer left = RefusedAt (refusal_number why) place before answer left

pub record BringsIn (before : BindingRoom) (name : ℕ) (table literal answer : List ℕ) (left : Left) : Type 0 where
  -- without room for an answer nothing is done
  pub short : length answer < answer_words → left ≡ record { returned = no_room; answer = answer; room = before }
  -- a room that is not sound is refused before anything else
  pub unsound : answer_words ≤ length answer → (place : ℕ) → sound_of before.cells before.text (bindings_in before.state) ≡ Err place
      → RefusedAt (refusal_number UnsoundBinding) place before answer left
  -- in every other the definition decides
  pub sound : answer_words ≤ length answer → (room : Meaning.BindingRoom) → Stands before room
      → AsMeant (bring (length before.cells / 2) (length before.text) room name table literal) before room answer left

-- ---- evaluating

-- what slices tell: bytes, and words of 64 bits
pub record LentTo (table state : List ℕ) (lent : Rooms) : Type 0 where
  pub table_bytes : AllBytes table
  pub literal_bytes : AllBytes lent.literal
  pub state_words : Words state
  pub binding_words : Words lent.binding_cells
  pub binding_bytes : AllBytes lent.binding_text
  pub cell_words : Words lent.cells

-- the words of an evaluation's answer, by what the definition answers; those of a value read, in the rooms that are left, as the definition's
abbrev pub AnswersAs : Answer → (answer : List ℕ) → (returned : ℕ) → (answer_left : List ℕ) → (left : Rooms) → Type 0
AnswersAs (Answers.refusal why place) answer returned answer_left left =
    (returned ≡ which_refused) × (answer_left ≡ over (refusal (refusal_number why) place) answer)
AnswersAs (ran (Limited.value v c)) answer returned answer_left left =
    (m : Value) × (returned ≡ which_value) × (answer_left ≡ over (report which_value 0 0 (used_of c) m) answer) × (reading left (cell_of (head_of m) (payload_of m)) ≡ Some v)
AnswersAs (ran (Limited.error e c)) answer returned answer_left left =
    (returned ≡ which_error) × (answer_left ≡ over (report which_error (error_number e.error) e.place (used_of c) Value.Absent) answer)
AnswersAs (ran (Limited.exhausted x c)) answer returned answer_left left =
    (returned ≡ which_exhausted) × (answer_left ≡ over (report which_exhausted (limit_number x) 0 (used_of c) Value.Absent) answer)

-- what is returned and the answer's words are the definition's answer, and the rooms hold what it says
pub record EvaluatesAs (m : Answered) (lent : Rooms) (said : Said) (answer : List ℕ) (returned : ℕ) (answer_left : List ℕ) (left : Rooms) : Type 0 where
  pub answers : AnswersAs m.answer answer returned answer_left left
  pub says : Says m lent said left

-- ---- states that calls make

-- emptied, and then a binding after the other brought in, with 0 returned; and the room that the definition makes by the same bindings
pub data Made : BindingRoom → Meaning.BindingRoom → Type 0 where
  emptied : (state cells text : List ℕ) → length state ≡ state_words → Made (binding_room (empties state).1 cells text) empty_room
  brought : (before : BindingRoom) (room more : Meaning.BindingRoom) (name : ℕ) (table literal answer : List ℕ) → Made before room
      → Words before.state → AllBytes table → AllBytes literal → (brings before name table literal answer).0.0 ≡ which_done
      → bring (length before.cells / 2) (length before.text) room name table literal ≡ got more → Made (brings before name table literal answer).1 more
