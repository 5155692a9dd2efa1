-- An answer as words: which it is, its number and place, the counts of steps, cells and bytes, and the two words of a value. What does
-- not apply is 0; where there is no value, its words are those of kind 16.
use Rattle.std.specs.Prelude.{ℕ, List, [], ◌∷◌, Result, Ok, Err}
use Rattle.meaning.specs.Errors.{error_number, refusal_number}
use Rattle.rooms.specs.declared.value.Value.{Value}
use Rattle.rooms.specs.Cells.{head_of, payload_of}
use Rattle.meaning.specs.declared.refusal.Refusal.{Refusal}
use Rattle.machine.specs.declared.outcome.Used.{Used}
use Rattle.answer.specs.Numbers.{error_meant, limit_meant, limit_number}
use Rattle.answer.specs.declared.Answer.{Answer}
use Rattle.board_words.specs.declared.answers.Which.{Which}

abbrev pub answer_words : ℕ
answer_words = 8

abbrev pub report : (which number place : ℕ) → Used → Value → List ℕ
report which number place u v = which ∷ number ∷ place ∷ u.steps ∷ u.cells ∷ u.bytes ∷ head_of v ∷ payload_of v ∷ []

abbrev pub nothing_used : Used
nothing_used = record { steps = 0; cells = 0; bytes = 0 }

-- ---- which answer it is

abbrev pub which_done : ℕ
which_done = 0

abbrev pub which_value : ℕ
which_value = 1

abbrev pub which_error : ℕ
which_error = 2

abbrev pub which_exhausted : ℕ
which_exhausted = 3

abbrev pub which_refused : ℕ
which_refused = 4

-- the number of what the code calls so
abbrev pub which_number : Which → ℕ
which_number Which.Done = which_done
which_number Which.Value = which_value
which_number Which.Error = which_error
which_number Which.Exhausted = which_exhausted
which_number Which.Refused = which_refused

abbrev pub which_checked : Result (Unit {0}) Refusal → ℕ
which_checked (Ok u) = which_done
which_checked (Err f) = which_refused

abbrev pub which_answer : Answer → ℕ
which_answer (Answer.Refused f) = which_refused
which_answer (Answer.Value v u) = which_value
which_answer (Answer.Error e place u) = which_error
which_answer (Answer.Exhausted x u) = which_exhausted

-- ---- and all of it

abbrev pub done : List ℕ
done = report which_done 0 0 nothing_used Value.Absent

abbrev pub refusal : (number place : ℕ) → List ℕ
refusal number place = report which_refused number place nothing_used Value.Absent

abbrev pub report_checked : Result (Unit {0}) Refusal → List ℕ
report_checked (Ok u) = done
report_checked (Err f) = refusal (refusal_number f.reason) f.place

abbrev pub report_answer : Answer → List ℕ
report_answer (Answer.Refused f) = refusal (refusal_number f.reason) f.place
report_answer (Answer.Value v u) = report which_value 0 0 u v
report_answer (Answer.Error e place u) = report which_error (error_number (error_meant e)) place u Value.Absent
report_answer (Answer.Exhausted x u) = report which_exhausted (limit_number (limit_meant x)) 0 u Value.Absent
