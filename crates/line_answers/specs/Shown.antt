-- The line of an answer, from the rooms that its value lies in. proofs/Said proves that it is the line of what the answer says.
use Rattle.std.specs.Prelude.{ℕ, List, ◌++◌}
use Rattle.meaning.specs.Errors.{error_number, refusal_number}
use Rattle.rooms.specs.Rooms.{Rooms}
use Rattle.answer.specs.Numbers.{error_meant, limit_meant}
use Rattle.answer.specs.declared.Answer.{Answer}
use Rattle.answer.specs.Meant.{counts_used}
use Rattle.line_pieces.specs.Spelled.{ascii}
use Rattle.line_values.specs.Shown.{shown_in}
use Rattle.line_answers.specs.Written.{longest_value, shortened, placed, counted, exhausted}

unfoldable pub shown_answer : Rooms → Answer → List ℕ
shown_answer r (Answer.Refused f) = ascii "Refused " ++ placed (refusal_number f.reason) f.place
shown_answer r (Answer.Value v u) = shortened longest_value (shown_in r v) ++ counted (counts_used u)
shown_answer r (Answer.Error e place u) = ascii "Error " ++ placed (error_number (error_meant e)) place ++ counted (counts_used u)
shown_answer r (Answer.Exhausted x u) = exhausted (limit_meant x) ++ counted (counts_used u)
