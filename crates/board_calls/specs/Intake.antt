-- What each function of `intake` returns and leaves in lent memory, from what the crates below it say.
use Rattle.std.specs.Prelude.{ℕ, List, cond, ltb, eqb, length, Result}
use Rattle.table_check.specs.Check.{check_of}
use Rattle.meaning.specs.declared.refusal.Refusal.{Refusal}
use Rattle.bindings.specs.Bringing.{emptied}
use Rattle.board_words.specs.Overlay.{no_room, handed}
use Rattle.board_state.specs.State.{state_words, state_of}
use Rattle.board_state.specs.Bringing.{BindingRoom, stows}
use Rattle.board_words.specs.Answers.{which_done, which_checked, report_checked}

-- ---- a table, a state

-- what is returned, and the answer's words
abbrev pub checks : (table literal answer : List ℕ) → ℕ × List ℕ
checks table literal answer = handed (which_checked (check_of table literal)) (report_checked (check_of table literal)) answer

-- what is returned, and the state
abbrev pub empties : (state : List ℕ) → ℕ × List ℕ
empties state = cond (eqb (length state) state_words) (which_done, state_of emptied) (no_room, state)

-- ---- bringing in: what is returned with the answer's words; and the binding room

abbrev pub hands_brought : Result (Unit {0}) Refusal → (answer : List ℕ) → ℕ × List ℕ
hands_brought said answer = handed (which_checked said) (report_checked said) answer

abbrev pub brought_into : Result (Unit {0}) Refusal × BindingRoom → (answer : List ℕ) → (ℕ × List ℕ) × BindingRoom
brought_into b answer = (hands_brought b.0 answer, b.1)

-- without room for an answer nothing is done
unfoldable pub brings : BindingRoom → (name : ℕ) → (table literal answer : List ℕ) → (ℕ × List ℕ) × BindingRoom
brings room name table literal answer = cond (ltb (length answer) 8) ((no_room, answer), room) (brought_into (stows room name table literal) answer)
