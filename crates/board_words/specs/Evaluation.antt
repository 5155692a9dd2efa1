-- What an evaluation over a state's words returns and leaves in lent memory: the contract of `ombravelik_evaluate`.
use Rattle.std.specs.Prelude.{ℕ, ◌≤◌, ◌≡◌, List, cond, ltb, length}
use Rattle.rooms.specs.Rooms.{Rooms}
use Rattle.answer.specs.declared.Answer as Answers
use Rattle.answer.specs.Evaluated.{evaluated}
use Rattle.answer.specs.Meant.{Says, meant}
use Rattle.board_words.specs.Overlay.{no_room, handed}
use Rattle.board_state.specs.State.{bindings_in}
use Rattle.board_words.specs.Answers.{which_answer, report_answer}

-- what is returned with the answer's words; and the rooms
abbrev pub answered_into : Answers.Answer × Rooms → (answer : List ℕ) → (ℕ × List ℕ) × Rooms
answered_into e answer = (handed (which_answer e.0) (report_answer e.0) answer, e.1)

unfoldable pub evaluates : (table state : List ℕ) → (steps : ℕ) → (lent : Rooms) → (answer : List ℕ) → (ℕ × List ℕ) × Rooms
evaluates table state steps lent answer =
    cond (ltb (length answer) 8) ((no_room, answer), lent) (answered_into (evaluated table (bindings_in state) steps lent) answer)

-- the contract of an evaluation
pub record EvaluatesInto (table state : List ℕ) (steps : ℕ) (lent : Rooms) (answer : List ℕ) (returned : ℕ) (answer_left : List ℕ) (left : Rooms) : Type 0 where
  pub exactly : ◌≡◌ {A = (ℕ × List ℕ) × Rooms} ((returned, answer_left), left) (evaluates table state steps lent answer)
  -- with room for an answer, it and the rooms say what the definition says
  pub says : 8 ≤ length answer → Says (meant table (bindings_in state) steps lent) lent (evaluated table (bindings_in state) steps lent).0 left
