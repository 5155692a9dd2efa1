-- What an evaluation does, from what the functions that it calls say. Assumes nothing.
use Prim.Native.Nat.{ℕ, ◌≤◌, ◌<◌}
use mathlib.Core.Path.{◌≡◌, refl, ap, ◌∙◌, subst}
use native.Mathlib.Omega.{arith}
use mathlib.Core.List.{List}
use lib.ListN.{length}
use borrow.Author.Tests.{lt-ltb, le-ltb}
use Rattle.rooms.specs.Rooms.{Rooms}
use Rattle.answer.specs.declared.Answer as Answers
use Rattle.answer.specs.Meant.{Says, meant, Evaluates}
use Rattle.board_words.specs.Overlay.{no_room, handed}
use Rattle.board_state.specs.State.{bindings_in}
use Rattle.board_words.specs.Answers.{which_answer, report_answer}
use Rattle.board_words.specs.Evaluation.{answered_into, evaluates, EvaluatesInto}

module _ {table state : List ℕ} {steps : ℕ} {lent : Rooms} {answer : List ℕ} where
  pub evaluates_none : length answer < 8 → EvaluatesInto table state steps lent answer no_room answer lent
  unfolding evaluates
  evaluates_none h = record { exactly = rw (lt-ltb (length answer) 8 h) refl; says = λ k. absurd (omega (arith, h, k)) }

  pub evaluates-so : {said : Answers.Answer} {left : Rooms} {returned : ℕ} {answer_left : List ℕ} → 8 ≤ length answer
      → Evaluates table (bindings_in state) steps lent said left → ◌≡◌ {A = ℕ × List ℕ} (returned, answer_left) (handed (which_answer said) (report_answer said) answer)
      → EvaluatesInto table state steps lent answer returned answer_left left
  unfolding evaluates
  evaluates-so {said} {left} {returned} {answer_left} h g f =
      record {
        exactly =
            ap (λ (k : ℕ × List ℕ). (k, left)) f
            ∙ ap (λ (k : Answers.Answer × Rooms). answered_into k answer) g.exactly
            ∙ rw (le-ltb (length answer) 8 h) refl;
        says = λ _. subst (λ (a : Answers.Answer). Says (meant table (bindings_in state) steps lent) lent a left) (ap (λ (k : Answers.Answer × Rooms). k.0) g.exactly) g.says;
      }
