-- What is put for an answer, piece by piece, as the function puts it. Assumes nothing.
use Prim.Native.Nat.{ℕ}
use mathlib.Core.Path.{◌≡◌, ap, ◌∙◌}
use mathlib.Core.List.{◌++◌}
use Rattle.meaning.specs.Errors.{error_number, refusal_number}
use Rattle.meaning.specs.declared.refusal.Refusal.{Refusal}
use Rattle.rooms.specs.declared.value.Value.{Value}
use Rattle.rooms.specs.Rooms.{Rooms}
use Rattle.machine.specs.declared.outcome.Used.{Used}
use Rattle.machine.specs.declared.outcome.Error.{Error}
use Rattle.machine.specs.declared.outcome.Limit.{Limit}
use Rattle.answer.specs.Numbers.{error_meant, limit_meant}
use Rattle.answer.specs.declared.Answer.{Answer}
use Rattle.answer.specs.Meant.{counts_used}
use Rattle.line_pieces.specs.Page.{Page, puts}
use Rattle.line_pieces.specs.Spelled.{ascii}
use Rattle.line_pieces.proofs.Putting.{puts_joined}
use Rattle.line_values.specs.Shown.{shown_in}
use Rattle.line_answers.specs.Written.{longest_value, shortened, placed, counted, exhausted}
use Rattle.line_answers.specs.Shown.{shown_answer}

module _ (r : Rooms) (p : Page) where
  pub refused_put : (f : Refusal) → puts (shown_answer r (Answer.Refused f)) p ≡ puts (placed (refusal_number f.reason) f.place) (puts (ascii "Refused ") p)
  unfolding shown_answer
  refused_put f = puts_joined (ascii "Refused ") (placed (refusal_number f.reason) f.place) p

  pub value_put : (v : Value) (u : Used) → puts (shown_answer r (Answer.Value v u)) p ≡ puts (counted (counts_used u)) (puts (shortened longest_value (shown_in r v)) p)
  unfolding shown_answer
  value_put v u = puts_joined (shortened longest_value (shown_in r v)) (counted (counts_used u)) p

  pub error_put : (e : Error) (place : ℕ) (u : Used) → puts (shown_answer r (Answer.Error e place u)) p ≡ puts (counted (counts_used u)) (puts (placed (error_number (error_meant e)) place) (puts (ascii "Error ") p))
  unfolding shown_answer
  error_put e place u =
      puts_joined (ascii "Error " ++ placed (error_number (error_meant e)) place) (counted (counts_used u)) p
      ∙ ap (puts (counted (counts_used u))) (puts_joined (ascii "Error ") (placed (error_number (error_meant e)) place) p)

  pub exhausted_put : (x : Limit) (u : Used) → puts (shown_answer r (Answer.Exhausted x u)) p ≡ puts (counted (counts_used u)) (puts (exhausted (limit_meant x)) p)
  unfolding shown_answer
  exhausted_put x u = puts_joined (exhausted (limit_meant x)) (counted (counts_used u)) p
