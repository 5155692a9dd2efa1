-- The worked examples of the meaning as evaluations: what a row's evaluation is, and what it must answer.
use Rattle.std.specs.Prelude.{◌≡◌, List, take, Some}
use Rattle.meaning.specs.Limits.{Counts, nothing_yet}
use Rattle.meaning.specs.Bindings.{bound_in}
use Rattle.meaning.specs.Rows.{Row, Shown, gives, fails, exhausts, refuses, expected}
use Rattle.rooms.specs.Rooms.{Rooms}
use Rattle.bindings_sound.specs.declared.Bindings.{Bindings}
use Rattle.machine.specs.Answer.{CellsHave}
use Rattle.answer.specs.declared.Answer.{Answer}
use Rattle.answer.specs.Meant.{lent_by, Told, told, Evaluates}
use Rattle.meaning_laws.specs.Each.{Each}
use Rattle.answer_laws.specs.HoldsScope.{HoldsScope}

-- the row's table, text and limits, over a binding room that holds what the row binds
pub record Evaluation (r : Row) (bindings : Bindings) (lent : Rooms) (answer : Answer) (left : Rooms) : Type 0 where
  pub text : lent.literal ≡ r.text
  pub limits : lent_by r.lent.steps lent ≡ r.lent
  pub holds : HoldsScope lent.binding_cells lent.binding_text bindings (bound_in r.bound)
  pub evaluates : Evaluates r.table bindings r.lent.steps lent answer left

abbrev pub told_in : Shown → Told
told_in (gives v c cells text) = Told.value (Some v) c
told_in (fails n p c) = Told.error n p c
told_in (exhausts x c) = Told.exhausted x c
told_in (refuses n p) = Told.refused n p

abbrev pub counts_shown : Shown → Counts
counts_shown (gives v c cells text) = c
counts_shown (fails n p c) = c
counts_shown (exhausts x c) = c
counts_shown (refuses n p) = nothing_yet

-- the answer is the one that the row says, and so is what the rooms hold below the counts
pub record Comes (s : Shown) (answer : Answer) (left : Rooms) : Type 0 where
  pub tells : told left answer ≡ told_in s
  pub cells : CellsHave left 0 (expected s).rooms.cells
  pub bytes : take (counts_shown s).bytes left.text ≡ (expected s).rooms.bytes

-- every evaluation of each row answers what the row says
abbrev pub Evaluated : List Row → Type 0
Evaluated rows = Each (λ r. (bindings : Bindings) (lent : Rooms) (answer : Answer) (left : Rooms) → Evaluation r bindings lent answer left → Comes r.answer answer left) rows
