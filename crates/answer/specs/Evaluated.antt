-- An evaluation on words: the table is read and the binding room is judged; then the rule runs with nothing charged yet, and what it charged
-- is cleared unless there is a value.
use Rattle.std.specs.Prelude.{ℕ, min, List}
use Rattle.meaning.specs.Limits.{most_steps}
use Rattle.meaning.specs.Errors.{refusal_at}
use Rattle.meaning.specs.Expr.{Expr}
use Rattle.meaning.specs.Heads.{Got, got, refused, ◌>>=◌}
use Rattle.meaning.specs.Table.{read_table}
use Rattle.rooms.specs.Rooms.{Rooms}
use Rattle.bindings_sound.specs.declared.Bindings.{Bindings}
use Rattle.bindings_sound.specs.Sound.{sound_of, if_sound}
use Rattle.machine.specs.declared.outcome.Outcome.{Outcome}
use Rattle.machine.specs.Outcomes.{Res}
use Rattle.machine.specs.Answer.{answered}
use Rattle.answer.specs.declared.Answer.{Answer}

abbrev pub as_answer : Outcome → Answer
as_answer (Outcome.Value v u) = Answer.Value v u
as_answer (Outcome.Error e p u) = Answer.Error e p u
as_answer (Outcome.Exhausted x u) = Answer.Exhausted x u

abbrev pub ended : Res → Answer × Rooms
ended x = (as_answer x.0, x.1)

-- the rooms as they are lent: the literal text, the bindings' cells and text, the evaluation's
module _ (table : List ℕ) (bindings : Bindings) (lent : Rooms) where
  -- refusals 1 to 7, then 8
  unfoldable pub accepted : Got Expr
  accepted = do
    e ← read_table table lent.literal
    if_sound (sound_of lent.binding_cells lent.binding_text bindings) (got e)

module _ (table : List ℕ) (bindings : Bindings) (steps : ℕ) (lent : Rooms) where
  -- a refusal changes nothing
  abbrev pub after : Got Expr → Answer × Rooms
  after (refused why place) = (Answer.Refused (refusal_at why place), lent)
  after (got e) = ended (answered table (min steps most_steps) e bindings.scope lent)

  -- the answer, and the rooms as they are left
  unfoldable pub evaluated : Answer × Rooms
  evaluated = after (accepted table bindings lent)
