-- The whole answer: from a table, its literal text, the bindings and the limits to what comes back and what the rooms hold then.
-- Two points of the answer are said elsewhere, because they are about words.
-- Refusal 8 of an unsound room: a binding room here has values and no words, so `answer_of` never refuses it. bindings_sound/specs/Sound (`sound_of`)
-- says which words are sound; answer/specs/Evaluated (`accepted`) refuses the others after the table is read; answer/specs/Meant (`meant`) hands
-- the result of that to `answer_read`.
-- The rooms above the counts: `Rooms` lists what stands below them. answer/specs/Meant (`Says`) says that the rest is unchanged; after a refusal
-- the rest is all, since nothing is counted.
use Rattle.std.specs.Prelude.{ℕ, List, []}
use Rattle.meaning.specs.Limits.{Counts, cut}
use Rattle.meaning.specs.declared.refusal.Reason.{Reason}
use Rattle.meaning.specs.Value.{Value}
use Rattle.meaning.specs.Expr.{Expr}
use Rattle.meaning.specs.Run.{Eval}
use Rattle.meaning.specs.Comprehension.{Scope}
use Rattle.meaning.specs.Meaning.{run}
use Rattle.meaning.specs.Limited.{Outcome, limited, Rooms, rooms_after}
use Rattle.meaning.specs.Heads.{Got, got, refused}
use Rattle.meaning.specs.Table.{read_table}
use Rattle.meaning.specs.Bindings.{BindingRoom, scope_of}

-- refused with a place, or the outcome of the run: a value, an error or exhaustion
pub data Answer : Type 0 where
  refusal : Reason → ℕ → Answer
  ran : Outcome → Answer

-- the answer, and the evaluation rooms afterwards
pub record Answered : Type 0 where
  pub answer : Answer
  pub rooms : Rooms

unfoldable pub answer_run : Counts → Eval Value → Answered
answer_run limits r = record { answer = ran (limited limits r); rooms = rooms_after r.0 (limited limits r) }

-- a refusal counts nothing and changes nothing
unfoldable pub answer_read : Counts → Scope → Got Expr → Answered
answer_read limits s (got e) = answer_run limits (run e s)
answer_read limits s (refused r p) = record { answer = refusal r p; rooms = record { cells = []; bytes = [] } }

-- `lent` is the step limit and the lengths of the evaluation rooms
unfoldable pub answer_of : (table text : List ℕ) → BindingRoom → (lent : Counts) → Answered
answer_of table text room lent = answer_read (cut lent) (scope_of room) (read_table table text)
