-- What the definition says of an evaluation, and when an answer and the rooms that it leaves say the same.
use Rattle.std.specs.Prelude.{ℕ, ◌*◌, ◌/◌, ◌≡◌, List, length, take, drop, Option, Some}
use Rattle.meaning.specs.Limits.{Counts, nothing_yet, cut}
use Rattle.meaning.specs.Errors.{Exhausted, error_number, refusal_number}
use Rattle.meaning.specs.Value as Value
use Rattle.meaning.specs.Limited as Limited
use Rattle.meaning.specs.Bindings.{BindingRoom, scope_of}
use Rattle.meaning.specs.Answer as Meaning
use Rattle.meaning.specs.Answer.{Answered, refusal, ran, answer_read}
use Rattle.rooms.specs.Rooms.{Rooms}
use Rattle.rooms.specs.Reading.{reading}
use Rattle.bindings_sound.specs.declared.Bindings.{Bindings}
use Rattle.bindings_sound.specs.Held.{room_of}
use Rattle.machine.specs.declared.outcome.Used.{Used}
use Rattle.meaning_laws.specs.Answers.{counts_in}
use Rattle.machine.specs.Answer.{CellsHave}
use Rattle.answer.specs.Numbers.{error_meant, limit_meant}
use Rattle.answer.specs.declared.Answer.{Answer}
use Rattle.answer.specs.Evaluated.{accepted, evaluated}

-- ---- what an answer tells

-- errors and refusals by their numbers, a value as it is read out of the rooms
pub data Told : Type 0 where
  refused : (number place : ℕ) → Told
  value : Option Value.Value → Counts → Told
  error : (number place : ℕ) → Counts → Told
  exhausted : Exhausted → Counts → Told

abbrev pub counts_used : Used → Counts
counts_used u = record { steps = u.steps; cells = u.cells; bytes = u.bytes }

abbrev pub told : Rooms → Answer → Told
told left (Answer.Refused f) = refused (refusal_number f.reason) f.place
told left (Answer.Value v u) = value (reading left v) (counts_used u)
told left (Answer.Error e place u) = error (error_number (error_meant e)) place (counts_used u)
told left (Answer.Exhausted x u) = exhausted (limit_meant x) (counts_used u)

-- the counts that are told; a refusal counts nothing
abbrev pub counts_told : Told → Counts
counts_told (refused number place) = nothing_yet
counts_told (value v c) = c
counts_told (error number place c) = c
counts_told (exhausted x c) = c

-- the definition's answer
abbrev pub told_by : Meaning.Answer → Told
told_by (refusal why place) = refused (refusal_number why) place
told_by (ran (Limited.value v c)) = value (Some v) c
told_by (ran (Limited.error e c)) = error (error_number e.error) e.place c
told_by (ran (Limited.exhausted x c)) = exhausted x c

-- ---- what an answer and the rooms that it leaves say

pub record Says (m : Answered) (lent : Rooms) (answer : Answer) (left : Rooms) : Type 0 where
  -- refused, value, error or exhausted; number, place, value and counts
  pub tells : told left answer ≡ told_by m.answer
  -- below the counts: what was built, or zeros
  pub cells : CellsHave left 0 m.rooms.cells
  pub cells_counted : length m.rooms.cells ≡ (counts_in m.answer).cells
  pub bytes : take (counts_in m.answer).bytes left.text ≡ m.rooms.bytes
  -- above them: unchanged
  pub cells_above : drop ((counts_in m.answer).cells * 2) left.cells ≡ drop ((counts_in m.answer).cells * 2) lent.cells
  pub bytes_above : drop (counts_in m.answer).bytes left.text ≡ drop (counts_in m.answer).bytes lent.text
  pub cells_lent : length left.cells ≡ length lent.cells
  pub bytes_lent : length left.text ≡ length lent.text
  -- what is lent for reading only
  pub literal : left.literal ≡ lent.literal
  pub binding_cells : left.binding_cells ≡ lent.binding_cells
  pub binding_text : left.binding_text ≡ lent.binding_text

-- ---- the definition's answer

-- what lent rooms and a step limit lend; a cell is two words
abbrev pub lent_by : (steps : ℕ) → Rooms → Counts
lent_by steps lent = record { steps = steps; cells = length lent.cells / 2; bytes = length lent.text }

-- the limits in force
abbrev pub limits : (steps : ℕ) → (lent : Rooms) → Counts
limits steps lent = cut (lent_by steps lent)

-- the bindings that the lent binding room holds
abbrev pub bound : Bindings → (lent : Rooms) → BindingRoom
bound bindings lent = room_of lent.binding_cells lent.binding_text bindings

module _ (table : List ℕ) (bindings : Bindings) (steps : ℕ) (lent : Rooms) where
  -- the binding room is judged after the table
  unfoldable pub meant : Answered
  meant = answer_read (limits steps lent) (scope_of (bound bindings lent)) (accepted table bindings lent)

  -- the contract of an evaluation
  pub record Evaluates (answer : Answer) (left : Rooms) : Type 0 where
    pub exactly : ◌≡◌ {A = Answer × Rooms} (answer, left) (evaluated table bindings steps lent)
    pub says : Says meant lent answer left
