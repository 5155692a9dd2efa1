-- What bringing in a binding comes to, said of the room of the definition that the lent one stands for.
-- In order: standing for a room; memory that is kept; a binding that is accepted; one that is refused; every call.
use Rattle.std.specs.Prelude.{ℕ, ◌*◌, ◌/◌, ◌≡◌, List, length, take, drop, Ok, Err}
use Rattle.meaning.specs.Errors.{refusal_at}
use Rattle.meaning.specs.declared.refusal.Reason.{Reason}
use Rattle.meaning.specs.declared.refusal.Reason.TheVariants.{UnsoundBinding}
use Rattle.meaning.specs.Heads.{Got, got, refused}
use Rattle.meaning.specs.Bindings.{BindingRoom, scope_of, bring}
use Rattle.bindings_sound.specs.declared.Bindings.{Bindings}
use Rattle.bindings_sound.specs.Sound.{sound_of}
use Rattle.bindings_sound.specs.Held.{held_scope}
use Rattle.bindings.specs.Bringing.{Outcome, outcome_of}

-- a lent room is sound, and each name has in it what it has in a room of the definition
pub record StandsFor (words text : List ℕ) (b : Bindings) (room : BindingRoom) : Type 0 where
  pub sound : sound_of words text b ≡ Ok tt
  pub cells : b.cells ≡ room.used_cells
  pub bytes : b.bytes ≡ room.used_bytes
  pub scope : (n : ℕ) → held_scope words text b n ≡ scope_of room n

-- a list has become another that is as long, and the same before one place and from another on
pub record Kept (from to : ℕ) (old new : List ℕ) : Type 0 where
  pub long : length new ≡ length old
  pub before : take from new ≡ take from old
  pub behind : drop to new ≡ drop to old

-- two words are a cell
pub record Holds (w t : List ℕ) (b : Bindings) (more : BindingRoom) (o : Outcome) : Type 0 where
  pub done : o.answer ≡ Ok tt
  pub stands : StandsFor o.words o.text o.bindings more
  pub words : Kept (2 * b.cells) (2 * more.used_cells) w o.words
  pub text : Kept b.bytes more.used_bytes t o.text

-- nothing has changed
abbrev pub refusal : (words text : List ℕ) → Bindings → Reason → (place : ℕ) → Outcome
refusal w t b why p = record { answer = Err (refusal_at why p); bindings = b; words = w; text = t }

abbrev pub Brings : (words text : List ℕ) → Bindings → Got BindingRoom → Outcome → Type 0
Brings w t b (got more) o = Holds w t b more o
Brings w t b (refused why p) o = o ≡ refusal w t b why p

-- an unsound room is refused before anything else; in every other the definition decides
pub record BringsIn (w t : List ℕ) (b : Bindings) (name : ℕ) (table literal : List ℕ) : Type 0 where
  pub unsound : (p : ℕ) → sound_of w t b ≡ Err p →
      outcome_of w t b name table literal ≡ refusal w t b UnsoundBinding p
  pub sound : (room : BindingRoom) → StandsFor w t b room →
      Brings w t b (bring (length w / 2) (length t) room name table literal) (outcome_of w t b name table literal)
