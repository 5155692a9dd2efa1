-- Bringing in over a state: what the bindings that it stands for become is written back to it.
use Rattle.std.specs.Prelude.{ℕ, List, Result, Ok, Err}
use Rattle.bindings_sound.specs.declared.Bindings.{Bindings}
use Rattle.meaning.specs.declared.refusal.Refusal.{Refusal}
use Rattle.bindings.specs.Bringing.{Outcome, outcome_of}
use Rattle.board_state.specs.State.{bindings_in, state_put}

pub record BindingRoom : Type 0 where
  pub state : List ℕ
  pub cells : List ℕ
  pub text : List ℕ

abbrev pub binding_room : (state cells text : List ℕ) → BindingRoom
binding_room s c t = record { state = s; cells = c; text = t }

-- a refusal leaves the state as it is
abbrev pub state_after : Result (Unit {0}) Refusal → Bindings → (state : List ℕ) → List ℕ
state_after (Ok u) b state = state_put state b
state_after (Err f) b state = state

abbrev pub stowed : Outcome → (state : List ℕ) → Result (Unit {0}) Refusal × BindingRoom
stowed o state = (o.answer, binding_room (state_after o.answer o.bindings state) o.words o.text)

-- the answer, and the room afterwards
unfoldable pub stows : BindingRoom → (name : ℕ) → (table literal : List ℕ) → Result (Unit {0}) Refusal × BindingRoom
stows room name table literal = stowed (outcome_of room.cells room.text (bindings_in room.state) name table literal) room.state
