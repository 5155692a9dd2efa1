-- Two words and the value that they are; what bringing in comes to, with the values in the spelling that words give them.
use Rattle.std.specs.Prelude.{ℕ, ◌≡◌, false}
use Rattle.rooms.specs.declared.value.Value.{Value}
use Rattle.rooms.specs.Cells.{head_of, payload_of, cell_of}
use Rattle.bindings_sound.specs.Fits.{is_absent}
use Rattle.bindings.specs.Bringing.{Outcome}
use Rattle.board_state.specs.Settled.{settled_bindings}

-- where they are a value, h and x are its words
pub record Written (h x : ℕ) (v : Value) : Type 0 where
  pub words : is_absent v ≡ false → (head_of v ≡ h) × (payload_of v ≡ x)

-- the same answer, cells and text, with settled bindings
abbrev pub settled_outcome : Outcome → Outcome
settled_outcome o = record o { bindings = settled_bindings o.bindings }

-- v is read back from its words
abbrev pub ReadAgain : Value → Type 0
ReadAgain v = cell_of (head_of v) (payload_of v) ≡ v
