-- The words that are in order as a state: as many as one has, with the number of slots, and for each name a value's words or those that say there
-- is none.
use Rattle.std.specs.Prelude.{ℕ, ◌^◌, ◌<◌, ◌≡◌, ◌⊎◌, true, false, List, get_or}
use Rattle.meaning.specs.Limits.{names}
use Rattle.rooms.specs.Cells.{cell_in}
use Rattle.bindings_sound.specs.Fits.{is_absent}
use Rattle.board_state.specs.State.{says_absent, is_state}

-- what a slice of words can hold
abbrev pub Words : List ℕ → Type 0
Words w = (i : ℕ) → get_or w i 0 < 2 ^ 64

pub record InOrder (w : List ℕ) : Type 0 where
  pub state : is_state w ≡ true
  pub slots : (n : ℕ) → n < names → (is_absent (cell_in w n) ≡ false) ⊎ (says_absent w n ≡ true)
