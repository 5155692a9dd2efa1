-- What a sound binding room is, test by test.
use Rattle.std.specs.Prelude.{ℕ, suc, ◌≤◌, ◌<◌, ◌≡◌, true, List}
use Rattle.meaning.specs.Limits.{names}
use Rattle.rooms.specs.Cells.{cell_in}
use Rattle.rooms.specs.Scope.{slot_of}
use Rattle.rooms_taking.specs.Taking.{cell_room, text_room}
use Rattle.bindings_sound.specs.declared.Bindings.{Bindings}
use Rattle.bindings_sound.specs.Fits.{value_fits, slot_fits}

-- the used counts lie in the room, each cell below them fits and refers only to later cells, and each slot fits
pub record SoundRoom (w t : List ℕ) (b : Bindings) : Type 0 where
  pub cells_in : b.cells ≤ cell_room w
  pub bytes_in : b.bytes ≤ text_room t
  pub cells : (i : ℕ) → i < b.cells → value_fits w t b.cells b.bytes (suc i) (cell_in w i) ≡ true
  pub slots : (n : ℕ) → n < names → slot_fits w t b.cells b.bytes (slot_of b.scope n) ≡ true
