-- When a room is sound, and if it is not, the first cell at fault. All contents are the caller's.
use Rattle.std.specs.Prelude.{ℕ, zero, suc, min, List, Bool, true, ◌&&◌, cond, leb, Option, None, Some, Result, Ok, Err}
use Rattle.meaning.specs.Limits.{names}
use Rattle.meaning.specs.declared.refusal.Reason.TheVariants.{UnsoundBinding}
use Rattle.meaning.specs.Heads.{Got, refused}
use Rattle.rooms.specs.Cells.{cell_in}
use Rattle.rooms_taking.specs.Taking.{cell_room, text_room}
use Rattle.rooms.specs.Scope.{slot_of}
use Rattle.rooms.specs.declared.scope.Scope.{Scope}
use Rattle.bindings_sound.specs.declared.Bindings.{Bindings}
use Rattle.bindings_sound.specs.Fits.{value_fits, slot_fits}

-- by the first bad cell, and whether all the rest is good: an error has that cell, and 0 where no cell is bad
abbrev pub verdict : Option ℕ → Bool → Result (Unit {0}) ℕ
verdict (Some p) rest = Err p
verdict None rest = cond rest (Ok tt) (Err 0)

module _ (words text : List ℕ) where
  -- a cell may refer only to later ones
  unfoldable pub cell_fits : (used bytes i : ℕ) → Bool
  cell_fits used bytes i = value_fits words text used bytes (suc i) (cell_in words i)

  -- the first of n cells from i on that is bad
  unfoldable pub first_bad : (used bytes i n : ℕ) → Option ℕ
  first_bad used bytes i zero = None
  first_bad used bytes i (suc n) = cond (cell_fits used bytes i) (first_bad used bytes (suc i) n) (Some i)

  -- n slots from i on
  unfoldable pub slots_fit : (used bytes : ℕ) → Scope → (i n : ℕ) → Bool
  slots_fit used bytes s i zero = true
  slots_fit used bytes s i (suc n) = slot_fits words text used bytes (slot_of s i) && slots_fit used bytes s (suc i) n

  -- what is used, up to what is lent
  abbrev pub used_cells : Bindings → ℕ
  used_cells b = min b.cells (cell_room words)

  abbrev pub used_bytes : Bindings → ℕ
  used_bytes b = min b.bytes (text_room text)

  unfoldable pub sound_of : Bindings → Result (Unit {0}) ℕ
  sound_of b =
      verdict (first_bad (used_cells b) (used_bytes b) 0 (used_cells b))
      (leb b.cells (cell_room words) && (leb b.bytes (text_room text) && slots_fit (used_cells b) (used_bytes b) b.scope 0 names))

-- over a sound room what is given; an unsound one is refused
abbrev pub if_sound : {A : Type 0} → Result (Unit {0}) ℕ → Got A → Got A
if_sound (Ok u) g = g
if_sound (Err p) g = refused UnsoundBinding p
