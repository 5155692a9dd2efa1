-- What the verdict on a lent binding room says of it. In order: what can be lent; a sound room; the place of an unsound one; both.
use Rattle.std.specs.Prelude.{ℕ, ◌^◌, ◌≤◌, ◌<◌, ◌≡◌, ◌⊎◌, List, true, false, length, get_or, Some, Ok, Err}
use Rattle.meaning.specs.Limits.{names}
use Rattle.meaning.specs.Value.{Value}
use Rattle.meaning.specs.WellFormed.{AllBytes, WellFormed}
use Rattle.rooms.specs.Cells.{Fits}
use Rattle.rooms.specs.Scope.{slot_of}
use Rattle.rooms_taking.specs.Taking.{cell_room, text_room}
use Rattle.bindings_sound.specs.declared.Bindings.{Bindings}
use Rattle.bindings_sound.specs.Fits.{slot_fits}
use Rattle.bindings_sound.specs.Sound.{cell_fits, used_cells, used_bytes, sound_of}
use Rattle.bindings_sound.specs.Held.{held_scope}

-- any contents: words of 64 bits, bytes, and a slot for each name, with a value that words can hold
pub record Lent (w t : List ℕ) (b : Bindings) : Type 0 where
  pub words : (i : ℕ) → get_or w i 0 < 2 ^ 64
  pub text : AllBytes t
  pub slots : length b.scope.slots ≡ names
  pub values : (n : ℕ) → Fits (slot_of b.scope n)

-- what a name has is well formed: numbers in range, Strings in UTF-8, no two keys of a map that match, nesting at most 32
abbrev pub HoldsFormed : (words text : List ℕ) → Bindings → Type 0
HoldsFormed w t b = (n : ℕ) (v : Value) → held_scope w t b n ≡ Some v → WellFormed v

-- a bad cell, and none before it
pub record FirstBadCell (w t : List ℕ) (b : Bindings) (p : ℕ) : Type 0 where
  pub used : p < used_cells w t b
  pub bad : cell_fits w t (used_cells w t b) (used_bytes w t b) p ≡ false
  pub before : (i : ℕ) → i < p → cell_fits w t (used_cells w t b) (used_bytes w t b) i ≡ true

-- no bad cell, but a used count above what is lent, or a bad slot
pub record BadElsewhere (w t : List ℕ) (b : Bindings) (p : ℕ) : Type 0 where
  pub place : p ≡ 0
  pub cells : (i : ℕ) → i < used_cells w t b → cell_fits w t (used_cells w t b) (used_bytes w t b) i ≡ true
  pub bad : b.cells ≤ cell_room w → b.bytes ≤ text_room t →
      ((n : ℕ) → n < names → slot_fits w t b.cells b.bytes (slot_of b.scope n) ≡ true) → ⊥

pub record Says (w t : List ℕ) (b : Bindings) : Type 0 where
  pub sound : sound_of w t b ≡ Ok tt → HoldsFormed w t b
  pub unsound : (p : ℕ) → sound_of w t b ≡ Err p → FirstBadCell w t b p ⊎ BadElsewhere w t b p
