-- No room is sound with words that are no state. Assumes nothing.
use Prim.Native.Nat.{ℕ, min}
use mathlib.Core.Path.{◌≡◌, refl, ap, ◌∙◌}
use mathlib.Core.Bool.{Bool, true, false, ◌&&◌}
use mathlib.Core.List.{List}
use native.Mathlib.Omega.{arith}
use lib.Dec.{leb}
use Rattle.rooms_taking.specs.Taking.{cell_room, text_room}
use Rattle.std.specs.Prelude.{None, Err}
use Rattle.bindings_sound.specs.Fits.{slot_fits}
use Rattle.bindings_sound.specs.Sound.{first_bad, slots_fit, used_cells, used_bytes, sound_of}
use Rattle.board_state.specs.State.{no_bindings, is_state, bindings_in}

no_cells : no_bindings.cells ≡ 0
unfolding no_bindings
no_cells = refl

min-none : (a b : ℕ) → a ≡ 0 → min a b ≡ 0
min-none a b e = omega (arith, e)

-- what words stand for that are no state has a slot that no room is sound with
slots-bad : (words text : List ℕ) (used bytes : ℕ) → slots_fit words text used bytes no_bindings.scope 0 128 ≡ false
unfolding slots_fit slot_fits no_bindings
slots-bad words text used bytes = refl

and-bad : (a b c : Bool) → c ≡ false → (a && (b && c)) ≡ false
and-bad true true c h = h
and-bad true false c h = refl
and-bad false b c h = refl

-- no cell is looked at
none-bad : (words text : List ℕ) (used bytes : ℕ) → used ≡ 0 → first_bad words text used bytes 0 used ≡ None
unfolding first_bad
none-bad words text used bytes e = ap (λ (u : ℕ). first_bad words text u bytes 0 u) e

unsound : (words text : List ℕ) → sound_of words text no_bindings ≡ Err 0
unfolding sound_of
unsound words text =
    rw (none-bad words text (used_cells words text no_bindings) (used_bytes words text no_bindings) nothing)
    (rw (and-bad (leb no_bindings.cells (cell_room words)) (leb no_bindings.bytes (text_room text)) (slots_fit words text (used_cells words text no_bindings) (used_bytes words text no_bindings) no_bindings.scope 0 128) (slots-bad words text (used_cells words text no_bindings) (used_bytes words text no_bindings)))
    refl)
  where
    nothing : used_cells words text no_bindings ≡ 0
    nothing = min-none no_bindings.cells (cell_room words) no_cells

-- Words that are no state: refusal 8 at place 0, whatever the room holds.
pub no-state : (words cells text : List ℕ) → is_state words ≡ false → sound_of cells text (bindings_in words) ≡ Err 0
unfolding bindings_in
no-state words cells text h = ap (sound_of cells text) (rw h refl) ∙ unsound cells text
