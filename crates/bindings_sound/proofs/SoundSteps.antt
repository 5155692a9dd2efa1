-- A turn of the loops over the cells and the slots of a room, over plain variables. Assumes nothing.
use Prim.Native.Nat.{ℕ, ◌+◌, ◌-◌, ◌≤◌, ◌<◌}
use mathlib.Core.Path.{◌≡◌}
use mathlib.Core.List.{List}
use mathlib.Core.Bool.{true, ◌&&◌, cond}
use native.Mathlib.Numerals.{add-one}
use Rattle.std.specs.Prelude.{None, Some}
use Rattle.rooms.specs.declared.scope.Scope.{Scope}
use Rattle.rooms.specs.Scope.{slot_of}
use Rattle.rooms.specs.Cells.{cell_in}
use Rattle.bindings_sound.specs.Fits.{value_fits, slot_fits}
use Rattle.bindings_sound.specs.Sound.{cell_fits, first_bad, slots_fit}
use Rattle.bindings_sound.proofs.KeySteps.{one_left, none_left}

module _ (w t : List ℕ) (used bytes : ℕ) where
  pub bad_turn : (i n : ℕ) → i < n →
      first_bad w t used bytes i (n - i) ≡ cond (value_fits w t used bytes (i + 1) (cell_in w i)) (first_bad w t used bytes (i + 1) (n - (i + 1))) (Some i)
  unfolding first_bad cell_fits
  bad_turn i n h = rw (one_left n i h, add-one i)

  pub bad_none : (i n : ℕ) → n ≤ i → first_bad w t used bytes i (n - i) ≡ None
  unfolding first_bad
  bad_none i n h = rw (none_left n i h)

  pub slots_turn : (s : Scope) (i n : ℕ) → i < n →
      slots_fit w t used bytes s i (n - i) ≡ (slot_fits w t used bytes (slot_of s i) && slots_fit w t used bytes s (i + 1) (n - (i + 1)))
  unfolding slots_fit
  slots_turn s i n h = rw (one_left n i h, add-one i)

  pub slots_none : (s : Scope) (i n : ℕ) → n ≤ i → slots_fit w t used bytes s i (n - i) ≡ true
  unfolding slots_fit
  slots_none s i n h = rw (none_left n i h)
