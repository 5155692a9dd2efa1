-- A turn of the loop over nestings, over plain variables. Assumes nothing.
use Prim.Native.Nat.{ℕ, ◌+◌, ◌-◌, ◌≤◌, ◌<◌, max}
use mathlib.Core.Path.{◌≡◌}
use mathlib.Core.List.{List}
use native.Mathlib.Numerals.{add-one}
use Rattle.rooms.specs.Value.{nesting_of}
use Rattle.rooms.specs.Cells.{cell_in}
use Rattle.bindings_sound.specs.Fits.{deepest_in}
use Rattle.bindings_sound.proofs.KeySteps.{one_left, none_left}

module _ (w : List ℕ) where
  -- the cell's nesting and those behind it
  pub deepest_turn : (i n : ℕ) → i < n → deepest_in w i (n - i) ≡ max (nesting_of (cell_in w i)) (deepest_in w (i + 1) (n - (i + 1)))
  unfolding deepest_in
  deepest_turn i n h = rw (one_left n i h, add-one i)

  pub deepest_none : (i n : ℕ) → n ≤ i → deepest_in w i (n - i) ≡ 0
  unfolding deepest_in
  deepest_none i n h = rw (none_left n i h)
