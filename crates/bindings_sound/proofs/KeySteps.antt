-- A turn of the loops over keys, over plain variables. Assumes nothing.
use Prim.Native.Nat.{ℕ, suc, ◌+◌, ◌-◌, ◌*◌, ◌≤◌, ◌<◌}
use mathlib.Core.Path.{◌≡◌}
use mathlib.Core.List.{List, []}
use mathlib.Core.Bool.{true, false, not, ◌&&◌, ◌||◌}
use native.Mathlib.Omega.{arith}
use Rattle.rooms.specs.declared.value.Value.{Value}
use Rattle.rooms.specs.Value.{is_key, plain_of}
use Rattle.rooms.specs.Cells.{cell_in}
use Rattle.rooms_comparison.specs.Seen.{seen_of, same_seen}
use Rattle.bindings_sound.specs.Keys.{match, repeated_in, keys_fit}

-- what is left of a count at a turn, and behind the last one
pub one_left : (n i : ℕ) → i < n → n - i ≡ suc (n - (i + 1))
one_left n i h = omega arith

pub none_left : (n i : ℕ) → n ≤ i → n - i ≡ 0
none_left n i h = omega arith

two_more : (a i : ℕ) → a + 2 * (i + 1) ≡ suc (suc (a + 2 * i))
two_more a i = omega arith

module _ (w t : List ℕ) where
  pub repeated_turn : (v : Value) (a n i : ℕ) → i < n →
      repeated_in w t v (a + 2 * i) (n - i) ≡ (same_seen (seen_of [] t [] (plain_of v)) (seen_of [] t [] (plain_of (cell_in w (a + 2 * i)))) || repeated_in w t v (a + 2 * (i + 1)) (n - (i + 1)))
  unfolding repeated_in match
  repeated_turn v a n i h = rw (one_left n i h, two_more a i)

  pub repeated_none : (v : Value) (a n i : ℕ) → n ≤ i → repeated_in w t v (a + 2 * i) (n - i) ≡ false
  unfolding repeated_in
  repeated_none v a n i h = rw (none_left n i h)

  pub keys_turn : (a n i : ℕ) → i < n →
      keys_fit w t (a + 2 * i) (n - i) ≡ (is_key (cell_in w (a + 2 * i))
      && (not (repeated_in w t (cell_in w (a + 2 * i)) (a + 2 * i + 2) (n - i - 1)) && keys_fit w t (a + 2 * (i + 1)) (n - (i + 1))))
  unfolding keys_fit
  keys_turn a n i h = rw (one_left n i h, two_more a i, two_on (a + 2 * i), last_one (n - (i + 1)))
    where
      two_on : (m : ℕ) → m + 2 ≡ suc (suc m)
      two_on m = omega arith

      last_one : (m : ℕ) → suc m - 1 ≡ m
      last_one m = omega arith

  pub keys_none : (a n i : ℕ) → n ≤ i → keys_fit w t (a + 2 * i) (n - i) ≡ true
  unfolding keys_fit
  keys_none a n i h = rw (none_left n i h)
