-- When keys match: matching has no side, so an entry that matches none before it may be added to a map.
-- Rests on the laws of order of the crates numbers_laws and text. Assumes nothing.
use Prim.Native.Nat.{ℕ}
use mathlib.Core.Path.{◌≡◌, refl, sym, ap₂, ◌∙◌}
use mathlib.Core.Bool.{Bool, true, false, ◌&&◌, cond}
use Rattle.std.specs.Prelude.{Option, None, Some}
use native.Mathlib.Omega.{arith}
use lib.Dec.{eqb}
use borrow.Author.Tests.{eqb-true, eqb-false, eq-eqb, ne_eqb}
use Rattle.std.specs.declared.cmp.Ordering.{Ordering}
use Rattle.numbers.specs.Order.{order_of, is_equal, flipped}
use Rattle.numbers_laws.proofs.OrderLaws.{order-swap}
use Rattle.std.specs.Ordering.{ordering_reverse}
use Rattle.text.specs.Bytes as Bytes
use Rattle.text.proofs.BytesLaws.{order-flipped}
use Rattle.meaning.specs.Value.{Scalar, Key, key_scalar, Value, Entries, empty, entry, add_entry}
use Rattle.meaning.specs.Comparison.{Rank, rank, then_text, rank_order, same_class, scalar_equal, tick, find}

same_number : (m n : ℕ) → eqb m n ≡ eqb n m
same_number m n = go (eqb m n) (eqb-true m n) (eqb-false m n)
  where
    go : (t : Bool) → (t ≡ true → m ≡ n) → (t ≡ false → m ≡ n → ⊥) → t ≡ eqb n m
    go true h k = sym (eq-eqb n m (sym (h refl)))
    go false h k = sym (ne_eqb n m (λ e. k refl (sym e)))

then-flipped : (o : Option Ordering) (t : Ordering) → is_equal (then_text (flipped o) (ordering_reverse t)) ≡ is_equal (then_text o t)
unfolding then_text
then-flipped (Some Ordering.Less) t = refl
then-flipped (Some Ordering.Equal) Ordering.Less = refl
then-flipped (Some Ordering.Equal) Ordering.Equal = refl
then-flipped (Some Ordering.Equal) Ordering.Greater = refl
then-flipped (Some Ordering.Greater) t = refl
then-flipped None t = refl

rank-flipped : (r s : Rank) → is_equal (rank_order r s) ≡ is_equal (rank_order s r)
unfolding rank_order
rank-flipped r s =
    ap₂ (λ o t. is_equal (then_text o t)) (order-swap r.point s.point) (order-flipped s.text r.text)
    ∙ then-flipped (order_of s.point r.point) (Bytes.order_of s.text r.text)

-- Two scalars match the same way from either side.
pub match-swapped : (x y : Scalar) → scalar_equal x y ≡ scalar_equal y x
unfolding scalar_equal same_class
match-swapped x y = ap₂ ◌&&◌ (same_number (rank x).class (rank y).class) (rank-flipped (rank x) (rank y))

-- ---- adding an entry

-- nothing was found in the first entry, nor in the rest
pub not_found : (x : Scalar) (k : Key) (v : Value) (es : Entries) → (find x (entry k v es)).1 ≡ None
    → (scalar_equal x (key_scalar k) ≡ false) × ((find x es).1 ≡ None)
unfolding find tick
not_found x k v es e = go (scalar_equal x (key_scalar k)) e
  where
    go : (t : Bool) → (cond t (0, Some v) (find x es)).1 ≡ None → (t ≡ false) × ((find x es).1 ≡ None)
    go true h = absurd (let z : ◌≡◌ {A = ℕ} 0 1 = cc in omega arith)
    go false h = (refl, h)

still-not-found : (x : Scalar) (k : Key) (v : Value) (es : Entries) → scalar_equal x (key_scalar k) ≡ false → (find x es).1 ≡ None
    → (find x (add_entry es k v)).1 ≡ None
unfolding find tick add_entry
still-not-found x k v empty e f = rw e
still-not-found x k v (entry j w es) e f = go (scalar_equal x (key_scalar j)) f (still-not-found x k v es e)
  where
    go : (t : Bool) → (cond t (0, Some w) (find x es)).1 ≡ None → ((find x es).1 ≡ None → (find x (add_entry es k v)).1 ≡ None)
        → (cond t (0, Some w) (find x (add_entry es k v))).1 ≡ None
    go true h below = h
    go false h below = below h

-- A key that no entry has stays unfound when an entry is added that it does not match, from whichever side that was tested.
pub added-not-found : (j k : Key) (v : Value) (es : Entries) → scalar_equal (key_scalar k) (key_scalar j) ≡ false → (find (key_scalar j) es).1 ≡ None
    → (find (key_scalar j) (add_entry es k v)).1 ≡ None
added-not-found j k v es e f = still-not-found (key_scalar j) k v es (match-swapped (key_scalar j) (key_scalar k) ∙ e) f
