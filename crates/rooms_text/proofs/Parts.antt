-- The steps of `part`, and what a part of a list is. Assumes nothing.
use Prim.Native.Nat.{ℕ, ◌+◌, ◌-◌, ◌≤◌}
use mathlib.Core.Path.{◌≡◌, sym, ap, ◌∙◌}
use mathlib.Core.List.{List}
use native.Mathlib.Omega.{arith}
use lib.ListN.{length, take, drop, length-drop, drop_of_length-le}
use lib.Seq.{take_all, take-nil, drop-length}
use Rattle.rooms.specs.Rooms.{part}

pub part-past : (l : List ℕ) (a n : ℕ) → length l ≤ a → take (length l - length l) (drop (length l) l) ≡ part l a n
part-past l a n h = ap (take (length l - length l)) (drop-length l) ∙ take-nil (length l - length l) ∙ sym (ap (take n) (drop_of_length-le l h) ∙ take-nil n)

pub part-rest : (l : List ℕ) (a n : ℕ) → length l - a ≤ n → take (length l - a) (drop a l) ≡ part l a n
part-rest l a n h = take_all (length l - a) (drop a l) (omega (arith, length-drop a l)) ∙ sym (take_all n (drop a l) (omega (arith, length-drop a l)))

pub part-inside : (l : List ℕ) (a n : ℕ) → take (a + n - a) (drop a l) ≡ part l a n
part-inside l a n = ap (λ k. take k (drop a l)) (back a n)
  where
    back : (a n : ℕ) → a + n - a ≡ n
    back a n = omega arith
