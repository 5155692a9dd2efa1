-- A text of n bytes has at most n code points. Assumes nothing.
use Prim.Native.Nat.{ℕ, ◌≤◌}
use mathlib.Core.List.{List}
use native.Mathlib.Omega.{arith}
use lib.ListN.{take, drop, length-take}
use Rattle.text.specs.Utf8.{code_points}
use Rattle.text.proofs.Utf8Laws.{code-points-length}

pub points-small : (xs : List ℕ) (a n : ℕ) → code_points (take n (drop a xs)) ≤ n
points-small xs a n = omega (arith, code-points-length (take n (drop a xs)), length-take n (drop a xs))
