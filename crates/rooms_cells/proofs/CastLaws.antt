-- The casts between an Int and its word are the definition's two's complement. Assumes nothing.
use Prim.Native.Nat.{ℕ, suc, ◌+◌, ◌-◌, ◌<◌, ◌^◌}
use mathlib.Core.Path.{◌≡◌, refl, ap}
use mathlib.Core.Bool.{Bool, true, false, cond}
use native.Mathlib.Omega.{arith}
use lib.Dec.{ltb}
use lib.IntN.{ℤ, pos, negsuc}
use mir.Syntax.{w64}
use mir.Val.{of_z, to_z, sel}
use Rattle.rooms.specs.Cells.{word_of, signed_of}

pub word_cast : (z : ℤ) → of_z w64 z ≡ word_of z
unfolding word_of
word_cast (pos n) = refl
word_cast (negsuc n) = omega arith

pub signed_cast : (w : ℕ) → to_z w64 w ≡ signed_of w
unfolding signed_of
signed_cast w = go (ltb w (2 ^ 63))
  where
    go : (b : Bool) → sel b (pos w) (negsuc (2 ^ 64 - suc w)) ≡ cond b (pos w) (negsuc (2 ^ 64 - 1 - w))
    go true = refl
    go false = ap negsuc (omega arith)
