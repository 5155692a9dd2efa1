-- Where an index falls in a list. Assumes nothing.
use Prim.Native.Nat.{ℕ, ◌<◌}
use mathlib.Core.Path.{◌≡◌, refl}
use mathlib.Core.Bool.{true, false, true≢false}
use native.Mathlib.Omega.{arith}
use lib.IntN.{ℤ, pos, negsuc, nat_abs}
use lib.Signed.{lt_z}
use borrow.Author.Tests.{ltb-true}
use Rattle.rooms_text.specs.declared.sizes.Position.TheVariants as Position
use Rattle.rooms_text.specs.Sizes.{inside, inside_int}

pub negative-outside : (z : ℤ) (n : ℕ) → lt_z z (pos 0) ≡ true → Position.Outside ≡ inside_int z n
negative-outside (pos m) n t = absurd (never m (ltb-true m 0 t))
  where
    never : (m : ℕ) → m < 0 → ⊥
    never m h = omega arith
negative-outside (negsuc m) n t = refl

pub positive-inside : (z : ℤ) (n : ℕ) → lt_z z (pos 0) ≡ false → inside (nat_abs z) n ≡ inside_int z n
positive-inside (pos m) n t = refl
positive-inside (negsuc m) n t = absurd (true≢false t)
