-- What `quot_z` and `rem_z`, which Int.antt of numbers cites, mean: sizes divided and cut to a whole number, with their signs. Assumes nothing.
use mathlib.Core.Path.{◌≡◌, refl, sym, ap, ◌∙◌}
use Prim.Native.Nat.{ℕ, zero, suc, ◌+◌, ◌*◌, ◌/◌, ◌%◌}
use native.Mathlib.Nat.{div-add-mod', zero-mul}
use lib.IntN.{ℤ, pos, negsuc, neg_ℤ, nat_abs, ◌+ℤ◌, ◌*ℤ◌, neg_ℤ-+ℤ}
use lib.Signed.{quot_z, rem_z}
use Rattle.numbers.specs.Order.{below_zero}
use Rattle.numbers_laws.specs.Rounding.{unlike, signed}

-- The quotient's size is that of the dividend over that of the divisor, rounded down, so it is rounded toward zero; unlike signs make it negative.
pub quotient_is : (a b : ℤ) → quot_z a b ≡ signed (unlike (below_zero a) (below_zero b)) (nat_abs a / nat_abs b)
quotient_is (pos a) (pos b) = refl
quotient_is (pos a) (negsuc b) = refl
quotient_is (negsuc a) (pos b) = refl
quotient_is (negsuc a) (negsuc b) = refl

-- The remainder's size is what that division leaves, and its sign is the dividend's.
pub remainder_is : (a b : ℤ) → rem_z a b ≡ signed (below_zero a) (nat_abs a % nat_abs b)
remainder_is (pos a) b = refl
remainder_is (negsuc a) b = refl

neg-times-neg : (k b : ℕ) → neg_ℤ (pos k) *ℤ negsuc b ≡ pos (k * suc b)
neg-times-neg zero b = ap (λ (n : ℕ). neg_ℤ (pos n)) (zero-mul (suc b)) ∙ ap pos (sym (zero-mul (suc b)))
neg-times-neg (suc k) b = refl

neg-times-pos : (k b : ℕ) → neg_ℤ (pos k) *ℤ pos b ≡ neg_ℤ (pos (k * b))
neg-times-pos zero b = ap pos (zero-mul b) ∙ sym (ap (λ (n : ℕ). neg_ℤ (pos n)) (zero-mul b))
neg-times-pos (suc k) b = refl

neg-plus-neg : (a b : ℕ) → neg_ℤ (pos a) +ℤ neg_ℤ (pos b) ≡ neg_ℤ (pos (a + b))
neg-plus-neg a b = sym (neg_ℤ-+ℤ (pos a) (pos b))

-- The dividend is the quotient times the divisor, and the remainder.
pub division : (a b : ℤ) → a ≡ quot_z a b *ℤ b +ℤ rem_z a b
division (pos a) (pos b) = ap pos (sym (div-add-mod' a b))
division (pos a) (negsuc b) =
    ap pos (sym (div-add-mod' a (suc b)))
    ∙ ap (λ (z : ℤ). z +ℤ pos (a % suc b)) (sym (neg-times-neg (a / suc b) b))
division (negsuc a) (pos b) =
    ap (λ (n : ℕ). neg_ℤ (pos n)) (sym (div-add-mod' (suc a) b))
    ∙ sym (neg-plus-neg (suc a / b * b) (suc a % b))
    ∙ ap (λ (z : ℤ). z +ℤ neg_ℤ (pos (suc a % b))) (sym (neg-times-pos (suc a / b) b))
division (negsuc a) (negsuc b) =
    ap (λ (n : ℕ). neg_ℤ (pos n)) (sym (div-add-mod' (suc a) (suc b)))
    ∙ sym (neg-plus-neg (suc a / suc b * suc b) (suc a % suc b))
