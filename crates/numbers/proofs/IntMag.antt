-- An integer and its magnitude: from one to the other, as code goes. Assumes nothing.
use mathlib.Core.Path.{◌≡◌, refl, sym, ap}
use mathlib.Core.Bool.{true, false, true≢false}
use Prim.Native.Nat.{ℕ, zero, suc, ◌+◌, ◌-◌, ◌^◌, ◌≤◌, ◌<◌}
use native.Mathlib.Omega.{arith}
use native.Mathlib.Numerals.{add-one}
use lib.IntN.{ℤ, pos, negsuc, neg_ℤ, suc_ℤ, pred_ℤ, nat_abs, ◌+ℤ◌, ◌-ℤ◌, +ℤ_one, +ℤ_idl}
use lib.Signed.{mag, lt_z}
use borrow.Author.Tests.{ltb-true}
use mir.Syntax.{w64}
use mir.Val.{SFits, to_z, of_z}
use mir.ValLaws.{to_z-of_z, to_z_pos}
use borrow.Author.Rules.{sfits_of}

pub not-below : (n : ℕ) → n < 0 → ⊥
not-below n h = omega arith

pub suc-in : (a : ℤ) → mag a < 2 ^ 63 → lt_z a (pos 0) ≡ true → SFits w64 (suc_ℤ a)
suc-in (pos n) h t = absurd (not-below n (ltb-true n 0 t))
suc-in (negsuc zero) h t = sfits_of h
suc-in (negsuc (suc n)) h t = sfits_of (omega arith)

pub flip_is : (a : ℤ) → lt_z a (pos 0) ≡ true → neg_ℤ (suc_ℤ a) ≡ pos (mag a)
flip_is (pos n) t = absurd (not-below n (ltb-true n 0 t))
flip_is (negsuc zero) t = refl
flip_is (negsuc (suc n)) t = refl

-- the size of a negative number, as the code finds it
pub flipped : (a : ℤ) → SFits w64 a → SFits w64 (suc_ℤ a) → lt_z a (pos 0) ≡ true → to_z w64 (of_z w64 (pos 0 -ℤ to_z w64 (of_z w64 (to_z w64 (of_z w64 a) +ℤ pos 1)))) ≡ pos (mag a)
flipped a h n t = rw (to_z-of_z w64 a h, +ℤ_one a, to_z-of_z w64 (suc_ℤ a) n, +ℤ_idl (neg_ℤ (suc_ℤ a)), flip_is a t) (to_z_pos w64 (mag a) h.sfits)

pub abs-negative : (a : ℤ) → lt_z a (pos 0) ≡ true → nat_abs a ≡ mag a + 1
abs-negative (pos n) t = absurd (not-below n (ltb-true n 0 t))
abs-negative (negsuc n) t = sym (add-one n)

pub is_positive : (a : ℤ) → lt_z a (pos 0) ≡ false → a ≡ pos (nat_abs a)
is_positive (pos n) t = refl
is_positive (negsuc n) t = absurd (true≢false t)

pub abs-le : (a : ℤ) → mag a < 2 ^ 63 → nat_abs a ≤ 2 ^ 63
abs-le (pos n) h = omega arith
abs-le (negsuc n) h = omega arith

-- -(k) - 1, for m = k + 1
pub pred-neg : (k : ℕ) → pred_ℤ (neg_ℤ (pos k)) ≡ negsuc k
pred-neg zero = refl
pred-neg (suc k) = refl

pub neg-in : (k : ℕ) → k < 2 ^ 63 → SFits w64 (neg_ℤ (pos k))
neg-in zero h = sfits_of h
neg-in (suc k) h = sfits_of (omega arith)

-- 0 - k
pub minus : (k : ℕ) → k < 2 ^ 63 → to_z w64 (of_z w64 (pos 0 -ℤ to_z w64 k)) ≡ neg_ℤ (pos k)
minus k h = rw (to_z_pos w64 k h, +ℤ_idl (neg_ℤ (pos k))) (to_z-of_z w64 (neg_ℤ (pos k)) (neg-in k h))

pub neg-suc : (m : ℕ) → 0 < m → neg_ℤ (pos m) ≡ negsuc (m - 1)
neg-suc zero h = absurd (not-below zero h)
neg-suc (suc m) h = ap negsuc (less m)
  where
    less : (m : ℕ) → m ≡ suc m - 1
    less m = omega arith
