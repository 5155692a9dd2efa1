-- Whole numbers on the number line: they compare as signed sizes, and Int and Uint are equal exactly if they are one number. Assumes nothing.
use mathlib.Core.Path.{◌≡◌, refl, sym, ap, ◌∙◌}
use mathlib.Core.Bool.{Bool, true, false, true≢false}
use Prim.Native.Nat.{ℕ, suc, ◌+◌, ◌*◌, ◌^◌, ◌<◌}
use native.Mathlib.Nat.{mul-lt-mul_of_pos_right, zero-mul}
use native.Mathlib.Omega.{arith}
use lib.IntN.{ℤ, pos, negsuc, nat_abs}
use lib.Pow.{pow_pos}
use lib.Signed.{lt_z}
use mir.Syntax.{w64}
use mir.Val.{SFits, to_z, of_z}
use mir.ValLaws.{to_z-of_z}
use borrow.Author.Tests.{le-ltb}
use Rattle.std.specs.Prelude.{Some}
use Rattle.std.specs.declared.cmp.Ordering.{Ordering}
use Rattle.std.specs.declared.cmp.Ordering.TheVariants.{Less, Equal, Greater}
use Rattle.numbers.specs.Order.{signed_order, order_of, whole_point, below_zero, int_point, uint_point, is_equal}
use Rattle.numbers_laws.proofs.OrderLaws.{order-swap}
use Rattle.numbers_laws.proofs.SignedOrder.{SaysSigned, signed-says, signed_is, signed-map}

-- Whole numbers compare as signed sizes: the unit takes no part.
pub whole-order : (s : Bool) (a : ℕ) (t : Bool) (b : ℕ) → order_of (whole_point s a) (whole_point t b) ≡ Some (signed_order s a t b)
unfolding order_of whole_point
whole-order s a t b = ap Some (signed-map (λ (n : ℕ). n * 2 ^ 1074) (zero-mul (2 ^ 1074)) (λ (m n : ℕ) h. mul-lt-mul_of_pos_right h (pow_pos 1074)) s a t b)

pub uint-less : (m n : ℕ) → m < n → order_of (uint_point m) (uint_point n) ≡ Some Less
uint-less m n h = whole-order false m false n ∙ ap Some (signed_is Less false m false n h)

pub uint-greater : (m n : ℕ) → n < m → order_of (uint_point m) (uint_point n) ≡ Some Greater
uint-greater m n h = whole-order false m false n ∙ ap Some (signed_is Greater false m false n h)

-- ---- equal numbers of unlike kinds

equal-says : (s : Bool) (a : ℕ) (t : Bool) (b : ℕ) → is_equal (Some (signed_order s a t b)) ≡ true → SaysSigned Equal s a t b
equal-says s a t b e = go (signed_order s a t b) (signed-says s a t b) e
  where
    go : (o : Ordering) → SaysSigned o s a t b → is_equal (Some o) ≡ true → SaysSigned Equal s a t b
    go Less h e = absurd (true≢false (sym e))
    go Equal h e = h
    go Greater h e = absurd (true≢false (sym e))

no-sum : (a b : ℕ) → suc a + b ≡ 0 → ⊥
no-sum a b h = omega arith

no_other : (a b : ℕ) → a + suc b ≡ 0 → ⊥
no_other a b h = omega arith

-- An Int equals a Uint exactly if it is that number.
pub int-uint-equal : (n : ℕ) → order_of (int_point (pos n)) (uint_point n) ≡ Some Equal
int-uint-equal n = whole-order false n false n ∙ ap Some (signed_is Equal false n false n refl)

pub int-uint-only : (z : ℤ) (n : ℕ) → is_equal (order_of (int_point z) (uint_point n)) ≡ true → z ≡ pos n
int-uint-only (pos m) n e = ap pos (equal-says false m false n (ap is_equal (sym (whole-order false m false n)) ∙ e))
int-uint-only (negsuc m) n e = absurd (no-sum m n (equal-says true (suc m) false n (ap is_equal (sym (whole-order true (suc m) false n)) ∙ e)))

-- Two Ints, and two Uints, are equal exactly if they are the same.
pub uint-only : (m n : ℕ) → is_equal (order_of (uint_point m) (uint_point n)) ≡ true → m ≡ n
uint-only m n e = equal-says false m false n (ap is_equal (sym (whole-order false m false n)) ∙ e)

pub int-only : (a b : ℤ) → is_equal (order_of (int_point a) (int_point b)) ≡ true → a ≡ b
int-only (pos a) (pos b) e = ap pos (equal-says false a false b (ap is_equal (sym (whole-order false a false b)) ∙ e))
int-only (pos a) (negsuc b) e = absurd (no_other a b (equal-says false a true (suc b) (ap is_equal (sym (whole-order false a true (suc b))) ∙ e)))
int-only (negsuc a) (pos b) e = absurd (no-sum a b (equal-says true (suc a) false b (ap is_equal (sym (whole-order true (suc a) false b)) ∙ e)))
int-only (negsuc a) (negsuc b) e = ap negsuc (same a b (equal-says true (suc a) true (suc b) (ap is_equal (sym (whole-order true (suc a) true (suc b))) ∙ e)))
  where
    same : (a b : ℕ) → suc b ≡ suc a → a ≡ b
    same a b h = omega arith

-- ---- an Int as the code hands it on: whether it is below zero, and its size

pub int-below : (z : ℤ) → SFits w64 z → lt_z (to_z w64 (of_z w64 z)) (pos 0) ≡ below_zero z
int-below z k = ap (λ (x : ℤ). lt_z x (pos 0)) (to_z-of_z w64 z k) ∙ go z
  where
    go : (z : ℤ) → lt_z z (pos 0) ≡ below_zero z
    go (pos n) = le-ltb n 0 (omega arith)
    go (negsuc n) = refl

pub int-size : (z : ℤ) (n : ℕ) → SFits w64 z → n ≡ nat_abs (to_z w64 (of_z w64 z)) → n ≡ nat_abs z
int-size z n k e = e ∙ ap nat_abs (to_z-of_z w64 z k)

-- what compares two kinds
pub ruleset kinds = (whole-order, order-swap)
