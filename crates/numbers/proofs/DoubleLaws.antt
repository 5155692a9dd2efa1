-- A Double and its bits: the tests of the code, that bits and Double give each other back, and what each operation gives. Assumes nothing.
use mathlib.Core.Path.{◌≡◌, refl, sym, ap, ◌∙◌, subst}
use mathlib.Core.Bool.{Bool, true, false, not, cond, true≢false}
use Prim.Native.Nat.{ℕ, ◌%◌, ◌^◌, ◌≤◌, ◌<◌}
use lib.Dec.{T}
use lib.Ieee as Ieee
use lib.Ieee.{Float, nan, inf, fin, binary64, to_bits, of_bits, nan_bits, fits, ne, div}
use lib.Ieee.Bits.{of_bits-fits, nan_bits_above, nan_bits_is, to_bits-of_bits, of_bits-to_bits}
use lib.Ieee.Compare.{differs_from_itself, nan_differs}
use borrow.Author.Tests.{lt-ltb, le-ltb}
use Rattle.numbers.specs.declared.double.Double.{Double}
use Rattle.numbers.specs.declared.double.Double.TheVariants.{Plain, Nan}
use Rattle.numbers.specs.Double.{arithmetic_nan, add_bits, sub_bits, mul_bits, div_bits, neg_bits, bits_of, is_nan, double_of, add_of, sub_of, mul_of, div_of, neg_of, Proper}

-- ---- the tests of the code

pub nan-test : (b : ℕ) → 9218868437227405312 < b % 9223372036854775808 → is_nan b ≡ true
nan-test b h = lt-ltb 9218868437227405312 (b % 9223372036854775808) h

pub no-nan-test : (b : ℕ) → b % 9223372036854775808 ≤ 9218868437227405312 → is_nan b ≡ false
no-nan-test b h = le-ltb 9218868437227405312 (b % 9223372036854775808) h

-- the kit's test of a pattern is ours
pub nan_is : (b : ℕ) → nan_bits binary64 b ≡ is_nan b
nan_is b = nan_bits_above binary64 b

pub no-pattern : (b : ℕ) → is_nan b ≡ false → T (not (nan_bits binary64 b))
no-pattern b e = subst (λ (t : Bool). T (not t)) (sym (nan_is b ∙ e)) tt

pub is-nan : (x : Float) → Ieee.is_nan x ≡ true → x ≡ nan
unfolding Ieee.is_nan
is-nan nan e = refl
is-nan (inf s) e = absurd (true≢false (sym e))
is-nan (fin s m e) h = absurd (true≢false (sym h))

pub nan-of : (b : ℕ) → is_nan b ≡ true → of_bits binary64 b ≡ nan
nan-of b e = is-nan (of_bits binary64 b) (sym (nan_bits_is binary64 b) ∙ nan_is b ∙ e)

pub nan-back : of_bits binary64 arithmetic_nan ≡ nan
nan-back = nan-of arithmetic_nan refl

pub zero-over-zero : div binary64 (of_bits binary64 0) (of_bits binary64 0) ≡ nan
unfolding div of_bits
zero-over-zero = refl

pub differs : (x : Float) → ne x x ≡ true → x ≡ nan
differs x e = differs_from_itself x (subst T (sym e) tt)

pub same-no-nan : (x : Float) → ne x x ≡ false → Ieee.is_nan x ≡ false
unfolding Ieee.is_nan
same-no-nan nan e = absurd (true≢false (sym nan_differs ∙ e))
same-no-nan (inf s) e = refl
same-no-nan (fin s m e) h = refl

pub nan-bits : to_bits binary64 nan ≡ arithmetic_nan
unfolding to_bits
nan-bits = refl

pub bits-of-nan : (x : Float) → Ieee.is_nan x ≡ true → to_bits binary64 x ≡ arithmetic_nan
bits-of-nan x e = ap (to_bits binary64) (is-nan x e) ∙ nan-bits

-- ---- the Double of a float

pub double-of-nan : (x : Float) → Ieee.is_nan x ≡ true → double_of (to_bits binary64 x) ≡ Nan arithmetic_nan
unfolding double_of
double-of-nan x e = ap double_of (bits-of-nan x e)

pub double-of-plain : (x : Float) → T (fits binary64 x) → Ieee.is_nan x ≡ false → double_of (to_bits binary64 x) ≡ Plain x
unfolding double_of
double-of-plain x f e =
    let back = of_bits-to_bits binary64 x f in
    let k : is_nan (to_bits binary64 x) ≡ false = sym (nan_is (to_bits binary64 x)) ∙ nan_bits_is binary64 (to_bits binary64 x) ∙ ap Ieee.is_nan back ∙ e in
    rw (k, back)

-- ---- bits and Double give each other back

-- Every one of the 2 ^ 64 patterns is a Double's: from bits to a Double and back changes nothing.
pub bits_back : (b : ℕ) → b < 2 ^ 64 → bits_of (double_of b) ≡ b
unfolding double_of
bits_back b h = go (is_nan b) (λ (n : is_nan b ≡ false). to_bits-of_bits binary64 b h (subst (λ (t : Bool). T (not t)) (sym n ∙ sym (nan_is b) ∙ nan_bits_is binary64 b) tt))
  where
    go : (t : Bool) → (t ≡ false → to_bits binary64 (of_bits binary64 b) ≡ b) → bits_of (cond t (Nan b) (Plain (of_bits binary64 b))) ≡ b
    go true k = refl
    go false k = k refl

-- `double_of` gives no other, so no function does.
pub proper : (b : ℕ) → Proper (double_of b)
unfolding double_of Ieee.is_nan
proper b = go (is_nan b) refl
  where
    same : is_nan b ≡ false → (t : Bool) → (t ≡ true → of_bits binary64 b ≡ nan) → t ≡ false
    same e true k = absurd (true≢false (ap Ieee.is_nan (sym (k refl)) ∙ sym (nan_bits_is binary64 b) ∙ nan_is b ∙ e))
    same e false k = refl

    go : (t : Bool) → is_nan b ≡ t → Proper (cond t (Nan b) (Plain (of_bits binary64 b)))
    go true e = e
    go false e = (of_bits-fits binary64 b, same e (ne (of_bits binary64 b) (of_bits binary64 b)) (differs (of_bits binary64 b)))

-- From a Double so spelled to bits and back changes nothing.
pub double-back : (d : Double) → Proper d → double_of (bits_of d) ≡ d
double-back (Plain x) p = double-of-plain x p.0 (same-no-nan x p.1)
double-back (Nan b) p = unfold double_of in rw p

-- ---- what each operation gives, by the bits

pub add_is : (x y : Double) → add_of x y ≡ double_of (add_bits (bits_of x) (bits_of y))
unfolding add_of
add_is x y = refl

pub sub_is : (x y : Double) → sub_of x y ≡ double_of (sub_bits (bits_of x) (bits_of y))
unfolding sub_of
sub_is x y = refl

pub mul_is : (x y : Double) → mul_of x y ≡ double_of (mul_bits (bits_of x) (bits_of y))
unfolding mul_of
mul_is x y = refl

pub div_is : (x y : Double) → div_of x y ≡ double_of (div_bits (bits_of x) (bits_of y))
unfolding div_of
div_is x y = refl

pub neg_is : (x : Double) → neg_of x ≡ double_of (neg_bits (bits_of x))
unfolding neg_of
neg_is x = refl

-- what is so of both spellings is so of what the bits are spelled as
pub double-either : (P : Double → Type 0) (b : ℕ) → P (Nan b) → P (Plain (of_bits binary64 b)) → P (double_of b)
unfolding double_of
double-either P b h k = go (is_nan b)
  where
    go : (t : Bool) → P (cond t (Nan b) (Plain (of_bits binary64 b)))
    go true = h
    go false = k
