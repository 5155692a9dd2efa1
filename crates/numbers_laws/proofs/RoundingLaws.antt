-- The arithmetic that the contracts cite is the one that specs/Rounding.antt states, and there is no second answer. Assumes nothing.
use mathlib.Core.Path.{◌≡◌, refl, sym, ap, ◌∙◌, subst}
use mathlib.Core.Bool.{Bool, true, false}
use Prim.Native.Nat.{ℕ, zero, suc, ◌^◌, ◌<◌, zero-le, suc-le-suc}
use lib.Dec.{T}
use lib.Pow.{pow_pos}
use lib.Ieee as Ieee
use lib.Ieee.{Float, inf, fin, binary64, to_bits, of_bits, fits, add, sub, mul, div, neg}
use lib.Ieee.Bits.{to_bits-lt, of_bits-fits}
use lib.Ieee.Fits.{add-fits, sub-fits, mul-fits, div-fits, neg-fits}
use Rattle.numbers.specs.declared.double.Double.{Double}
use Rattle.numbers.specs.Double.{bits_of, add_of, sub_of, mul_of, div_of, neg_of, Point, nan, infinite, finite, point_of, is_nan, add_bits, sub_bits, mul_bits, div_bits, neg_bits}
use Rattle.numbers_laws.specs.Rounding.{or_infinite, Rounded, Sum, negated, Difference, Product, Quotient, Negation, Answer}
use Rattle.numbers_laws.proofs.BitsOne.{bits-one}
use Rattle.numbers.proofs.DoubleLaws.{nan-bits, bits_back}
use Rattle.numbers_laws.proofs.NearestOne.{one-nearest}
use Rattle.numbers_laws.proofs.PointLaws.{nan-point}
use Rattle.numbers_laws.proofs.ProductPoints.{mul-points, div-points}
use Rattle.numbers_laws.proofs.Stands.{Stands, stands_one, bits-stand, float-stands}
use Rattle.numbers_laws.proofs.SumPoints.{add-points, sub-points, neg-stands}

-- ---- the answers are right

abbrev IsNan : Point → Type 0
IsNan nan = Unit {0}
IsNan (infinite s) = ⊥
IsNan (finite s a) = ⊥

nan-only : (x : Float) (r : Point) → Stands x r → IsNan r → x ≡ Ieee.nan
nan-only Ieee.nan r h k = refl
nan-only (inf s) r h k = absurd (subst IsNan h k)
nan-only (fin s m e) r (a, h, u) k = absurd (subst IsNan h k)

-- the bits of a float that arithmetic gave
answer : (Right : Point → Type 0) (x : Float) → T (fits binary64 x) → Right (point_of (to_bits binary64 x)) → Answer Right (to_bits binary64 x)
answer Right x f right = record {
  fits = to_bits-lt binary64 x f;
  right = right;
  one_nan = λ e. ap (to_bits binary64) (nan-only x (point_of (to_bits binary64 x)) (float-stands x f) (subst IsNan (sym e) tt)) ∙ nan-bits;
}

-- Each operation gives the exact result rounded once, to nearest and ties to even, with its sign; a NaN is always the one NaN.
pub add_right : (p q : ℕ) → Answer (Sum (point_of p) (point_of q)) (add_bits p q)
unfolding add_bits
add_right p q =
    let x = of_bits binary64 p in
    let y = of_bits binary64 q in
    let f = add-fits binary64 x y in
    answer (Sum (point_of p) (point_of q)) (add binary64 x y) f (add-points x y (point_of p) (point_of q) _ (bits-stand p) (bits-stand q) (float-stands _ f))

pub sub-right : (p q : ℕ) → Answer (Difference (point_of p) (point_of q)) (sub_bits p q)
unfolding sub_bits
sub-right p q =
    let x = of_bits binary64 p in
    let y = of_bits binary64 q in
    let f = sub-fits binary64 x y in
    answer (Difference (point_of p) (point_of q)) (sub binary64 x y) f (sub-points x y (point_of p) (point_of q) _ (bits-stand p) (bits-stand q) (float-stands _ f))

pub mul_right : (p q : ℕ) → Answer (Product (point_of p) (point_of q)) (mul_bits p q)
unfolding mul_bits
mul_right p q =
    let x = of_bits binary64 p in
    let y = of_bits binary64 q in
    let f = mul-fits binary64 x y in
    answer (Product (point_of p) (point_of q)) (mul binary64 x y) f (mul-points x y (point_of p) (point_of q) _ (bits-stand p) (bits-stand q) (float-stands _ f))

pub div-right : (p q : ℕ) → Answer (Quotient (point_of p) (point_of q)) (div_bits p q)
unfolding div_bits
div-right p q =
    let x = of_bits binary64 p in
    let y = of_bits binary64 q in
    let f = div-fits binary64 x y in
    answer (Quotient (point_of p) (point_of q)) (div binary64 x y) f (div-points x y (point_of p) (point_of q) _ (bits-stand p) (bits-stand q) (float-stands _ f))

pub neg_right : (p : ℕ) → Answer (Negation (point_of p)) (neg_bits p)
unfolding neg_bits
neg_right p =
    let x = of_bits binary64 p in
    let f = neg-fits binary64 x (of_bits-fits binary64 p) in
    answer (Negation (point_of p)) (neg x) f (stands_one (neg x) _ (negated (point_of p)) (float-stands (neg x) f) (neg-stands x (point_of p) (bits-stand p)))

-- ---- and no others are

abbrev One : (Point → Type 0) → Type 0
One Right = (r q : Point) → Right r → Right q → r ≡ q

-- Two answers to one question are the same 64 bits.
pub one_answer : (Right : Point → Type 0) → One Right → (b c : ℕ) → Answer Right b → Answer Right c → b ≡ c
one_answer Right one b c B C = go (is_nan b) (is_nan c) (nan-point b) (nan-point c) (bits-one b c B.fits C.fits)
  where
    same : point_of b ≡ point_of c
    same = one (point_of b) (point_of c) B.right C.right

    go : (n m : Bool) → (n ≡ true → point_of b ≡ nan) → (m ≡ true → point_of c ≡ nan) → (n ≡ false → m ≡ false → point_of b ≡ point_of c → b ≡ c) → b ≡ c
    go true m p q k = B.one_nan (p refl) ∙ sym (C.one_nan (sym same ∙ p refl))
    go false true p q k = B.one_nan (same ∙ q refl) ∙ sym (C.one_nan (q refl))
    go false false p q k = k refl refl same

rounded-one : (s : Bool) (n den : ℕ) → 0 < den → One (Rounded s n den)
rounded-one s n den D r q R Q = R.point ∙ ap (or_infinite s) (one-nearest n den R.size Q.size D R.nearest Q.nearest) ∙ sym Q.point

equal-one : (p : Point) → One (λ (r : Point). r ≡ p)
equal-one p r q h k = h ∙ sym k

pub sum_one : (x y : Point) → One (Sum x y)
sum_one nan y = equal-one nan
sum_one (infinite s) nan = equal-one _
sum_one (infinite s) (infinite t) = equal-one _
sum_one (infinite s) (finite t b) = equal-one _
sum_one (finite s a) nan = equal-one _
sum_one (finite s a) (infinite t) = equal-one _
sum_one (finite s a) (finite t b) = rounded-one _ _ 1 (suc-le-suc zero-le)

pub difference-one : (x y : Point) → One (Difference x y)
difference-one x y = sum_one x (negated y)

pub product-one : (x y : Point) → One (Product x y)
product-one nan y = equal-one _
product-one (infinite s) nan = equal-one _
product-one (infinite s) (infinite t) = equal-one _
product-one (infinite s) (finite t zero) = equal-one _
product-one (infinite s) (finite t (suc b)) = equal-one _
product-one (finite s a) nan = equal-one _
product-one (finite s zero) (infinite t) = equal-one _
product-one (finite s (suc a)) (infinite t) = equal-one _
product-one (finite s a) (finite t b) = rounded-one _ _ (2 ^ 1074) (pow_pos 1074)

pub quotient-one : (x y : Point) → One (Quotient x y)
quotient-one nan y = equal-one _
quotient-one (infinite s) nan = equal-one _
quotient-one (infinite s) (infinite t) = equal-one _
quotient-one (infinite s) (finite t b) = equal-one _
quotient-one (finite s a) nan = equal-one _
quotient-one (finite s a) (infinite t) = equal-one _
quotient-one (finite s zero) (finite t zero) = equal-one _
quotient-one (finite s (suc a)) (finite t zero) = equal-one _
quotient-one (finite s a) (finite t (suc b)) = rounded-one _ _ (suc b) (suc-le-suc zero-le)

pub negation-one : (x : Point) → One (Negation x)
negation-one x = equal-one (negated x)

-- ---- so each operation's answer is the only one, and the bits of a Double's answer are it

pub add-only : (p q b : ℕ) → Answer (Sum (point_of p) (point_of q)) b → b ≡ add_bits p q
add-only p q b given = one_answer _ (sum_one (point_of p) (point_of q)) b (add_bits p q) given (add_right p q)

pub sub-only : (p q b : ℕ) → Answer (Difference (point_of p) (point_of q)) b → b ≡ sub_bits p q
sub-only p q b given = one_answer _ (difference-one (point_of p) (point_of q)) b (sub_bits p q) given (sub-right p q)

pub mul-only : (p q b : ℕ) → Answer (Product (point_of p) (point_of q)) b → b ≡ mul_bits p q
mul-only p q b given = one_answer _ (product-one (point_of p) (point_of q)) b (mul_bits p q) given (mul_right p q)

pub div-only : (p q b : ℕ) → Answer (Quotient (point_of p) (point_of q)) b → b ≡ div_bits p q
div-only p q b given = one_answer _ (quotient-one (point_of p) (point_of q)) b (div_bits p q) given (div-right p q)

pub neg-only : (p b : ℕ) → Answer (Negation (point_of p)) b → b ≡ neg_bits p
neg-only p b given = one_answer _ (negation-one (point_of p)) b (neg_bits p) given (neg_right p)

pub add-bits : (x y : Double) → bits_of (add_of x y) ≡ add_bits (bits_of x) (bits_of y)
unfolding add_of
add-bits x y = bits_back (add_bits (bits_of x) (bits_of y)) (add_right (bits_of x) (bits_of y)).fits

pub sub-bits : (x y : Double) → bits_of (sub_of x y) ≡ sub_bits (bits_of x) (bits_of y)
unfolding sub_of
sub-bits x y = bits_back (sub_bits (bits_of x) (bits_of y)) (sub-right (bits_of x) (bits_of y)).fits

pub mul-bits : (x y : Double) → bits_of (mul_of x y) ≡ mul_bits (bits_of x) (bits_of y)
unfolding mul_of
mul-bits x y = bits_back (mul_bits (bits_of x) (bits_of y)) (mul_right (bits_of x) (bits_of y)).fits

pub div-bits : (x y : Double) → bits_of (div_of x y) ≡ div_bits (bits_of x) (bits_of y)
unfolding div_of
div-bits x y = bits_back (div_bits (bits_of x) (bits_of y)) (div-right (bits_of x) (bits_of y)).fits

pub neg_bits_lem : (x : Double) → bits_of (neg_of x) ≡ neg_bits (bits_of x)
unfolding neg_of
neg_bits_lem x = bits_back (neg_bits (bits_of x)) (neg_right (bits_of x)).fits
