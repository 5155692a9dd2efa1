-- lib.Ieee's product and quotient are the `Product` and `Quotient` of specs/Rounding.antt. Assumes nothing.
use mathlib.Core.Path.{◌≡◌, refl, sym, ap, ◌∙◌, subst}
use mathlib.Core.Bool.{true, false}
use Prim.Native.Nat.{ℕ, zero, suc, ◌*◌, ◌<◌, zero-le, suc-le-suc}
use native.Mathlib.Nat.{mul_comm, mul_assoc, mul_right_comm, mul-pos, zero-mul, lt_irrefl}
use lib.Dec.{eqb}
use lib.IntN.{ℤ, pos}
use lib.Pow.{pow_pos}
use lib.Ieee as Ieee
use lib.Ieee.{Float, inf, fin, binary64, mul, div, up, down}
use lib.Ieee.Fits.{up_pos, down_pos}
use borrow.Author.Tests.{eq-eqb, ne_eqb}
use Rattle.numbers.specs.Double.{Point, infinite, finite}
use Rattle.numbers_laws.specs.Rounding.{unlike, Product, Quotient}
use Rattle.numbers_laws.proofs.RoundPoints.{U, round-points}
use Rattle.numbers_laws.proofs.Stands.{Stands}

-- ---- a finite float is 0 exactly if its size is

positive : (n : ℕ) → 0 < suc n
positive n = suc-le-suc zero-le

above : {x : ℕ} → 0 < x → x ≡ 0 → ⊥
above h e = lt_irrefl 0 (subst (λ (y : ℕ). 0 < y) e h)

module _ (m : ℕ) (e : ℤ) (a : ℕ) (same : m * up e * U ≡ a * down e) where
  size-zero : m ≡ 0 → a ≡ 0
  size-zero z = go a (sym same ∙ ap (λ (x : ℕ). x * up e * U) z ∙ ap (λ (x : ℕ). x * U) (zero-mul (up e)) ∙ zero-mul U)
    where
      go : (a : ℕ) → a * down e ≡ 0 → a ≡ 0
      go zero k = refl
      go (suc a) k = absurd (above (mul-pos {m = suc a} {n = down e} (positive a) (down_pos e)) k)

  zero-size : a ≡ 0 → m ≡ 0
  zero-size z = go m (same ∙ ap (λ (x : ℕ). x * down e) z ∙ zero-mul (down e))
    where
      go : (m : ℕ) → m * up e * U ≡ 0 → m ≡ 0
      go zero k = refl
      go (suc m) k = absurd (above (mul-pos {m = suc m * up e} {n = U} (mul-pos {m = suc m} {n = up e} (positive m) (up_pos e)) (pow_pos 1074)) k)

  is-zero : a ≡ 0 → eqb m 0 ≡ true
  is-zero z = eq-eqb m 0 (zero-size z)

  is_some : (n : ℕ) → a ≡ suc n → eqb m 0 ≡ false
  is_some n z = ne_eqb m 0 (λ k. above (subst (λ (x : ℕ). 0 < x) (sym z) (positive n)) (size-zero k))

-- ---- the product

-- (M / x) * (N / y) is a * b / U units
times : (M N x y a b : ℕ) → M * U ≡ a * x → N * U ≡ b * y → M * N * U * U ≡ a * b * (x * y)
times M N x y a b p q =
    mul_right_comm (M * N) U U
    ∙ ap (λ (n : ℕ). n * U) (mul_right_comm M N U ∙ ap (λ (n : ℕ). n * N) p)
    ∙ mul_assoc (a * x) N U ∙ ap (λ (n : ℕ). a * x * n) q
    ∙ sym (mul_assoc (a * x) b y) ∙ ap (λ (n : ℕ). n * y) (mul_right_comm a x b) ∙ mul_assoc (a * b) x y

pub mul-points : (x y : Float) (p q r : Point) → Stands x p → Stands y q → Stands (mul binary64 x y) r → Product p q r
unfolding mul
mul-points Ieee.nan y p q r h k w = subst (λ (v : Point). Product v q r) (sym h) w
mul-points (inf s) Ieee.nan p q r h k w = subst (λ (v : Point). Product v q r) (sym h) (subst (λ (v : Point). Product (infinite s) v r) (sym k) w)
mul-points (inf s) (inf t) p q r h k w = subst (λ (v : Point). Product v q r) (sym h) (subst (λ (v : Point). Product (infinite s) v r) (sym k) w)
mul-points (inf s) (fin t n d) p q r h (b, k, v) w = subst (λ (x : Point). Product x q r) (sym h) (subst (λ (x : Point). Product (infinite s) x r) (sym k) (go b refl))
  where
    go : (c : ℕ) → b ≡ c → Product (infinite s) (finite t c) r
    go zero z = rw (is-zero n d b v z) at w
    go (suc c) z = rw (is_some n d b v c z) at w
mul-points (fin s m e) Ieee.nan p q r (a, h, u) k w = subst (λ (x : Point). Product x q r) (sym h) (subst (λ (x : Point). Product (finite s a) x r) (sym k) w)
mul-points (fin s m e) (inf t) p q r (a, h, u) k w = subst (λ (x : Point). Product x q r) (sym h) (subst (λ (x : Point). Product (finite s a) x r) (sym k) (go a refl))
  where
    go : (c : ℕ) → a ≡ c → Product (finite s c) (infinite t) r
    go zero z = rw (is-zero m e a u z) at w
    go (suc c) z = rw (is_some m e a u c z) at w
mul-points (fin s m e) (fin t n d) p q r (a, h, u) (b, k, v) w =
    subst (λ (x : Point). Product x q r) (sym h)
    (subst (λ (x : Point). Product (finite s a) x r) (sym k)
    (round-points (unlike s t) (m * up e * (n * up d)) (down e * down d) (a * b) U (mul-pos (down_pos e) (down_pos d)) (pow_pos 1074)
    (times (m * up e) (n * up d) (down e) (down d) a b u v) r w))

-- ---- the quotient

-- (M / x) / (N / y) is a * U / b units
over : (M N x y a b : ℕ) → M * U ≡ a * x → N * U ≡ b * y → M * y * U * b ≡ a * U * (N * x)
over M N x y a b p q =
    ap (λ (n : ℕ). n * b) (mul_right_comm M y U ∙ ap (λ (n : ℕ). n * y) p)
    ∙ mul_assoc (a * x) y b ∙ ap (λ (n : ℕ). a * x * n) (mul_comm y b ∙ sym q ∙ mul_comm N U)
    ∙ mul_right_comm a x (U * N) ∙ ap (λ (n : ℕ). n * x) (sym (mul_assoc a U N)) ∙ mul_assoc (a * U) N x

pub div-points : (x y : Float) (p q r : Point) → Stands x p → Stands y q → Stands (div binary64 x y) r → Quotient p q r
unfolding div
div-points Ieee.nan y p q r h k w = subst (λ (v : Point). Quotient v q r) (sym h) w
div-points (inf s) Ieee.nan p q r h k w = subst (λ (v : Point). Quotient v q r) (sym h) (subst (λ (v : Point). Quotient (infinite s) v r) (sym k) w)
div-points (inf s) (inf t) p q r h k w = subst (λ (v : Point). Quotient v q r) (sym h) (subst (λ (v : Point). Quotient (infinite s) v r) (sym k) w)
div-points (inf s) (fin t n d) p q r h (b, k, v) w = subst (λ (x : Point). Quotient x q r) (sym h) (subst (λ (x : Point). Quotient (infinite s) x r) (sym k) w)
div-points (fin s m e) Ieee.nan p q r (a, h, u) k w = subst (λ (x : Point). Quotient x q r) (sym h) (subst (λ (x : Point). Quotient (finite s a) x r) (sym k) w)
div-points (fin s m e) (inf t) p q r (a, h, u) k (c, w, v) =
    subst (λ (x : Point). Quotient x q r) (sym h)
    (subst (λ (x : Point). Quotient (finite s a) x r) (sym k) (w ∙ ap (finite (unlike s t)) (size-zero 0 (pos 0) c v refl)))
div-points (fin s m e) (fin t n d) p q r (a, h, u) (b, k, v) w =
    subst (λ (x : Point). Quotient x q r) (sym h) (subst (λ (x : Point). Quotient (finite s a) x r) (sym k) (go b refl))
  where
    by_zero : (c : ℕ) → a ≡ c → b ≡ 0 → Quotient (finite s c) (finite t zero) r
    by_zero zero y z = rw (is-zero n d b v z, is-zero m e a u y) at w
    by_zero (suc c) y z = rw (is-zero n d b v z, is_some m e a u c y) at w

    go : (c : ℕ) → b ≡ c → Quotient (finite s a) (finite t c) r
    go zero z = split a refl
      where
        split : (c : ℕ) → a ≡ c → Quotient (finite s c) (finite t zero) r
        split c y = by_zero c y z
    go (suc c) z =
        round-points (unlike s t) (m * up e * down d) (n * up d * down e) (a * U) (suc c)
        (mul-pos (mul-pos (some n (is_some n d b v c z)) (up_pos d)) (down_pos e)) (positive c)
        (over (m * up e) (n * up d) (down e) (down d) a (suc c) u (v ∙ ap (λ (x : ℕ). x * down d) z)) r
        (rw (is_some n d b v c z) at w)
      where
        some : (n : ℕ) → eqb n 0 ≡ false → 0 < n
        some zero f = absurd (bad f)
          where
            bad : true ≡ false → ⊥
            bad f = absurd (mathlib.Core.Bool.true≢false f)
        some (suc n) f = positive n
