-- lib.Ieee's sum is the `Sum` of specs/Rounding.antt, the sign of an exact 0 included. Assumes nothing.
use mathlib.Core.Path.{◌≡◌, refl, sym, ap, ◌∙◌, subst}
use mathlib.Core.Bool.{Bool, true, false, not, ◌&&◌, cond, beq}
use Prim.Native.Nat.{ℕ, zero, suc, ◌+◌, ◌-◌, ◌*◌, ◌≤◌, ◌<◌}
use native.Mathlib.Nat.{mul-one, mul_comm, mul_assoc, mul_right_comm, mul-pos, mul-lt-mul_of_pos_right, mul-le-mul_right, le_of_mul-le-mul_right, lt_of_mul-lt-mul_right, add-mul, lt_of_lt_of_le, lt_of_le_of_lt, le_trans, le_of_eq}
use native.Mathlib.Omega.{arith}
use lib.Dec.{ltb}
use lib.IntN.{ℤ, pos, neg_ℤ, nat_abs, ◌+ℤ◌, +ℤ_comm, neg_ℤ-+ℤ}
use lib.Pow.{pow_pos}
use lib.Ieee as Ieee
use lib.Ieee.{Float, inf, fin, binary64, round, sum, add, sub, neg, up, down}
use lib.Ieee.Fits.{down_pos}
use borrow.Author.Tests.{lt-ltb, le-ltb, ltb-true, ltb-false}
use Rattle.numbers.specs.Double.{Point, nan, infinite, finite}
use Rattle.numbers_laws.specs.Rounding.{Rounded, signed, sign_of, Sum, negated, Difference}
use Rattle.numbers_laws.proofs.NearestScale.{minus-mul}
use Rattle.numbers_laws.proofs.RoundPoints.{U, round-points}
use Rattle.numbers_laws.proofs.Stands.{Stands}

-- ---- the exact sum as a sign and a size

-- z is ± n, and where n is 0 the sign is k
parts : (s k : Bool) (n : ℕ) (z : ℤ) → z ≡ signed s n → (n ≡ 0 → k ≡ s) → (s ≡ sign_of k z) × (n ≡ nat_abs z)
parts s k n z e zero-sign = subst (λ (y : ℤ). (s ≡ sign_of k y) × (n ≡ nat_abs y)) (sym e) (at s n zero-sign)
  where
    at : (s : Bool) (n : ℕ) → (n ≡ 0 → k ≡ s) → (s ≡ sign_of k (signed s n)) × (n ≡ nat_abs (signed s n))
    at false zero h = (sym (h refl), refl)
    at true zero h = (sym (h refl), refl)
    at false (suc n) h = (refl, refl)
    at true (suc n) h = (refl, refl)

minus_pos : (a b : ℕ) → b ≤ a → pos a +ℤ neg_ℤ (pos b) ≡ pos (a - b)
minus_pos a zero h = ap pos (same a)
  where
    same : (a : ℕ) → a + 0 ≡ a - 0
    same a = omega arith
minus_pos a (suc b) h = rw (le-ltb a (suc b) h)

minus-neg : (a b : ℕ) → a < b → pos a +ℤ neg_ℤ (pos b) ≡ neg_ℤ (pos (b - a))
minus-neg a zero h = absurd (none a h)
  where
    none : (a : ℕ) → a < 0 → ⊥
    none a h = omega arith
minus-neg a (suc b) h = rw (lt-ltb a (suc b) h) (ap neg_ℤ (ap pos (next a b h)))
  where
    next : (a b : ℕ) → a < suc b → suc (suc b - suc a) ≡ suc b - a
    next a b h = omega arith

both-neg : (a b : ℕ) → neg_ℤ (pos a) +ℤ neg_ℤ (pos b) ≡ neg_ℤ (pos (a + b))
both-neg a b = sym (neg_ℤ-+ℤ (pos a) (pos b))

-- ---- two finite numbers, A / C and B / C, which are a and b units

scaled-le : (A B C a b : ℕ) → 0 < C → A * U ≡ a * C → B * U ≡ b * C → A ≤ B → a ≤ b
scaled-le A B C a b C-some p q h = le_of_mul-le-mul_right (le_trans (le_of_eq (sym p)) (le_trans (mul-le-mul_right U h) (le_of_eq q))) C-some

scaled-lt : (A B C a b : ℕ) → A * U ≡ a * C → B * U ≡ b * C → A < B → a < b
scaled-lt A B C a b p q h = lt_of_mul-lt-mul_right C (lt_of_le_of_lt (le_of_eq (sym p)) (lt_of_lt_of_le (mul-lt-mul_of_pos_right h (pow_pos 1074)) (le_of_eq q)))

-- linear facts
some : (x y : ℕ) → x < y → y - x ≡ 0 → ⊥
some x y h e = omega arith

weak : {x y : ℕ} → x < y → x ≤ y
weak h = omega arith

level : (x y : ℕ) → x ≤ y → y ≤ x → y - x ≡ x - y
level x y h k = omega arith

module _ (A B C a b : ℕ) (C-some : 0 < C) (as-a : A * U ≡ a * C) (as-b : B * U ≡ b * C) (r : Point) where
  -- a sum or a difference of the two, at one sign, rounded; z is the exact one
  rounded : (s k : Bool) (num n : ℕ) (z : ℤ) → num * U ≡ n * C → z ≡ signed s n → (n ≡ 0 → k ≡ s) → Stands (round binary64 s num C) r → Rounded (sign_of k z) (nat_abs z) 1 r
  rounded s k num n z same e zero-sign h =
      let p = parts s k n z e zero-sign in
      subst (λ (t : Bool). Rounded t (nat_abs z) 1 r) p.0
      (subst (λ (m : ℕ). Rounded s m 1 r) p.1 (round-points s num C n 1 C-some (omega arith) (mul-one (num * U) ∙ same) r h))

  plus : (A + B) * U ≡ (a + b) * C
  plus = add-mul A B U ∙ (λ i. as-a i + as-b i) ∙ sym (add-mul a b C)

  a-b : (A - B) * U ≡ (a - b) * C
  a-b = minus-mul A B U ∙ (λ i. as-a i - as-b i) ∙ sym (minus-mul a b C)

  b-a : (B - A) * U ≡ (b - a) * C
  b-a = minus-mul B A U ∙ (λ i. as-b i - as-a i) ∙ sym (minus-mul b a C)

  pub sum-points : (s t : Bool) → Stands (sum binary64 s A t B C) r → Rounded (sign_of (s && t) (signed s a +ℤ signed t b)) (nat_abs (signed s a +ℤ signed t b)) 1 r
  unfolding sum
  sum-points false false h = rounded false false (A + B) (a + b) (pos a +ℤ pos b) plus refl (λ e. refl) h
  sum-points true true h = rounded true true (A + B) (a + b) (neg_ℤ (pos a) +ℤ neg_ℤ (pos b)) plus (both-neg a b) (λ e. refl) h
  sum-points false true h = go (ltb A B) (ltb-true A B) (ltb-false A B) h
    where
      z : ℤ
      z = pos a +ℤ neg_ℤ (pos b)

      go : (l : Bool) → (l ≡ true → A < B) → (l ≡ false → B ≤ A) → Stands (cond l (round binary64 true (B - A) C) (round binary64 false (A - B) C)) r → Rounded (sign_of false z) (nat_abs z) 1 r
      go true p q h =
          let l = scaled-lt A B C a b as-a as-b (p refl) in
          rounded true false (B - A) (b - a) z b-a (minus-neg a b l) (λ e. absurd (some a b l e)) h
      go false p q h = rounded false false (A - B) (a - b) z a-b (minus_pos a b (scaled-le B A C b a C-some as-b as-a (q refl))) (λ e. refl) h
  sum-points true false h = go (ltb A B) (ltb B A) (ltb-true A B) (ltb-false A B) (ltb-true B A) (ltb-false B A) h
    where
      z : ℤ
      z = neg_ℤ (pos a) +ℤ pos b

      swapped : z ≡ pos b +ℤ neg_ℤ (pos a)
      swapped = +ℤ_comm (neg_ℤ (pos a)) (pos b)

      go : (l g : Bool) → (l ≡ true → A < B) → (l ≡ false → B ≤ A) → (g ≡ true → B < A) → (g ≡ false → A ≤ B)
          → Stands (cond l (round binary64 false (B - A) C) (round binary64 g (A - B) C)) r → Rounded (sign_of false z) (nat_abs z) 1 r
      go true g p q u v h = rounded false false (B - A) (b - a) z b-a (swapped ∙ minus_pos b a (weak (scaled-lt A B C a b as-a as-b (p refl)))) (λ e. refl) h
      go false true p q u v h =
          let l = scaled-lt B A C b a as-b as-a (u refl) in
          rounded true false (A - B) (a - b) z a-b (swapped ∙ minus-neg b a l) (λ e. absurd (some b a l e)) h
      go false false p q u v h =
          let le = scaled-le A B C a b C-some as-a as-b (v refl) in
          rounded false false (A - B) (a - b) z a-b (swapped ∙ minus_pos b a le ∙ ap pos (level a b le (scaled-le B A C b a C-some as-b as-a (q refl)))) (λ e. refl) h

-- ---- all pairs of floats

-- the sizes of two finite floats over their common denominator
over_first : (M m-down d-down a : ℕ) → M * U ≡ a * m-down → M * d-down * U ≡ a * (m-down * d-down)
over_first M x y a e = mul_right_comm M y U ∙ ap (λ (n : ℕ). n * y) e ∙ mul_assoc a x y

over-second : (N e-down n-down b : ℕ) → N * U ≡ b * n-down → N * e-down * U ≡ b * (e-down * n-down)
over-second N x y b e = over_first N y x b e ∙ ap (λ (n : ℕ). b * n) (mul_comm y x)

pub add-points : (x y : Float) (p q r : Point) → Stands x p → Stands y q → Stands (add binary64 x y) r → Sum p q r
unfolding add
add-points Ieee.nan y p q r h k w = subst (λ (v : Point). Sum v q r) (sym h) w
add-points (inf s) Ieee.nan p q r h k w = subst (λ (v : Point). Sum v q r) (sym h) (subst (λ (v : Point). Sum (infinite s) v r) (sym k) w)
add-points (inf s) (inf t) p q r h k w = subst (λ (v : Point). Sum v q r) (sym h) (subst (λ (v : Point). Sum (infinite s) v r) (sym k) (ends s t w))
  where
    ends : (s t : Bool) → Stands (cond (beq s t) (inf s) Ieee.nan) r → r ≡ cond (not (beq s t)) nan (infinite s)
    ends false false w = w
    ends false true w = w
    ends true false w = w
    ends true true w = w
add-points (inf s) (fin t n d) p q r h (b, k, v) w = subst (λ (u : Point). Sum u q r) (sym h) (subst (λ (u : Point). Sum (infinite s) u r) (sym k) w)
add-points (fin s m e) Ieee.nan p q r (a, h, u) k w = subst (λ (v : Point). Sum v q r) (sym h) (subst (λ (v : Point). Sum (finite s a) v r) (sym k) w)
add-points (fin s m e) (inf t) p q r (a, h, u) k w = subst (λ (v : Point). Sum v q r) (sym h) (subst (λ (v : Point). Sum (finite s a) v r) (sym k) w)
add-points (fin s m e) (fin t n d) p q r (a, h, u) (b, k, v) w =
    subst (λ (x : Point). Sum x q r) (sym h)
    (subst (λ (x : Point). Sum (finite s a) x r) (sym k)
    (sum-points (m * up e * down d) (n * up d * down e) (down e * down d) a b (mul-pos (down_pos e) (down_pos d))
    (over_first (m * up e) (down e) (down d) a u) (over-second (n * up d) (down e) (down d) b v) r s t w))

pub neg-stands : (x : Float) (p : Point) → Stands x p → Stands (neg x) (negated p)
unfolding neg
neg-stands Ieee.nan p h = ap negated h
neg-stands (inf s) p h = ap negated h
neg-stands (fin s m e) p (a, h, u) = (a, ap negated h, u)

pub sub-points : (x y : Float) (p q r : Point) → Stands x p → Stands y q → Stands (sub binary64 x y) r → Difference p q r
unfolding sub
sub-points x y p q r h k w = add-points x (neg y) p (negated q) r h (neg-stands y q k) w
