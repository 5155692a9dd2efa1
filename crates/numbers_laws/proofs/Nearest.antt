-- The size that lib.Ieee's rounding keeps is the nearest that 53 digits hold, at a tie the even one. Assumes nothing.
use mathlib.Core.Path.{◌≡◌, refl, sym, ap, ◌∙◌, subst}
use mathlib.Core.Logic.{◌⊎◌, inl, inr, ⊎_elim}
use mathlib.Core.Bool.{Bool, true, false, not}
use Prim.Native.Nat.{ℕ, zero, suc, ◌+◌, ◌-◌, ◌*◌, ◌/◌, ◌%◌, ◌^◌, ◌≤◌, ◌<◌, compare, Ordering}
use native.Mathlib.Nat.{le_trans, le_of_eq, lt_of_lt_of_le, lt_of_le_of_lt, eq-or-lt_of_le, mul_comm, mul_assoc, mul-le-mul_right, mul-lt-mul_of_pos_right, mul-pos, suc-mul, div-add-mod', mod-lt, le-div_iff_mul-le, div-div-eq-div-mul, eq-zero-or-pos}
use native.Mathlib.Omega.{arith}
use lib.Dec.{T, is_le, compare_is_eq, ltb, eqb, leb→le, nleb→lt, eqb→eq, eqb_refl, lit<, ltb→lt, nltb→le}
use lib.Arith.{lt_of_le-ne}
use lib.Pow.{pow_pos, pow_mono, pow-add}
use lib.Ieee.{nearest, size}
use lib.Ieee.Digits.{size_reaches, back}
use lib.Ieee.Fits.{nearest-le, kept-lt}
use lib.Ieee.Nearest.{closest, nearest-ge}
use lib.Ieee.Order.{drop, kept}
use Rattle.numbers_laws.proofs.PointLaws.{shift}
use Rattle.numbers_laws.specs.Rounding.{apart, EvenDigit, NearestEven}

-- ---- what `compare` says
abbrev Cmp : Ordering → ℕ → ℕ → Type 0
Cmp Ordering.lt a b = a < b
Cmp Ordering.eq a b = a ≡ b
Cmp Ordering.gt a b = b < a

cmp : (a b : ℕ) → Cmp (compare a b) a b
cmp a b = go (compare a b) (leb→le a b) (nleb→lt a b) (eqb→eq a b) (λ (e : a ≡ b). subst (λ (x : ℕ). T (eqb a x)) e (eqb_refl a))
  where
    go : (o : Ordering) → (T (is_le o) → a ≤ b) → (T (not (is_le o)) → b < a) → (T (compare_is_eq o) → a ≡ b) → (a ≡ b → T (compare_is_eq o)) → Cmp o a b
    go Ordering.lt h k e n = lt_of_le-ne (h tt) n
    go Ordering.eq h k e n = e tt
    go Ordering.gt h k e n = k tt

-- ---- linear facts, of a = W + r with W the lower multiple
low : (a W r b P : ℕ) → a ≡ W + r → r * 2 ≤ b → (P ≤ W) ⊎ (W + b ≤ P) → apart a W ≤ apart a P
low a W r b P e h k = ⊎_elim (λ (x : P ≤ W). omega arith) (λ (x : W + b ≤ P). omega arith) k

high : (a W r b P : ℕ) → a ≡ W + r → r < b → b ≤ r * 2 → (P ≤ W) ⊎ (W + b ≤ P) → apart a (W + b) ≤ apart a P
high a W r b P e l h k = ⊎_elim (λ (x : P ≤ W). omega arith) (λ (x : W + b ≤ P). omega arith) k

low-only : (a W r b P : ℕ) → a ≡ W + r → r * 2 < b → (P + b ≤ W) ⊎ (W + b ≤ P) → apart a P ≡ apart a W → ⊥
low-only a W r b P e h k t = ⊎_elim (λ (x : P + b ≤ W). omega arith) (λ (x : W + b ≤ P). omega arith) k

high-only : (a W r b P : ℕ) → a ≡ W + r → r < b → b < r * 2 → (P + b ≤ W + b) ⊎ (W + b + b ≤ P) → apart a P ≡ apart a (W + b) → ⊥
high-only a W r b P e l h k t = ⊎_elim (λ (x : P + b ≤ W + b). omega arith) (λ (x : W + b + b ≤ P). omega arith) k

-- ---- multiples of b
pub split : (m w : ℕ) → (m ≤ w) ⊎ (suc w ≤ m)
split m w = go (ltb w m) (ltb→lt w m) (nltb→le w m)
  where
    go : (t : Bool) → (T t → w < m) → (T (not t) → m ≤ w) → (m ≤ w) ⊎ (suc w ≤ m)
    go true h k = inr (h tt)
    go false h k = inl (k tt)

step : (m w b : ℕ) → suc w ≤ m → w * b + b ≤ m * b
step m w b h = le_trans (le_of_eq (sym (suc-mul w b))) (mul-le-mul_right b h)

sides : (m w b : ℕ) → (m * b ≤ w * b) ⊎ (w * b + b ≤ m * b)
sides m w b = ⊎_elim (λ (h : m ≤ w). inl (mul-le-mul_right b h)) (λ (h : suc w ≤ m). inr (step m w b h)) (split m w)

apart-sides : (m w b : ℕ) → (m ≡ w → ⊥) → (m * b + b ≤ w * b) ⊎ (w * b + b ≤ m * b)
apart-sides m w b n = ⊎_elim (λ (h : m ≤ w). inl (step w m b (lt_of_le-ne h n))) (λ (h : suc w ≤ m). inr (step m w b h)) (split m w)

parity : (w : ℕ) → (w + w % 2 ≡ w) ⊎ (w + w % 2 ≡ suc w)
parity w = go (w % 2) (mod-lt w (lit< tt))
  where
    go : (z : ℕ) → z < 2 → (w + z ≡ w) ⊎ (w + z ≡ suc w)
    go zero h = inl (omega arith)
    go (suc zero) h = inr (omega arith)
    go (suc (suc z)) h = absurd (omega arith)

-- ---- `nearest` is the nearest whole number, and at a tie the even one
module _ (a b : ℕ) (B : 0 < b) where
  parts : a ≡ a / b * b + a % b
  parts = sym (div-add-mod' a b)

  near-at : (o : Ordering) → Cmp o (a % b * 2) b → (m : ℕ) → apart a (nearest (a / b) o * b) ≤ apart a (m * b)
  near-at Ordering.lt h m = low a (a / b * b) (a % b) b (m * b) parts (omega arith) (sides m (a / b) b)
  near-at Ordering.eq h m =
      ⊎_elim
      (λ (e : a / b + a / b % 2 ≡ a / b). subst (λ (z : ℕ). apart a (z * b) ≤ apart a (m * b)) (sym e) (low a (a / b * b) (a % b) b (m * b) parts (omega arith) (sides m (a / b) b)))
      (λ (e : a / b + a / b % 2 ≡ suc (a / b)). subst (λ (z : ℕ). apart a (z * b) ≤ apart a (m * b)) (sym e) (subst (λ (z : ℕ). apart a z ≤ apart a (m * b)) (sym (suc-mul (a / b) b)) (high a (a / b * b) (a % b) b (m * b) parts (mod-lt a B) (omega arith) (sides m (a / b) b))))
      (parity (a / b))
  near-at Ordering.gt h m = subst (λ (z : ℕ). apart a z ≤ apart a (m * b)) (sym (suc-mul (a / b) b)) (high a (a / b * b) (a % b) b (m * b) parts (mod-lt a B) (omega arith) (sides m (a / b) b))

  tie-at : (o : Ordering) → Cmp o (a % b * 2) b → (m : ℕ) → (m ≡ nearest (a / b) o → ⊥) → apart a (m * b) ≡ apart a (nearest (a / b) o * b) → nearest (a / b) o % 2 ≡ 0
  tie-at Ordering.lt h m n t = absurd (low-only a (a / b * b) (a % b) b (m * b) parts h (apart-sides m (a / b) b n) t)
  tie-at Ordering.eq h m n t = even (a / b)
    where
      even : (w : ℕ) → (w + w % 2) % 2 ≡ 0
      even w = omega arith
  tie-at Ordering.gt h m n t =
      absurd (high-only a (a / b * b) (a % b) b (m * b) parts (mod-lt a B) h
      (subst (λ (z : ℕ). (m * b + b ≤ z) ⊎ (z + b ≤ m * b)) (suc-mul (a / b) b) (apart-sides m (suc (a / b)) b n))
      (t ∙ ap (apart a) (suc-mul (a / b) b)))

  pub closest-near : (m : ℕ) → apart a (closest a b * b) ≤ apart a (m * b)
  closest-near m = near-at (compare (a % b * 2) b) (cmp (a % b * 2) b) m

  pub closest-even : (m : ℕ) → (m ≡ closest a b → ⊥) → apart a (m * b) ≡ apart a (closest a b * b) → closest a b % 2 ≡ 0
  closest-even m n t = tie-at (compare (a % b * 2) b) (cmp (a % b * 2) b) m n t

-- ---- 53 digits of n / den
beyond : (N P X : ℕ) → X < P → P ≤ N → apart N P < apart N X
beyond N P X h k = omega arith

module _ (n den : ℕ) (D : 0 < den) where
  abbrev K : ℕ
  K = drop 53 n den

  abbrev u : ℕ
  u = den * 2 ^ K

  abbrev c : ℕ
  c = kept 53 n den

  U : 0 < u
  U = mul-pos D (pow_pos K)

  c-le : c ≤ 2 ^ 53
  c-le = le_trans (nearest-le (n / u) (compare (n % u * 2) u)) (subst (λ (x : ℕ). x < 2 ^ 53) (div-div-eq-div-mul n den (2 ^ K)) (kept-lt 53 (n / den)))

  digits : 0 < K → 52 + K < size (n / den)
  digits h = count (size (n / den)) h
    where
      count : (z : ℕ) → 0 < z - 53 → 52 + (z - 53) < z
      count z h = omega arith

  -- where digits are dropped, all 53 are in use
  full : 0 < K → 2 ^ 52 * u ≤ n
  full h = le_trans (le_of_eq regroup) ((le-div_iff_mul-le D).0 (size_reaches (n / den) (52 + K) (digits h)))
    where
      regroup : 2 ^ 52 * u ≡ 2 ^ (52 + K) * den
      regroup = ap (λ (x : ℕ). 2 ^ 52 * x) (mul_comm den (2 ^ K)) ∙ sym (mul_assoc (2 ^ 52) (2 ^ K) den) ∙ ap (λ (x : ℕ). x * den) (sym (pow-add 2 52 K))

  c_ge : 0 < K → 2 ^ 52 ≤ c
  c_ge h = le_trans ((le-div_iff_mul-le U).1 (full h)) (nearest-ge (n / u) (compare (n % u * 2) u))

  own : c * 2 ^ K * den ≡ c * u
  own = mul_assoc c (2 ^ K) den ∙ ap (λ (x : ℕ). c * x) (mul_comm (2 ^ K) den)

  -- a size at least as coarse is a multiple of 2 ^ K
  coarse : (q k : ℕ) → K ≤ k → q * 2 ^ k ≡ q * 2 ^ (k - K) * 2 ^ K
  coarse q k h = ap (λ (x : ℕ). q * 2 ^ x) (sym (back k K h)) ∙ ap (λ (x : ℕ). q * x) (pow-add 2 (k - K) K) ∙ sym (mul_assoc q (2 ^ (k - K)) (2 ^ K))

  coarse-den : (q k : ℕ) → K ≤ k → q * 2 ^ k * den ≡ q * 2 ^ (k - K) * u
  coarse-den q k h = ap (λ (x : ℕ). x * den) (coarse q k h) ∙ mul_assoc (q * 2 ^ (k - K)) (2 ^ K) den ∙ ap (λ (x : ℕ). q * 2 ^ (k - K) * x) (mul_comm (2 ^ K) den)

  -- a finer one lies below 2 ^ 52 * u, so it is further off
  fine : (q k : ℕ) → q < 2 ^ 53 → k < K → apart n (c * 2 ^ K * den) < apart n (q * 2 ^ k * den)
  fine q k h l =
      let below : q * 2 ^ k * den < 2 ^ 52 * u = lt_of_lt_of_le (mul-lt-mul_of_pos_right (lt_of_lt_of_le (mul-lt-mul_of_pos_right h (pow_pos k)) (le_trans (le_of_eq (sym (pow-add 2 53 k))) (le_trans (pow_mono {i = 53 + k} {j = 52 + K} (count k K l)) (le_of_eq (pow-add 2 52 K))))) D) (le_of_eq (mul_assoc (2 ^ 52) (2 ^ K) den ∙ ap (λ (x : ℕ). 2 ^ 52 * x) (mul_comm (2 ^ K) den))) in
      lt_of_le_of_lt (le_trans (le_of_eq (ap (apart n) own)) (closest-near n u U (2 ^ 52))) (beyond n (2 ^ 52 * u) (q * 2 ^ k * den) below (full (positive k K l)))
    where
      count : (k K : ℕ) → k < K → 53 + k ≤ 52 + K
      count k K h = omega arith

      positive : (k K : ℕ) → k < K → 0 < K
      positive k K h = omega arith

  held_by : (q : ℕ) × (k : ℕ) × (q < 2 ^ 53) × (c * 2 ^ K ≡ q * 2 ^ k)
  held_by =
      ⊎_elim
      (λ (e : c ≡ 2 ^ 53). (2 ^ 52, suc K, lit< tt, ap (λ (x : ℕ). x * 2 ^ K) e ∙ sym (pow-add 2 53 K) ∙ ap (λ (x : ℕ). 2 ^ x) (shift K) ∙ pow-add 2 52 (suc K)))
      (λ (h : c < 2 ^ 53). (c, K, h, refl))
      (eq-or-lt_of_le c-le)

  near_by : (q k : ℕ) → q < 2 ^ 53 → apart n (c * 2 ^ K * den) ≤ apart n (q * 2 ^ k * den)
  near_by q k h =
      ⊎_elim
      (λ (l : K ≤ k). le_trans (le_of_eq (ap (apart n) own)) (le_trans (closest-near n u U (q * 2 ^ (k - K))) (le_of_eq (ap (apart n) (sym (coarse-den q k l))))))
      (λ (l : k < K). weak (fine q k h l))
      (split K k)
    where
      weak : {x y : ℕ} → x < y → x ≤ y
      weak h = omega arith

  even-by : (q k : ℕ) → q < 2 ^ 53 → (q * 2 ^ k ≡ c * 2 ^ K → ⊥) → apart n (q * 2 ^ k * den) ≡ apart n (c * 2 ^ K * den) → EvenDigit (c * 2 ^ K)
  even-by q k h d t =
      ⊎_elim
      (λ (l : K ≤ k). digit (closest-even n u U (q * 2 ^ (k - K)) (λ e. d (coarse q k l ∙ ap (λ (x : ℕ). x * 2 ^ K) e)) (ap (apart n) (sym (coarse-den q k l)) ∙ t ∙ ap (apart n) own)))
      (λ (l : k < K). absurd (unequal (fine q k h l) t))
      (split K k)
    where
      unequal : {x y : ℕ} → x < y → y ≡ x → ⊥
      unequal h e = omega arith

      halves : (x : ℕ) → x % 2 ≡ 0 → x ≡ x / 2 * 2
      halves x h = omega arith

      digit : c % 2 ≡ 0 → EvenDigit (c * 2 ^ K)
      digit z =
          let e : c ≡ c / 2 * 2 = halves c z in
          (c / 2, K, ap (λ (x : ℕ). x * 2 ^ K) e, subst (λ (x : ℕ). x ≤ 2 ^ 53) e c-le, ⊎_elim (λ (k0 : K ≡ 0). inl k0) (λ (kp : 0 < K). inr (subst (λ (x : ℕ). 2 ^ 52 ≤ x) e (c_ge kp))) (eq-zero-or-pos K))

  pub kept-nearest : NearestEven n den (c * 2 ^ K)
  kept-nearest = record { held = held_by; near = near_by; even = even-by }
