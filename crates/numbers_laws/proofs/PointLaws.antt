-- A Double's point by its bits: the sign, and a size that grows with the bits below the sign. Assumes nothing.
use mathlib.Core.Path.{◌≡◌, refl, sym, ap, ◌∙◌, subst}
use mathlib.Core.Logic.{◌⊎◌, inl, inr, ⊎_elim}
use mathlib.Core.Bool.{Bool, true, false, not, cond}
use Prim.Native.Nat.{ℕ, zero, suc, ◌+◌, ◌*◌, ◌/◌, ◌%◌, ◌^◌, ◌≤◌, ◌<◌}
use native.Mathlib.Nat.{mul-one, mod-lt, lt_of_lt_of_le, le_trans, le_of_eq, mul-le-mul, mul-le-mul_left, mul-lt-mul_of_pos_right, mul-pos, zero-mul}
use native.Mathlib.Omega.{arith}
use lib.Dec.{ltb, eqb, lit<, lit≤}
use lib.Pow.{pow_pos, pow_mono, pow-add, shl_lt}
use borrow.Author.Tests.{eq-eqb, ne_eqb, ltb-true, ltb-false, eqb-true, eqb-false}
use Rattle.numbers.specs.Double.{nan, infinite, finite, negative, exponent, digits, units, size_of, point_of, is_nan}
use Rattle.std.specs.Prelude.{Some}
use Rattle.std.specs.Ordering.{ordering_reverse}
use Rattle.numbers.specs.Order.{size_order, signed_order, order_of, whole_point}
use Rattle.numbers_laws.proofs.SignedOrder.{signed-map, unlike-map, some, size-swap}
use Rattle.numbers_laws.proofs.OrderLaws.{Sized, order-sized}

-- a leading digit for an exponent
pub shift : (k : ℕ) → 53 + k ≡ 52 + suc k
shift k = omega arith

-- ---- no number, an infinity, a finite number

pub nan-point : (b : ℕ) → is_nan b ≡ true → point_of b ≡ nan
unfolding point_of
nan-point b t = rw (eq-eqb (exponent b) 2047 (top b h), ne_eqb (digits b) 0 (rest b h))
  where
    h : 9218868437227405312 < b % 2 ^ 63
    h = ltb-true 9218868437227405312 (b % 2 ^ 63) t

    top : (b : ℕ) → 9218868437227405312 < b % 2 ^ 63 → b % 2 ^ 63 / 2 ^ 52 ≡ 2047
    top b h = omega arith

    rest : (b : ℕ) → 9218868437227405312 < b % 2 ^ 63 → b % 2 ^ 52 ≡ 0 → ⊥
    rest b h e = omega arith

-- a size of 53 digits or fewer, by its exponent
units-below : (x t : ℕ) → t < 2 ^ 52 → units x t < 2 ^ 52 * 2 ^ x
unfolding units
units-below zero t h = lt_of_lt_of_le h (le_of_eq (sym (mul-one (2 ^ 52))))
units-below (suc x) t h = lt_of_lt_of_le (shl_lt 53 x (omega arith)) (le_of_eq (ap (λ (n : ℕ). 2 ^ n) (shift x) ∙ pow-add 2 52 (suc x)))

units-above : (x t : ℕ) → 2 ^ 52 * 2 ^ x ≤ units (suc x) t
unfolding units
units-above x t = mul-le-mul (le-add (2 ^ 52) t) (pow_mono (le-self x))
  where
    le-add : (a b : ℕ) → a ≤ a + b
    le-add a b = omega arith

    le-self : (x : ℕ) → x ≤ x
    le-self x = omega arith

-- 2 ^ 1024, in units
abbrev pub beyond : ℕ
beyond = 2 ^ 2098

pub bits-sized : (b : ℕ) → is_nan b ≡ false → Sized beyond (point_of b) (negative b) (size_of b)
unfolding point_of size_of
bits-sized b t = go (eqb (exponent b) 2047) (eqb-true (exponent b) 2047) (eqb-false (exponent b) 2047)
  where
    low : b % 2 ^ 63 ≤ 9218868437227405312
    low = ltb-false 9218868437227405312 (b % 2 ^ 63) t

    bare : (b : ℕ) → b % 2 ^ 63 ≤ 9218868437227405312 → b % 2 ^ 63 / 2 ^ 52 ≡ 2047 → b % 2 ^ 52 ≡ 0
    bare b h e = omega arith

    small : (b : ℕ) → b % 2 ^ 63 ≤ 9218868437227405312 → (b % 2 ^ 63 / 2 ^ 52 ≡ 2047 → ⊥) → b % 2 ^ 63 / 2 ^ 52 ≤ 2046
    small b h n = omega arith

    go : (e : Bool) → (e ≡ true → exponent b ≡ 2047) → (e ≡ false → exponent b ≡ 2047 → ⊥)
        → Sized beyond (cond e (cond (eqb (digits b) 0) (infinite (negative b)) nan) (finite (negative b) (units (exponent b) (digits b)))) (negative b) (units (exponent b) (digits b))
    go true h k =
        let z = bare b low (h refl) in
        inr (rw (eq-eqb (digits b) 0 z), (λ i. units (h refl i) (z i)) ∙ unfold units in refl)
    go false h k =
        inl (
          refl,
          lt_of_lt_of_le (units-below (exponent b) (digits b) (mod-lt b (lit< tt)))
              (le_trans (mul-le-mul_left (2 ^ 52) (pow_mono (small b low (k refl)))) (le_of_eq (sym (pow-add 2 52 2046)))),
        )

pub whole-sized : (s : Bool) (n : ℕ) → n < 2 ^ 64 → Sized beyond (whole_point s n) s (n * 2 ^ 1074)
unfolding whole_point
whole-sized s n h = inl (refl, lt_of_lt_of_le (mul-lt-mul_of_pos_right h (pow_pos 1074)) (le_trans (le_of_eq (sym (pow-add 2 64 1074))) (pow_mono {i = 1138} {j = 2098} (lit≤ tt))))

-- ---- the size grows with the bits

abbrev key : ℕ → ℕ
key k = units (k / 2 ^ 52) (k % 2 ^ 52)

units-digits : (x t u : ℕ) → t < u → units x t < units x u
unfolding units
units-digits zero t u h = h
units-digits (suc x) t u h = mul-lt-mul_of_pos_right (more t u h) (pow_pos x)
  where
    more : (t u : ℕ) → t < u → 2 ^ 52 + t < 2 ^ 52 + u
    more t u h = omega arith

units-exponent : (x t y u : ℕ) → t < 2 ^ 52 → x < y → units x t < units y u
units-exponent x t zero u h l = absurd (none x l)
  where
    none : (x : ℕ) → x < 0 → ⊥
    none x h = omega arith
units-exponent x t (suc y) u h l = lt_of_lt_of_le (units-below x t h) (le_trans (mul-le-mul_left (2 ^ 52) (pow_mono (less x y l))) (units-above y u))
  where
    less : (x y : ℕ) → x < suc y → x ≤ y
    less x y h = omega arith

key-grows : (j k : ℕ) → j < k → key j < key k
key-grows j k h =
    ⊎_elim
    (λ (l : j / 2 ^ 52 < k / 2 ^ 52). units-exponent (j / 2 ^ 52) (j % 2 ^ 52) (k / 2 ^ 52) (k % 2 ^ 52) (mod-lt j (lit< tt)) l)
    (λ (p : (j / 2 ^ 52 ≡ k / 2 ^ 52) × (j % 2 ^ 52 < k % 2 ^ 52)). subst (λ (x : ℕ). units (j / 2 ^ 52) (j % 2 ^ 52) < units x (k % 2 ^ 52)) p.0 (units-digits (j / 2 ^ 52) (j % 2 ^ 52) (k % 2 ^ 52) p.1))
    (split (ltb (j / 2 ^ 52) (k / 2 ^ 52)) (ltb-true (j / 2 ^ 52) (k / 2 ^ 52)) (ltb-false (j / 2 ^ 52) (k / 2 ^ 52)))
  where
    split : (t : Bool) → (t ≡ true → j / 2 ^ 52 < k / 2 ^ 52) → (t ≡ false → k / 2 ^ 52 ≤ j / 2 ^ 52) → (j / 2 ^ 52 < k / 2 ^ 52) ⊎ ((j / 2 ^ 52 ≡ k / 2 ^ 52) × (j % 2 ^ 52 < k % 2 ^ 52))
    split true p q = inl (p refl)
    split false p q = let l = q refl in inr (omega arith, omega arith)

key-zero : key 0 ≡ 0
unfolding units
key-zero = refl

size-key : (b : ℕ) → size_of b ≡ key (b % 2 ^ 63)
unfolding size_of
size-key b = ap (units (exponent b)) (same b)
  where
    same : (b : ℕ) → b % 2 ^ 52 ≡ b % 2 ^ 63 % 2 ^ 52
    same b = omega arith

-- ---- the laws that `order` uses

-- Two Doubles compare as their signs and the bits below them.
pub bits-order : (p q : ℕ) → is_nan p ≡ false → is_nan q ≡ false → order_of (point_of p) (point_of q) ≡ Some (signed_order (negative p) (p % 2 ^ 63) (negative q) (q % 2 ^ 63))
bits-order p q h k =
    order-sized beyond (pow_pos 2098) (point_of p) (point_of q) (negative p) (size_of p) (negative q) (size_of q) (bits-sized p h) (bits-sized q k)
    ∙ (λ i. Some (signed_order (negative p) (size-key p i) (negative q) (size-key q i)))
    ∙ ap Some (signed-map key key-zero key-grows (negative p) (p % 2 ^ 63) (negative q) (q % 2 ^ 63))

-- A whole number and a Double compare as their signs and sizes.
whole-bits-order : (s : Bool) (n b : ℕ) (t : Bool) → n < 2 ^ 64 → is_nan b ≡ false → negative b ≡ t → order_of (whole_point s n) (point_of b) ≡ Some (signed_order s (n * 2 ^ 1074) t (size_of b))
whole-bits-order s n b t h k e = order-sized beyond (pow_pos 2098) (whole_point s n) (point_of b) s (n * 2 ^ 1074) (negative b) (size_of b) (whole-sized s n h) (bits-sized b k) ∙ ap (λ (u : Bool). Some (signed_order s (n * 2 ^ 1074) u (size_of b))) e

module _ (n b : ℕ) (h : n < 2 ^ 64) (k : is_nan b ≡ false) where
  pub whole_above : negative b ≡ false → order_of (whole_point false n) (point_of b) ≡ Some (size_order (n * 2 ^ 1074) (size_of b))
  whole_above e = whole-bits-order false n b false h k e ∙ unfold signed_order in refl

  pub whole_below : negative b ≡ true → order_of (whole_point true n) (point_of b) ≡ Some (ordering_reverse (size_order (n * 2 ^ 1074) (size_of b)))
  whole_below e = whole-bits-order true n b true h k e ∙ unfold signed_order in ap Some (size-swap (size_of b) (n * 2 ^ 1074))

  -- of unlike signs only the zeros matter
  pub whole-unlike : (s : Bool) → negative b ≡ not s → order_of (whole_point s n) (point_of b) ≡ Some (signed_order s n (not s) (b % 2 ^ 63))
  whole-unlike s e =
      whole-bits-order s n b (not s) h k e
      ∙ ap (λ (m : ℕ). Some (signed_order s (n * 2 ^ 1074) (not s) m)) (size-key b)
      ∙ ap Some (unlike-map (λ (m : ℕ). m * 2 ^ 1074) key (zero-mul (2 ^ 1074)) key-zero (λ (m : ℕ) p. mul-pos p (pow_pos 1074)) (some key key-zero key-grows) s n (b % 2 ^ 63))
