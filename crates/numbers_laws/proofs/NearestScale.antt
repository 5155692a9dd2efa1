-- One exact size has many fractions: a size nearest to n / d is nearest to any m / e that is the same number. Assumes nothing.
use mathlib.Core.Path.{◌≡◌, sym, ap, ◌∙◌}
use Prim.Native.Nat.{ℕ, ◌+◌, ◌-◌, ◌*◌, ◌^◌, ◌≤◌, ◌<◌}
use native.Mathlib.Nat.{le_trans, le_of_eq, mul_right_comm, mul-le-mul_right, le_of_mul-le-mul_right, eq_of_mul-eq-mul_right, add-mul, mul-sub, mul_comm}
use Rattle.numbers_laws.specs.Rounding.{apart, NearestEven}

pub minus-mul : (a b k : ℕ) → (a - b) * k ≡ a * k - b * k
minus-mul a b k = mul_comm (a - b) k ∙ mul-sub k a b ∙ (λ i. mul_comm k a i - mul_comm k b i)

apart-mul : (a b k : ℕ) → apart (a * k) (b * k) ≡ apart a b * k
apart-mul a b k = (λ i. sym (minus-mul a b k) i + sym (minus-mul b a k) i) ∙ sym (add-mul (a - b) (b - a) k)

module _ (n d m e : ℕ) (d-some : 0 < d) (e-some : 0 < e) (same : n * e ≡ m * d) where
  -- the distances to a size g, brought to one denominator
  distance : (g : ℕ) → apart n (g * d) * e ≡ apart m (g * e) * d
  distance g =
      sym (apart-mul n (g * d) e)
      ∙ (λ i. apart (same i) (mul_right_comm g d e i))
      ∙ apart-mul m (g * e) d

  nearer : (g h : ℕ) → apart n (g * d) ≤ apart n (h * d) → apart m (g * e) ≤ apart m (h * e)
  nearer g h l = le_of_mul-le-mul_right (le_trans (le_of_eq (sym (distance g))) (le_trans (mul-le-mul_right e l) (le_of_eq (distance h)))) d-some

  as-near : (g h : ℕ) → apart m (g * e) ≡ apart m (h * e) → apart n (g * d) ≡ apart n (h * d)
  as-near g h q = eq_of_mul-eq-mul_right e e-some (apart n (g * d)) (apart n (h * d)) (distance g ∙ ap (λ (x : ℕ). x * d) q ∙ sym (distance h))

  pub nearest-same : (g : ℕ) → NearestEven n d g → NearestEven m e g
  nearest-same g N = record {
    held = N.held;
    near = λ q k h. nearer g (q * 2 ^ k) (N.near q k h);
    even = λ q k h o t. N.even q k h o (as-near (q * 2 ^ k) g t);
  }
