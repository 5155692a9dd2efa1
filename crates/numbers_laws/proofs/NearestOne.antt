-- No second size is nearest with ties to even: `NearestEven` settles the rounded size. Assumes nothing.
use mathlib.Core.Path.{◌≡◌, refl, sym, ap, ◌∙◌, subst}
use mathlib.Core.Logic.{◌⊎◌, inr, ⊎_elim}
use Prim.Native.Nat.{ℕ, suc, ◌+◌, ◌-◌, ◌*◌, ◌/◌, ◌%◌, ◌^◌, ◌≤◌, ◌<◌}
use native.Mathlib.Nat.{le_trans, le_of_eq, le_antisymm, lt_of_lt_of_le, lt_irrefl, eq-or-lt_of_le, mul_assoc, mul_right_comm, mul-le-mul_right, mul-lt-mul_of_pos_right, le_of_mul-le-mul_right}
use native.Mathlib.Omega.{arith}
use lib.Dec.{lit<, lit≤}
use lib.Pow.{pow_pos, pow_mono, pow-add}
use lib.Ieee.Digits.{back}
use Rattle.numbers_laws.proofs.PointLaws.{shift}
use Rattle.numbers_laws.proofs.Nearest.{split}
use Rattle.numbers_laws.specs.Rounding.{apart, EvenDigit, NearestEven}

-- an even size with its digits in their places, below 2 ^ 53
abbrev Placed : ℕ → Type 0
Placed g = (m : ℕ) × (k : ℕ) × (g ≡ m * 2 ^ k) × (m % 2 ≡ 0) × (m < 2 ^ 53) × ((k ≡ 0) ⊎ (2 ^ 52 ≤ m))

placed : (g : ℕ) → EvenDigit g → Placed g
placed g (m, k, e, l, p) =
    ⊎_elim
    (λ (f : m * 2 ≡ 2 ^ 53). (2 ^ 52, suc k, e ∙ ap (λ (x : ℕ). x * 2 ^ k) f ∙ sym (pow-add 2 53 k) ∙ ap (λ (x : ℕ). 2 ^ x) (shift k) ∙ pow-add 2 52 (suc k), refl, lit< tt, inr (lit≤ tt)))
    (λ (h : m * 2 < 2 ^ 53). (m * 2, k, e, twice m, h, p))
    (eq-or-lt_of_le l)
  where
    twice : (m : ℕ) → m * 2 % 2 ≡ 0
    twice m = omega arith

-- n lies midway between G and H, so what lies between them is nearer
nearer : (n G R H : ℕ) → G < R → R < H → apart n G ≡ apart n H → apart n G ≤ apart n R → ⊥
nearer n G R H a b t h = omega arith

even-product : (m x s : ℕ) → m % 2 ≡ 0 → s % 2 ≡ 0 → m * x ≡ suc s → ⊥
even-product m x s h k e =
    let d : m ≡ m / 2 * 2 = half m h in
    let f : m / 2 * x * 2 ≡ suc s = mul_right_comm (m / 2) x 2 ∙ ap (λ (z : ℕ). z * x) (sym d) ∙ e in
    odd (m / 2 * x) s k f
  where
    half : (m : ℕ) → m % 2 ≡ 0 → m ≡ m / 2 * 2
    half m h = omega arith

    odd : (y s : ℕ) → s % 2 ≡ 0 → y * 2 ≡ suc s → ⊥
    odd y s k f = omega arith

-- the next size after an even one is not even, and there is none between
module _ (g h : ℕ) (g<h : g < h) where
  step : (a k b j : ℕ) → g ≡ a * 2 ^ k → h ≡ b * 2 ^ j → a % 2 ≡ 0 → b % 2 ≡ 0 → b < 2 ^ 53 → (k ≡ 0) ⊎ (2 ^ 52 ≤ a) → h ≤ suc a * 2 ^ k → ⊥
  step a k b j eg eh ea eb lb p l = ⊎_elim coarse fine (split k j)
    where
      coarse : k ≤ j → ⊥
      coarse x =
          let y : h ≡ b * 2 ^ (j - k) * 2 ^ k = eh ∙ ap (λ (z : ℕ). b * 2 ^ z) (sym (back j k x)) ∙ ap (λ (z : ℕ). b * z) (pow-add 2 (j - k) k) ∙ sym (mul_assoc b (2 ^ (j - k)) (2 ^ k)) in
          let up : b * 2 ^ (j - k) ≤ suc a = le_of_mul-le-mul_right (subst (λ (z : ℕ). z ≤ suc a * 2 ^ k) y l) (pow_pos k) in
          let down : a < b * 2 ^ (j - k) = above (subst (λ (z : ℕ). g < z) y g<h) in
          even-product b (2 ^ (j - k)) a eb ea (le_antisymm up down)
        where
          above : {c : ℕ} → g < c * 2 ^ k → a < c
          above {c} v = ⊎_elim (λ (w : c ≤ a). absurd (lt_irrefl g (lt_of_lt_of_le v (le_trans (mul-le-mul_right (2 ^ k) w) (le_of_eq (sym eg)))))) (λ (w : a < c). w) (split c a)

      fine : j < k → ⊥
      fine x = ⊎_elim (λ (z : k ≡ 0). none z x) (λ (f : 2 ^ 52 ≤ a). lt_irrefl g (lt_of_lt_of_le g<h (le_trans (le_of_eq eh) (le_trans (mul-le-mul_right (2 ^ j) (weak lb)) (le_trans (le_of_eq (sym (pow-add 2 53 j))) (le_trans (pow_mono {i = 53 + j} {j = 52 + k} (count j k x)) (le_trans (le_of_eq (pow-add 2 52 k)) (le_trans (mul-le-mul_right (2 ^ k) f) (le_of_eq (sym eg)))))))))) p
        where
          none : k ≡ 0 → j < k → ⊥
          none z x = omega arith

          weak : {x y : ℕ} → x < y → x ≤ y
          weak v = omega arith

          count : (j k : ℕ) → j < k → 53 + j ≤ 52 + k
          count j k v = omega arith

no-two : (n den g h : ℕ) → 0 < den → g < h → NearestEven n den g → NearestEven n den h → ⊥
no-two n den g h D l G H =
    let gr = G.held in
    let hr = H.held in
    let t : apart n (g * den) ≡ apart n (h * den) = le_antisymm
    (le_trans (G.near hr.0 hr.1 hr.2) (le_of_eq (ap (λ (x : ℕ). apart n (x * den)) (sym hr.3))))
    (le_trans (H.near gr.0 gr.1 gr.2) (le_of_eq (ap (λ (x : ℕ). apart n (x * den)) (sym gr.3)))) in
    let pg = placed g (G.even hr.0 hr.1 hr.2 (λ e. lt_irrefl g (lt_of_lt_of_le l (le_of_eq (hr.3 ∙ e)))) (ap (λ (x : ℕ). apart n (x * den)) (sym hr.3) ∙ sym t)) in
    let ph = placed h (H.even gr.0 gr.1 gr.2 (λ e. lt_irrefl g (lt_of_lt_of_le l (le_of_eq (sym e ∙ sym gr.3)))) (ap (λ (x : ℕ). apart n (x * den)) (sym gr.3) ∙ t)) in
    let r = suc pg.0 * 2 ^ pg.1 in
    ⊎_elim
    (λ (x : h ≤ r). step g h l pg.0 pg.1 ph.0 ph.1 pg.2 ph.2 pg.3 ph.3 ph.4 pg.5 x)
    (λ (x : r < h). nearer n (g * den) (r * den) (h * den) (mul-lt-mul_of_pos_right (subst (λ (z : ℕ). z < r) (sym pg.2) (mul-lt-mul_of_pos_right (next pg.0) (pow_pos pg.1))) D) (mul-lt-mul_of_pos_right x D) t (G.near (suc pg.0) pg.1 (room pg.0 pg.3 pg.4)))
    (split h r)
  where
    next : (a : ℕ) → a < suc a
    next a = omega arith

    room : (a : ℕ) → a % 2 ≡ 0 → a < 2 ^ 53 → suc a < 2 ^ 53
    room a e v = omega arith

pub one-nearest : (n den g h : ℕ) → 0 < den → NearestEven n den g → NearestEven n den h → g ≡ h
one-nearest n den g h D G H =
    ⊎_elim
    (λ (x : g ≤ h). ⊎_elim (λ (e : g ≡ h). e) (λ (l : g < h). absurd (no-two n den g h D l G H)) (eq-or-lt_of_le x))
    (λ (x : h < g). absurd (no-two n den h g D x H G))
    (split g h)
