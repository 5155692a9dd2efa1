-- The size of a float by its fields, cut to a whole number, as `size_of` works it out. Assumes nothing.
use mathlib.Core.Path.{◌≡◌, refl, sym, ap, ◌∙◌, subst}
use mathlib.Core.Bool.{Bool, true, false, not, cond}
use Prim.Native.Nat.{ℕ, zero, suc, ◌+◌, ◌*◌, ◌/◌, ◌%◌, ◌^◌, ◌≤◌, ◌<◌, zero-le, suc-le-suc}
use native.Mathlib.Nat.{zero-mul, zero-add, add-zero, add_comm, add-mul, mul_assoc, mul-pos, mul-le-mul, le_trans, le_of_eq, lt_of_lt_of_le, lt_of_le_of_lt, mod-lt, mod-eq_of_lt, div-add-mod', mul-lt-mul_of_pos_right, div-le_self, lt_irrefl, le-div_iff_mul-le, div-lt_iff_lt-mul}
use native.Mathlib.Omega.{arith}
use lib.Dec.{ltb, eqb, lit<, lit≤}
use lib.Arith.{lt_of_le-ne, digits_lt, digits_div, digits_mod}
use lib.Pow.{pow_pos, pow_mono, pow-add, shl_lt}
use borrow.Author.Tests.{lt-ltb, le-ltb, eq-eqb, ne_eqb, eqb-true, eqb-false, ltb-true, ltb-false, not-true, not-false}
use Rattle.std.specs.Prelude.{Option, None, Some, unwrap_or}
use Rattle.std.specs.declared.cmp.Ordering.TheVariants.{Less, Equal, Greater}
use Rattle.std.specs.Ordering.{nat_cmp, bool_cmp, ordering_then}
use Rattle.numbers_order.specs.Size.{cut}
use Rattle.numbers.specs.Double.{units}
use Rattle.numbers.specs.Order.{size_order}
use Rattle.numbers_laws.proofs.SignedOrder.{size_less, size-equal, size-greater}

-- ---- `cut`, over any unit D
module _ (D : ℕ) where
  abbrev cut_by : ℕ → Option (ℕ × Bool)
  cut_by n = cond (ltb n (2 ^ 64 * D)) (Some (n / D, not (eqb (n % D) 0))) None

  cut_in : (n w r : ℕ) → n ≡ w * D + r → r < D → w < 2 ^ 64 → cut_by n ≡ Some (w, not (eqb r 0))
  cut_in n w r e h k =
      ap cut_by e
      ∙ rw (lt-ltb (w * D + r) (2 ^ 64 * D) (digits_lt k h), digits_div w h, digits_mod w h)

  cut_out : (n : ℕ) → 2 ^ 64 * D ≤ n → cut_by n ≡ None
  cut_out n h = rw (le-ltb n (2 ^ 64 * D) h)

pub cut_parts : (n w r : ℕ) → n ≡ w * 2 ^ 1074 + r → r < 2 ^ 1074 → w < 2 ^ 64 → cut n ≡ Some (w, not (eqb r 0))
unfolding cut
cut_parts n w r e h k = cut_in (2 ^ 1074) n w r e h k

pub cut-huge : (n : ℕ) → 2 ^ 64 * 2 ^ 1074 ≤ n → cut n ≡ None
unfolding cut
cut-huge n h = cut_out (2 ^ 1074) n h

alone : (D n : ℕ) → n ≡ 0 * D + n
alone D n = sym (ap (λ (x : ℕ). x + n) (zero-mul D) ∙ zero-add n)

-- ---- the five cases
pub size-zero : (t : ℕ) → t < 2 ^ 52 → cut (units 0 t) ≡ Some (0, not (eqb t 0))
unfolding units
size-zero t h = cut_parts t 0 t (alone (2 ^ 1074) t) (lt_of_lt_of_le h (pow_mono {i = 52} {j = 1074} (lit≤ tt))) (lit< tt)

above : (a b : ℕ) → 0 < b → 0 < a + b
above a b h = omega arith

full : (t : ℕ) → t < 2 ^ 52 → 2 ^ 52 + t < 2 ^ 53
full t h = omega arith

pub size_small : (x t : ℕ) → t < 2 ^ 52 → suc x < 1023 → cut (units (suc x) t) ≡ Some (0, true)
unfolding units
size_small x t h k =
    let n = (2 ^ 52 + t) * 2 ^ x in
    let p : 0 < n = mul-pos (omega arith) (pow_pos x) in
    cut_parts n 0 n (alone (2 ^ 1074) n) (lt_of_lt_of_le (shl_lt 53 x (full t h)) (pow_mono {i = 53 + x} {j = 1074} (omega arith))) (lit< tt)
    ∙ ap (λ (z : Bool). Some (0, not z)) (ne_eqb n 0 (λ e. lt_irrefl 0 (subst (λ (y : ℕ). 0 < y) e p)))

whole-rest : (q J X : ℕ) → q * X ≡ q / J * (J * X) + q % J * X
whole-rest q J X = ap (λ (z : ℕ). z * X) (sym (div-add-mod' q J)) ∙ add-mul (q / J * J) (q % J) X ∙ ap (λ (z : ℕ). z + q % J * X) (mul_assoc (q / J) J X)

rest-zero : (q J X : ℕ) → 0 < X → eqb (q % J * X) 0 ≡ eqb (q / J * J) q
rest-zero q J X P = go (eqb (q / J * J) q) (eqb-true (q / J * J) q) (eqb-false (q / J * J) q)
  where
    split : q / J * J + q % J ≡ q
    split = div-add-mod' q J

    go : (t : Bool) → (t ≡ true → q / J * J ≡ q) → (t ≡ false → q / J * J ≡ q → ⊥) → eqb (q % J * X) 0 ≡ t
    go true h k =
        let e : q / J * J ≡ q = h refl in
        let z : q % J ≡ 0 = omega (arith, split) in
        eq-eqb (q % J * X) 0 (ap (λ (y : ℕ). y * X) z ∙ zero-mul X)
    go false h k = ne_eqb (q % J * X) 0 (λ e. k refl (none (q % J) (mul-free (q % J) X P e) split))
      where
        none : (r : ℕ) → r ≡ 0 → q / J * J + r ≡ q → q / J * J ≡ q
        none r z s = omega arith

        mul-free : (r X : ℕ) → 0 < X → r * X ≡ 0 → r ≡ 0
        mul-free zero X P e = refl
        mul-free (suc r) X P e = absurd (lt_irrefl 0 (subst (λ (y : ℕ). 0 < y) e (mul-pos {m = suc r} {n = X} (suc-le-suc zero-le) P)))

pub size-mixed : (x t : ℕ) → t < 2 ^ 52 → 1022 ≤ x → x < 1074 → (j : ℕ) → j + x ≡ 1074
    → cut (units (suc x) t) ≡ Some ((t + 2 ^ 52) / 2 ^ j, not (eqb ((t + 2 ^ 52) / 2 ^ j * 2 ^ j % 2 ^ 64) (t + 2 ^ 52)))
unfolding units
size-mixed x t h lo hi j e =
    let q = t + 2 ^ 52 in
    let D : 2 ^ j * 2 ^ x ≡ 2 ^ 1074 = sym (pow-add 2 j x) ∙ ap (λ (z : ℕ). 2 ^ z) e in
    let small : q < 2 ^ 53 = omega arith in
    let w_le : q / 2 ^ j ≤ q = div-le_self q (2 ^ j) in
    let back : q / 2 ^ j * 2 ^ j ≤ q = le_trans (le-add (q / 2 ^ j * 2 ^ j) (q % 2 ^ j)) (le_of_eq (div-add-mod' q (2 ^ j))) in
    let m : q / 2 ^ j * 2 ^ j % 2 ^ 64 ≡ q / 2 ^ j * 2 ^ j = mod-eq_of_lt (lt_of_le_of_lt back (omega arith)) in
    cut_parts ((2 ^ 52 + t) * 2 ^ x) (q / 2 ^ j) (q % 2 ^ j * 2 ^ x)
    (ap (λ (z : ℕ). z * 2 ^ x) (add_comm (2 ^ 52) t) ∙ whole-rest q (2 ^ j) (2 ^ x) ∙ ap (λ (z : ℕ). q / 2 ^ j * z + q % 2 ^ j * 2 ^ x) D)
    (lt_of_lt_of_le (mul-lt-mul_of_pos_right (mod-lt q (pow_pos j)) (pow_pos x)) (le_of_eq D))
    (omega arith)
    ∙ ap (λ (z : Bool). Some (q / 2 ^ j, not z)) (rest-zero q (2 ^ j) (2 ^ x) (pow_pos x) ∙ ap (λ (y : ℕ). eqb y q) (sym m))
  where
    le-add : (a b : ℕ) → a ≤ a + b
    le-add a b = omega arith

pub size-whole : (x t : ℕ) → t < 2 ^ 52 → (e : ℕ) → e + 1074 ≡ x → e < 12 → cut (units (suc x) t) ≡ Some ((t + 2 ^ 52) * 2 ^ e % 2 ^ 64, false)
unfolding units
size-whole x t h e f l =
    let q = t + 2 ^ 52 in
    let small : q < 2 ^ 53 = omega arith in
    let fit : q * 2 ^ e < 2 ^ 64 = lt_of_lt_of_le (shl_lt 53 e small) (pow_mono {i = 53 + e} {j = 64} (omega arith)) in
    cut_parts ((2 ^ 52 + t) * 2 ^ x) (q * 2 ^ e) 0
    (ap (λ (z : ℕ). z * 2 ^ x) (add_comm (2 ^ 52) t)
    ∙ ap (λ (z : ℕ). q * 2 ^ z) (sym f) ∙ ap (λ (z : ℕ). q * z) (pow-add 2 e 1074) ∙ sym (mul_assoc q (2 ^ e) (2 ^ 1074)) ∙ sym (add-zero (q * 2 ^ e * 2 ^ 1074)))
    (pow_pos 1074) fit
    ∙ ap (λ (z : ℕ). Some (z, false)) (sym (mod-eq_of_lt fit))

pub huge-ge : (x t : ℕ) → 1086 ≤ x → 2 ^ 64 * 2 ^ 1074 ≤ (2 ^ 52 + t) * 2 ^ x
huge-ge x t h = le_trans (le_of_eq (sym (pow-add 2 64 1074) ∙ pow-add 2 52 1086)) (mul-le-mul (le-add (2 ^ 52) t) (pow_mono h))
  where
    le-add : (a b : ℕ) → a ≤ a + b
    le-add a b = omega arith

pub size-huge : (x t : ℕ) → 1086 ≤ x → cut (units (suc x) t) ≡ None
unfolding units
size-huge x t h = cut-huge ((2 ^ 52 + t) * 2 ^ x) (huge-ge x t h)

-- ---- what a cut size says
module _ (D : ℕ) where
  parts-by : (n w : ℕ) (m : Bool) → Some (w, m) ≡ cut_by D n → (w ≡ n / D) × (m ≡ not (eqb (n % D) 0))
  parts-by n w m e = go (ltb n (2 ^ 64 * D)) e
    where
      go : (t : Bool) → ◌≡◌ {A = Option (ℕ × Bool)} (Some (w, m)) (cond t (Some (n / D, not (eqb (n % D) 0))) None) → (w ≡ n / D) × (m ≡ not (eqb (n % D) 0))
      go true h = (ap (λ (o : Option (ℕ × Bool)). (unwrap_or o (0, false)).0) h, ap (λ (o : Option (ℕ × Bool)). (unwrap_or o (0, false)).1) h)
      go false h = (cc, cc)

  huge-by : (n : ℕ) → None ≡ cut_by D n → 2 ^ 64 * D ≤ n
  huge-by n e = go (ltb n (2 ^ 64 * D)) (ltb-false n (2 ^ 64 * D)) e
    where
      go : (t : Bool) → (t ≡ false → 2 ^ 64 * D ≤ n) → ◌≡◌ {A = Option (ℕ × Bool)} None (cond t (Some (n / D, not (eqb (n % D) 0))) None) → 2 ^ 64 * D ≤ n
      go true h k = let z : ◌≡◌ {A = ℕ} 0 1 = cc in absurd (omega arith)
      go false h k = h refl

  under : (n N w : ℕ) → 0 < D → w ≡ N / D → n < w → n * D < N
  under n N w P e h = lt_of_lt_of_le (mul-lt-mul_of_pos_right (lt-suc n) P) ((le-div_iff_mul-le P).0 (subst (λ (x : ℕ). n < x) e h))
    where
      lt-suc : (n : ℕ) → n < suc n
      lt-suc n = omega arith

  over : (n N w : ℕ) → 0 < D → w ≡ N / D → w < n → N < n * D
  over n N w P e h = (div-lt_iff_lt-mul P).0 (subst (λ (x : ℕ). x < n) e h)

  more-than : (n N w : ℕ) → w ≡ N / D → n ≡ w → not (eqb (N % D) 0) ≡ true → n * D < N
  more-than n N w e f t =
      let s : n * D + N % D ≡ N = ap (λ (x : ℕ). x * D + N % D) (f ∙ e) ∙ div-add-mod' N D in
      let k = eqb-false (N % D) 0 (not-true _ t) in
      omega (arith, k)

  exactly : (n N w : ℕ) → w ≡ N / D → n ≡ w → not (eqb (N % D) 0) ≡ false → n * D ≡ N
  exactly n N w e f t =
      let s : n * D + N % D ≡ N = ap (λ (x : ℕ). x * D + N % D) (f ∙ e) ∙ div-add-mod' N D in
      let k = eqb-true (N % D) 0 (not-false _ t) in
      omega (arith, k)

pub parts_are : (n w : ℕ) (m : Bool) → Some (w, m) ≡ cut n → (w ≡ n / 2 ^ 1074) × (m ≡ not (eqb (n % 2 ^ 1074) 0))
unfolding cut
parts_are n w m e = parts-by (2 ^ 1074) n w m e

-- n against the size N, by the parts of N
pub less-huge : (n N : ℕ) → n < 2 ^ 64 → None ≡ cut N → n * 2 ^ 1074 < N
unfolding cut
less-huge n N h e = lt_of_lt_of_le (mul-lt-mul_of_pos_right h (pow_pos 1074)) (huge-by (2 ^ 1074) N e)

-- the parts in their order, with nothing more on the left
pub parts-order : (n N : ℕ) (p : ℕ × Bool) → Some p ≡ cut N → ordering_then (nat_cmp n p.0) (bool_cmp false p.1) ≡ size_order (n * 2 ^ 1074) N
parts-order n N (w, m) e = go (ltb n w) (eqb n w) m refl (ltb-true n w) (ltb-false n w) (eqb-true n w) (eqb-false n w)
  where
    whole : w ≡ N / 2 ^ 1074
    whole = (parts_are N w m e).0

    rest : m ≡ not (eqb (N % 2 ^ 1074) 0)
    rest = (parts_are N w m e).1

    go : (l q r : Bool) → m ≡ r → (l ≡ true → n < w) → (l ≡ false → w ≤ n) → (q ≡ true → n ≡ w) → (q ≡ false → n ≡ w → ⊥)
        → ordering_then (cond l Less (cond q Equal Greater)) (bool_cmp false r) ≡ size_order (n * 2 ^ 1074) N
    go true q r f h k x y = sym (size_less _ _ (under (2 ^ 1074) n N w (pow_pos 1074) whole (h refl)))
    go false true true f h k x y = sym (size_less _ _ (more-than (2 ^ 1074) n N w whole (x refl) (sym rest ∙ f)))
    go false true false f h k x y = sym (size-equal _ _ (exactly (2 ^ 1074) n N w whole (x refl) (sym rest ∙ f)))
    go false false r f h k x y = sym (size-greater _ _ (over (2 ^ 1074) n N w (pow_pos 1074) whole (lt_of_le-ne (k refl) (λ z. y refl (sym z)))))
