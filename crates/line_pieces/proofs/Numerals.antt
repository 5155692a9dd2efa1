-- Numbers as text, a digit after the other. Assumes nothing.
use Prim.Native.Nat.{ℕ, zero, suc, ◌-◌, ◌/◌, ◌%◌, ◌^◌, ◌≤◌, ◌<◌}
use mathlib.Core.Path.{◌≡◌, refl, sym, ap, ◌∙◌}
use mathlib.Core.Bool.{true, false, cond, true≢false}
use mathlib.Core.List.{[], ◌∷◌, ◌++◌}
use native.Mathlib.Omega.{arith}
use lib.Dec.{ltb}
use lib.IntN.{ℤ, pos, negsuc, nat_abs}
use lib.Signed.{lt_z}
use borrow.Author.Tests.{lt-ltb, le-ltb, ltb-true}
use Rattle.line_pieces.specs.Page.{Page, put, puts}
use Rattle.line_pieces.specs.Spelled.{digit_of, hexadecimal, decimal_to, decimal, signed}
use Rattle.line_pieces.proofs.Putting.{puts_joined}

-- ---- hexadecimal

pub digits_none : (x : ℕ) (p : Page) → puts (hexadecimal 0 x) p ≡ p
unfolding puts hexadecimal
digits_none x p = refl

one-less : (n : ℕ) → n ≡ suc n - 1
one-less n = omega arith

-- the last digit comes after the others
pub digits_last : (n x : ℕ) (p : Page) → (n ≡ 0 → ⊥) → puts (hexadecimal n x) p ≡ put (digit_of (x % 16)) (puts (hexadecimal (n - 1) (x / 16)) p)
unfolding puts hexadecimal
digits_last zero x p h = absurd (h refl)
digits_last (suc n) x p h = puts_joined (hexadecimal n (x / 16)) (digit_of (x % 16) ∷ []) p ∙ ap (λ k. put (digit_of (x % 16)) (puts (hexadecimal k (x / 16)) p)) (one-less n)

-- ---- decimal

tenth : (n x : ℕ) → x < 10 ^ suc n → x / 10 < 10 ^ n
tenth n x h = omega arith

-- one digit more changes nothing
room-enough : (n x : ℕ) → x < 10 ^ suc n → decimal_to (suc n) x ≡ decimal_to (suc (suc n)) x
unfolding decimal_to
room-enough zero x h = ap (λ t. cond t (digit_of x ∷ []) (decimal_to 0 (x / 10) ++ digit_of (x % 10) ∷ [])) (lt-ltb x 10 h) ∙ ap (λ t. cond t (digit_of x ∷ []) (decimal_to 1 (x / 10) ++ digit_of (x % 10) ∷ [])) (sym (lt-ltb x 10 h))
room-enough (suc n) x h = ap (λ s. cond (ltb x 10) (digit_of x ∷ []) (s ++ digit_of (x % 10) ∷ [])) (room-enough n (x / 10) (tenth (suc n) x h))

pub number_one : (x : ℕ) (p : Page) → x < 10 → puts (decimal x) p ≡ put (digit_of (x % 10)) p
unfolding puts decimal decimal_to
number_one x p h =
    ap (λ t. puts (cond t (digit_of x ∷ []) (decimal_to 19 (x / 10) ++ digit_of (x % 10) ∷ [])) p) (lt-ltb x 10 h)
    ∙ ap (λ d. put (digit_of d) p) (omega arith)

-- the last digit comes after the others
pub number_more : (x : ℕ) (p : Page) → 10 ≤ x → x < 2 ^ 64 → puts (decimal x) p ≡ put (digit_of (x % 10)) (puts (decimal (x / 10)) p)
unfolding puts decimal decimal_to
number_more x p h b =
    ap (λ t. puts (cond t (digit_of x ∷ []) (decimal_to 19 (x / 10) ++ digit_of (x % 10) ∷ [])) p) (le-ltb x 10 h)
    ∙ ap (λ s. puts (s ++ digit_of (x % 10) ∷ []) p) (room-enough 18 (x / 10) (omega arith))
    ∙ puts_joined (decimal_to 20 (x / 10)) (digit_of (x % 10) ∷ []) p

-- ---- with a sign

pub signed_negative : (z : ℤ) (p : Page) → lt_z z (pos 0) ≡ true → puts (signed z) p ≡ puts (decimal (nat_abs z)) (put 45 p)
unfolding signed puts
signed_negative (pos n) p t = absurd (never n (ltb-true n 0 t))
  where
    never : (n : ℕ) → n < 0 → ⊥
    never n h = omega arith
signed_negative (negsuc n) p t = refl

pub signed_positive : (z : ℤ) (p : Page) → lt_z z (pos 0) ≡ false → puts (signed z) p ≡ puts (decimal (nat_abs z)) p
unfolding signed
signed_positive (pos n) p t = refl
signed_positive (negsuc n) p t = absurd (true≢false t)
