-- Arithmetic on Doubles, said over whole numbers and without how it is computed: the exact result rounded once, to nearest, ties to even.
-- Sizes count units of 2 ^ -1074 (numbers, Double.antt). A Double of 53 digits has a size q * 2 ^ k with q below 2 ^ 53.
use Rattle.std.specs.Prelude.{◌≡◌, ◌⊎◌, Bool, true, false, not, ◌&&◌, cond, ℕ, zero, suc, ◌+◌, ◌-◌, ◌*◌, ◌^◌, ◌≤◌, ◌<◌, ltb, ℤ, pos, negsuc, neg_ℤ, nat_abs, ◌+ℤ◌}
use Rattle.std.specs.Bool.{beq}
use Rattle.numbers.specs.Double.{Point, nan, infinite, finite, point_of, arithmetic_nan}

-- ---- rounding

-- how far two whole numbers lie apart
abbrev pub apart : ℕ → ℕ → ℕ
apart a b = (a - b) + (b - a)

-- the last of the 53 digits of g is 0: g is 2 * m * 2 ^ k, where 2 * m fills the digits or k is 0
abbrev pub EvenDigit : ℕ → Type 0
EvenDigit g = (m : ℕ) × (k : ℕ) × (g ≡ m * 2 * 2 ^ k) × (m * 2 ≤ 2 ^ 53) × ((k ≡ 0) ⊎ (2 ^ 52 ≤ m * 2))

-- g is n / den rounded: 53 digits hold it, nothing that they hold is nearer, and where another is as near, g's last digit is even
pub record NearestEven (n den g : ℕ) : Type 0 where
  pub held : (q : ℕ) × (k : ℕ) × (q < 2 ^ 53) × (g ≡ q * 2 ^ k)
  pub near : (q k : ℕ) → q < 2 ^ 53 → apart n (g * den) ≤ apart n (q * 2 ^ k * den)
  pub even : (q k : ℕ) → q < 2 ^ 53 → (q * 2 ^ k ≡ g → ⊥) → apart n (q * 2 ^ k * den) ≡ apart n (g * den) → EvenDigit g

-- a size of 2 ^ 1024 or more, which is 2 ^ 2098 units, is beyond the largest Double
abbrev pub or_infinite : Bool → ℕ → Point
or_infinite s g = cond (ltb g (2 ^ 2098)) (finite s g) (infinite s)

-- r is ± n / den units, rounded once
pub record Rounded (s : Bool) (n den : ℕ) (r : Point) : Type 0 where
  pub size : ℕ
  pub nearest : NearestEven n den size
  pub point : r ≡ or_infinite s size

-- ---- the operations

abbrev pub unlike : Bool → Bool → Bool
unlike s t = not (beq s t)

abbrev pub signed : Bool → ℕ → ℤ
signed false a = pos a
signed true a = neg_ℤ (pos a)

-- the sign of a sum z; of an exact 0 it is s
abbrev pub sign_of : Bool → ℤ → Bool
sign_of s (pos zero) = s
sign_of s (pos (suc n)) = false
sign_of s (negsuc n) = true

-- r is x + y; an exact 0 is -0 only where both are negative
abbrev pub Sum : Point → Point → Point → Type 0
Sum nan y r = r ≡ nan
Sum (infinite s) nan r = r ≡ nan
Sum (infinite s) (infinite t) r = r ≡ cond (unlike s t) nan (infinite s)
Sum (infinite s) (finite t b) r = r ≡ infinite s
Sum (finite s a) nan r = r ≡ nan
Sum (finite s a) (infinite t) r = r ≡ infinite t
Sum (finite s a) (finite t b) r =
    let z = signed s a +ℤ signed t b in
    Rounded (sign_of (s && t) z) (nat_abs z) 1 r

abbrev pub negated : Point → Point
negated nan = nan
negated (infinite s) = infinite (not s)
negated (finite s a) = finite (not s) a

-- r is x - y
abbrev pub Difference : Point → Point → Point → Type 0
Difference x y r = Sum x (negated y) r

-- r is x * y; a * b / 2 ^ 1074 units
abbrev pub Product : Point → Point → Point → Type 0
Product nan y r = r ≡ nan
Product (infinite s) nan r = r ≡ nan
Product (infinite s) (infinite t) r = r ≡ infinite (unlike s t)
Product (infinite s) (finite t zero) r = r ≡ nan
Product (infinite s) (finite t (suc b)) r = r ≡ infinite (unlike s t)
Product (finite s a) nan r = r ≡ nan
Product (finite s zero) (infinite t) r = r ≡ nan
Product (finite s (suc a)) (infinite t) r = r ≡ infinite (unlike s t)
Product (finite s a) (finite t b) r = Rounded (unlike s t) (a * b) (2 ^ 1074) r

-- r is x / y; a * 2 ^ 1074 / b units
abbrev pub Quotient : Point → Point → Point → Type 0
Quotient nan y r = r ≡ nan
Quotient (infinite s) nan r = r ≡ nan
Quotient (infinite s) (infinite t) r = r ≡ nan
Quotient (infinite s) (finite t b) r = r ≡ infinite (unlike s t)
Quotient (finite s a) nan r = r ≡ nan
Quotient (finite s a) (infinite t) r = r ≡ finite (unlike s t) 0
Quotient (finite s zero) (finite t zero) r = r ≡ nan
Quotient (finite s (suc a)) (finite t zero) r = r ≡ infinite (unlike s t)
Quotient (finite s a) (finite t (suc b)) r = Rounded (unlike s t) (a * 2 ^ 1074) (suc b) r

abbrev pub Negation : Point → Point → Type 0
Negation x r = r ≡ negated x

-- b is the answer of an operation, where `Right` says which point the result is: 64 bits that stand for that point; for a NaN the one of arithmetic
pub record Answer (Right : Point → Type 0) (b : ℕ) : Type 0 where
  pub fits : b < 2 ^ 64
  pub right : Right (point_of b)
  pub one_nan : point_of b ≡ nan → b ≡ arithmetic_nan
