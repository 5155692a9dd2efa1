-- A Double is its 64 bits: the sign, 11 bits of exponent and 52 digits of IEEE 754 binary64.
-- In order: what the bits stand for, in whole numbers; arithmetic on bits; the code's `Double`, a spelling of the bits.
-- lib.Ieee is the kit's definition of the machine's floats. That it rounds once and to nearest is proved in the crate numbers_laws.
use Rattle.std.specs.Prelude.{◌≡◌, Bool, true, false, cond, ℕ, zero, suc, ◌+◌, ◌*◌, ◌/◌, ◌%◌, ◌^◌, T, leb, ltb, eqb}
use Rattle.std.specs.Float.Ieee as Ieee
use Rattle.std.specs.Float.{binary64}
use Rattle.std.specs.Float.Ieee.{to_bits, of_bits, fits, ne}
use Rattle.numbers.specs.declared.double.Double.{Double}
use Rattle.numbers.specs.declared.double.Double.TheVariants.{Plain, Nan}

-- ---- what the bits stand for

-- A point of the number line, with both infinities and both zeros, or no number. A Bool is a sign, true below zero.
-- A finite point's size counts units of 2 ^ -1074, the smallest Double: every Double is a whole number of them.
pub data Point : Type 0 where
  nan : Point
  infinite : Bool → Point
  finite : Bool → ℕ → Point

abbrev pub negative : ℕ → Bool
negative b = leb (2 ^ 63) b

abbrev pub exponent : ℕ → ℕ
exponent b = b % 2 ^ 63 / 2 ^ 52

abbrev pub digits : ℕ → ℕ
digits b = b % 2 ^ 52

-- exponent 0 has no leading digit, and the weight of exponent 1
unfoldable pub units : ℕ → ℕ → ℕ
units zero t = t
units (suc x) t = (2 ^ 52 + t) * 2 ^ x

unfoldable pub size_of : ℕ → ℕ
size_of b = units (exponent b) (digits b)

-- exponent 2047 is an infinity, or with other digits than 0 no number
unfoldable pub point_of : ℕ → Point
point_of b =
    cond (eqb (exponent b) 2047)
    (cond (eqb (digits b) 0) (infinite (negative b)) nan)
    (finite (negative b) (size_of b))

-- ---- arithmetic

-- the one NaN that arithmetic gives
abbrev pub arithmetic_nan : ℕ
arithmetic_nan = 0x7FF8_0000_0000_0000

-- `to_bits` writes `arithmetic_nan` for a NaN
unfoldable pub add_bits : ℕ → ℕ → ℕ
add_bits p q = to_bits binary64 (Ieee.add binary64 (of_bits binary64 p) (of_bits binary64 q))

unfoldable pub sub_bits : ℕ → ℕ → ℕ
sub_bits p q = to_bits binary64 (Ieee.sub binary64 (of_bits binary64 p) (of_bits binary64 q))

unfoldable pub mul_bits : ℕ → ℕ → ℕ
mul_bits p q = to_bits binary64 (Ieee.mul binary64 (of_bits binary64 p) (of_bits binary64 q))

unfoldable pub div_bits : ℕ → ℕ → ℕ
div_bits p q = to_bits binary64 (Ieee.div binary64 (of_bits binary64 p) (of_bits binary64 q))

unfoldable pub neg_bits : ℕ → ℕ
neg_bits p = to_bits binary64 (Ieee.neg (of_bits binary64 p))

-- ---- the code's spelling of the bits

abbrev pub bits_of : Double → ℕ
bits_of (Plain x) = to_bits binary64 x
bits_of (Nan b) = b

abbrev pub is_nan : ℕ → Bool
is_nan b = ltb 0x7FF0_0000_0000_0000 (b % 2 ^ 63)

-- a float for a number or an infinity, the bits themselves for a NaN
unfoldable pub double_of : ℕ → Double
double_of b = cond (is_nan b) (Nan b) (Plain (of_bits binary64 b))

unfoldable pub add_of : Double → Double → Double
add_of x y = double_of (add_bits (bits_of x) (bits_of y))

unfoldable pub sub_of : Double → Double → Double
sub_of x y = double_of (sub_bits (bits_of x) (bits_of y))

unfoldable pub mul_of : Double → Double → Double
mul_of x y = double_of (mul_bits (bits_of x) (bits_of y))

unfoldable pub div_of : Double → Double → Double
div_of x y = double_of (div_bits (bits_of x) (bits_of y))

unfoldable pub neg_of : Double → Double
neg_of x = double_of (neg_bits (bits_of x))

-- A Double spelled in the one way: a float that is no NaN, or the bits of a NaN.
abbrev pub Proper : Double → Type 0
Proper (Plain x) = T (fits binary64 x) × (ne x x ≡ false)
Proper (Nan b) = is_nan b ≡ true
