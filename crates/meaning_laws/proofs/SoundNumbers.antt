-- Arithmetic stays within 64 bits: what each operator on Int, Uint and Double answers is a number of its kind.
-- Rests on the laws of the crates numbers and numbers_laws. Assumes nothing.
use Prim.Native.Nat.{ℕ, ◌^◌, ◌<◌}
use mathlib.Core.Path.{◌≡◌}
use mathlib.Core.Bool.{true}
use Rattle.std.specs.Prelude.{Option, None, Some}
use lib.IntN.{ℤ}
use Rattle.numbers.specs.Int.{in_range}
use Rattle.numbers.specs.Double.{neg_bits}
use Rattle.numbers.proofs.RangeLaws.{IntInRange, int-add, int-sub, int-mul, int_div, int_rem, UintInRange, uint-add, uint-sub, uint-mul, uint-div, uint-rem}
use Rattle.numbers_laws.proofs.RoundingLaws.{add_right, sub-right, mul_right, div-right, neg_right}
use Rattle.meaning.specs.Expr.{Arith, add, sub, div, mul, rem}
use Rattle.meaning.specs.Numbers.{int_arith, uint_arith, double_arith}

-- Arithmetic on Int gives an Int of 64 bits, or an error.
pub int-in-range : (o : Arith) (a b : ℤ) → in_range a ≡ true → IntInRange (int_arith o a b)
unfolding int_arith
int-in-range add a b h = int-add a b
int-in-range sub a b h = int-sub a b
int-in-range div a b h = int_div a b
int-in-range mul a b h = int-mul a b
int-in-range rem a b h = int_rem a b h

-- Arithmetic on Uint gives a Uint of 64 bits, or an error.
pub uint-in-range : (o : Arith) (a b : ℕ) → a < 2 ^ 64 → UintInRange (uint_arith o a b)
unfolding uint_arith
uint-in-range add a b h = uint-add a b
uint-in-range sub a b h = uint-sub a b h
uint-in-range div a b h = uint-div a b h
uint-in-range mul a b h = uint-mul a b
uint-in-range rem a b h = uint-rem a b h

abbrev pub DoubleInRange : Option ℕ → Type 0
DoubleInRange None = Unit {0}
DoubleInRange (Some d) = d < 2 ^ 64

-- Arithmetic on Double gives 64 bits.
pub double-in-range : (o : Arith) (a b : ℕ) → DoubleInRange (double_arith o a b)
unfolding double_arith
double-in-range add a b = (add_right a b).fits
double-in-range sub a b = (sub-right a b).fits
double-in-range div a b = (div-right a b).fits
double-in-range mul a b = (mul_right a b).fits
double-in-range rem a b = tt

-- So does unary `-` on Double.
pub negated-double-in-range : (a : ℕ) → neg_bits a < 2 ^ 64
negated-double-in-range a = (neg_right a).fits
