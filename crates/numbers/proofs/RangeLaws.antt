-- Arithmetic on Int and Uint stays within 64 bits: what each operation answers is a number of its kind, or an error. Assumes nothing.
use Prim.Native.Nat.{ℕ, ◌-◌, ◌/◌, ◌%◌, ◌^◌, ◌≤◌, ◌<◌}
use mathlib.Core.Path.{◌≡◌, refl}
use mathlib.Core.Bool.{Bool, true, false, cond}
use native.Mathlib.Nat.{mod-le, div-le_self}
use native.Mathlib.Omega.{arith}
use lib.IntN.{ℤ}
use lib.Signed.{mag_rem, quot_z, rem_z}
use lib.Dec.{leb, ltb, eqb}
use borrow.Author.Tests.{ltb-true}
use Rattle.numbers.specs.declared.error.ArithmeticError.{ArithmeticError}
use Rattle.numbers.specs.declared.error.ArithmeticError.TheVariants as Failed
use Rattle.std.specs.Prelude.{Result, Ok, Err}
use Rattle.numbers.specs.Int as Int
use Rattle.numbers.specs.Int.{in_range, is_zero}
use Rattle.numbers.specs.Uint as Uint
use Rattle.numbers.specs.Uint.{unless_zero}
use Rattle.numbers.proofs.IntLaws.{in-range, range_small}

-- ---- Int

-- of an answer that is a number
abbrev pub IntInRange : Result ℤ ArithmeticError → Type 0
IntInRange (Ok z) = in_range z ≡ true
IntInRange (Err e) = Unit {0}

answer-in-range : (z : ℤ) → IntInRange (Int.answer z)
unfolding Int.answer
answer-in-range z = go (in_range z) refl
  where
    go : (t : Bool) → in_range z ≡ t → IntInRange (cond t (Ok z) (Err Failed.Overflow))
    go true e = e
    go false e = tt

remainder-in-range : (a b : ℤ) → in_range a ≡ true → in_range (rem_z a b) ≡ true
remainder-in-range a b h = in-range (rem_z a b) (omega (arith, mag_rem a b, range_small a h))

pub int-add : (a b : ℤ) → IntInRange (Int.add_of a b)
unfolding Int.add_of
int-add a b = answer-in-range _

pub int-sub : (a b : ℤ) → IntInRange (Int.sub_of a b)
unfolding Int.sub_of
int-sub a b = answer-in-range _

pub int-mul : (a b : ℤ) → IntInRange (Int.mul_of a b)
unfolding Int.mul_of
int-mul a b = answer-in-range _

pub int-neg : (a : ℤ) → IntInRange (Int.neg_of a)
unfolding Int.neg_of
int-neg a = answer-in-range _

pub int_div : (a b : ℤ) → IntInRange (Int.div_of a b)
unfolding Int.div_of
int_div a b = go (is_zero b)
  where
    go : (t : Bool) → IntInRange (cond t (Err Failed.DivisionByZero) (Int.answer (quot_z a b)))
    go true = tt
    go false = answer-in-range (quot_z a b)

pub int_rem : (a b : ℤ) → in_range a ≡ true → IntInRange (Int.rem_of a b)
unfolding Int.rem_of
int_rem a b h = go (is_zero b) (in_range (quot_z a b))
  where
    go : (t u : Bool) → IntInRange (cond t (Err Failed.RemainderByZero) (cond u (Ok (rem_z a b)) (Err Failed.Overflow)))
    go true u = tt
    go false true = remainder-in-range a b h
    go false false = tt

-- ---- Uint

abbrev pub UintInRange : Result ℕ ArithmeticError → Type 0
UintInRange (Ok n) = n < 2 ^ 64
UintInRange (Err e) = Unit {0}

exact-in-range : (n : ℕ) → UintInRange (Uint.answer n)
unfolding Uint.answer
exact-in-range n = go (ltb n (2 ^ 64)) (ltb-true n (2 ^ 64))
  where
    go : (t : Bool) → (t ≡ true → n < 2 ^ 64) → UintInRange (cond t (Ok n) (Err Failed.Overflow))
    go true h = h refl
    go false h = tt

divided-in-range : (b : ℕ) (e : ArithmeticError) (a n : ℕ) → n ≤ a → a < 2 ^ 64 → UintInRange (unless_zero b e n)
unfolding unless_zero
divided-in-range b e a n h k = go (eqb b 0)
  where
    go : (t : Bool) → UintInRange (cond t (Err e) (Ok n))
    go true = tt
    go false = omega arith

pub uint-add : (a b : ℕ) → UintInRange (Uint.add_of a b)
unfolding Uint.add_of
uint-add a b = exact-in-range _

pub uint-sub : (a b : ℕ) → a < 2 ^ 64 → UintInRange (Uint.sub_of a b)
unfolding Uint.sub_of
uint-sub a b h = go (leb b a)
  where
    go : (t : Bool) → UintInRange (cond t (Ok (a - b)) (Err Failed.Overflow))
    go true = omega arith
    go false = tt

pub uint-mul : (a b : ℕ) → UintInRange (Uint.mul_of a b)
unfolding Uint.mul_of
uint-mul a b = exact-in-range _

pub uint-div : (a b : ℕ) → a < 2 ^ 64 → UintInRange (Uint.div_of a b)
unfolding Uint.div_of
uint-div a b h = divided-in-range b Failed.DivisionByZero a (a / b) (div-le_self a b) h

pub uint-rem : (a b : ℕ) → a < 2 ^ 64 → UintInRange (Uint.rem_of a b)
unfolding Uint.rem_of
uint-rem a b h = divided-in-range b Failed.RemainderByZero a (a % b) (mod-le a b) h
