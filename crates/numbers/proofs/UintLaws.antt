-- The laws of arithmetic on Uint: what a caller cites, so that no proof above opens a definition. Assumes nothing.
use mathlib.Core.Path.{◌≡◌, refl, sym, ap, ◌∙◌}
use native.Mathlib.Omega.{arith}
use mathlib.Core.Bool.{Bool, true, false, cond}
use Prim.Native.Nat.{ℕ, ◌+◌, ◌-◌, ◌*◌, ◌/◌, ◌%◌, ◌^◌, ◌≤◌, ◌<◌}
use lib.Dec.{ltb}
use borrow.Author.Tests.{lt-ltb, le-ltb, ltb-false, le-leb, lt-leb, eq-eqb, ne_eqb}
use Rattle.numbers.specs.declared.error.ArithmeticError.{ArithmeticError}
use Rattle.numbers.specs.declared.error.ArithmeticError.TheVariants.{Overflow, DivisionByZero, RemainderByZero}
use Rattle.std.specs.Prelude.{Option, None, Some, Ok, Err, ok_or, SomeIff}
use Rattle.numbers.specs.Uint.{answer, add_of, sub_of, mul_of, unless_zero, div_of, rem_of}

-- ---- in range and out of range

pub answer-in : (n : ℕ) → n < 2 ^ 64 → answer n ≡ Ok n
unfolding answer
answer-in n h = rw (lt-ltb n (2 ^ 64) h)

pub answer-out : (n : ℕ) → 2 ^ 64 ≤ n → answer n ≡ Err Overflow
unfolding answer
answer-out n h = rw (le-ltb n (2 ^ 64) h)

-- the other way round: what the answer says of the exact result
pub value-is : (p n : ℕ) → Ok p ≡ answer n → p ≡ n
unfolding answer
value-is p n e = go (ltb n (2 ^ 64)) e
  where
    go : (t : Bool) → Ok p ≡ cond t (Ok n) (Err Overflow) → p ≡ n
    go true h = cc
    go false h = cc

pub error-is : (e : ArithmeticError) (n : ℕ) → Err e ≡ answer n → 2 ^ 64 ≤ n
unfolding answer
error-is e n h = go (ltb n (2 ^ 64)) (ltb-false n (2 ^ 64)) h
  where
    go : (t : Bool) → (t ≡ false → 2 ^ 64 ≤ n) → Err e ≡ cond t (Ok n) (Err Overflow) → 2 ^ 64 ≤ n
    go true k h = k (cc)
    go false k h = k refl

-- ---- each operation by the laws above and below

pub add-answer : (a b : ℕ) → add_of a b ≡ answer (a + b)
unfolding add_of
add-answer a b = refl

pub mul-answer : (a b : ℕ) → mul_of a b ≡ answer (a * b)
unfolding mul_of
mul-answer a b = refl

pub sub_in : (a b : ℕ) → b ≤ a → sub_of a b ≡ Ok (a - b)
unfolding sub_of
sub_in a b h = rw (le-leb b a h)

pub sub_out : (a b : ℕ) → a < b → sub_of a b ≡ Err Overflow
unfolding sub_of
sub_out a b h = rw (lt-leb b a h)

pub div-answer : (a b : ℕ) → div_of a b ≡ unless_zero b DivisionByZero (a / b)
unfolding div_of
div-answer a b = refl

pub rem-answer : (a b : ℕ) → rem_of a b ≡ unless_zero b RemainderByZero (a % b)
unfolding rem_of
rem-answer a b = refl

-- ---- a zero divisor, and any other

pub zero-divisor : (b : ℕ) (e : ArithmeticError) (n : ℕ) → b ≡ 0 → unless_zero b e n ≡ Err e
unfolding unless_zero
zero-divisor b e n h = rw (eq-eqb b 0 h)

pub some-divisor : (b : ℕ) (e : ArithmeticError) (n : ℕ) → (b ≡ 0 → ⊥) → unless_zero b e n ≡ Ok n
unfolding unless_zero
some-divisor b e n h = rw (ne_eqb b 0 h)

-- ---- what std's checked methods give, as an answer

pub checked : (n : ℕ) (o : Option ℕ) → SomeIff o (n < 2 ^ 64) n → ok_or o Overflow ≡ answer n
checked n None h = sym (answer-out n (omega (arith, h)))
checked n (Some x) h = ap Ok h.1 ∙ sym (answer-in n h.0)

pub difference : (a b : ℕ) (o : Option ℕ) → SomeIff o (b ≤ a) (a - b) → ok_or o Overflow ≡ sub_of a b
difference a b None h = sym (sub_out a b (omega (arith, h)))
difference a b (Some x) h = ap Ok h.1 ∙ sym (sub_in a b h.0)

pub divided : (b : ℕ) (e : ArithmeticError) (n : ℕ) (o : Option ℕ) → SomeIff o (0 < b) n → ok_or o e ≡ unless_zero b e n
divided b e n None h = sym (zero-divisor b e n (omega (arith, h)))
divided b e n (Some x) h = ap Ok h.1 ∙ sym (some-divisor b e n (omega (arith, h.0)))

-- what the functions' proofs cite
pub ruleset answers = (add-answer, mul-answer, div-answer, rem-answer, checked, difference, divided)
