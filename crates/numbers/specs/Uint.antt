-- What arithmetic on Uint answers: the exact result over ℕ if 64 bits hold it, and otherwise which error.
use Rattle.std.specs.Prelude.{cond, ℕ, ◌+◌, ◌-◌, ◌*◌, ◌/◌, ◌%◌, ◌^◌, leb, ltb, eqb, Result, Ok, Err}
use Rattle.numbers.specs.declared.error.ArithmeticError.{ArithmeticError}
use Rattle.numbers.specs.declared.error.ArithmeticError.TheVariants.{Overflow, DivisionByZero, RemainderByZero}

unfoldable pub answer : ℕ → Result ℕ ArithmeticError
answer n = cond (ltb n (2 ^ 64)) (Ok n) (Err Overflow)

unfoldable pub add_of : ℕ → ℕ → Result ℕ ArithmeticError
add_of a b = answer (a + b)

-- a difference below zero is out of range
unfoldable pub sub_of : ℕ → ℕ → Result ℕ ArithmeticError
sub_of a b = cond (leb b a) (Ok (a - b)) (Err Overflow)

unfoldable pub mul_of : ℕ → ℕ → Result ℕ ArithmeticError
mul_of a b = answer (a * b)

-- the exact result n, unless the divisor b is 0
unfoldable pub unless_zero : ℕ → ArithmeticError → ℕ → Result ℕ ArithmeticError
unless_zero b e n = cond (eqb b 0) (Err e) (Ok n)

unfoldable pub div_of : ℕ → ℕ → Result ℕ ArithmeticError
div_of a b = unless_zero b DivisionByZero (a / b)

unfoldable pub rem_of : ℕ → ℕ → Result ℕ ArithmeticError
rem_of a b = unless_zero b RemainderByZero (a % b)
