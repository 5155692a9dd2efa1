-- What arithmetic on Int answers: the exact result over ℤ where 64 bits hold it, and else which error.
-- `pos n` is n, and `negsuc n` is -(n + 1).
use Rattle.std.specs.Prelude.{Bool, false, cond, ◌^◌, ℤ, pos, negsuc, neg_ℤ, ◌+ℤ◌, ◌-ℤ◌, ◌*ℤ◌, ltb, eqb, Result, Ok, Err}
use Rattle.std.specs.Int.Signed.{quot_z, rem_z}
use Rattle.numbers.specs.declared.error.ArithmeticError.{ArithmeticError}
use Rattle.numbers.specs.declared.error.ArithmeticError.TheVariants.{Overflow, DivisionByZero, RemainderByZero}

-- z is from -2 ^ 63 to 2 ^ 63 - 1
abbrev pub in_range : ℤ → Bool
in_range (pos n) = ltb n (2 ^ 63)
in_range (negsuc n) = ltb n (2 ^ 63)

abbrev pub is_zero : ℤ → Bool
is_zero (pos n) = eqb n 0
is_zero (negsuc n) = false

unfoldable pub answer : ℤ → Result ℤ ArithmeticError
answer z = cond (in_range z) (Ok z) (Err Overflow)

unfoldable pub add_of : ℤ → ℤ → Result ℤ ArithmeticError
add_of a b = answer (a +ℤ b)

unfoldable pub sub_of : ℤ → ℤ → Result ℤ ArithmeticError
sub_of a b = answer (a -ℤ b)

unfoldable pub mul_of : ℤ → ℤ → Result ℤ ArithmeticError
mul_of a b = answer (a *ℤ b)

unfoldable pub neg_of : ℤ → Result ℤ ArithmeticError
neg_of a = answer (neg_ℤ a)

-- `quot_z` rounds toward zero
unfoldable pub div_of : ℤ → ℤ → Result ℤ ArithmeticError
div_of a b = cond (is_zero b) (Err DivisionByZero) (answer (quot_z a b))

-- `rem_z` has the dividend's sign; a remainder is out of range where the quotient is: -2 ^ 63 % -1
unfoldable pub rem_of : ℤ → ℤ → Result ℤ ArithmeticError
rem_of a b =
    cond (is_zero b) (Err RemainderByZero)
    (cond (in_range (quot_z a b)) (Ok (rem_z a b)) (Err Overflow))
