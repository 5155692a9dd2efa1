-- The numbers of the errors that arithmetic gives.
use Rattle.std.specs.Prelude.{ℕ}
use Rattle.numbers.specs.declared.error.ArithmeticError.{ArithmeticError}
use Rattle.numbers.specs.declared.error.ArithmeticError.TheVariants.{Overflow, DivisionByZero, RemainderByZero}

abbrev pub number_of : ArithmeticError → ℕ
number_of Overflow = 6
number_of DivisionByZero = 7
number_of RemainderByZero = 8
