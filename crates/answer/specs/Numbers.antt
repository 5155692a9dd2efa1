-- The errors and limits of the code as the definition has them, and the numbers that they are known by.
use Rattle.std.specs.Prelude.{ℕ}
use Rattle.meaning.specs.Errors as Errors
use Rattle.meaning.specs.Errors.{a_bool, an_iterable}
use Rattle.machine.specs.declared.outcome.Error.{Error}
use Rattle.machine.specs.declared.outcome.Limit.{Limit}

abbrev pub error_meant : Error → Errors.Error
error_meant Error.UndeclaredReference = Errors.UndeclaredReference
error_meant Error.BoolWanted = Errors.UnexpectedType a_bool
error_meant Error.NoOverload = Errors.NoOverload
error_meant Error.FunctionError = Errors.FunctionError
error_meant Error.NoSuchKey = Errors.NoSuchKey
error_meant (Error.Arithmetic e) = Errors.Arithmetic e
error_meant Error.DuplicateKey = Errors.DuplicateKey
error_meant Error.IndexOutOfBounds = Errors.IndexOutOfBounds
error_meant Error.UnsupportedKeyType = Errors.UnsupportedKeyType
error_meant Error.Unordered = Errors.Unordered
error_meant Error.IterableWanted = Errors.UnexpectedType an_iterable

abbrev pub limit_meant : Limit → Errors.Exhausted
limit_meant Limit.Steps = Errors.Steps
limit_meant Limit.Cells = Errors.Cells
limit_meant Limit.Text = Errors.Text
limit_meant Limit.Nesting = Errors.Nesting

-- in the order of their names
abbrev pub limit_number : Errors.Exhausted → ℕ
limit_number Errors.Steps = 1
limit_number Errors.Cells = 2
limit_number Errors.Text = 3
limit_number Errors.Nesting = 4
