-- The answers without a value: errors, exhaustion and refusals, and their numbers.
use Rattle.std.specs.Prelude.{ℕ}
use Rattle.numbers.specs.declared.error.ArithmeticError.{ArithmeticError}
use Rattle.numbers.specs.Error.{number_of}
use Rattle.meaning.specs.declared.refusal.Refusal.{Refusal}
use Rattle.meaning.specs.declared.refusal.Reason.{Reason}
use Rattle.meaning.specs.declared.refusal.Reason.TheVariants.{TableLength, UnknownKind, WrongExtent, RecordNesting, WrongField, MisplacedMark, BytesAfterRoot, UnsoundBinding, NotALiteral, BindingRoomFull, NameBound}

-- ---- errors

pub data Wanted : Type 0 where
  a_bool an_iterable : Wanted

pub data Error : Type 0 where
  UndeclaredReference : Error
  UnexpectedType : Wanted → Error
  -- and UnsupportedBinaryOperator
  NoOverload : Error
  FunctionError : Error
  NoSuchKey : Error
  -- Overflow, DivisionByZero, RemainderByZero
  Arithmetic : ArithmeticError → Error
  DuplicateKey : Error
  IndexOutOfBounds : Error
  UnsupportedKeyType : Error
  Unordered : Error

abbrev pub error_number : Error → ℕ
error_number UndeclaredReference = 1
error_number (UnexpectedType a_bool) = 2
error_number NoOverload = 3
error_number FunctionError = 4
error_number NoSuchKey = 5
error_number (Arithmetic e) = number_of e
error_number DuplicateKey = 9
error_number IndexOutOfBounds = 10
error_number UnsupportedKeyType = 11
error_number Unordered = 12
error_number (UnexpectedType an_iterable) = 13

-- an error, and the place of the record whose rule gave it
pub record ErrorAt : Type 0 where
  pub error : Error
  pub place : ℕ

-- ---- exhaustion: the limit that a charge would have passed

pub data Exhausted : Type 0 where
  Steps Cells Text Nesting : Exhausted

-- ---- refusals: the code's reasons (src/refusal)

abbrev pub refusal_number : Reason → ℕ
refusal_number TableLength = 1
refusal_number UnknownKind = 2
refusal_number WrongExtent = 3
refusal_number RecordNesting = 4
refusal_number WrongField = 5
refusal_number MisplacedMark = 6
refusal_number BytesAfterRoot = 7
refusal_number UnsoundBinding = 8
refusal_number NotALiteral = 9
refusal_number BindingRoomFull = 10
refusal_number NameBound = 11

-- a reason, with the place at fault
abbrev pub refusal_at : Reason → ℕ → Refusal
refusal_at r p = record { reason = r; place = p }
