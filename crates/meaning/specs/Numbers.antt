-- Module 1, numbers: arithmetic, and unary `-` and `!`. The crate numbers says what each operation answers; here stands which kinds
-- have it. Both operands have to be of one kind.
use Rattle.std.specs.Prelude.{ℕ, List, [], ◌∷◌, ◌++◌, not, ℤ, Option, None, Some, Result, Ok, Err}
use Rattle.numbers.specs.declared.error.ArithmeticError.{ArithmeticError}
use Rattle.numbers.specs.Int as Int
use Rattle.numbers.specs.Uint as Uint
use Rattle.numbers.specs.Double.{add_bits, sub_bits, mul_bits, div_bits, neg_bits}
use Rattle.meaning.specs.Errors.{NoOverload, Arithmetic}
use Rattle.meaning.specs.Value.{Scalar, null, bool, int, uint, double, string, bytes, Value, scalar, list, map, optional_none, optional_of, join, scalar_of, elements_of, bool_of, string_in}
use Rattle.meaning.specs.Expr.{Arith, add, sub, div, mul, rem}
use Rattle.meaning.specs.Run.{text, Rule, pure, charged, ◌>>=◌, fail, or_fail, truth, built}

-- ---- the kind that the right operand has to be of

unfoldable pub int_in : Scalar → Option ℤ
int_in null = None
int_in (bool b) = None
int_in (int z) = Some z
int_in (uint n) = None
int_in (double d) = None
int_in (string s) = None
int_in (bytes s) = None

unfoldable pub uint_in : Scalar → Option ℕ
uint_in null = None
uint_in (bool b) = None
uint_in (int z) = None
uint_in (uint n) = Some n
uint_in (double d) = None
uint_in (string s) = None
uint_in (bytes s) = None

unfoldable pub double_in : Scalar → Option ℕ
double_in null = None
double_in (bool b) = None
double_in (int z) = None
double_in (uint n) = None
double_in (double d) = Some d
double_in (string s) = None
double_in (bytes s) = None

unfoldable pub bytes_in : Scalar → Option (List ℕ)
bytes_in null = None
bytes_in (bool b) = None
bytes_in (int z) = None
bytes_in (uint n) = None
bytes_in (double d) = None
bytes_in (string s) = None
bytes_in (bytes s) = Some s

-- ---- two operands of one kind

unfoldable pub int_arith : Arith → ℤ → ℤ → Result ℤ ArithmeticError
int_arith add a b = Int.add_of a b
int_arith sub a b = Int.sub_of a b
int_arith div a b = Int.div_of a b
int_arith mul a b = Int.mul_of a b
int_arith rem a b = Int.rem_of a b

unfoldable pub int_rule : Result ℤ ArithmeticError → Rule Value
int_rule (Ok z) = pure (scalar (int z))
int_rule (Err e) = fail (Arithmetic e)

unfoldable pub uint_arith : Arith → ℕ → ℕ → Result ℕ ArithmeticError
uint_arith add a b = Uint.add_of a b
uint_arith sub a b = Uint.sub_of a b
uint_arith div a b = Uint.div_of a b
uint_arith mul a b = Uint.mul_of a b
uint_arith rem a b = Uint.rem_of a b

unfoldable pub uint_rule : Result ℕ ArithmeticError → Rule Value
uint_rule (Ok n) = pure (scalar (uint n))
uint_rule (Err e) = fail (Arithmetic e)

-- Doubles have no `%`
unfoldable pub double_arith : Arith → ℕ → ℕ → Option ℕ
double_arith add a b = Some (add_bits a b)
double_arith sub a b = Some (sub_bits a b)
double_arith div a b = Some (div_bits a b)
double_arith mul a b = Some (mul_bits a b)
double_arith rem a b = None

-- text and lists have `+` alone
unfoldable pub only_add : Arith → Rule Value → Rule Value
only_add add r = r
only_add sub r = fail NoOverload
only_add div r = fail NoOverload
only_add mul r = fail NoOverload
only_add rem r = fail NoOverload

-- new text is charged
unfoldable pub built_text : (List ℕ → Scalar) → List ℕ → Rule Value
built_text kind s = charged (text s ∷ []) (pure (scalar (kind s)))

-- ---- the rules

unfoldable pub scalar_arith : Arith → Scalar → Scalar → Rule Value
scalar_arith o null y = fail NoOverload
scalar_arith o (bool a) y = fail NoOverload
scalar_arith o (int a) y = do
  b ← or_fail NoOverload (int_in y)
  int_rule (int_arith o a b)
scalar_arith o (uint a) y = do
  b ← or_fail NoOverload (uint_in y)
  uint_rule (uint_arith o a b)
scalar_arith o (double a) y = do
  b ← or_fail NoOverload (double_in y)
  d ← or_fail NoOverload (double_arith o a b)
  pure (scalar (double d))
scalar_arith o (string a) y = do
  b ← or_fail NoOverload (string_in y)
  only_add o (built_text string (a ++ b))
scalar_arith o (bytes a) y = do
  b ← or_fail NoOverload (bytes_in y)
  only_add o (built_text bytes (a ++ b))

unfoldable pub arith_rule : Arith → Value → Value → Rule Value
arith_rule o (scalar x) w = do
  y ← or_fail NoOverload (scalar_of w)
  scalar_arith o x y
arith_rule o (list vs) w = do
  ws ← or_fail NoOverload (elements_of w)
  only_add o (built (join vs ws) (list (join vs ws)))
arith_rule o (map es) w = fail NoOverload
arith_rule o optional_none w = fail NoOverload
arith_rule o (optional_of v) w = fail NoOverload

unfoldable pub scalar_negate : Scalar → Rule Value
scalar_negate null = fail NoOverload
scalar_negate (bool b) = fail NoOverload
scalar_negate (int z) = int_rule (Int.neg_of z)
scalar_negate (uint n) = fail NoOverload
scalar_negate (double d) = pure (scalar (double (neg_bits d)))
scalar_negate (string s) = fail NoOverload
scalar_negate (bytes s) = fail NoOverload

unfoldable pub negate_rule : Value → Rule Value
negate_rule v = do
  x ← or_fail NoOverload (scalar_of v)
  scalar_negate x

unfoldable pub not_rule : Value → Rule Value
not_rule v = do
  b ← or_fail NoOverload (bool_of v)
  truth (not b)
