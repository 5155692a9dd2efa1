-- Module 7, calls: size, and the functions on Optionals. Arguments come before the target.
use Rattle.std.specs.Prelude.{ℕ, length, pos}
use Rattle.text.specs.Utf8.{code_points}
use Rattle.meaning.specs.Errors.{NoOverload}
use Rattle.meaning.specs.Value.{Scalar, null, bool, int, uint, double, string, bytes, Value, scalar, list, map, optional_none, optional_of, count, count_entries}
use Rattle.meaning.specs.Expr.{Function, size_call, of_call, has_value_call, value_call}
use Rattle.meaning.specs.Optionals.{unwrap_optional, optional_of_rule, has_value_rule, value_rule, or_value_rule}
use Rattle.meaning.specs.Run.{Eval, Rule, pure, ◌>>=◌, fail, operand}

unfoldable pub counted : ℕ → Rule Value
counted n = pure (scalar (int (pos n)))

unfoldable pub scalar_size : Scalar → Rule Value
scalar_size null = fail NoOverload
scalar_size (bool b) = fail NoOverload
scalar_size (int z) = fail NoOverload
scalar_size (uint n) = fail NoOverload
scalar_size (double d) = fail NoOverload
scalar_size (string s) = counted (code_points s)
scalar_size (bytes s) = counted (length s)

unfoldable pub size_rule : Value → Rule Value
size_rule (scalar x) = scalar_size x
size_rule (list vs) = counted (count vs)
size_rule (map es) = counted (count_entries es)
size_rule optional_none = fail NoOverload
size_rule (optional_of v) = fail NoOverload

unfoldable pub call_rule : Function → Value → Rule Value
call_rule size_call v = size_rule v
call_rule of_call v = optional_of_rule v
call_rule has_value_call v = has_value_rule (unwrap_optional v)
call_rule value_call v = value_rule (unwrap_optional v)

unfoldable pub or_value_call : Eval Value → Eval Value → Rule Value
or_value_call target argument = do
  default ← operand argument
  v ← operand target
  or_value_rule default (unwrap_optional v)
