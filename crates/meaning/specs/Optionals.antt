-- Module 4, Optionals: taking them apart, and the functions on them.
use Rattle.std.specs.Prelude.{true, false}
use Rattle.meaning.specs.Errors.{NoOverload, FunctionError}
use Rattle.meaning.specs.Value.{Value, scalar, list, map, optional_none, optional_of, nil, cons}
use Rattle.meaning.specs.Run.{Rule, pure, fail, truth, built}

pub data Unwrapped : Type 0 where
  NotOptional : Value → Unwrapped
  PresentOptional : Value → Unwrapped
  NoneOptional : Unwrapped

unfoldable pub unwrap_optional : Value → Unwrapped
unwrap_optional (scalar x) = NotOptional (scalar x)
unwrap_optional (list vs) = NotOptional (list vs)
unwrap_optional (map es) = NotOptional (map es)
unwrap_optional optional_none = NoneOptional
unwrap_optional (optional_of v) = PresentOptional v

-- a present Optional lies in a cell of its own
unfoldable pub optional_of_rule : Value → Rule Value
optional_of_rule v = built (cons v nil) (optional_of v)

unfoldable pub has_value_rule : Unwrapped → Rule Value
has_value_rule (NotOptional v) = fail NoOverload
has_value_rule (PresentOptional v) = truth true
has_value_rule NoneOptional = truth false

unfoldable pub value_rule : Unwrapped → Rule Value
value_rule (NotOptional v) = fail NoOverload
value_rule (PresentOptional v) = pure v
value_rule NoneOptional = fail FunctionError

unfoldable pub or_value_rule : Value → Unwrapped → Rule Value
or_value_rule default (NotOptional v) = fail NoOverload
or_value_rule default (PresentOptional v) = pure v
or_value_rule default NoneOptional = pure default
