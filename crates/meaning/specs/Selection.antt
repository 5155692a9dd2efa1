-- Module 5, selection: `e.field`, has(e.field), `e[i]`, `e[?i]` and `e.?field`.
use Rattle.std.specs.Prelude.{ℕ, List, Bool, true, false}
use Rattle.meaning.specs.Errors.{NoOverload, FunctionError, NoSuchKey}
use Rattle.meaning.specs.Value.{string, Value, scalar, list, map, optional_none, optional_of, string_of}
use Rattle.meaning.specs.Maps.{look_up}
use Rattle.meaning.specs.Optionals.{Unwrapped, NotOptional, PresentOptional, NoneOptional, optional_of_rule}
use Rattle.meaning.specs.Run.{Result, value, error, Raised, Eval, Rule, pure, after, ◌>>=◌, fail, or_fail, operand, truth}

-- ---- what becomes of a look-up

unfoldable pub present_or_none : Result Raised Value → Rule Value
present_or_none (value v) = optional_of_rule v
present_or_none (error e) = pure optional_none

-- a present Optional, or none for whatever error the look-up gives
unfoldable pub optionally : Rule Value → Rule Value
optionally r = after r present_or_none

unfoldable pub succeeded : Result Raised Value → Rule Value
succeeded (value v) = truth true
succeeded (error e) = truth false

-- whether the look-up finds something
unfoldable pub tells : Rule Value → Rule Value
tells r = after r succeeded

-- ---- select

abbrev pub field_in : Value → List ℕ → Rule Value
field_in v field = look_up v (scalar (string field))

-- in a present Optional; `test` is true for has(..)
unfoldable pub select_in_container : (test : Bool) → Rule Value → Rule Value
select_in_container true r = tells r
select_in_container false r = optionally r

unfoldable pub select_in_present : (test : Bool) → List ℕ → Value → Rule Value
select_in_present test field (scalar x) = fail NoSuchKey
select_in_present test field (list vs) = select_in_container test (field_in (list vs) field)
select_in_present test field (map es) = select_in_container test (field_in (map es) field)
select_in_present test field optional_none = fail NoSuchKey
select_in_present test field (optional_of v) = fail NoSuchKey

unfoldable pub select_in_map : (test : Bool) → Rule Value → Rule Value
select_in_map true r = tells r
select_in_map false r = r

unfoldable pub select_in_none : (test : Bool) → Rule Value
select_in_none true = truth false
select_in_none false = pure optional_none

unfoldable pub select_field : (test : Bool) → List ℕ → Value → Rule Value
select_field test field (scalar x) = fail NoOverload
select_field test field (list vs) = fail NoOverload
select_field test field (map es) = select_in_map test (field_in (map es) field)
select_field test field optional_none = select_in_none test
select_field test field (optional_of v) = select_in_present test field v

-- ---- index

unfoldable pub perhaps : (optional : Bool) → Rule Value → Rule Value
perhaps true r = optionally r
perhaps false r = r

-- the left operand is known and the index is not begun yet; for none it never is
unfoldable pub index_rule : (optional : Bool) → Eval Value → Unwrapped → Rule Value
index_rule optional index (NotOptional v) = do
  i ← operand index
  perhaps optional (look_up v i)
index_rule optional index (PresentOptional v) = do
  i ← operand index
  optionally (look_up v i)
index_rule optional index NoneOptional = pure optional_none

-- ---- optional select

unfoldable pub opt_select_in : List ℕ → Unwrapped → Rule Value
opt_select_in field (NotOptional v) = optionally (field_in v field)
opt_select_in field (PresentOptional v) = optionally (field_in v field)
opt_select_in field NoneOptional = pure optional_none

unfoldable pub opt_select_rule : Unwrapped → Value → Rule Value
opt_select_rule target w = do
  field ← or_fail FunctionError (string_of w)
  opt_select_in field target
