-- The steps that rules charge for themselves, once their operands are values: none, or those of the pairs that they compare first of all.
-- Rests on CoveredSteps. Assumes nothing.
use Prim.Native.Nat.{ℕ}
use mathlib.Core.List.{List, ◌++◌}
use Rattle.std.specs.Prelude.{ℤ, Option, None, Some, Result as Answered, Ok, Err}
use mathlib.Core.Bool.{Bool, true, false}
use Rattle.numbers.specs.declared.error.ArithmeticError.{ArithmeticError}
use Rattle.std.specs.declared.cmp.Ordering.{Ordering}
use Rattle.numbers.specs.Int as Int
use Rattle.meaning.specs.Errors.{Error, NoOverload, IndexOutOfBounds, NoSuchKey, FunctionError}
use Rattle.meaning.specs.Value.{Scalar, null, bool, int, uint, double, string, bytes, Key, Value, scalar, list, map, optional_none, optional_of, Values, Entries, join, scalar_of, elements_of, bool_of, string_in, string_of, key_scalar}
use Rattle.meaning.specs.Expr.{Arith, add, sub, div, mul, rem, Comparison, Function, size_call, of_call, has_value_call, value_call}
use Rattle.meaning.specs.Run.{Result, value, error, Raised, Rule, pure, charged, fail, or_fail, truth, choose, built}
use Rattle.meaning.specs.Numbers.{int_in, uint_in, double_in, bytes_in, int_arith, int_rule, uint_arith, uint_rule, double_arith, only_add, built_text, scalar_arith, arith_rule, scalar_negate, negate_rule, not_rule}
use Rattle.meaning.specs.Comparison.{rank, scalar_order, ordered, compare_values, compare_rule, find, equal, among, equal_rule}
use Rattle.meaning.specs.Maps.{probe_of, position_of, element_at, look_up, in_rule}
use Rattle.meaning.specs.Optionals.{Unwrapped, NotOptional, PresentOptional, NoneOptional, unwrap_optional, optional_of_rule, has_value_rule, value_rule, or_value_rule}
use Rattle.meaning.specs.Selection.{present_or_none, optionally, succeeded, tells, field_in, select_in_container, select_in_present, select_in_map, select_in_none, select_field, perhaps, opt_select_in, opt_select_rule}
use Rattle.meaning.specs.Logic.{raised_error, bool_wanted, left_error}
use Rattle.meaning.specs.Calls.{counted, scalar_size, size_rule, call_rule}
use Rattle.meaning.specs.Containers.{add_new, insert}
use Rattle.meaning_laws.proofs.CoveredSteps.{Covered, Silent, OnlyPairs, nothing, silent-any, covered-after, covered-bind, covered-or_fail, pairs-compared}

-- ---- no steps

pub truth-silent : (b : Bool) → Silent (truth b).0
unfolding truth pure
truth-silent b = nothing

pub or_fail-silent : {A : Type 0} (x : Error) (o : Option A) → Silent (or_fail x o).0
unfolding or_fail fail pure
or_fail-silent x None = nothing
or_fail-silent x (Some a) = nothing

pub built-silent : (ws : Values) (v : Value) → Silent (built ws v).0
unfolding built charged pure
built-silent ws v = record { each = tt }

only_add-silent : (o : Arith) (r : Rule Value) → Silent r.0 → Silent (only_add o r).0
unfolding only_add fail
only_add-silent add r c = c
only_add-silent sub r c = nothing
only_add-silent div r c = nothing
only_add-silent mul r c = nothing
only_add-silent rem r c = nothing

int-silent : (a : Answered ℤ ArithmeticError) → Silent (int_rule a).0
unfolding int_rule pure fail
int-silent (Ok z) = nothing
int-silent (Err e) = nothing

uint-silent : (a : Answered ℕ ArithmeticError) → Silent (uint_rule a).0
unfolding uint_rule pure fail
uint-silent (Ok n) = nothing
uint-silent (Err e) = nothing

text-silent : (kind : List ℕ → Scalar) (s : List ℕ) → Silent (built_text kind s).0
unfolding built_text charged pure
text-silent kind s = record { each = tt }

scalar-arith-silent : (o : Arith) (x y : Scalar) → Silent (scalar_arith o x y).0
unfolding scalar_arith fail pure
scalar-arith-silent o null y = nothing
scalar-arith-silent o (bool a) y = nothing
scalar-arith-silent o (int a) y = covered-or_fail NoOverload (int_in y) _ (λ b e. int-silent (int_arith o a b))
scalar-arith-silent o (uint a) y = covered-or_fail NoOverload (uint_in y) _ (λ b e. uint-silent (uint_arith o a b))
scalar-arith-silent o (double a) y =
    covered-or_fail NoOverload (double_in y) _ (λ b e. covered-or_fail NoOverload (double_arith o a b) _ (λ d f. nothing))
scalar-arith-silent o (string a) y =
    covered-or_fail NoOverload (string_in y) _ (λ b e. only_add-silent o (built_text string (a ++ b)) (text-silent string (a ++ b)))
scalar-arith-silent o (bytes a) y =
    covered-or_fail NoOverload (bytes_in y) _ (λ b e. only_add-silent o (built_text bytes (a ++ b)) (text-silent bytes (a ++ b)))

pub arith-silent : (o : Arith) (v w : Value) → Silent (arith_rule o v w).0
unfolding arith_rule fail
arith-silent o (scalar x) w = covered-or_fail NoOverload (scalar_of w) _ (λ y e. scalar-arith-silent o x y)
arith-silent o (list vs) w =
    covered-or_fail NoOverload (elements_of w) _
    (λ ws e. only_add-silent o (built (join vs ws) (list (join vs ws))) (built-silent (join vs ws) (list (join vs ws))))
arith-silent o (map es) w = nothing
arith-silent o optional_none w = nothing
arith-silent o (optional_of v) w = nothing

scalar-negate-silent : (x : Scalar) → Silent (scalar_negate x).0
unfolding scalar_negate fail pure
scalar-negate-silent null = nothing
scalar-negate-silent (bool b) = nothing
scalar-negate-silent (int z) = int-silent (Int.neg_of z)
scalar-negate-silent (uint n) = nothing
scalar-negate-silent (double d) = nothing
scalar-negate-silent (string s) = nothing
scalar-negate-silent (bytes s) = nothing

pub negate-silent : (v : Value) → Silent (negate_rule v).0
unfolding negate_rule
negate-silent v = covered-or_fail NoOverload (scalar_of v) _ (λ x e. scalar-negate-silent x)

pub not-silent : (v : Value) → Silent (not_rule v).0
unfolding not_rule
not-silent v = covered-or_fail NoOverload (bool_of v) _ (λ b e. truth-silent _)

ordered-silent : (o : Option Ordering) → Silent (ordered o).0
unfolding ordered pure fail or_fail
ordered-silent None = nothing
ordered-silent (Some o) = nothing

pub compare-silent : (c : Comparison) (v w : Value) → Silent (compare_rule c v w).0
unfolding compare_rule compare_values
compare-silent c v w =
    covered-bind (compare_values v w) _
    (covered-or_fail NoOverload (scalar_of v) _ (λ x d. covered-or_fail NoOverload (scalar_of w) _
    (λ y e. covered-or_fail NoOverload (scalar_order (rank x) (rank y)) _ (λ o f. ordered-silent o)))) (λ o e. truth-silent _)

scalar-size-silent : (x : Scalar) → Silent (scalar_size x).0
unfolding scalar_size counted fail pure
scalar-size-silent null = nothing
scalar-size-silent (bool b) = nothing
scalar-size-silent (int z) = nothing
scalar-size-silent (uint n) = nothing
scalar-size-silent (double d) = nothing
scalar-size-silent (string s) = nothing
scalar-size-silent (bytes s) = nothing

size-silent : (v : Value) → Silent (size_rule v).0
unfolding size_rule counted fail pure
size-silent (scalar x) = scalar-size-silent x
size-silent (list vs) = nothing
size-silent (map es) = nothing
size-silent optional_none = nothing
size-silent (optional_of v) = nothing

optional-silent : (v : Value) → Silent (optional_of_rule v).0
unfolding optional_of_rule
optional-silent v = built-silent _ (optional_of v)

has-silent : (u : Unwrapped) → Silent (has_value_rule u).0
unfolding has_value_rule fail
has-silent (NotOptional v) = nothing
has-silent (PresentOptional v) = truth-silent true
has-silent NoneOptional = truth-silent false

value-silent : (u : Unwrapped) → Silent (value_rule u).0
unfolding value_rule fail pure
value-silent (NotOptional v) = nothing
value-silent (PresentOptional v) = nothing
value-silent NoneOptional = nothing

pub call-silent : (f : Function) (v : Value) → Silent (call_rule f v).0
unfolding call_rule
call-silent size_call v = size-silent v
call-silent of_call v = optional-silent v
call-silent has_value_call v = has-silent (unwrap_optional v)
call-silent value_call v = value-silent (unwrap_optional v)

pub default-silent : (v : Value) (u : Unwrapped) → Silent (or_value_rule v u).0
unfolding or_value_rule fail pure
default-silent d (NotOptional v) = nothing
default-silent d (PresentOptional v) = nothing
default-silent d NoneOptional = nothing

choose-silent : {A : Type 0} (r s : Rule A) (b : Bool) → Silent r.0 → Silent s.0 → Silent (choose r s b).0
unfolding choose
choose-silent r s true c d = c
choose-silent r s false c d = d

pub left-error-silent : (b : Bool) (e : Raised) (c : Bool) → Silent (choose (truth b) (left_error e) c).0
unfolding left_error fail
left-error-silent b e c =
    choose-silent (truth b) (left_error e) c (truth-silent b) (choose-silent (fail NoOverload) _ (bool_wanted (raised_error e)) nothing nothing)

-- ---- pairs first

pub equal-pairs : (wanted : Bool) (v w : Value) → Covered OnlyPairs (equal_rule wanted v w).0
unfolding equal_rule
equal-pairs wanted v w = pairs-compared (equal v w) _ (truth-silent _)

pub in_pairs : (v w : Value) → Covered OnlyPairs (in_rule v w).0
unfolding in_rule fail
in_pairs v (scalar x) = nothing
in_pairs v (list ws) = pairs-compared (among v ws) _ (truth-silent _)
in_pairs v (map es) = covered-or_fail NoOverload (probe_of v) _ (λ x e. pairs-compared (find x es) _ (truth-silent _))
in_pairs v optional_none = nothing
in_pairs v (optional_of w) = nothing

lookup-pairs : (v i : Value) → Covered OnlyPairs (look_up v i).0
unfolding look_up fail
lookup-pairs (scalar x) i = nothing
lookup-pairs (list vs) i =
    covered-or_fail NoOverload (position_of i) _
    (λ z e. silent-any (or_fail IndexOutOfBounds (element_at vs z)).0 (or_fail-silent IndexOutOfBounds (element_at vs z)))
lookup-pairs (map es) i = covered-or_fail NoOverload (probe_of i) _ (λ x e. pairs-compared (find x es) _ (or_fail-silent NoSuchKey _))
lookup-pairs optional_none i = nothing
lookup-pairs (optional_of v) i = nothing

present-silent : (x : Result Raised Value) → Silent (present_or_none x).0
unfolding present_or_none pure
present-silent (value v) = optional-silent v
present-silent (error e) = nothing

succeeded-silent : (x : Result Raised Value) → Silent (succeeded x).0
unfolding succeeded
succeeded-silent (value v) = truth-silent true
succeeded-silent (error e) = truth-silent false

optionally-pairs : (r : Rule Value) → Covered OnlyPairs r.0 → Covered OnlyPairs (optionally r).0
unfolding optionally
optionally-pairs r c = covered-after r present_or_none c (silent-any (present_or_none r.1).0 (present-silent r.1))

tells-pairs : (r : Rule Value) → Covered OnlyPairs r.0 → Covered OnlyPairs (tells r).0
unfolding tells
tells-pairs r c = covered-after r succeeded c (silent-any (succeeded r.1).0 (succeeded-silent r.1))

in-container-pairs : (test : Bool) (r : Rule Value) → Covered OnlyPairs r.0 → Covered OnlyPairs (select_in_container test r).0
unfolding select_in_container
in-container-pairs true r c = tells-pairs r c
in-container-pairs false r c = optionally-pairs r c

present-pairs : (test : Bool) (field : List ℕ) (v : Value) → Covered OnlyPairs (select_in_present test field v).0
unfolding select_in_present fail
present-pairs test field (scalar x) = nothing
present-pairs test field (list vs) = in-container-pairs test (field_in (list vs) field) (lookup-pairs (list vs) (scalar (string field)))
present-pairs test field (map es) = in-container-pairs test (field_in (map es) field) (lookup-pairs (map es) (scalar (string field)))
present-pairs test field optional_none = nothing
present-pairs test field (optional_of v) = nothing

in-map-pairs : (test : Bool) (r : Rule Value) → Covered OnlyPairs r.0 → Covered OnlyPairs (select_in_map test r).0
unfolding select_in_map
in-map-pairs true r c = tells-pairs r c
in-map-pairs false r c = c

in-none-pairs : (test : Bool) → Covered OnlyPairs (select_in_none test).0
unfolding select_in_none truth pure
in-none-pairs true = nothing
in-none-pairs false = nothing

pub select-pairs : (test : Bool) (field : List ℕ) (v : Value) → Covered OnlyPairs (select_field test field v).0
unfolding select_field fail
select-pairs test field (scalar x) = nothing
select-pairs test field (list vs) = nothing
select-pairs test field (map es) = in-map-pairs test (field_in (map es) field) (lookup-pairs (map es) (scalar (string field)))
select-pairs test field optional_none = in-none-pairs test
select-pairs test field (optional_of v) = present-pairs test field v

-- an index, optional or not
pub indexed-pairs : (optional : Bool) (v i : Value) → Covered OnlyPairs (perhaps optional (look_up v i)).0
unfolding perhaps
indexed-pairs true v i = optionally-pairs (look_up v i) (lookup-pairs v i)
indexed-pairs false v i = lookup-pairs v i

pub present-index-pairs : (v i : Value) → Covered OnlyPairs (optionally (look_up v i)).0
present-index-pairs v i = optionally-pairs (look_up v i) (lookup-pairs v i)

optional-field-pairs : (field : List ℕ) (u : Unwrapped) → Covered OnlyPairs (opt_select_in field u).0
unfolding opt_select_in pure
optional-field-pairs field (NotOptional v) = present-index-pairs v (scalar (string field))
optional-field-pairs field (PresentOptional v) = present-index-pairs v (scalar (string field))
optional-field-pairs field NoneOptional = nothing

pub optional-select-pairs : (u : Unwrapped) (w : Value) → Covered OnlyPairs (opt_select_rule u w).0
unfolding opt_select_rule
optional-select-pairs u w = covered-or_fail FunctionError (string_of w) _ (λ field e. optional-field-pairs field u)

add-silent : (es : Entries) (k : Key) (v : Value) (o : Option Value) → Silent (add_new es k v o).0
unfolding add_new pure fail
add-silent es k v None = nothing
add-silent es k v (Some w) = nothing

pub insert-pairs : (es : Entries) (k : Key) (o : Option Value) → Covered OnlyPairs (insert es k o).0
unfolding insert pure
insert-pairs es k None = nothing
insert-pairs es k (Some v) = pairs-compared (find (key_scalar k) es) _ (add-silent es k v _)
