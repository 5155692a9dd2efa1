-- Maps, Optionals, selection, logic and calls keep what evaluation keeps: what they give is a part of what they were given, a present
-- Optional of such a part, a Bool, or a size. Rests on Kept. Assumes nothing.
use Prim.Native.Nat.{ℕ, ◌^◌}
use mathlib.Core.List.{List}
use Rattle.std.specs.Prelude.{Some}
use mathlib.Core.Bool.{Bool, true, false}
use native.Mathlib.Omega.{arith}
use lib.ListN.{length}
use borrow.Author.Tests.{lt-ltb}
use Rattle.text.specs.Utf8.{code_points}
use Rattle.text.proofs.Utf8Laws.{code-points-length}
use Rattle.meaning.specs.Value.{Scalar, null, bool, int, uint, double, string, bytes, Value, scalar, list, map, optional_none, optional_of, nil, cons, count, count_entries, bool_of, string_of}
use Rattle.meaning.specs.Expr.{LogicalFold, Function, size_call, of_call, has_value_call, value_call}
use Rattle.meaning.specs.Run.{Result, value, error, Raised, Eval, Rule}
use Rattle.meaning.specs.Comparison.{find, among}
use Rattle.meaning.specs.Maps.{probe_of, position_of, element_at, look_up, is_found, in_rule}
use Rattle.meaning.specs.Optionals.{Unwrapped, NotOptional, PresentOptional, NoneOptional, unwrap_optional, optional_of_rule, has_value_rule, value_rule, or_value_rule}
use Rattle.meaning.specs.Selection.{present_or_none, optionally, succeeded, tells, select_in_container, select_in_present, select_in_map, select_in_none, select_field, perhaps, index_rule, opt_select_in, opt_select_rule}
use Rattle.meaning.specs.Logic.{absorbing, absorbs, raised_error, bool_wanted, left_error, right_bool, after_left, logic_rule, bool_or_true, not_strictly_false_rule, conditional_rule}
use Rattle.meaning.specs.Calls.{counted, scalar_size, size_rule, call_rule, or_value_call}
use Rattle.meaning.specs.Bindings.{text_bytes}
use Rattle.meaning_laws.proofs.Fine.{Countable, FineScalar, Fine, Perhaps, element-fine, find-fine}
use Rattle.meaning_laws.proofs.Kept.{Any, Gives, KeepsRule, KeepsEval, keeps-pure, keeps-error, keeps-after, keeps-bind, keeps-fail, keeps-or_fail, keeps-anything, keeps-operand, keeps-truth, keeps-try_bool, keeps-choose, keeps-compared, keeps-built}

-- ---- maps

-- What an index or a key finds is a part of the container.
look_up-kept : (v i : Value) → Fine v → KeepsRule Fine (look_up v i)
unfolding look_up
look_up-kept (scalar x) i f = keeps-fail _
look_up-kept (list vs) i f = keeps-bind (keeps-anything _ (position_of i)) (λ z h. keeps-or_fail _ (element_at vs z) (element-fine vs z f.2))
look_up-kept (map es) i f =
    keeps-bind (keeps-anything _ (probe_of i))
    (λ x h. keeps-bind (keeps-compared {P = Perhaps Fine} (find x es) (find-fine x es f.2)) (λ o g. keeps-or_fail _ o g))
look_up-kept optional_none i f = keeps-fail _
look_up-kept (optional_of v) i f = keeps-fail _

pub in_kept : (v w : Value) → KeepsRule Fine (in_rule v w)
unfolding in_rule
in_kept v (scalar x) = keeps-fail _
in_kept v (list ws) = keeps-bind (keeps-compared {P = Any} (among v ws) tt) (λ b h. keeps-truth b)
in_kept v (map es) =
    keeps-bind (keeps-anything _ (probe_of v)) (λ x h. keeps-bind (keeps-compared {P = Any} (find x es) tt) (λ o g. keeps-truth (is_found o)))
in_kept v optional_none = keeps-fail _
in_kept v (optional_of w) = keeps-fail _

-- ---- Optionals

abbrev pub FineUnwrapped : Unwrapped → Type 0
FineUnwrapped (NotOptional v) = Fine v
FineUnwrapped (PresentOptional v) = Fine v
FineUnwrapped NoneOptional = Unit {0}

pub unwrapped-fine : (v : Value) → Fine v → FineUnwrapped (unwrap_optional v)
unfolding unwrap_optional
unwrapped-fine (scalar x) f = f
unwrapped-fine (list vs) f = f
unwrapped-fine (map es) f = f
unwrapped-fine optional_none f = tt
unwrapped-fine (optional_of v) f = f.1

optional_of-kept : (v : Value) → Fine v → KeepsRule Fine (optional_of_rule v)
unfolding optional_of_rule
optional_of-kept v f = keeps-built (cons v nil) (optional_of v) (f, tt) (λ c n. (n, f))

has_value-kept : (u : Unwrapped) → KeepsRule Fine (has_value_rule u)
unfolding has_value_rule
has_value-kept (NotOptional v) = keeps-fail _
has_value-kept (PresentOptional v) = keeps-truth true
has_value-kept NoneOptional = keeps-truth false

value-kept : (u : Unwrapped) → FineUnwrapped u → KeepsRule Fine (value_rule u)
unfolding value_rule
value-kept (NotOptional v) f = keeps-fail _
value-kept (PresentOptional v) f = keeps-pure _ f
value-kept NoneOptional f = keeps-fail _

or_value-kept : (default : Value) (u : Unwrapped) → Fine default → FineUnwrapped u → KeepsRule Fine (or_value_rule default u)
unfolding or_value_rule
or_value-kept default (NotOptional v) f g = keeps-fail _
or_value-kept default (PresentOptional v) f g = keeps-pure _ g
or_value-kept default NoneOptional f g = keeps-pure _ f

-- ---- selection

optionally-kept : {r : Rule Value} → KeepsRule Fine r → KeepsRule Fine (optionally r)
unfolding optionally present_or_none
optionally-kept h = keeps-after h go
  where
    go : (x : Result Raised Value) → Gives Any Fine x → KeepsRule Fine (present_or_none x)
    go (value v) f = optional_of-kept v f
    go (error e) f = keeps-pure optional_none tt

tells-kept : {r : Rule Value} → KeepsRule Fine r → KeepsRule Fine (tells r)
unfolding tells succeeded
tells-kept h = keeps-after h go
  where
    go : (x : Result Raised Value) → Gives Any Fine x → KeepsRule Fine (succeeded x)
    go (value v) f = keeps-truth true
    go (error e) f = keeps-truth false

in_container-kept : (test : Bool) {r : Rule Value} → KeepsRule Fine r → KeepsRule Fine (select_in_container test r)
unfolding select_in_container
in_container-kept true h = tells-kept h
in_container-kept false h = optionally-kept h

in_present-kept : (test : Bool) (field : List ℕ) (v : Value) → Fine v → KeepsRule Fine (select_in_present test field v)
unfolding select_in_present
in_present-kept test field (scalar x) f = keeps-fail _
in_present-kept test field (list vs) f = in_container-kept test (look_up-kept (list vs) _ f)
in_present-kept test field (map es) f = in_container-kept test (look_up-kept (map es) _ f)
in_present-kept test field optional_none f = keeps-fail _
in_present-kept test field (optional_of v) f = keeps-fail _

in_map-kept : (test : Bool) {r : Rule Value} → KeepsRule Fine r → KeepsRule Fine (select_in_map test r)
unfolding select_in_map
in_map-kept true h = tells-kept h
in_map-kept false h = h

in_none-kept : (test : Bool) → KeepsRule Fine (select_in_none test)
unfolding select_in_none
in_none-kept true = keeps-truth false
in_none-kept false = keeps-pure optional_none tt

-- `e.field` and has(e.field).
pub select_kept : (test : Bool) (field : List ℕ) (v : Value) → Fine v → KeepsRule Fine (select_field test field v)
unfolding select_field
select_kept test field (scalar x) f = keeps-fail _
select_kept test field (list vs) f = keeps-fail _
select_kept test field (map es) f = in_map-kept test (look_up-kept (map es) _ f)
select_kept test field optional_none f = in_none-kept test
select_kept test field (optional_of v) f = in_present-kept test field v f.1

perhaps-kept : (optional : Bool) {r : Rule Value} → KeepsRule Fine r → KeepsRule Fine (perhaps optional r)
unfolding perhaps
perhaps-kept true h = optionally-kept h
perhaps-kept false h = h

-- `e[i]` and `e[?i]`.
pub index_kept : (optional : Bool) {r : Eval Value} (u : Unwrapped) → KeepsEval Fine r → FineUnwrapped u → KeepsRule Fine (index_rule optional r u)
unfolding index_rule
index_kept optional (NotOptional v) h f = keeps-bind (keeps-operand h) (λ i g. perhaps-kept optional (look_up-kept v i f))
index_kept optional (PresentOptional v) h f = keeps-bind (keeps-operand h) (λ i g. optionally-kept (look_up-kept v i f))
index_kept optional NoneOptional h f = keeps-pure optional_none tt

opt_select_in-kept : (field : List ℕ) (u : Unwrapped) → FineUnwrapped u → KeepsRule Fine (opt_select_in field u)
unfolding opt_select_in
opt_select_in-kept field (NotOptional v) f = optionally-kept (look_up-kept v _ f)
opt_select_in-kept field (PresentOptional v) f = optionally-kept (look_up-kept v _ f)
opt_select_in-kept field NoneOptional f = keeps-pure optional_none tt

-- `e.?field`.
pub opt_select-kept : (u : Unwrapped) (w : Value) → FineUnwrapped u → KeepsRule Fine (opt_select_rule u w)
unfolding opt_select_rule
opt_select-kept u w f = keeps-bind (keeps-anything _ (string_of w)) (λ field h. opt_select_in-kept field u f)

-- ---- logic

left_error-kept : (e : Raised) → KeepsRule Fine (left_error e)
unfolding left_error
left_error-kept e = keeps-choose (bool_wanted (raised_error e)) (keeps-fail _) (keeps-error tt)

right_bool-kept : {r : Eval Value} → KeepsEval Fine r → KeepsRule Fine (right_bool r)
unfolding right_bool
right_bool-kept h = keeps-bind (keeps-operand h) (λ w f. keeps-bind (keeps-anything _ (bool_of w)) (λ b g. keeps-truth b))

after_left-kept : (fold : LogicalFold) {r : Eval Value} (x : Result Raised Bool) → KeepsEval Fine r → KeepsRule Fine (after_left fold r x)
unfolding after_left
after_left-kept fold (value a) h = keeps-choose (absorbs fold (Some a)) (keeps-truth a) (right_bool-kept h)
after_left-kept fold (error e) h =
    keeps-bind (keeps-operand h) (λ w f. keeps-choose (absorbs fold (bool_of w)) (keeps-truth (absorbing fold)) (left_error-kept e))

-- `||` and `&&`.
pub logic-kept : (fold : LogicalFold) {r s : Eval Value} → KeepsEval Fine r → KeepsEval Fine s → KeepsRule Fine (logic_rule fold r s)
unfolding logic_rule
logic-kept fold h k = keeps-after (keeps-try_bool h) (λ x g. after_left-kept fold x k)

bool_or_true-kept : (x : Result Raised Bool) → KeepsRule Fine (bool_or_true x)
unfolding bool_or_true
bool_or_true-kept (value b) = keeps-truth b
bool_or_true-kept (error e) = keeps-truth true

pub not_strictly_false-kept : {r : Eval Value} → KeepsEval Fine r → KeepsRule Fine (not_strictly_false_rule r)
unfolding not_strictly_false_rule
not_strictly_false-kept h = keeps-after (keeps-try_bool h) (λ x g. bool_or_true-kept x)

pub conditional-kept : {c r s : Eval Value} → KeepsEval Fine c → KeepsEval Fine r → KeepsEval Fine s → KeepsRule Fine (conditional_rule c r s)
unfolding conditional_rule
conditional-kept h k l = keeps-bind (keeps-try_bool h) (λ b g. keeps-choose b (keeps-operand k) (keeps-operand l))

-- ---- calls

counted-kept : (n : ℕ) → Countable n → KeepsRule Fine (counted n)
unfolding counted text_bytes
counted-kept n h = keeps-pure _ (lt-ltb n (2 ^ 63) h, omega arith)

scalar_size-kept : (x : Scalar) → FineScalar x → KeepsRule Fine (scalar_size x)
unfolding scalar_size text_bytes
scalar_size-kept null f = keeps-fail _
scalar_size-kept (bool b) f = keeps-fail _
scalar_size-kept (int z) f = keeps-fail _
scalar_size-kept (uint n) f = keeps-fail _
scalar_size-kept (double d) f = keeps-fail _
scalar_size-kept (string s) f = counted-kept (code_points s) (omega (arith, code-points-length s))
scalar_size-kept (bytes s) f = counted-kept (length s) f.1

size-kept : (v : Value) → Fine v → KeepsRule Fine (size_rule v)
unfolding size_rule
size-kept (scalar x) f = scalar_size-kept x f
size-kept (list vs) f = counted-kept (count vs) f.1
size-kept (map es) f = counted-kept (count_entries es) f.1
size-kept optional_none f = keeps-fail _
size-kept (optional_of v) f = keeps-fail _

-- size and the functions on Optionals: a size is an Int, since nothing fine has 2 ^ 63 parts.
pub call_kept : (c : Function) (v : Value) → Fine v → KeepsRule Fine (call_rule c v)
unfolding call_rule
call_kept size_call v f = size-kept v f
call_kept of_call v f = optional_of-kept v f
call_kept has_value_call v f = has_value-kept (unwrap_optional v)
call_kept value_call v f = value-kept (unwrap_optional v) (unwrapped-fine v f)

pub or_value_call-kept : {r s : Eval Value} → KeepsEval Fine r → KeepsEval Fine s → KeepsRule Fine (or_value_call r s)
unfolding or_value_call
or_value_call-kept h k = keeps-bind (keeps-operand k) (λ d f. keeps-bind (keeps-operand h) (λ v g. or_value-kept d (unwrap_optional v) f (unwrapped-fine v g)))
