-- Arithmetic and comparison keep what evaluation keeps: numbers stay in range, Strings well formed, lists and text within the room that they
-- are charged. Rests on SoundNumbers and Kept, and on the laws of the crate text. Assumes nothing.
use Prim.Native.Nat.{ℕ, ◌^◌, ◌≤◌, ◌<◌}
use mathlib.Core.List.{List, [], ◌∷◌, ◌++◌}
use Rattle.std.specs.Prelude.{ℤ, Option, None, Some, Result, Ok, Err}
use mathlib.Core.Bool.{Bool, not, beq}
use native.Mathlib.Omega.{arith}
use lib.ListN.{length}
use Rattle.std.specs.declared.cmp.Ordering.{Ordering}
use Rattle.numbers.specs.declared.error.ArithmeticError.{ArithmeticError}
use Rattle.numbers.specs.Int as Int
use Rattle.text.proofs.Utf8Laws.{joined-well-formed}
use Rattle.meaning.specs.Limits.{most_bytes}
use Rattle.meaning.specs.Value.{Scalar, null, bool, int, uint, double, string, bytes, Value, scalar, list, map, optional_none, optional_of, join, scalar_of, elements_of, bool_of, string_in}
use Rattle.meaning.specs.Expr.{Arith, add, sub, div, mul, rem, Comparison}
use Rattle.meaning.specs.Run.{text, Rule}
use Rattle.meaning.specs.Numbers.{int_in, uint_in, double_in, bytes_in, int_arith, int_rule, uint_arith, uint_rule, double_arith, only_add, built_text, scalar_arith, arith_rule, scalar_negate, negate_rule, not_rule}
use Rattle.meaning.specs.Comparison.{rank, scalar_order, holds, ordered, compare_values, compare_rule, equal, equal_rule}
use Rattle.meaning.specs.Bindings.{text_bytes}
use Rattle.meaning.specs.WellFormed.{AllBytes}
use Rattle.numbers.proofs.RangeLaws.{IntInRange, UintInRange, int-neg}
use Rattle.meaning_laws.proofs.SoundNumbers.{DoubleInRange, int-in-range, uint-in-range, double-in-range, negated-double-in-range}
use Rattle.meaning_laws.proofs.Fine.{FineScalar, Fine, FineElements, Perhaps, join-fine}
use Rattle.meaning_laws.proofs.Kept.{Any, KeepsRule, keeps-pure, keeps-charged, keeps-bind, keeps-fail, keeps-or_fail, keeps-anything, keeps-truth, keeps-compared, keeps-built}

-- ---- views of a fine value

scalar-fine : (v : Value) → Fine v → Perhaps FineScalar (scalar_of v)
unfolding scalar_of
scalar-fine (scalar x) f = f
scalar-fine (list vs) f = tt
scalar-fine (map es) f = tt
scalar-fine optional_none f = tt
scalar-fine (optional_of v) f = tt

elements-fine : (v : Value) → Fine v → Perhaps FineElements (elements_of v)
unfolding elements_of
elements-fine (scalar x) f = tt
elements-fine (list vs) f = f.2
elements-fine (map es) f = tt
elements-fine optional_none f = tt
elements-fine (optional_of v) f = tt

abbrev FineString : List ℕ → Type 0
FineString s = FineScalar (string s)

abbrev FineBytes : List ℕ → Type 0
FineBytes s = FineScalar (bytes s)

string-fine : (x : Scalar) → FineScalar x → Perhaps FineString (string_in x)
unfolding string_in
string-fine null f = tt
string-fine (bool b) f = tt
string-fine (int z) f = tt
string-fine (uint n) f = tt
string-fine (double d) f = tt
string-fine (string s) f = f
string-fine (bytes s) f = tt

bytes-fine : (x : Scalar) → FineScalar x → Perhaps FineBytes (bytes_in x)
unfolding bytes_in
bytes-fine null f = tt
bytes-fine (bool b) f = tt
bytes-fine (int z) f = tt
bytes-fine (uint n) f = tt
bytes-fine (double d) f = tt
bytes-fine (string s) f = tt
bytes-fine (bytes s) f = f

-- ---- numbers

int_rule-kept : (a : Result ℤ ArithmeticError) → IntInRange a → KeepsRule Fine (int_rule a)
unfolding int_rule text_bytes
int_rule-kept (Ok z) h = keeps-pure _ (h, omega arith)
int_rule-kept (Err e) h = keeps-fail _

uint_rule-kept : (a : Result ℕ ArithmeticError) → UintInRange a → KeepsRule Fine (uint_rule a)
unfolding uint_rule text_bytes
uint_rule-kept (Ok n) h = keeps-pure _ (h, omega arith)
uint_rule-kept (Err e) h = keeps-fail _

double-kept : (o : Option ℕ) → DoubleInRange o → Perhaps (λ d. d < 2 ^ 64) o
double-kept None h = tt
double-kept (Some d) h = h

-- ---- text

pub bytes-joined : (xs ys : List ℕ) → AllBytes xs → AllBytes ys → AllBytes (xs ++ ys)
bytes-joined [] ys h k = k
bytes-joined (x ∷ xs) ys h k = (h.0, bytes-joined xs ys h.1 k)

only_add-kept : (o : Arith) {r : Rule Value} → KeepsRule Fine r → KeepsRule Fine (only_add o r)
unfolding only_add
only_add-kept add h = h
only_add-kept sub h = keeps-fail _
only_add-kept div h = keeps-fail _
only_add-kept mul h = keeps-fail _
only_add-kept rem h = keeps-fail _

built_text-kept : (kind : List ℕ → Scalar) (s : List ℕ) → AllBytes s → (length s ≤ most_bytes → FineScalar (kind s)) → KeepsRule Fine (built_text kind s)
unfolding built_text
built_text-kept kind s h k = keeps-charged (text s ∷ []) (h, tt) (λ m. keeps-pure _ (k m.0))

strings-joined : (a b : List ℕ) → FineString a → FineString b → KeepsRule Fine (built_text string (a ++ b))
unfolding text_bytes
strings-joined a b f g =
    let every = bytes-joined a b f.0.0 g.0.0 in
    built_text-kept string (a ++ b) every (λ m. ((every, joined-well-formed a b f.0.1 g.0.1), omega arith))

bytes-added : (a b : List ℕ) → FineBytes a → FineBytes b → KeepsRule Fine (built_text bytes (a ++ b))
unfolding text_bytes
bytes-added a b f g =
    let every = bytes-joined a b f.0 g.0 in
    built_text-kept bytes (a ++ b) every (λ m. (every, omega arith))

-- ---- the rules

scalar_arith-kept : (o : Arith) (x y : Scalar) → FineScalar x → FineScalar y → KeepsRule Fine (scalar_arith o x y)
unfolding scalar_arith text_bytes
scalar_arith-kept o null y f g = keeps-fail _
scalar_arith-kept o (bool a) y f g = keeps-fail _
scalar_arith-kept o (int a) y f g = keeps-bind (keeps-anything _ (int_in y)) (λ b t. int_rule-kept (int_arith o a b) (int-in-range o a b f.0))
scalar_arith-kept o (uint a) y f g = keeps-bind (keeps-anything _ (uint_in y)) (λ b t. uint_rule-kept (uint_arith o a b) (uint-in-range o a b f.0))
scalar_arith-kept o (double a) y f g =
    keeps-bind (keeps-anything _ (double_in y))
    (λ b t. keeps-bind (keeps-or_fail _ (double_arith o a b) (double-kept (double_arith o a b) (double-in-range o a b))) (λ d h. keeps-pure _ (h, omega arith)))
scalar_arith-kept o (string a) y f g = keeps-bind (keeps-or_fail _ (string_in y) (string-fine y g)) (λ b h. only_add-kept o (strings-joined a b f h))
scalar_arith-kept o (bytes a) y f g = keeps-bind (keeps-or_fail _ (bytes_in y) (bytes-fine y g)) (λ b h. only_add-kept o (bytes-added a b f h))

-- `+`, `-`, `*`, `/`, `%` on values of any kind.
pub arith-kept : (o : Arith) (v w : Value) → Fine v → Fine w → KeepsRule Fine (arith_rule o v w)
unfolding arith_rule
arith-kept o (scalar x) w f g = keeps-bind (keeps-or_fail _ (scalar_of w) (scalar-fine w g)) (λ y h. scalar_arith-kept o x y f h)
arith-kept o (list vs) w f g =
    keeps-bind (keeps-or_fail _ (elements_of w) (elements-fine w g))
    (λ ws h. only_add-kept o (keeps-built (join vs ws) (list (join vs ws)) (join-fine vs ws f.2 h) (λ c n. (n, omega arith, join-fine vs ws f.2 h))))
arith-kept o (map es) w f g = keeps-fail _
arith-kept o optional_none w f g = keeps-fail _
arith-kept o (optional_of v) w f g = keeps-fail _

scalar_negate-kept : (x : Scalar) → FineScalar x → KeepsRule Fine (scalar_negate x)
unfolding scalar_negate text_bytes
scalar_negate-kept null f = keeps-fail _
scalar_negate-kept (bool b) f = keeps-fail _
scalar_negate-kept (int z) f = int_rule-kept (Int.neg_of z) (int-neg z)
scalar_negate-kept (uint n) f = keeps-fail _
scalar_negate-kept (double d) f = keeps-pure _ (negated-double-in-range d, omega arith)
scalar_negate-kept (string s) f = keeps-fail _
scalar_negate-kept (bytes s) f = keeps-fail _

-- Unary `-` and `!`.
pub negate-kept : (v : Value) → Fine v → KeepsRule Fine (negate_rule v)
unfolding negate_rule
negate-kept v f = keeps-bind (keeps-or_fail _ (scalar_of v) (scalar-fine v f)) (λ x h. scalar_negate-kept x h)

pub not-kept : (v : Value) → KeepsRule Fine (not_rule v)
unfolding not_rule
not-kept v = keeps-bind (keeps-anything _ (bool_of v)) (λ b h. keeps-truth (not b))

-- ---- comparison

ordered-kept : (o : Option Ordering) → KeepsRule Any (ordered o)
unfolding ordered
ordered-kept o = keeps-anything _ o

compare_values-kept : (v w : Value) → KeepsRule Any (compare_values v w)
unfolding compare_values
compare_values-kept v w =
    keeps-bind (keeps-anything _ (scalar_of v))
    (λ x f. keeps-bind (keeps-anything _ (scalar_of w)) (λ y g. keeps-bind (keeps-anything _ (scalar_order (rank x) (rank y))) (λ o h. ordered-kept o)))

-- `<` and its like, `==` and `!=`.
pub compare-kept : (c : Comparison) (v w : Value) → KeepsRule Fine (compare_rule c v w)
unfolding compare_rule
compare-kept c v w = keeps-bind (compare_values-kept v w) (λ o h. keeps-truth (holds c o))

pub equal-kept : (wanted : Bool) (v w : Value) → KeepsRule Fine (equal_rule wanted v w)
unfolding equal_rule
equal-kept wanted v w = keeps-bind (keeps-compared {P = Any} (equal v w) tt) (λ b h. keeps-truth (beq wanted b))
