-- What Arithmetic rests on: numbers are held; two operands of one kind; what the machine does with the left operand, by the view of the right one.
-- Rests on Words. Assumes nothing.
use Prim.Native.Nat.{ℕ, suc, ◌^◌, ◌<◌}
use mathlib.Core.Path.{◌≡◌, refl, ap, ◌∙◌}
use mathlib.Core.List.{List}
use Rattle.std.specs.Prelude.{Option, None, Some}
use Rattle.meaning.specs.Options.{bind}
use native.Mathlib.Omega.{arith}
use lib.IntN.{ℤ}
use lib.Signed.{mag}
use lib.ListN.{length}
use Rattle.numbers.specs.declared.double.Double.{Double}
use Rattle.numbers.specs.declared.double.Double.TheVariants as Bits
use Rattle.numbers.specs.declared.order.Number.TheVariants as Number
use Rattle.numbers.specs.Double.{bits_of, double_of}
use Rattle.numbers.proofs.DoubleLaws.{bits_back}
use Rattle.meaning.specs.Errors.{NoOverload}
use Rattle.meaning.specs.Value as Meaning
use Rattle.meaning.specs.Value.{null, bool, int, uint, double, string, bytes, Values, scalar, list, map, optional_none, optional_of, scalar_of, elements_of, string_in, nesting, nesting_in, count}
use Rattle.meaning.specs.Expr.{Arith}
use Rattle.meaning.specs.Run.{Rule, pure, charged, after, on_value, ◌>>=◌, fail, or_fail}
use Rattle.meaning.specs.Numbers.{int_in, uint_in, double_in, bytes_in, int_arith, uint_arith}
use Rattle.rooms.specs.declared.value.Value.{Value}
use Rattle.rooms.specs.declared.value.TextSpace.{TextSpace}
use Rattle.rooms.specs.declared.value.TextSpace.TheVariants as Text
use Rattle.rooms.specs.declared.value.CellSpace.{CellSpace}
use Rattle.rooms.specs.declared.value.Plain.{Plain}
use Rattle.rooms.specs.declared.value.Parts.TheVariants as Parts
use Rattle.rooms.specs.Value.{plain_of, parts_of, nesting_of, double_value}
use Rattle.rooms.specs.Rooms.{Rooms}
use Rattle.rooms.specs.Stands.{Alive, TextAt, StandsScalar, Stands, StandsCells, Holds}
use Rattle.machine.specs.declared.outcome.Used.{Used}
use Rattle.machine.specs.declared.outcome.Outcome.{Outcome}
use Rattle.machine.specs.Outcomes.{Res, no_overload}
use Rattle.machine.specs.Numbers.{int_out, uint_out, doubles_out, number_arith, text_sum, string_sum, bytes_sum, list_sum}
use Rattle.machine.proofs.Words.{bits_fit}
use Rattle.rooms_comparison.proofs.SeenMeaning.{scalar-parts}
use Rattle.rooms.specs.Spans.{span, row}

-- ---- numbers are held

pub held-int : (L : Alive) (r : Rooms) (z : ℤ) → mag z < 2 ^ 63 → Holds (scalar (int z)) L r (Value.Int z)
unfolding Stands StandsScalar nesting
held-int L r z h = record { stands = refl; fits = h; nests = omega arith }

pub held-uint : (L : Alive) (r : Rooms) (n : ℕ) → n < 2 ^ 64 → Holds (scalar (uint n)) L r (Value.Uint n)
unfolding Stands StandsScalar nesting
held-uint L r n h = record { stands = refl; fits = h; nests = omega arith }

pub held-double : (L : Alive) (r : Rooms) (d : ℕ) → d < 2 ^ 64 → Holds (scalar (double d)) L r (double_value (double_of d))
unfolding Stands StandsScalar nesting
held-double L r d h = record { stands = (double_of d, refl, bits_back d h); fits = bits_fit d h; nests = omega arith }

-- ---- two operands of one kind

-- one view after the other
pub twice : {A B : Type 0} (o : Option A) (f : A → Option B) (k : B → Rule Meaning.Value) → ◌>>=◌ (or_fail NoOverload o) (λ y. ◌>>=◌ (or_fail NoOverload (f y)) k) ≡ ◌>>=◌ (or_fail NoOverload (bind o f)) k
unfolding ◌>>=◌ after on_value charged or_fail fail pure bind
twice None f k = refl
twice (Some y) f k = refl

-- no kind of the right operand helps
pub never : {A : Type 0} (o : Option A) → ◌>>=◌ (or_fail NoOverload o) (λ (y : A). fail {A = Meaning.Value} NoOverload) ≡ fail NoOverload
unfolding ◌>>=◌ after on_value charged or_fail fail pure
never None = refl
never (Some y) = refl

abbrev pub int_plain : Plain → Option ℤ
int_plain Plain.Null = None
int_plain (Plain.Bool b) = None
int_plain (Plain.Number (Number.Int z)) = Some z
int_plain (Plain.Number (Number.Uint n)) = None
int_plain (Plain.Number (Number.Double d)) = None
int_plain (Plain.String sp) = None
int_plain (Plain.Bytes sp) = None
int_plain Plain.OptionalNone = None
int_plain Plain.Other = None

abbrev pub uint_plain : Plain → Option ℕ
uint_plain Plain.Null = None
uint_plain (Plain.Bool b) = None
uint_plain (Plain.Number (Number.Int z)) = None
uint_plain (Plain.Number (Number.Uint n)) = Some n
uint_plain (Plain.Number (Number.Double d)) = None
uint_plain (Plain.String sp) = None
uint_plain (Plain.Bytes sp) = None
uint_plain Plain.OptionalNone = None
uint_plain Plain.Other = None

abbrev pub double_plain : Plain → Option Double
double_plain Plain.Null = None
double_plain (Plain.Bool b) = None
double_plain (Plain.Number (Number.Int z)) = None
double_plain (Plain.Number (Number.Uint n)) = None
double_plain (Plain.Number (Number.Double d)) = Some d
double_plain (Plain.String sp) = None
double_plain (Plain.Bytes sp) = None
double_plain Plain.OptionalNone = None
double_plain Plain.Other = None

-- space, first byte, length
abbrev pub string_plain : Plain → Option (TextSpace × ℕ × ℕ)
string_plain Plain.Null = None
string_plain (Plain.Bool b) = None
string_plain (Plain.Number n) = None
string_plain (Plain.String sp) = Some (sp.space, sp.first, sp.length)
string_plain (Plain.Bytes sp) = None
string_plain Plain.OptionalNone = None
string_plain Plain.Other = None

abbrev pub bytes_plain : Plain → Option (TextSpace × ℕ × ℕ)
bytes_plain Plain.Null = None
bytes_plain (Plain.Bool b) = None
bytes_plain (Plain.Number n) = None
bytes_plain (Plain.String sp) = None
bytes_plain (Plain.Bytes sp) = Some (sp.space, sp.first, sp.length)
bytes_plain Plain.OptionalNone = None
bytes_plain Plain.Other = None

pub plain-double : (x : Double) → plain_of (double_value x) ≡ Plain.Number (Number.Double x)
plain-double (Bits.Plain x) = refl
plain-double (Bits.Nan b) = refl

module _ (L : Alive) (r : Rooms) where
  pub int_view : (w : Meaning.Value) (m : Value) → Stands w L r m → int_plain (plain_of m) ≡ bind (scalar_of w) int_in
  unfolding Stands StandsScalar scalar_of int_in bind
  int_view (scalar null) m h = ap (λ x. int_plain (plain_of x)) h
  int_view (scalar (bool b)) m h = ap (λ x. int_plain (plain_of x)) h
  int_view (scalar (int z)) m h = ap (λ x. int_plain (plain_of x)) h
  int_view (scalar (uint n)) m h = ap (λ x. int_plain (plain_of x)) h
  int_view (scalar (double d)) m h = ap (λ x. int_plain (plain_of x)) h.1 ∙ ap int_plain (plain-double h.0)
  int_view (scalar (string s)) m h = ap (λ x. int_plain (plain_of x)) h.2
  int_view (scalar (bytes s)) m h = ap (λ x. int_plain (plain_of x)) h.2
  int_view (list vs) m h = ap (λ x. int_plain (plain_of x)) h.2
  int_view (map es) m h = ap (λ x. int_plain (plain_of x)) h.2
  int_view optional_none m h = ap (λ x. int_plain (plain_of x)) h
  int_view (optional_of v) m h = ap (λ x. int_plain (plain_of x)) h.2

  pub uint-view : (w : Meaning.Value) (m : Value) → Stands w L r m → uint_plain (plain_of m) ≡ bind (scalar_of w) uint_in
  unfolding Stands StandsScalar scalar_of uint_in bind
  uint-view (scalar null) m h = ap (λ x. uint_plain (plain_of x)) h
  uint-view (scalar (bool b)) m h = ap (λ x. uint_plain (plain_of x)) h
  uint-view (scalar (int z)) m h = ap (λ x. uint_plain (plain_of x)) h
  uint-view (scalar (uint n)) m h = ap (λ x. uint_plain (plain_of x)) h
  uint-view (scalar (double d)) m h = ap (λ x. uint_plain (plain_of x)) h.1 ∙ ap uint_plain (plain-double h.0)
  uint-view (scalar (string s)) m h = ap (λ x. uint_plain (plain_of x)) h.2
  uint-view (scalar (bytes s)) m h = ap (λ x. uint_plain (plain_of x)) h.2
  uint-view (list vs) m h = ap (λ x. uint_plain (plain_of x)) h.2
  uint-view (map es) m h = ap (λ x. uint_plain (plain_of x)) h.2
  uint-view optional_none m h = ap (λ x. uint_plain (plain_of x)) h
  uint-view (optional_of v) m h = ap (λ x. uint_plain (plain_of x)) h.2

  -- the same bits, or no Double
  abbrev pub DoubleView : Option ℕ → Option Double → Type 0
  DoubleView None o = o ≡ None
  DoubleView (Some d) o = (x : Double) × (o ≡ Some x) × (bits_of x ≡ d)

  pub double-view : (w : Meaning.Value) (m : Value) → Stands w L r m → DoubleView (bind (scalar_of w) double_in) (double_plain (plain_of m))
  unfolding Stands StandsScalar scalar_of double_in bind
  double-view (scalar null) m h = ap (λ x. double_plain (plain_of x)) h
  double-view (scalar (bool b)) m h = ap (λ x. double_plain (plain_of x)) h
  double-view (scalar (int z)) m h = ap (λ x. double_plain (plain_of x)) h
  double-view (scalar (uint n)) m h = ap (λ x. double_plain (plain_of x)) h
  double-view (scalar (double d)) m h = (h.0, ap (λ x. double_plain (plain_of x)) h.1 ∙ ap double_plain (plain-double h.0), h.2)
  double-view (scalar (string s)) m h = ap (λ x. double_plain (plain_of x)) h.2
  double-view (scalar (bytes s)) m h = ap (λ x. double_plain (plain_of x)) h.2
  double-view (list vs) m h = ap (λ x. double_plain (plain_of x)) h.2
  double-view (map es) m h = ap (λ x. double_plain (plain_of x)) h.2
  double-view optional_none m h = ap (λ x. double_plain (plain_of x)) h
  double-view (optional_of v) m h = ap (λ x. double_plain (plain_of x)) h.2

  -- where the text lies, or that there is none
  abbrev pub TextView : Option (List ℕ) → Option (TextSpace × ℕ × ℕ) → Type 0
  TextView None o = o ≡ None
  TextView (Some s) o = (space : TextSpace) × (a : ℕ) × (o ≡ Some (space, a, length s)) × TextAt s L r space a

  pub string-text : (w : Meaning.Value) (m : Value) → Stands w L r m → TextView (bind (scalar_of w) string_in) (string_plain (plain_of m))
  unfolding Stands StandsScalar scalar_of string_in bind
  string-text (scalar null) m h = ap (λ x. string_plain (plain_of x)) h
  string-text (scalar (bool b)) m h = ap (λ x. string_plain (plain_of x)) h
  string-text (scalar (int z)) m h = ap (λ x. string_plain (plain_of x)) h
  string-text (scalar (uint n)) m h = ap (λ x. string_plain (plain_of x)) h
  string-text (scalar (double d)) m h = ap (λ x. string_plain (plain_of x)) h.1 ∙ ap string_plain (plain-double h.0)
  string-text (scalar (string s)) m h = (h.0, h.1, ap (λ x. string_plain (plain_of x)) h.2, h.3)
  string-text (scalar (bytes s)) m h = ap (λ x. string_plain (plain_of x)) h.2
  string-text (list vs) m h = ap (λ x. string_plain (plain_of x)) h.2
  string-text (map es) m h = ap (λ x. string_plain (plain_of x)) h.2
  string-text optional_none m h = ap (λ x. string_plain (plain_of x)) h
  string-text (optional_of v) m h = ap (λ x. string_plain (plain_of x)) h.2

  pub bytes-text : (w : Meaning.Value) (m : Value) → Stands w L r m → TextView (bind (scalar_of w) bytes_in) (bytes_plain (plain_of m))
  unfolding Stands StandsScalar scalar_of bytes_in bind
  bytes-text (scalar null) m h = ap (λ x. bytes_plain (plain_of x)) h
  bytes-text (scalar (bool b)) m h = ap (λ x. bytes_plain (plain_of x)) h
  bytes-text (scalar (int z)) m h = ap (λ x. bytes_plain (plain_of x)) h
  bytes-text (scalar (uint n)) m h = ap (λ x. bytes_plain (plain_of x)) h
  bytes-text (scalar (double d)) m h = ap (λ x. bytes_plain (plain_of x)) h.1 ∙ ap bytes_plain (plain-double h.0)
  bytes-text (scalar (string s)) m h = ap (λ x. bytes_plain (plain_of x)) h.2
  bytes-text (scalar (bytes s)) m h = (h.0, h.1, ap (λ x. bytes_plain (plain_of x)) h.2, h.3)
  bytes-text (list vs) m h = ap (λ x. bytes_plain (plain_of x)) h.2
  bytes-text (map es) m h = ap (λ x. bytes_plain (plain_of x)) h.2
  bytes-text optional_none m h = ap (λ x. bytes_plain (plain_of x)) h
  bytes-text (optional_of v) m h = ap (λ x. bytes_plain (plain_of x)) h.2

  -- the elements, or that there are none
  abbrev pub ListView : Option Values → Value → Type 0
  ListView None m = (p : ℕ) (d : ℕ) (s : CellSpace) (a n : ℕ) (u : Used) (q : Rooms) → list_sum p d s a n (parts_of m) u q ≡ (no_overload p u, q)
  ListView (Some ws) m = (space : CellSpace) × (a : ℕ) × (parts_of m ≡ Parts.Elements (row space a (count ws))) × (nesting_of m ≡ suc (nesting_in ws)) × StandsCells ws L r space a

  pub list-view : (w : Meaning.Value) (m : Value) → Stands w L r m → ListView (elements_of w) m
  unfolding Stands elements_of
  list-view (scalar x) m h = λ p d s a n u q. ap (λ z. list_sum p d s a n z u q) (scalar-parts L r x m h)
  list-view (list vs) m h = (h.0, h.1, ap parts_of h.2, ap nesting_of h.2, h.3)
  list-view (map es) m h = λ p d s a n u q. ap (λ z. list_sum p d s a n (parts_of z) u q) h.2
  list-view optional_none m h = λ p d s a n u q. ap (λ z. list_sum p d s a n (parts_of z) u q) h
  list-view (optional_of v) m h = λ p d s a n u q. ap (λ z. list_sum p d s a n (parts_of z) u q) h.2

-- ---- what the machine does with a number on the left, by the view of the right one

abbrev pub int_or : ℕ → Used → Arith → ℤ → Option ℤ → Outcome
int_or p u o a None = no_overload p u
int_or p u o a (Some b) = int_out p u (int_arith o a b)

pub number-int : (p : ℕ) (u : Used) (o : Arith) (a : ℤ) (x : Plain) → number_arith p u o (Number.Int a) x ≡ int_or p u o a (int_plain x)
number-int p u o a Plain.Null = refl
number-int p u o a (Plain.Bool b) = refl
number-int p u o a (Plain.Number (Number.Int z)) = refl
number-int p u o a (Plain.Number (Number.Uint n)) = refl
number-int p u o a (Plain.Number (Number.Double d)) = refl
number-int p u o a (Plain.String sp) = refl
number-int p u o a (Plain.Bytes sp) = refl
number-int p u o a Plain.OptionalNone = refl
number-int p u o a Plain.Other = refl

abbrev pub uint_or : ℕ → Used → Arith → ℕ → Option ℕ → Outcome
uint_or p u o a None = no_overload p u
uint_or p u o a (Some b) = uint_out p u (uint_arith o a b)

pub number-uint : (p : ℕ) (u : Used) (o : Arith) (a : ℕ) (x : Plain) → number_arith p u o (Number.Uint a) x ≡ uint_or p u o a (uint_plain x)
number-uint p u o a Plain.Null = refl
number-uint p u o a (Plain.Bool b) = refl
number-uint p u o a (Plain.Number (Number.Int z)) = refl
number-uint p u o a (Plain.Number (Number.Uint n)) = refl
number-uint p u o a (Plain.Number (Number.Double d)) = refl
number-uint p u o a (Plain.String sp) = refl
number-uint p u o a (Plain.Bytes sp) = refl
number-uint p u o a Plain.OptionalNone = refl
number-uint p u o a Plain.Other = refl

abbrev pub double_or : ℕ → Used → Arith → Double → Option Double → Outcome
double_or p u o a None = no_overload p u
double_or p u o a (Some b) = doubles_out p u o a b

pub number-double : (p : ℕ) (u : Used) (o : Arith) (a : Double) (x : Plain) → number_arith p u o (Number.Double a) x ≡ double_or p u o a (double_plain x)
number-double p u o a Plain.Null = refl
number-double p u o a (Plain.Bool b) = refl
number-double p u o a (Plain.Number (Number.Int z)) = refl
number-double p u o a (Plain.Number (Number.Uint n)) = refl
number-double p u o a (Plain.Number (Number.Double d)) = refl
number-double p u o a (Plain.String sp) = refl
number-double p u o a (Plain.Bytes sp) = refl
number-double p u o a Plain.OptionalNone = refl
number-double p u o a Plain.Other = refl

abbrev pub text_or : ℕ → (ℕ → ℕ → Value) → TextSpace → ℕ → ℕ → Option (TextSpace × ℕ × ℕ) → Used → Rooms → Res
text_or p make s a n None u r = (no_overload p u, r)
text_or p make s a n (Some x) u r = text_sum make s a n x.0 x.1 x.2 u r

pub string-sum : (p : ℕ) (s : TextSpace) (a n : ℕ) (x : Plain) (u : Used) (r : Rooms) → string_sum p s a n x u r ≡ text_or p (λ f k. Value.String (span Text.Evaluation f k)) s a n (string_plain x) u r
string-sum p s a n Plain.Null u r = refl
string-sum p s a n (Plain.Bool b) u r = refl
string-sum p s a n (Plain.Number b) u r = refl
string-sum p s a n (Plain.String sp) u r = refl
string-sum p s a n (Plain.Bytes sp) u r = refl
string-sum p s a n Plain.OptionalNone u r = refl
string-sum p s a n Plain.Other u r = refl

pub bytes-sum : (p : ℕ) (s : TextSpace) (a n : ℕ) (x : Plain) (u : Used) (r : Rooms) → bytes_sum p s a n x u r ≡ text_or p (λ f k. Value.Bytes (span Text.Evaluation f k)) s a n (bytes_plain x) u r
bytes-sum p s a n Plain.Null u r = refl
bytes-sum p s a n (Plain.Bool b) u r = refl
bytes-sum p s a n (Plain.Number b) u r = refl
bytes-sum p s a n (Plain.String sp) u r = refl
bytes-sum p s a n (Plain.Bytes sp) u r = refl
bytes-sum p s a n Plain.OptionalNone u r = refl
bytes-sum p s a n Plain.Other u r = refl
