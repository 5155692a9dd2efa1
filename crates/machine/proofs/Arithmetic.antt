-- Arithmetic, unary `-`, and `+` on texts and lists refine their rules. Rests on Numbers and Building. Assumes nothing.
use Prim.Native.Nat.{ℕ, suc, ◌^◌, ◌≤◌, ◌<◌, max}
use mathlib.Core.Path.{◌≡◌, refl, sym, ap, ◌∙◌, subst, fun_ext}
use mathlib.Core.List.{List, ◌++◌}
use Rattle.std.specs.Prelude.{Option, None, Some, Result, Ok, Err}
use Rattle.meaning.specs.Options.{bind}
use mathlib.Core.Bool.{true}
use native.Mathlib.Omega.{arith}
use lib.IntN.{ℤ}
use lib.Signed.{mag}
use lib.ListN.{length}
use Rattle.numbers.specs.declared.double.Double.{Double}
use Rattle.numbers.specs.declared.error.ArithmeticError.{ArithmeticError}
use Rattle.numbers.specs.declared.order.Number.TheVariants as Number
use Rattle.numbers.specs.Int.{in_range}
use Rattle.numbers.specs.Int as Int
use Rattle.numbers.specs.Double as Doubles
use Rattle.numbers.specs.Double.{bits_of, double_of}
use Rattle.numbers.proofs.IntLaws.{in-range, range_small}
use Rattle.meaning.specs.Limits.{Counts, deepest_value}
use Rattle.meaning.specs.Errors.{NoOverload, Arithmetic}
use Rattle.meaning.specs.Value as Meaning
use Rattle.meaning.specs.Value.{null, bool, int, uint, double, string, bytes, Values, scalar, list, map, optional_none, optional_of, scalar_of, elements_of, string_in, nesting, nesting_in, count, join}
use Rattle.meaning.specs.Expr.{Arith, add, sub, div, mul, rem}
use Rattle.meaning.specs.Run.{Rule, pure, charged, after, on_value, ◌>>=◌, fail, or_fail, built}
use Rattle.meaning.specs.Numbers.{int_in, uint_in, double_in, bytes_in, int_arith, int_rule, uint_arith, uint_rule, double_arith, only_add, built_text, scalar_arith, arith_rule, scalar_negate, negate_rule}
use Rattle.meaning.specs.Comprehension as Comprehension
use Rattle.numbers.proofs.DoubleLaws.{add_is, sub_is, mul_is, div_is, neg_is}
use Rattle.numbers.proofs.RangeLaws.{IntInRange, UintInRange, int-neg}
use Rattle.meaning_laws.proofs.SoundNumbers.{int-in-range, uint-in-range, double-in-range, negated-double-in-range}
use Rattle.rooms.specs.declared.value.Value.{Value}
use Rattle.rooms.specs.declared.value.TextSpace.{TextSpace}
use Rattle.rooms.specs.declared.value.TextSpace.TheVariants as Text
use Rattle.rooms.specs.declared.value.CellSpace.{CellSpace}
use Rattle.rooms.specs.declared.scope.Scope.{Scope}
use Rattle.rooms.specs.Value.{plain_of, parts_of, nesting_of, double_value}
use Rattle.rooms.specs.Cells.{Fits}
use Rattle.rooms.specs.Rooms.{Rooms}
use Rattle.rooms.specs.Stands.{Alive, TextAt, StandsScalar, Stands, StandsCells, Holds}
use Rattle.machine.specs.declared.outcome.Used.{Used}
use Rattle.machine.specs.Outcomes.{Res, no_overload}
use Rattle.machine.specs.Numbers as Machine
use Rattle.machine.specs.Numbers.{int_out, uint_out, double_out, doubles_out, number_arith, negate_plain, text_sum, string_sum, bytes_sum, both_lists, list_sum, plain_arith, arithmetic}
use Rattle.machine.specs.Refines.{used_of, Start}
use Rattle.machine.proofs.Match.{Says, value-now, error-now}
use Rattle.machine.proofs.Numbers.{held-int, held-uint, held-double, twice, never, double_plain, string_plain, bytes_plain, plain-double, int_view, uint-view, DoubleView, double-view, TextView, string-text, bytes-text, ListView, list-view, int_or, number-int, uint_or, number-uint, double_or, number-double, text_or, string-sum, bytes-sum}
use Rattle.machine.proofs.Building.{Spelling, lists-say, texts-say, string-spelling, bytes-spelling}
use Rattle.rooms.proofs.Depths.{stands-nesting}
use Rattle.rooms.specs.Spans.{span}

-- a number that words hold
int_small : (L : Alive) (r : Rooms) (z : ℤ) (m : Value) → Holds (scalar (int z)) L r m → mag z < 2 ^ 63
unfolding Stands StandsScalar
int_small L r z m h = subst Fits h.stands h.fits

uint-small : (L : Alive) (r : Rooms) (n : ℕ) (m : Value) → Holds (scalar (uint n)) L r m → n < 2 ^ 64
unfolding Stands StandsScalar
uint-small L r n m h = subst Fits h.stands h.fits

module _ (l : Counts) (src : List ℕ) {L : Alive} {u : Counts} {r : Rooms} {s : Scope} {t : Comprehension.Scope} (st : Start l src L u r s t) (p : ℕ) where
  -- ---- answers of the crate numbers

  int-answer : (x : Result ℤ ArithmeticError) → IntInRange x → Says l src p L u r (int_out p (used_of u) x, r) (int_rule x)
  unfolding int_rule
  int-answer (Ok z) h = value-now l src st p (Value.Int z) (scalar (int z)) (held-int L r z (range_small z h))
  int-answer (Err e) h = error-now l src st p (Arithmetic e)

  uint-answer : (x : Result ℕ ArithmeticError) → UintInRange x → Says l src p L u r (uint_out p (used_of u) x, r) (uint_rule x)
  unfolding uint_rule
  uint-answer (Ok n) h = value-now l src st p (Value.Uint n) (scalar (uint n)) (held-uint L r n h)
  uint-answer (Err e) h = error-now l src st p (Arithmetic e)

  double-answer : (d : ℕ) → d < 2 ^ 64 → Says l src p L u r (double_out (used_of u) (double_of d), r) (pure (scalar (double d)))
  double-answer d h = value-now l src st p (double_value (double_of d)) (scalar (double d)) (held-double L r d h)

  doubles-answer : (o : Arith) (x y : Double) → Says l src p L u r (doubles_out p (used_of u) o x y, r) (◌>>=◌ (or_fail NoOverload (double_arith o (bits_of x) (bits_of y))) (λ d. pure (scalar (double d))))
  unfolding ◌>>=◌ after on_value charged or_fail fail double_arith pure
  doubles-answer add x y = rw (add_is x y) (double-answer _ (double-in-range add (bits_of x) (bits_of y)))
  doubles-answer sub x y = rw (sub_is x y) (double-answer _ (double-in-range sub (bits_of x) (bits_of y)))
  doubles-answer div x y = rw (div_is x y) (double-answer _ (double-in-range div (bits_of x) (bits_of y)))
  doubles-answer mul x y = rw (mul_is x y) (double-answer _ (double-in-range mul (bits_of x) (bits_of y)))
  doubles-answer rem x y = error-now l src st p NoOverload

  -- ---- a number on the left

  int-end : (o : Arith) (a : ℤ) → in_range a ≡ true → (b : Option ℤ) → Says l src p L u r (int_or p (used_of u) o a b, r) (◌>>=◌ (or_fail NoOverload b) (λ z. int_rule (int_arith o a z)))
  unfolding ◌>>=◌ after on_value charged or_fail fail pure
  int-end o a i None = error-now l src st p NoOverload
  int-end o a i (Some b) = int-answer (int_arith o a b) (int-in-range o a b i)

  uint-end : (o : Arith) (a : ℕ) → a < 2 ^ 64 → (b : Option ℕ) → Says l src p L u r (uint_or p (used_of u) o a b, r) (◌>>=◌ (or_fail NoOverload b) (λ n. uint_rule (uint_arith o a n)))
  unfolding ◌>>=◌ after on_value charged or_fail fail pure
  uint-end o a i None = error-now l src st p NoOverload
  uint-end o a i (Some b) = uint-answer (uint_arith o a b) (uint-in-range o a b i)

  double-end : (o : Arith) (x : Double) (d : ℕ) → bits_of x ≡ d → (b : Option ℕ) (y : Option Double) → DoubleView L r b y → Says l src p L u r (double_or p (used_of u) o x y, r) (◌>>=◌ (or_fail NoOverload b) (λ z. ◌>>=◌ (or_fail NoOverload (double_arith o d z)) (λ e. pure (scalar (double e)))))
  unfolding ◌>>=◌ after on_value charged or_fail fail pure
  double-end o x d i None y h = subst (λ z. Says l src p L u r (double_or p (used_of u) o x z, r) (fail NoOverload)) (sym h) (error-now l src st p NoOverload)
  double-end o x d i (Some b) y h =
      subst (λ z. Says l src p L u r (double_or p (used_of u) o x z, r) (◌>>=◌ (or_fail NoOverload (double_arith o d b)) (λ e. pure (scalar (double e))))) (sym h.1)
      (subst (λ z. Says l src p L u r (doubles_out p (used_of u) o x h.0, r) (◌>>=◌ (or_fail NoOverload (double_arith o z b)) (λ e. pure (scalar (double e))))) i
      (subst (λ z. Says l src p L u r (doubles_out p (used_of u) o x h.0, r) (◌>>=◌ (or_fail NoOverload (double_arith o (bits_of x) z)) (λ e. pure (scalar (double e))))) h.2 (doubles-answer o x h.0)))

  -- ---- text on the left

  only-add : (o : Arith) (k : Used → Rooms → Res) (ρ : Rule Meaning.Value) → Says l src p L u r (k (used_of u) r) ρ → Says l src p L u r (Machine.only_add p o k (used_of u) r) (only_add o ρ)
  unfolding only_add
  only-add add k ρ h = h
  only-add sub k ρ h = error-now l src st p NoOverload
  only-add div k ρ h = error-now l src st p NoOverload
  only-add mul k ρ h = error-now l src st p NoOverload
  only-add rem k ρ h = error-now l src st p NoOverload

  -- of no kind that has `+` with it
  add-never : (o : Arith) → Says l src p L u r (Machine.only_add p o (λ z q. (no_overload p z, q)) (used_of u) r) (fail NoOverload)
  add-never add = error-now l src st p NoOverload
  add-never sub = error-now l src st p NoOverload
  add-never div = error-now l src st p NoOverload
  add-never mul = error-now l src st p NoOverload
  add-never rem = error-now l src st p NoOverload

  text-end : (o : Arith) (kind : List ℕ → Meaning.Scalar) (make : ℕ → ℕ → Value) → Spelling l src kind make → (v : List ℕ) (x : TextSpace) (a : ℕ) → TextAt v L r x a → (b : Option (List ℕ)) (y : Option (TextSpace × ℕ × ℕ)) → TextView L r b y → Says l src p L u r (Machine.only_add p o (λ z q. text_or p make x a (length v) y z q) (used_of u) r) (◌>>=◌ (or_fail NoOverload b) (λ w. only_add o (built_text kind (v ++ w))))
  unfolding ◌>>=◌ after on_value charged or_fail fail pure
  text-end o kind make g v x a h None y i = subst (λ z. Says l src p L u r (Machine.only_add p o (λ e q. text_or p make x a (length v) z e q) (used_of u) r) (fail NoOverload)) (sym i) (add-never o)
  text-end o kind make g v x a h (Some w) y i = subst (λ z. Says l src p L u r (Machine.only_add p o (λ e q. text_or p make x a (length v) z e q) (used_of u) r) (only_add o (built_text kind (v ++ w)))) (sym i.2) (only-add o (λ e q. text_sum make x a (length v) i.0 i.1 (length w) e q) (built_text kind (v ++ w)) (texts-say l src st p kind make g v w x i.0 a i.1 h i.3))

  -- ---- a list on the left

  list-end : (o : Arith) (d : ℕ) (vs : Values) (x : CellSpace) (a : ℕ) → suc (nesting_in vs) ≤ deepest_value → StandsCells vs L r x a → (n : Value) (b : Option Values) → ListView L r b n → nesting_of n ≤ deepest_value → d ≡ max (suc (nesting_in vs)) (nesting_of n) → Says l src p L u r (Machine.only_add p o (λ z q. list_sum p d x a (count vs) (parts_of n) z q) (used_of u) r) (◌>>=◌ (or_fail NoOverload b) (λ ws. only_add o (built (join vs ws) (list (join vs ws)))))
  unfolding ◌>>=◌ after on_value charged or_fail fail pure
  list-end o d vs x a deep h n None i dn e = go o
    where
      go : (o : Arith) → Says l src p L u r (Machine.only_add p o (λ z q. list_sum p d x a (count vs) (parts_of n) z q) (used_of u) r) (fail NoOverload)
      go add = subst (λ z. Says l src p L u r z (fail NoOverload)) (sym (i p d x a (count vs) (used_of u) r)) (error-now l src st p NoOverload)
      go sub = error-now l src st p NoOverload
      go div = error-now l src st p NoOverload
      go mul = error-now l src st p NoOverload
      go rem = error-now l src st p NoOverload
  list-end o d vs x a deep h n (Some ws) i dn e =
      subst (λ z. Says l src p L u r (Machine.only_add p o (λ y q. list_sum p d x a (count vs) z y q) (used_of u) r) (only_add o (built (join vs ws) (list (join vs ws))))) (sym i.2)
      (only-add o (λ y q. both_lists d x a (count vs) i.0 i.1 (count ws) y q) (built (join vs ws) (list (join vs ws))) (lists-say l src st p d vs ws x i.0 a i.1 (e ∙ ap (max (suc (nesting_in vs))) i.3) (omega (arith, e, i.3)) h i.4))

  -- ---- both operands known

  module _ (o : Arith) (w : Meaning.Value) (n : Value) (k : Holds w L r n) where
    abbrev Goal : Value → Meaning.Value → Type 0
    Goal m v = Says l src p L u r (arithmetic p o m n (used_of u) r) (arith_rule o v w)

    pub arith-says : (v : Meaning.Value) (m : Value) → Holds v L r m → Goal m v
    unfolding arith_rule scalar_arith Stands StandsScalar nesting
    arith-says (scalar null) m h = subst (λ x. Goal x (scalar null)) (sym h.stands) (subst (λ ρ. Says l src p L u r (no_overload p (used_of u), r) ρ) (sym (never (scalar_of w))) (error-now l src st p NoOverload))
    arith-says (scalar (bool b)) m h = subst (λ x. Goal x (scalar (bool b))) (sym h.stands) (subst (λ ρ. Says l src p L u r (no_overload p (used_of u), r) ρ) (sym (never (scalar_of w))) (error-now l src st p NoOverload))
    arith-says (scalar (int a)) m h =
        subst (λ x. Goal x (scalar (int a))) (sym h.stands)
        (subst (λ ρ. Says l src p L u r (number_arith p (used_of u) o (Number.Int a) (plain_of n), r) ρ) (sym (twice (scalar_of w) int_in (λ b. int_rule (int_arith o a b))))
        (subst (λ z. Says l src p L u r (z, r) (◌>>=◌ (or_fail NoOverload (bind (scalar_of w) int_in)) (λ b. int_rule (int_arith o a b)))) (sym (number-int p (used_of u) o a (plain_of n) ∙ ap (int_or p (used_of u) o a) (int_view L r w n k.stands)))
        (int-end o a (in-range a (int_small L r a m h)) (bind (scalar_of w) int_in))))
    arith-says (scalar (uint a)) m h =
        subst (λ x. Goal x (scalar (uint a))) (sym h.stands)
        (subst (λ ρ. Says l src p L u r (number_arith p (used_of u) o (Number.Uint a) (plain_of n), r) ρ) (sym (twice (scalar_of w) uint_in (λ b. uint_rule (uint_arith o a b))))
        (subst (λ z. Says l src p L u r (z, r) (◌>>=◌ (or_fail NoOverload (bind (scalar_of w) uint_in)) (λ b. uint_rule (uint_arith o a b)))) (sym (number-uint p (used_of u) o a (plain_of n) ∙ ap (uint_or p (used_of u) o a) (uint-view L r w n k.stands)))
        (uint-end o a (uint-small L r a m h) (bind (scalar_of w) uint_in))))
    arith-says (scalar (double d)) m h =
        subst (λ x. Goal x (scalar (double d))) (sym h.stands.1)
        (subst (λ z. Says l src p L u r (plain_arith p o (double_value h.stands.0) n z (used_of u) r) (arith_rule o (scalar (double d)) w)) (sym (plain-double h.stands.0))
        (subst (λ ρ. Says l src p L u r (number_arith p (used_of u) o (Number.Double h.stands.0) (plain_of n), r) ρ) (sym (twice (scalar_of w) double_in (λ b. ◌>>=◌ (or_fail NoOverload (double_arith o d b)) (λ e. pure (scalar (double e))))))
        (subst (λ z. Says l src p L u r (z, r) (◌>>=◌ (or_fail NoOverload (bind (scalar_of w) double_in)) (λ b. ◌>>=◌ (or_fail NoOverload (double_arith o d b)) (λ e. pure (scalar (double e)))))) (sym (number-double p (used_of u) o h.stands.0 (plain_of n)))
        (double-end o h.stands.0 d h.stands.2 (bind (scalar_of w) double_in) (double_plain (plain_of n)) (double-view L r w n k.stands)))))
    arith-says (scalar (string v)) m h =
        subst (λ x. Goal x (scalar (string v))) (sym h.stands.2)
        (subst (λ ρ. Says l src p L u r (Machine.only_add p o (λ z q. string_sum p h.stands.0 h.stands.1 (length v) (plain_of n) z q) (used_of u) r) ρ) (sym (twice (scalar_of w) string_in (λ b. only_add o (built_text string (v ++ b)))))
        (subst (λ f. Says l src p L u r (Machine.only_add p o f (used_of u) r) (◌>>=◌ (or_fail NoOverload (bind (scalar_of w) string_in)) (λ b. only_add o (built_text string (v ++ b))))) (sym (fun_ext (λ z. fun_ext (λ q. string-sum p h.stands.0 h.stands.1 (length v) (plain_of n) z q))))
        (text-end o string (λ f j. Value.String (span Text.Evaluation f j)) (string-spelling l src) v h.stands.0 h.stands.1 h.stands.3 (bind (scalar_of w) string_in) (string_plain (plain_of n)) (string-text L r w n k.stands))))
    arith-says (scalar (bytes v)) m h =
        subst (λ x. Goal x (scalar (bytes v))) (sym h.stands.2)
        (subst (λ ρ. Says l src p L u r (Machine.only_add p o (λ z q. bytes_sum p h.stands.0 h.stands.1 (length v) (plain_of n) z q) (used_of u) r) ρ) (sym (twice (scalar_of w) bytes_in (λ b. only_add o (built_text bytes (v ++ b)))))
        (subst (λ f. Says l src p L u r (Machine.only_add p o f (used_of u) r) (◌>>=◌ (or_fail NoOverload (bind (scalar_of w) bytes_in)) (λ b. only_add o (built_text bytes (v ++ b))))) (sym (fun_ext (λ z. fun_ext (λ q. bytes-sum p h.stands.0 h.stands.1 (length v) (plain_of n) z q))))
        (text-end o bytes (λ f j. Value.Bytes (span Text.Evaluation f j)) (bytes-spelling l src) v h.stands.0 h.stands.1 h.stands.3 (bind (scalar_of w) bytes_in) (bytes_plain (plain_of n)) (bytes-text L r w n k.stands))))
    arith-says (list vs) m h =
        subst (λ x. Goal x (list vs)) (sym h.stands.2)
        (list-end o (max (suc (nesting_in vs)) (nesting_of n)) vs h.stands.0 h.stands.1 h.nests h.stands.3 n (elements_of w) (list-view L r w n k.stands) (omega (arith, stands-nesting L r w n k.stands, k.nests)) refl)
    arith-says (map es) m h = subst (λ x. Goal x (map es)) (sym h.stands.2) (error-now l src st p NoOverload)
    arith-says optional_none m h = subst (λ x. Goal x optional_none) (sym h.stands) (error-now l src st p NoOverload)
    arith-says (optional_of v) m h = subst (λ x. Goal x (optional_of v)) (sym h.stands.2) (error-now l src st p NoOverload)

  -- ---- unary `-`

  abbrev Negates : Value → Meaning.Value → Type 0
  Negates m v = Says l src p L u r (negate_plain p (used_of u) (plain_of m), r) (negate_rule v)

  pub negate-says : (v : Meaning.Value) (m : Value) → Holds v L r m → Negates m v
  unfolding negate_rule scalar_negate scalar_of ◌>>=◌ after on_value charged or_fail fail pure Stands StandsScalar
  negate-says (scalar null) m h = subst (λ x. Negates x (scalar null)) (sym h.stands) (error-now l src st p NoOverload)
  negate-says (scalar (bool b)) m h = subst (λ x. Negates x (scalar (bool b))) (sym h.stands) (error-now l src st p NoOverload)
  negate-says (scalar (int z)) m h = subst (λ x. Negates x (scalar (int z))) (sym h.stands) (int-answer (Int.neg_of z) (int-neg z))
  negate-says (scalar (uint n)) m h = subst (λ x. Negates x (scalar (uint n))) (sym h.stands) (error-now l src st p NoOverload)
  negate-says (scalar (double d)) m h =
      subst (λ x. Negates x (scalar (double d))) (sym h.stands.1)
      (subst (λ z. Says l src p L u r (negate_plain p (used_of u) z, r) (negate_rule (scalar (double d)))) (sym (plain-double h.stands.0))
      (subst (λ b. Says l src p L u r (double_out (used_of u) (Doubles.neg_of h.stands.0), r) (pure (scalar (double (Doubles.neg_bits b))))) h.stands.2
      (rw (neg_is h.stands.0) (double-answer (Doubles.neg_bits (bits_of h.stands.0)) (negated-double-in-range (bits_of h.stands.0))))))
  negate-says (scalar (string x)) m h = subst (λ y. Negates y (scalar (string x))) (sym h.stands.2) (error-now l src st p NoOverload)
  negate-says (scalar (bytes x)) m h = subst (λ y. Negates y (scalar (bytes x))) (sym h.stands.2) (error-now l src st p NoOverload)
  negate-says (list vs) m h = subst (λ x. Negates x (list vs)) (sym h.stands.2) (error-now l src st p NoOverload)
  negate-says (map es) m h = subst (λ x. Negates x (map es)) (sym h.stands.2) (error-now l src st p NoOverload)
  negate-says optional_none m h = subst (λ x. Negates x optional_none) (sym h.stands) (error-now l src st p NoOverload)
  negate-says (optional_of v) m h = subst (λ x. Negates x (optional_of v)) (sym h.stands.2) (error-now l src st p NoOverload)
