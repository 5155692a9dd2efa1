-- The steps of operators: first the left operand's, then the right one's where it is begun, then the pairs that are compared.
-- Rests on CoveredSteps and OwnSteps. Assumes nothing.
use Prim.Native.Nat.{ℕ}
use mathlib.Core.Path.{◌≡◌, refl, sym, ◌∙◌, subst}
use mathlib.Core.List.{◌++◌}
use mathlib.Core.Bool.{Bool, true, false, beq}
use native.Mathlib.Omega.{arith}
use lib.ListN.{replicate}
use Rattle.meaning.specs.Errors.{NoOverload}
use Rattle.meaning.specs.Value.{Value, scalar, list, map, optional_none, optional_of, bool_of, is_none}
use Rattle.meaning.specs.Expr.{LogicalFold, Unary, not_op, negate_op, not_strictly_false, Binary, logic, equals, not_equals, index, opt_index, opt_select, arith as arith_op, compare, is_in}
use Rattle.meaning.specs.Run.{step, Trace, Result, value, error, Raised, Eval, Rule, pure, truth, try_bool, choose}
use Rattle.meaning.specs.Numbers.{not_rule, negate_rule}
use Rattle.meaning.specs.Optionals.{NotOptional, unwrap_optional}
use Rattle.meaning.specs.Selection.{index_rule}
use Rattle.meaning.specs.Logic.{absorbing, absorbs, after_left, right_bool, logic_rule, bool_or_true, not_strictly_false_rule}
use Rattle.meaning.specs.Meaning.{of_one, of_two, unary_rule, binary_rule}
use Rattle.meaning_laws.specs.Begins.{GaveValue, GaveBool, LeavesOpen}
use Rattle.meaning_laws.specs.Steps.{Comparing}
use Rattle.meaning_laws.proofs.Opening.{try_bool-gave}
use Rattle.meaning_laws.proofs.CoveredSteps.{Covered, Silent, OnlyPairs, nothing, silent-any, covered-map, covered-operand, covered-tried, covered-or_fail}
use Rattle.meaning_laws.proofs.OwnSteps.{truth-silent, negate-silent, not-silent, arith-silent, compare-silent, left-error-silent, equal-pairs, in_pairs, indexed-pairs, present-index-pairs, optional-select-pairs}

-- steps of pairs are accounted for if each number of them is
pub pairs-any : {P : Trace → Type 0} (t : Trace) → Covered OnlyPairs t → ((n : ℕ) → P (replicate n step)) → Covered P t
pairs-any {P} t c h = covered-map t (λ f p. subst P (sym p.1) (h p.0)) c

-- ---- one operand

pub one-accounted : {P : Trace → Type 0} (r : Eval Value) (rule : Value → Rule Value) → Covered P r.0 →
    ((v : Value) → r.1 ≡ value v → Covered (λ f. P (r.0 ++ f)) (rule v).0) → Covered P (of_one r rule).0
unfolding of_one
one-accounted r rule c d = covered-operand r rule c d

strictly-silent : (x : Result Raised Bool) → Silent (bool_or_true x).0
unfolding bool_or_true
strictly-silent (value b) = truth-silent b
strictly-silent (error e) = truth-silent true

pub unary-accounted : {P : Trace → Type 0} (o : Unary) (r : Eval Value) → Covered P r.0 → Covered P (unary_rule o r).0
unfolding unary_rule not_strictly_false_rule
unary-accounted not_op r c = one-accounted r _ c (λ v e. silent-any (not_rule v).0 (not-silent v))
unary-accounted negate_op r c = one-accounted r _ c (λ v e. silent-any (negate_rule v).0 (negate-silent v))
unary-accounted not_strictly_false r c = covered-tried r bool_or_true c (silent-any (bool_or_true (try_bool r).1).0 (strictly-silent (try_bool r).1))

-- ---- `||` and `&&`

differ : (x y : Bool) → x ≡ y → beq x y ≡ false → ⊥
differ true true e q = let z : ◌≡◌ {A = ℕ} 0 1 = cc in omega arith
differ true false e q = let z : ◌≡◌ {A = ℕ} 0 1 = cc in omega arith
differ false true e q = let z : ◌≡◌ {A = ℕ} 0 1 = cc in omega arith
differ false false e q = let z : ◌≡◌ {A = ℕ} 0 1 = cc in omega arith

same-value : {b c : Bool} → ◌≡◌ {A = Result Raised Bool} (value b) (value c) → b ≡ c
same-value e = cc

error-no-value : {e : Raised} {b : Bool} → ◌≡◌ {A = Result Raised Bool} (error e) (value b) → ⊥
error-no-value h = let z : ◌≡◌ {A = ℕ} 0 1 = cc in omega arith

right-bool : {P : Trace → Type 0} (r : Eval Value) → Covered P r.0 → Covered P (right_bool r).0
unfolding right_bool
right-bool r c =
    covered-operand r _ c (λ v e. covered-or_fail NoOverload (bool_of v) _ (λ b f. silent-any (truth b).0 (truth-silent b)))

after-left-accounted : {P : Trace → Type 0} (fold : LogicalFold) (left right : Eval Value) →
    (¬ GaveBool left (absorbing fold) → Covered P right.0) → Covered P (after_left fold right (try_bool left).1).0
unfolding after_left absorbs choose
after-left-accounted {P} fold left right h = go (try_bool left).1 refl
  where
    chosen : (a c : Bool) → (try_bool left).1 ≡ value a → beq a (absorbing fold) ≡ c → Covered P (choose (truth a) (right_bool right) c).0
    chosen a true e q = silent-any (truth a).0 (truth-silent a)
    chosen a false e q =
        right-bool right (h (λ g. differ a (absorbing fold) (same-value (sym e ∙ try_bool-gave left (absorbing fold) g)) q))

    go : (x : Result Raised Bool) → (try_bool left).1 ≡ x → Covered P (after_left fold right x).0
    go (value a) e = chosen a (beq a (absorbing fold)) e refl
    go (error f) e =
        covered-operand right _ (h (λ g. error-no-value (sym e ∙ try_bool-gave left (absorbing fold) g)))
        (λ w q. silent-any _ (left-error-silent (absorbing fold) f (absorbs fold (bool_of w))))

-- ---- two operands

module _ {P : Trace → Type 0} (r s : Eval Value) (c : Covered P r.0) where
  two-accounted : (rule : Value → Value → Rule Value) → (GaveValue r → Covered (λ f. P (r.0 ++ f)) s.0) →
      ((v w : Value) → r.1 ≡ value v → s.1 ≡ value w → Covered (λ f. P (r.0 ++ (s.0 ++ f))) (rule v w).0) → Covered P (of_two r s rule).0
  unfolding of_two
  two-accounted rule d h = covered-operand r _ c (λ v e. covered-operand s _ (d (v, e)) (λ w f. h v w e f))

  two-silent : (rule : Value → Value → Rule Value) → (GaveValue r → Covered (λ f. P (r.0 ++ f)) s.0) →
      ((v w : Value) → Silent (rule v w).0) → Covered P (of_two r s rule).0
  two-silent rule d q = two-accounted rule d (λ v w e f. silent-any (rule v w).0 (q v w))

  two-pairs : (rule : Value → Value → Rule Value) → (GaveValue r → Covered (λ f. P (r.0 ++ f)) s.0) →
      (GaveValue r → GaveValue s → (n : ℕ) → P (r.0 ++ (s.0 ++ replicate n step))) →
      ((v w : Value) → Covered OnlyPairs (rule v w).0) → Covered P (of_two r s rule).0
  two-pairs rule d h q = two-accounted rule d (λ v w e f. pairs-any (rule v w).0 (q v w) (h (v, e) (w, f)))

  index-accounted : (optional : Bool) → ((v : Value) × (r.1 ≡ value v) × (is_none v ≡ false) → Covered (λ f. P (r.0 ++ f)) s.0) →
      (GaveValue r → GaveValue s → (n : ℕ) → P (r.0 ++ (s.0 ++ replicate n step))) →
      Covered P (of_one r (λ v. index_rule optional s (unwrap_optional v))).0
  unfolding is_none unwrap_optional index_rule pure
  index-accounted optional d h = one-accounted r _ c go
    where
      plain : (v : Value) → r.1 ≡ value v → is_none v ≡ false → Covered (λ f. P (r.0 ++ f)) (index_rule optional s (NotOptional v)).0
      plain v e q = covered-operand s _ (d (v, e, q)) (λ i f. pairs-any _ (indexed-pairs optional v i) (h (v, e) (i, f)))

      go : (v : Value) → r.1 ≡ value v → Covered (λ f. P (r.0 ++ f)) (index_rule optional s (unwrap_optional v)).0
      go (scalar x) e = plain (scalar x) e refl
      go (list vs) e = plain (list vs) e refl
      go (map es) e = plain (map es) e refl
      go optional_none e = nothing
      go (optional_of v) e =
          covered-operand s _ (d (optional_of v, e, refl)) (λ i f. pairs-any _ (present-index-pairs v i) (h (optional_of v, e) (i, f)))

  pub binary-accounted : (o : Binary) → (LeavesOpen o r → Covered (λ f. P (r.0 ++ f)) s.0) →
      (Comparing o → GaveValue r → GaveValue s → (n : ℕ) → P (r.0 ++ (s.0 ++ replicate n step))) → Covered P (binary_rule o r s).0
  unfolding binary_rule logic_rule
  binary-accounted (logic fold) d h = covered-tried r (after_left fold s) c (after-left-accounted fold r s d)
  binary-accounted equals d h = two-pairs _ d (h tt) (equal-pairs true)
  binary-accounted not_equals d h = two-pairs _ d (h tt) (equal-pairs false)
  binary-accounted index d h = index-accounted false d (h tt)
  binary-accounted opt_index d h = index-accounted true d (h tt)
  binary-accounted opt_select d h = two-pairs _ d (h tt) (λ v w. optional-select-pairs (unwrap_optional v) w)
  binary-accounted (arith_op o) d h = two-silent _ d (arith-silent o)
  binary-accounted (compare x) d h = two-silent _ d (compare-silent x)
  binary-accounted is_in d h = two-pairs _ d (h tt) in_pairs
