-- The other half of `Begins`, for the operands whose beginning hangs on one operand before them: where the relation does not begin an
-- operand, any other expression could stand there. Rests on Opening. Assumes nothing.
use Prim.Native.Nat.{ℕ}
use mathlib.Core.Path.{◌≡◌, refl, sym, ◌∙◌, ap}
use mathlib.Core.Bool.{Bool, true, false, beq}
use native.Mathlib.Omega.{arith}
use Rattle.meaning.specs.Errors.{ErrorAt}
use Rattle.meaning.specs.Value.{Value, scalar, list, map, optional_none, optional_of, is_none}
use Rattle.meaning.specs.Expr.{LogicalFold, Binary, logic, equals, not_equals, index, opt_index, opt_select, arith as arith_op, compare, is_in, Expr, binary, conditional, comprehension, or_value}
use Rattle.meaning.specs.Run.{Result, value, error, Raised, Run, Eval, Rule, charged, after, on_value, ◌>>=◌, from_operand, operand, truth, begin, try_bool, choose}
use Rattle.meaning.specs.Optionals.{unwrap_optional}
use Rattle.meaning.specs.Selection.{index_rule}
use Rattle.meaning.specs.Logic.{absorbing, absorbs, after_left, right_bool, logic_rule, conditional_rule}
use Rattle.meaning.specs.Calls.{or_value_call}
use Rattle.meaning.specs.Comprehension.{Scope, comprehension_rule}
use Rattle.meaning.specs.Meaning.{of_one, of_two, binary_rule, run}
use Rattle.meaning_laws.specs.Begins.{GaveValue, GaveBool, LeavesOpen}
use Rattle.meaning_laws.proofs.Opening.{try_bool-gave}
use Rattle.meaning_laws.proofs.BegunOperands.{gave-try_bool}

-- ---- runs that go on alike

-- what follows matters only for the value that came
bind-alike : {E A B : Type 0} (r : Run E A) (k l : A → Run E B) → ((a : A) → r.1 ≡ value a → k a ≡ l a) → ◌>>=◌ r k ≡ ◌>>=◌ r l
unfolding ◌>>=◌ after charged on_value
bind-alike {E} {A} r k l h = go r.1 refl
  where
    go : (x : Result E A) → r.1 ≡ x → charged r.0 (on_value k x) ≡ charged r.0 (on_value l x)
    go (value a) e = ap (charged r.0) (h a e)
    go (error f) e = refl

pub operand-value : (x : Result ErrorAt Value) (v : Value) → from_operand x ≡ value v → x ≡ value v
unfolding from_operand
operand-value (value w) v e = cc
operand-value (error f) v e = absurd (let z : ◌≡◌ {A = ℕ} 0 1 = cc in omega arith)

operand-alike : {A : Type 0} (r : Eval Value) (k l : Value → Rule A) → ((v : Value) → r.1 ≡ value v → k v ≡ l v) →
    ◌>>=◌ (operand r) k ≡ ◌>>=◌ (operand r) l
unfolding operand
operand-alike r k l h = bind-alike (operand r) k l (λ v e. h v (operand-value r.1 v e))

bool-alike : {A : Type 0} (r : Eval Value) (k l : Bool → Rule A) → ((b : Bool) → GaveBool r b → k b ≡ l b) → ◌>>=◌ (try_bool r) k ≡ ◌>>=◌ (try_bool r) l
bool-alike r k l h = bind-alike (try_bool r) k l (λ b e. h b (gave-try_bool r b e))

-- ---- operators

-- a left operand that decides leaves nothing to the right one
decided-alike : (fold : LogicalFold) (left r s : Eval Value) → ¬ (¬ GaveBool left (absorbing fold)) →
    after_left fold r (try_bool left).1 ≡ after_left fold s (try_bool left).1
unfolding after_left choose absorbs
decided-alike fold left r s n = go (try_bool left).1 refl
  where
    apart : {b c : Bool} → ◌≡◌ {A = Result Raised Bool} (value b) (value c) → beq b c ≡ false → ⊥
    apart {b} {c} e q = differ b c (let k : b ≡ c = cc in k) q
      where
        differ : (x y : Bool) → x ≡ y → beq x y ≡ false → ⊥
        differ true true e q = let z : ◌≡◌ {A = ℕ} 0 1 = cc in omega arith
        differ true false e q = let z : ◌≡◌ {A = ℕ} 0 1 = cc in omega arith
        differ false true e q = let z : ◌≡◌ {A = ℕ} 0 1 = cc in omega arith
        differ false false e q = let z : ◌≡◌ {A = ℕ} 0 1 = cc in omega arith

    chosen : (a c : Bool) → (try_bool left).1 ≡ value a → beq a (absorbing fold) ≡ c →
        choose (truth a) (right_bool r) c ≡ choose (truth a) (right_bool s) c
    chosen a true e q = refl
    chosen a false e q = absurd (n (λ g. apart (sym e ∙ try_bool-gave left (absorbing fold) g) q))

    go : (x : Result Raised Bool) → (try_bool left).1 ≡ x → after_left fold r x ≡ after_left fold s x
    go (value a) e = chosen a (beq a (absorbing fold)) e refl
    go (error f) e = absurd (n (λ g. let h = sym e ∙ try_bool-gave left (absorbing fold) g in let z : ◌≡◌ {A = ℕ} 0 1 = cc in omega arith))

two-alike : (left r s : Eval Value) (rule : Value → Value → Rule Value) → ¬ GaveValue left → of_two left r rule ≡ of_two left s rule
unfolding of_two
two-alike left r s rule n = operand-alike left _ _ (λ v e. absurd (n (v, e)))

index-alike : (optional : Bool) (left r s : Eval Value) → ¬ ((v : Value) × (left.1 ≡ value v) × (is_none v ≡ false)) →
    of_one left (λ v. index_rule optional r (unwrap_optional v)) ≡ of_one left (λ v. index_rule optional s (unwrap_optional v))
unfolding of_one is_none unwrap_optional index_rule
index-alike optional left r s n = operand-alike left _ _ go
  where
    go : (v : Value) → left.1 ≡ value v → index_rule optional r (unwrap_optional v) ≡ index_rule optional s (unwrap_optional v)
    go (scalar x) e = absurd (n (scalar x, e, refl))
    go (list vs) e = absurd (n (list vs, e, refl))
    go (map es) e = absurd (n (map es, e, refl))
    go optional_none e = refl
    go (optional_of v) e = absurd (n (optional_of v, e, refl))

binary-alike : (o : Binary) (left r s : Eval Value) → ¬ LeavesOpen o left → binary_rule o left r ≡ binary_rule o left s
unfolding binary_rule logic_rule after
binary-alike (logic fold) left r s n = ap (charged (try_bool left).0) (decided-alike fold left r s n)
binary-alike equals left r s n = two-alike left r s _ n
binary-alike not_equals left r s n = two-alike left r s _ n
binary-alike index left r s n = index-alike false left r s n
binary-alike opt_index left r s n = index-alike true left r s n
binary-alike opt_select left r s n = two-alike left r s _ n
binary-alike (arith_op o) left r s n = two-alike left r s _ n
binary-alike (compare c) left r s n = two-alike left r s _ n
binary-alike is_in left r s n = two-alike left r s _ n

-- A right operand that is not begun does not matter: after `true ||`, after `false &&`, with an index after none, and after a left error
-- of every other operator, charges and result are the same whatever stands on the right.
pub right-not-begun : (p : ℕ) (o : Binary) (e f g : Expr) (s : Scope) → ¬ LeavesOpen o (run e s) → run (binary p o e f) s ≡ run (binary p o e g) s
unfolding run
right-not-begun p o e f g s n = ap (begin p) (binary-alike o (run e s) (run f s) (run g s) n)

-- ---- conditional, orValue and range

-- A branch that is not chosen does not matter: the one for true ..
pub if_true-not-begun : (p : ℕ) (c e f g : Expr) (s : Scope) → ¬ GaveBool (run c s) true → run (conditional p c e f) s ≡ run (conditional p c g f) s
unfolding run conditional_rule choose
if_true-not-begun p c e f g s n = ap (begin p) (bool-alike (run c s) _ _ go)
  where
    go : (b : Bool) → GaveBool (run c s) b → choose (operand (run e s)) (operand (run f s)) b ≡ choose (operand (run g s)) (operand (run f s)) b
    go true h = absurd (n h)
    go false h = refl

-- .. and the one for false.
pub if_false-not-begun : (p : ℕ) (c e f g : Expr) (s : Scope) → ¬ GaveBool (run c s) false → run (conditional p c e f) s ≡ run (conditional p c e g) s
unfolding run conditional_rule choose
if_false-not-begun p c e f g s n = ap (begin p) (bool-alike (run c s) _ _ go)
  where
    go : (b : Bool) → GaveBool (run c s) b → choose (operand (run e s)) (operand (run f s)) b ≡ choose (operand (run e s)) (operand (run g s)) b
    go true h = refl
    go false h = absurd (n h)

-- The target of orValue does not matter where the default gave no value.
pub target-not-begun : (p : ℕ) (e f g : Expr) (s : Scope) → ¬ GaveValue (run f s) → run (or_value p e f) s ≡ run (or_value p g f) s
unfolding run or_value_call
target-not-begun p e f g s n = ap (begin p) (operand-alike (run f s) _ _ (λ v h. absurd (n (v, h))))

-- The range of a comprehension, and what follows it, do not matter where init gave no value.
pub range-not-begun : (p a i : ℕ) (init range condition next result range' condition' next' result' : Expr) (s : Scope) → ¬ GaveValue (run init s) →
    run (comprehension p a i range init condition next result) s ≡ run (comprehension p a i range' init condition' next' result') s
unfolding run comprehension_rule
range-not-begun p a i init range condition next result range' condition' next' result' s n =
    ap (begin p) (operand-alike (run init s) _ _ (λ v h. absurd (n (v, h))))
