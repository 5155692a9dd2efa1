-- The operands of operators, conditionals, selections and calls: their charges stand where the operand is begun.
-- Rests on Opening. Assumes nothing.
use Prim.Native.Nat.{ℕ}
use mathlib.Core.Path.{◌≡◌, refl, sym, ◌∙◌, ap, subst}
use mathlib.Core.List.{◌++◌}
use Rattle.std.specs.Prelude.{Option, None, Some}
use mathlib.Core.Bool.{Bool, true, false, beq}
use native.Mathlib.Omega.{arith}
use Rattle.meaning.specs.Errors.{UnexpectedType, a_bool, ErrorAt}
use Rattle.meaning.specs.Value.{Value, scalar, list, map, optional_none, optional_of, bool_of, is_none}
use Rattle.meaning.specs.Expr.{LogicalFold, Unary, not_op, negate_op, not_strictly_false, Binary, logic, equals, not_equals, index, opt_index, opt_select, arith as arith_op, compare, is_in}
use Rattle.meaning.specs.Run.{Result, value, error, Raised, Eval, Rule, pure, charged, after, on_value, ◌>>=◌, fail, or_fail, from_operand, operand, truth, try_bool, choose}
use Rattle.meaning.specs.Optionals.{unwrap_optional}
use Rattle.meaning.specs.Selection.{index_rule}
use Rattle.meaning.specs.Logic.{absorbing, absorbs, after_left, right_bool, logic_rule, bool_or_true, not_strictly_false_rule, conditional_rule}
use Rattle.meaning.specs.Calls.{or_value_call}
use Rattle.meaning.specs.Meaning.{of_one, of_two, unary_rule, binary_rule}
use Rattle.meaning_laws.specs.Begins.{GaveValue, GaveBool, LeavesOpen}
use Rattle.meaning_laws.proofs.Opening.{Opens, opens-self, first-of-after, then-of-after, first-operand, then-operand, try_bool-charges, first-bool, then-bool}

-- ---- logic

pub gave-try_bool : (r : Eval Value) (b : Bool) → (try_bool r).1 ≡ value b → GaveBool r b
unfolding try_bool operand ◌>>=◌ after charged on_value from_operand or_fail pure fail
gave-try_bool r b e = go r.1 refl e
  where
    of-bool : (v : Value) → r.1 ≡ value v → (o : Option Bool) → bool_of v ≡ o → (or_fail (UnexpectedType a_bool) o).1 ≡ value b → GaveBool r b
    of-bool v p None q h = absurd (let z : ◌≡◌ {A = ℕ} 0 1 = cc in omega arith)
    of-bool v p (Some c) q h = (v, p, q ∙ (let k : c ≡ b = cc in ap Some k))

    go : (x : Result ErrorAt Value) → r.1 ≡ x → (on_value (λ v. or_fail (UnexpectedType a_bool) (bool_of v)) (from_operand x)).1 ≡ value b → GaveBool r b
    go (value v) p h = of-bool v p (bool_of v) refl h
    go (error f) p h = absurd (let z : ◌≡◌ {A = ℕ} 0 1 = cc in omega arith)

same_bool : (a b : Bool) → beq a b ≡ true → a ≡ b
same_bool true true e = refl
same_bool true false e = sym e
same_bool false true e = e
same_bool false false e = refl

-- a left operand that does not decide is followed by the right one
after-left : (fold : LogicalFold) (left right : Eval Value) → ¬ GaveBool left (absorbing fold) →
    Opens right.0 (after_left fold right (try_bool left).1).0
unfolding after_left choose right_bool absorbs
after-left fold left right n = go (try_bool left).1 refl
  where
    open-left : (a c : Bool) → (try_bool left).1 ≡ value a → beq a (absorbing fold) ≡ c →
        Opens right.0 (choose (truth a) (right_bool right) c).0
    open-left a true e q = absurd (n (subst (GaveBool left) (same_bool a (absorbing fold) q) (gave-try_bool left a e)))
    open-left a false e q = first-operand right _

    go : (x : Result Raised Bool) → (try_bool left).1 ≡ x → Opens right.0 (after_left fold right x).0
    go (value a) e = open-left a (beq a (absorbing fold)) e refl
    go (error f) e = first-operand right _

-- a rule that begins with an operand tried as a Bool
tried : (r : Eval Value) (k : Result Raised Bool → Rule Value) → Opens r.0 (after (try_bool r) k).0
tried r k = subst (λ t. Opens t (after (try_bool r) k).0) (try_bool-charges r) (first-of-after (try_bool r) k)

then-tried : (r s : Eval Value) (k : Result Raised Bool → Rule Value) → Opens s.0 (k (try_bool r).1).0 →
    Opens (r.0 ++ s.0) (after (try_bool r) k).0
then-tried r s k o = subst (λ t. Opens (t ++ s.0) (after (try_bool r) k).0) (try_bool-charges r) (then-of-after (try_bool r) k (try_bool r).1 refl o)

-- ---- operators

pub one-begun : (r : Eval Value) (rule : Value → Rule Value) → Opens r.0 (of_one r rule).0
unfolding of_one
one-begun r rule = first-operand r rule

left-begun : (r s : Eval Value) (rule : Value → Value → Rule Value) → Opens r.0 (of_two r s rule).0
unfolding of_two
left-begun r s rule = first-operand r _

right-begun : (r s : Eval Value) (rule : Value → Value → Rule Value) → GaveValue r → Opens (r.0 ++ s.0) (of_two r s rule).0
unfolding of_two
right-begun r s rule g = then-operand r _ g.0 g.1 (first-operand s _)

index-begun : (optional : Bool) (s : Eval Value) (v : Value) → is_none v ≡ false → Opens s.0 (index_rule optional s (unwrap_optional v)).0
unfolding is_none unwrap_optional index_rule
index-begun optional s (scalar x) e = first-operand s _
index-begun optional s (list vs) e = first-operand s _
index-begun optional s (map es) e = first-operand s _
index-begun optional s optional_none e = absurd (let z : ◌≡◌ {A = ℕ} 0 1 = cc in omega arith)
index-begun optional s (optional_of v) e = first-operand s _

of-index : (optional : Bool) (r s : Eval Value) → (v : Value) × (r.1 ≡ value v) × (is_none v ≡ false) →
    Opens (r.0 ++ s.0) (of_one r (λ v. index_rule optional s (unwrap_optional v))).0
unfolding of_one
of-index optional r s g = then-operand r _ g.0 g.1 (index-begun optional s g.0 g.2)

pub unary-begun : (o : Unary) (r : Eval Value) → Opens r.0 (unary_rule o r).0
unfolding unary_rule not_strictly_false_rule
unary-begun not_op r = one-begun r _
unary-begun negate_op r = one-begun r _
unary-begun not_strictly_false r = tried r bool_or_true

pub binary-left : (o : Binary) (r s : Eval Value) → Opens r.0 (binary_rule o r s).0
unfolding binary_rule logic_rule
binary-left (logic fold) r s = tried r (after_left fold s)
binary-left equals r s = left-begun r s _
binary-left not_equals r s = left-begun r s _
binary-left index r s = one-begun r _
binary-left opt_index r s = one-begun r _
binary-left opt_select r s = left-begun r s _
binary-left (arith_op o) r s = left-begun r s _
binary-left (compare c) r s = left-begun r s _
binary-left is_in r s = left-begun r s _

pub binary-right : (o : Binary) (r s : Eval Value) → LeavesOpen o r → Opens (r.0 ++ s.0) (binary_rule o r s).0
unfolding binary_rule logic_rule
binary-right (logic fold) r s g = then-tried r s (after_left fold s) (after-left fold r s g)
binary-right equals r s g = right-begun r s _ g
binary-right not_equals r s g = right-begun r s _ g
binary-right index r s g = of-index false r s g
binary-right opt_index r s g = of-index true r s g
binary-right opt_select r s g = right-begun r s _ g
binary-right (arith_op o) r s g = right-begun r s _ g
binary-right (compare c) r s g = right-begun r s _ g
binary-right is_in r s g = right-begun r s _ g

-- ---- conditional, and orValue

pub condition-begun : (c r s : Eval Value) → Opens c.0 (conditional_rule c r s).0
unfolding conditional_rule
condition-begun c r s = first-bool c _

pub branch-begun : (c r s : Eval Value) (b : Bool) → GaveBool c b → Opens (c.0 ++ (choose (operand r) (operand s) b).0) (conditional_rule c r s).0
unfolding conditional_rule
branch-begun c r s b g = then-bool c _ b g (opens-self (choose (operand r) (operand s) b).0)

pub default-begun : (target argument : Eval Value) → Opens argument.0 (or_value_call target argument).0
unfolding or_value_call
default-begun target argument = first-operand argument _

pub target-begun : (target argument : Eval Value) → GaveValue argument → Opens (argument.0 ++ target.0) (or_value_call target argument).0
unfolding or_value_call
target-begun target argument g = then-operand argument _ g.0 g.1 (first-operand target _)
