-- `!`, not-strictly-false, `||`, `&&` and the conditional refine their rules. Rests on Operands. Assumes nothing.
use Prim.Native.Nat.{ℕ}
use mathlib.Core.Path.{◌≡◌, refl, sym, ap, ◌∙◌, subst}
use mathlib.Core.List.{List, []}
use Rattle.std.specs.Prelude.{Option, None, Some}
use mathlib.Core.Bool.{Bool, true, false, cond, not, beq, true≢false}
use Rattle.numbers.specs.declared.error.ArithmeticError.TheVariants as Arithmetic
use Rattle.meaning.specs.Limits.{Counts}
use Rattle.meaning.specs.Errors as Errors
use Rattle.meaning.specs.Errors.{UnexpectedType, a_bool, an_iterable, NoOverload}
use Rattle.meaning.specs.Value as Meaning
use Rattle.meaning.specs.Value.{scalar, bool, bool_of}
use Rattle.meaning.specs.Expr.{LogicalFold}
use Rattle.meaning.specs.Run.{value, error, Raised, by_rule, Eval, pure, charged, after, on_value, ◌>>=◌, fail, or_fail, operand, truth, choose}
use Rattle.meaning.specs.Logic as Logic
use Rattle.meaning.specs.Logic.{absorbing, absorbs, raised_error, bool_wanted, right_bool, after_left, logic_rule, bool_or_true, not_strictly_false_rule, conditional_rule}
use Rattle.meaning.specs.Numbers.{not_rule}
use Rattle.meaning.specs.Comprehension as Comprehension
use Rattle.rooms.specs.declared.value.Value.{Value}
use Rattle.rooms.specs.declared.scope.Scope.{Scope}
use Rattle.rooms.specs.Rooms.{Rooms}
use Rattle.rooms.specs.Stands.{Alive, Holds}
use Rattle.machine.specs.declared.outcome.Used.{Used}
use Rattle.machine.specs.declared.outcome.Outcome.{Outcome}
use Rattle.machine.specs.Outcomes.{Res, Does, truth_out, no_overload, with_value}
use Rattle.machine.specs.Views.{bool_in}
use Rattle.machine.specs.Logic as Machine
use Rattle.machine.specs.Logic.{not_out, logic_left, unless_decided, logic_bool, undecided, both_bools, logic_right, branch}
use Rattle.machine.specs.Machine.{on_left, conditional_does}
use Rattle.machine.specs.Refines.{used_of, error_of, Start, Refines}
use Rattle.machine.proofs.Match.{raised_place, Says, value-now, raises, error-now}
use Rattle.machine.proofs.Operands.{bool-view, operand-says, value_of, try-bool}
use Rattle.machine.proofs.Seen.{bool_is, held-bool}

beq-true : (a b : Bool) → beq a b ≡ true → a ≡ b
beq-true true true e = refl
beq-true true false e = cc
beq-true false true e = cc
beq-true false false e = refl

-- a left error that wanted a Bool, or any other
left-error : (E : Errors.Error) (p q : ℕ) (u : Used) → Machine.left_error p u (error_of E) q ≡ cond (bool_wanted E) (no_overload p u) (Outcome.Error (error_of E) q u)
unfolding bool_wanted
left-error Errors.UndeclaredReference p q u = refl
left-error (UnexpectedType a_bool) p q u = refl
left-error (UnexpectedType an_iterable) p q u = refl
left-error Errors.NoOverload p q u = refl
left-error Errors.FunctionError p q u = refl
left-error Errors.NoSuchKey p q u = refl
left-error (Errors.Arithmetic Arithmetic.Overflow) p q u = refl
left-error (Errors.Arithmetic Arithmetic.DivisionByZero) p q u = refl
left-error (Errors.Arithmetic Arithmetic.RemainderByZero) p q u = refl
left-error Errors.DuplicateKey p q u = refl
left-error Errors.IndexOutOfBounds p q u = refl
left-error Errors.UnsupportedKeyType p q u = refl
left-error Errors.Unordered p q u = refl

module _ (l : Counts) (src : List ℕ) where
  -- a Bool is the answer
  pub truth-now : {L : Alive} {u : Counts} {r : Rooms} {s : Scope} {t : Comprehension.Scope} → Start l src L u r s t → (p : ℕ) (b : Bool) → Says l src p L u r (truth_out b (used_of u), r) (truth b)
  unfolding truth
  truth-now {L} {u} {r} a p b = value-now l src a p (Value.Bool b) (scalar (bool b)) (held-bool L r b)

  -- ---- `!` and not-strictly-false

  not_end : {L : Alive} {u : Counts} {r : Rooms} {s : Scope} {t : Comprehension.Scope} → Start l src L u r s t → (p : ℕ) (o : Option Bool) → Says l src p L u r (not_out p (used_of u) o, r) (◌>>=◌ (or_fail NoOverload o) (λ b. truth (not b)))
  unfolding ◌>>=◌ after on_value charged or_fail fail pure
  not_end a p None = error-now l src a p NoOverload
  not_end a p (Some b) = truth-now a p (not b)

  pub not-says : {L : Alive} {u : Counts} {r : Rooms} {s : Scope} {t : Comprehension.Scope} → Start l src L u r s t → (p : ℕ) (m : Value) (v : Meaning.Value) → Holds v L r m → Says l src p L u r (not_out p (used_of u) (bool_in m), r) (not_rule v)
  unfolding not_rule
  not-says {L} {u} {r} a p m v h = subst (λ o. Says l src p L u r (not_out p (used_of u) o, r) (◌>>=◌ (or_fail NoOverload (bool_of v)) (λ b. truth (not b)))) (sym (bool-view L r v m h.stands)) (not_end a p (bool_of v))

  pub not-strictly-false : {L : Alive} {u : Counts} {r : Rooms} {s : Scope} {t : Comprehension.Scope} → Start l src L u r s t → (p : ℕ) (m : Does) (f : Comprehension.Scope → Eval Meaning.Value) → Refines l src m f → Says l src p L u r (Machine.not_strictly_false (m s (used_of u) r).0, (m s (used_of u) r).1) (not_strictly_false_rule (f t))
  unfolding not_strictly_false_rule
  not-strictly-false {L} {u} {r} {s} {t} a p m f h =
      try-bool l src a p m f h (λ x. (Machine.not_strictly_false x.0, x.1)) bool_or_true
      (λ M c q b j n x i. subst (λ o. Says l src p M c q (Machine.bool_or_true (used_of c) o, q) (bool_or_true (value x))) (sym i) (unfold bool_or_true in truth-now b p x))
      (λ M c q b j n i. subst (λ o. Says l src p M c q (Machine.bool_or_true (used_of c) o, q) (bool_or_true (error (by_rule (UnexpectedType a_bool))))) (sym i) (unfold bool_or_true in truth-now b p true))
      (λ M c q b j e. unfold bool_or_true in truth-now b p true)
      (λ x z q. refl)

  -- ---- `||` and `&&`

  module _ (fold : LogicalFold) (p : ℕ) where
    -- both are Bools or neither is, and the left one did not decide
    both_end : {L : Alive} {u : Counts} {r : Rooms} {s : Scope} {t : Comprehension.Scope} → Start l src L u r s t → (a : Bool) (o : Option Bool) (d : Bool) → absorbs fold o ≡ d → (m : Value) → bool_in m ≡ Some a → (z : Used) → Says l src p L u r (logic_bool fold p (Outcome.Value m z) (used_of u) d o, r) (◌>>=◌ (or_fail NoOverload o) (λ b. truth b))
    unfolding ◌>>=◌ after on_value charged or_fail fail pure absorbs
    both_end {L} {u} {r} st a None false e m i z = subst (λ o. Says l src p L u r (both_bools p (used_of u) o None, r) (fail NoOverload)) (sym i) (error-now l src st p NoOverload)
    both_end {L} {u} {r} st a None true e m i z = absurd (true≢false (sym e))
    both_end {L} {u} {r} st a (Some b) true e m i z = subst (λ c. Says l src p L u r (truth_out c (used_of u), r) (truth b)) (beq-true b (absorbing fold) e) (truth-now st p b)
    both_end {L} {u} {r} st a (Some b) false e m i z = subst (λ o. Says l src p L u r (both_bools p (used_of u) o (Some b), r) (truth b)) (sym i) (truth-now st p b)

    -- the left one raised an error, or is no Bool
    kept-end : {L : Alive} {u : Counts} {r : Rooms} {s : Scope} {t : Comprehension.Scope} → Start l src L u r s t → (e : Raised) (d : Bool) (x : Outcome) → x ≡ cond (bool_wanted (raised_error e)) (no_overload p (used_of u)) (Outcome.Error (error_of (raised_error e)) (raised_place p e) (used_of u)) → (o : Option Bool) (left : Outcome) → undecided p left (used_of u) o ≡ x → Says l src p L u r (logic_bool fold p left (used_of u) d o, r) (choose (truth (absorbing fold)) (Logic.left_error e) d)
    unfolding choose Logic.left_error
    kept-end {L} {u} {r} st e true x i o left j = truth-now st p (absorbing fold)
    kept-end {L} {u} {r} st e false x i o left j = subst (λ y. Says l src p L u r (y, r) (choose (fail NoOverload) ([], error e) (bool_wanted (raised_error e)))) (sym (j ∙ i)) (go (bool_wanted (raised_error e)))
      where
        go : (b : Bool) → Says l src p L u r (cond b (no_overload p (used_of u)) (Outcome.Error (error_of (raised_error e)) (raised_place p e) (used_of u)), r) (choose (fail NoOverload) ([], error e) b)
        go true = error-now l src st p NoOverload
        go false = raises l src st p e

    module _ (right : Does) (g : Comprehension.Scope → Eval Meaning.Value) (k : Refines l src right g) where
      -- the right operand is begun, the left one having come to this
      abbrev goes : Scope → Outcome → Used → Rooms → Res
      goes s left w q = with_value (right s w q).0 (right s w q).1 (λ v z d. (logic_right fold p left v z, d))

      abbrev does : Scope → Res → Res
      does s x = on_left (logic_left fold x.0) x.0 x.1 (λ w q. goes s x.0 w q)

      after-bool : {L : Alive} {u : Counts} {r : Rooms} {s : Scope} {t : Comprehension.Scope} → Start l src L u r s t → (m : Value) (a : Bool) → bool_in m ≡ Some a → Says l src p L u r (does s (Outcome.Value m (used_of u), r)) (after_left fold (g t) (value a))
      unfolding after_left choose
      after-bool {L} {u} {r} {s} {t} st m a i = subst (λ o. Says l src p L u r (on_left (unless_decided (absorbs fold o) (used_of u)) (Outcome.Value m (used_of u)) r (λ w q. goes s (Outcome.Value m (used_of u)) w q)) (choose (truth a) (right_bool (g t)) (absorbs fold (Some a)))) (sym i) (go (absorbs fold (Some a)))
        where
          go : (d : Bool) → Says l src p L u r (on_left (unless_decided d (used_of u)) (Outcome.Value m (used_of u)) r (λ w q. goes s (Outcome.Value m (used_of u)) w q)) (choose (truth a) (right_bool (g t)) d)
          go true = subst (λ x. Says l src p L u r (Outcome.Value x (used_of u), r) (truth a)) (sym (bool_is m a i)) (truth-now st p a)
          go false = unfold right_bool in value_of l src st p right g k (λ v z d. (logic_right fold p (Outcome.Value m (used_of u)) v z, d)) (λ v. ◌>>=◌ (or_fail NoOverload (bool_of v)) (λ b. truth b))
              (λ M c q b j n v h. subst (λ o. Says l src p M c q (logic_bool fold p (Outcome.Value m (used_of u)) (used_of c) (absorbs fold o) o, q) (◌>>=◌ (or_fail NoOverload (bool_of v)) (λ x. truth x))) (sym (bool-view M q v n h.stands)) (both_end b a (bool_of v) (absorbs fold (bool_of v)) refl m i (used_of u)))

      after-error : {L : Alive} {u : Counts} {r : Rooms} {s : Scope} {t : Comprehension.Scope} → Start l src L u r s t → (e : Raised) (left : Outcome) → ((c : Counts) (o : Option Bool) → undecided p left (used_of c) o ≡ cond (bool_wanted (raised_error e)) (no_overload p (used_of c)) (Outcome.Error (error_of (raised_error e)) (raised_place p e) (used_of c))) → Says l src p L u r (goes s left (used_of u) r) (after_left fold (g t) (error e))
      unfolding after_left
      after-error {L} {u} {r} {s} {t} st e left i =
          value_of l src st p right g k (λ v z d. (logic_right fold p left v z, d)) (λ w. choose (truth (absorbing fold)) (Logic.left_error e) (absorbs fold (bool_of w)))
          (λ M c q b j n v h. subst (λ o. Says l src p M c q (logic_bool fold p left (used_of c) (absorbs fold o) o, q) (choose (truth (absorbing fold)) (Logic.left_error e) (absorbs fold (bool_of v)))) (sym (bool-view M q v n h.stands)) (kept-end b e (absorbs fold (bool_of v)) _ refl (bool_of v) left (i c (bool_of v))))

      pub logic-says : {L : Alive} {u : Counts} {r : Rooms} {s : Scope} {t : Comprehension.Scope} → Start l src L u r s t → (m : Does) (f : Comprehension.Scope → Eval Meaning.Value) → Refines l src m f → Says l src p L u r (does s (m s (used_of u) r)) (logic_rule fold (f t) (g t))
      unfolding logic_rule
      logic-says {L} {u} {r} {s} {t} a m f h =
          try-bool l src a p m f h (does s) (after_left fold (g t))
          (λ M c q b j n x i. after-bool b n x i)
          (λ M c q b j n i. subst (λ o. Says l src p M c q (on_left (unless_decided (absorbs fold o) (used_of c)) (Outcome.Value n (used_of c)) q (λ w z. goes s (Outcome.Value n (used_of c)) w z)) (after_left fold (g t) (error (by_rule (UnexpectedType a_bool))))) (sym i)
          (unfold absorbs in after-error b (by_rule (UnexpectedType a_bool)) (Outcome.Value n (used_of c)) (λ z o. unfold bool_wanted raised_error in ap (λ y. both_bools p (used_of z) y o) i)))
          (λ M c q b j e. after-error b e (Outcome.Error (error_of (raised_error e)) (raised_place p e) (used_of c)) (λ z o. left-error (raised_error e) p (raised_place p e) (used_of z)))
          (λ x z q. refl)

  -- ---- the conditional

  pub conditional-says : {L : Alive} {u : Counts} {r : Rooms} {s : Scope} {t : Comprehension.Scope} → Start l src L u r s t → (p : ℕ) (m : Does) (f : Comprehension.Scope → Eval Meaning.Value) → Refines l src m f → (if_true : Does) (g : Comprehension.Scope → Eval Meaning.Value) → Refines l src if_true g → (if_false : Does) (h : Comprehension.Scope → Eval Meaning.Value) → Refines l src if_false h
      → Says l src p L u r (conditional_does p m if_true if_false s (used_of u) r) (conditional_rule (f t) (g t) (h t))
  unfolding conditional_rule ◌>>=◌ on_value
  conditional-says {L} {u} {r} {s} {t} a p m f hm if_true g hg if_false h hh =
      try-bool l src a p m f hm K (on_value (choose (operand (g t)) (operand (h t))))
      (λ M c q b j n x i. subst (λ o. Says l src p M c q (branch p (used_of c) q o (λ z d. if_true s z d) (λ z d. if_false s z d)) (choose (operand (g t)) (operand (h t)) x)) (sym i) (chosen b x))
      (λ M c q b j n i. subst (λ o. Says l src p M c q (branch p (used_of c) q o (λ z d. if_true s z d) (λ z d. if_false s z d)) ([], error (by_rule (UnexpectedType a_bool)))) (sym i) (unfold fail in error-now l src b p (UnexpectedType a_bool)))
      (λ M c q b j e. raises l src b p e)
      (λ x z q. refl)
    where
      K : Res → Res
      K x = with_value x.0 x.1 (λ v w q. branch p w q (bool_in v) (λ z d. if_true s z d) (λ z d. if_false s z d))

      chosen : {M : Alive} {c : Counts} {q : Rooms} → Start l src M c q s t → (x : Bool) → Says l src p M c q (branch p (used_of c) q (Some x) (λ z d. if_true s z d) (λ z d. if_false s z d)) (choose (operand (g t)) (operand (h t)) x)
      chosen {M} {c} {q} b true = unfold choose in operand-says l src p M c q (if_true s (used_of c) q) (g t) (hg M s t c q b)
      chosen {M} {c} {q} b false = unfold choose in operand-says l src p M c q (if_false s (used_of c) q) (h t) (hh M s t c q b)
