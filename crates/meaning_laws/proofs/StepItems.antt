-- The steps of a comprehension: those of init, range and, at the items, of each part where it is begun; in the loop and on the append path.
-- Rests on CoveredSteps and BegunItems. Assumes nothing.
use Prim.Native.Nat.{ℕ}
use mathlib.Core.Path.{◌≡◌, refl, sym, ◌∙◌, ap, subst}
use mathlib.Core.List.{List, [], ◌∷◌, ◌++◌, append_assoc}
use Rattle.std.specs.Prelude.{Option, None, Some}
use mathlib.Core.Bool.{Bool, true, false}
use Rattle.meaning.specs.Errors.{UnexpectedType, an_iterable, ErrorAt}
use Rattle.meaning.specs.Value.{Value, list, Values, join, bool_of}
use Rattle.meaning.specs.Expr.{LogicalFold, Expr}
use Rattle.meaning.specs.Run.{cells, Trace, Result, value, error, Eval, charged, operand, choose}
use Rattle.meaning.specs.Logic.{absorbs}
use Rattle.meaning.specs.Comprehension.{Scope, store, AppendStep, Comprehension, Pending, Onward, finish, fold_step, after_step, turn, loop, Gathering, append_items, append_turn, append_loop, loop_from, comprehension_rule}
use Rattle.meaning.specs.Meaning.{run}
use Rattle.meaning_laws.specs.Begins.{GaveValue, GaveBool, GoesOn, plain, folded, cleared, still_held, held, InLoop, result_at_end, result_at_false, step_of_item, later_item, LetsIn, unguarded, guard_holds, InAppend, guard_of_item, items_of_item, after_items, after_no_items}
use Rattle.meaning_laws.specs.Steps.{StepOf}
use Rattle.meaning_laws.proofs.BegunItems.{parts_of, ItemsList, guard_of}
use Rattle.meaning_laws.proofs.CoveredSteps.{Covered, nothing, silent-any, covered-map, covered-after, covered-operand, covered-choice, covered-or_fail}
use Rattle.meaning_laws.proofs.OwnSteps.{built-silent}
use Rattle.meaning_laws.proofs.StepOrigins.{Accounted}

-- ---- the loop

after-step-accounted : {P : Trace → Type 0} (a : ℕ) (fold : Option LogicalFold) (rest : Onward) (s : Scope) (pending : Pending)
    (r : Result ErrorAt Value) → ((t : Scope) (still : Pending) → GoesOn a fold s pending r t still → Covered P (rest t still).0) →
    Covered P (after_step a fold rest s pending r).0
unfolding after_step fold_step choose
after-step-accounted a None rest s pending (value v) h = h (store s a v) None plain
after-step-accounted a None rest s pending (error e) h = nothing
after-step-accounted a (Some fold) rest s None (value v) h = h (store s a v) None folded
after-step-accounted {P} a (Some fold) rest s (Some e) (value v) h = go (absorbs fold (bool_of v)) refl
  where
    go : (b : Bool) → absorbs fold (bool_of v) ≡ b → Covered P (choose (rest (store s a v) None) (rest s (Some e)) b).0
    go true q = h (store s a v) None (cleared q)
    go false q = h s (Some e) (still_held q)
after-step-accounted a (Some fold) rest s pending (error e) h = h s (Some e) held

module _ (a i : ℕ) (fold : Option LogicalFold) (path : Option AppendStep) (range init condition next result : Expr)
    (of_condition : Accounted condition) (of_next : Accounted next) (of_result : Accounted result) where
  abbrev parts : Comprehension Value
  parts = parts_of a i fold path range init condition next result

  finish-accounted : {P : Trace → Type 0} (s : Scope) (pending : Pending) → (pending ≡ None → (x : Trace) → StepOf result s x → P x) →
      Covered P (finish (λ t. run result t) s pending).0
  unfolding finish operand
  finish-accounted s None h = covered-map (run result s).0 (h refl) (of_result s)
  finish-accounted s (Some e) h = nothing

  -- a step of each part that is begun at an item, or at the end, is a step of the loop
  pub loop-accounted : {P : Trace → Type 0} (xs : List Value) (s : Scope) (pending : Pending) →
      ((before : Trace) (f : Expr) (t : Scope) → InLoop a i fold condition next result xs s pending before f t →
      (x : Trace) → StepOf f t x → P (before ++ x)) → Covered P (loop parts xs s pending).0
  unfolding loop turn
  loop-accounted {P} [] s pending h =
      finish-accounted s pending
      (λ e. h [] result s (subst (λ p. InLoop a i fold condition next result [] s p [] result s) (sym e) result_at_end))
  loop-accounted {P} (x ∷ xs) s pending h =
      let c = (run condition s).0 in
      let r = run next (store s i x) in
      covered-choice (run condition s) _ _ (covered-map c (h [] condition s InLoop.condition_of_item) (of_condition s))
      (λ g. covered-after r _ (covered-map r.0 (h c next (store s i x) (step_of_item g)) (of_next (store s i x)))
      (after-step-accounted a fold (λ t p. loop parts xs t p) (store s i x) pending r.1
      (λ t still o. loop-accounted {P = λ y. P (c ++ (r.0 ++ y))} xs t still (λ b f u l y q.
      subst P (append_assoc c (r.0 ++ b) y ∙ ap (c ++◌) (append_assoc r.0 b y)) (h (c ++ (r.0 ++ b)) f u (later_item g o l) y q)))))
      (λ g. finish-accounted s pending
      (λ e. h c result s (subst (λ p. InLoop a i fold condition next result (x ∷ xs) s p c result s) (sym e) (result_at_false g))))

-- ---- the append path

items-accounted : {P : Trace → Type 0} {items : Expr} {m : Scope → Eval Values} → ItemsList items m → (rest : Gathering) (s : Scope) (out : Values) →
    Covered P (run items s).0 →
    ((vs : Values) → (run items s).1 ≡ value (list vs) → Covered (λ f. P ((run items s).0 ++ (cells vs ∷ f))) (rest s (join out vs)).0) →
    Covered P (append_items m rest s out).0
unfolding append_items charged
items-accounted {P} {items} {m} l rest s out c d =
    covered-operand (m s) _ (subst (Covered P) (sym (l.charges s)) c)
    (λ vs e. record {
      each = (subst (λ t. Covered (λ f. P (t ++ (cells vs ∷ f))) (rest s (join out vs)).0) (sym (l.charges s))
          (d vs (l.whole s vs e))).each;
    })

module _ (a i : ℕ) (fold : Option LogicalFold) (path : Option AppendStep) (range init condition next result : Expr) (guard : Option Expr)
    {items : Expr} {m : Scope → Eval Values} (l : ItemsList items m)
    (of_condition : Accounted condition) (of_guard : (g : Expr) → guard ≡ Some g → Accounted g) (of_items : Accounted items) where
  abbrev parts' : Comprehension Value
  parts' = parts_of a i fold path range init condition next result

  abbrev way : AppendStep
  way = record { guard = guard_of guard; items = m }

  turn-accounted : {P : Trace → Type 0} (rest : Gathering) (s : Scope) (out : Values) →
      ((g : Expr) → guard ≡ Some g → (x : Trace) → StepOf g s x → P x) →
      ((q : Trace) → LetsIn guard s q → (x : Trace) → StepOf items s x → P (q ++ x)) →
      ((q : Trace) → LetsIn guard s q → (vs : Values) → (run items s).1 ≡ value (list vs) →
      Covered (λ f. P (q ++ ((run items s).0 ++ (cells vs ∷ f)))) (rest s (join out vs)).0) →
      ((g : Expr) → guard ≡ Some g → GaveBool (run g s) false → Covered (λ f. P ((run g s).0 ++ f)) (rest s out).0) →
      Covered P (append_turn (guard_of guard) m rest s out).0
  unfolding append_turn
  turn-accounted {P} rest s out hg hi hr hn = go guard refl
    where
      go : (o : Option Expr) → guard ≡ o → Covered P (append_turn (guard_of o) m rest s out).0
      go None e =
          let k = subst (λ o. LetsIn o s []) (sym e) unguarded in
          items-accounted l rest s out (covered-map (run items s).0 (hi [] k) (of_items s)) (hr [] k)
      go (Some g) e =
          let k : GaveBool (run g s) true → LetsIn guard s (run g s).0 = λ h. subst (λ o. LetsIn o s (run g s).0) (sym e) (guard_holds h) in
          covered-choice (run g s) _ _ (covered-map (run g s).0 (hg g e) (of_guard g e s))
          (λ h. items-accounted l rest s out (covered-map (run items s).0 (hi (run g s).0 (k h)) (of_items s)) (hr (run g s).0 (k h)))
          (hn g e)

  -- a step of each part that is begun at an item is a step of the append path
  pub append-accounted : {P : Trace → Type 0} (xs : List Value) (s : Scope) (out : Values) →
      ((before : Trace) (f : Expr) (t : Scope) → InAppend i condition guard items xs s before f t →
      (x : Trace) → StepOf f t x → P (before ++ x)) → Covered P (append_loop parts' way xs s out).0
  unfolding append_loop
  append-accounted {P} [] s out h = silent-any _ (built-silent out (list out))
  append-accounted {P} (x ∷ xs) s out h =
      let c = (run condition s).0 in
      let u = store s i x in
      let n = (run items u).0 in
      covered-choice (run condition s) _ _ (covered-map c (h [] condition s InAppend.condition_of_item) (of_condition s))
      (λ g. turn-accounted (λ t more. append_loop parts' way xs t more) u out
      (λ w e. h c w u (guard_of_item e g))
      (λ q k y o. subst P (append_assoc c q y) (h (c ++ q) items u (items_of_item g k) y o))
      (λ q k vs e. append-accounted {P = λ y. P (c ++ (q ++ (n ++ (cells vs ∷ y))))} xs u (join out vs) (λ b f t r y o.
      subst P (append_assoc c (q ++ (n ++ (cells vs ∷ b))) y ∙ ap (c ++◌) (append_assoc q (n ++ (cells vs ∷ b)) y ∙
      ap (q ++◌) (append_assoc n (cells vs ∷ b) y))) (h (c ++ (q ++ (n ++ (cells vs ∷ b)))) f t (after_items g k e r) y o)))
      (λ w e no. append-accounted {P = λ y. P (c ++ ((run w u).0 ++ y))} xs u out (λ b f t r y o.
      subst P (append_assoc c ((run w u).0 ++ b) y ∙ ap (c ++◌) (append_assoc (run w u).0 b y))
      (h (c ++ ((run w u).0 ++ b)) f t (after_no_items e g no r) y o))))
      (λ g. silent-any _ (built-silent out (list out)))

-- ---- the rule of a comprehension record

pub rule-accounted : {P : Trace → Type 0} (c : Comprehension Value) (s : Scope) → Covered P (c.init s).0 →
    (GaveValue (c.init s) → Covered (λ f. P ((c.init s).0 ++ f)) (c.range s).0) →
    ((v w : Value) (xs : List Value) → (c.init s).1 ≡ value v → (c.range s).1 ≡ value w → c.items_in w ≡ Some xs →
    Covered (λ f. P ((c.init s).0 ++ ((c.range s).0 ++ f))) (loop_from c c.append v xs s).0) → Covered P (comprehension_rule c s).0
unfolding comprehension_rule
rule-accounted c s d r h =
    covered-operand (c.init s) _ d (λ v e. covered-operand (c.range s) _ (r (v, e))
    (λ w f. covered-or_fail (UnexpectedType an_iterable) (c.items_in w) _ (λ xs q. h v w xs e f q)))
