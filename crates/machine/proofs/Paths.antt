-- The append path that a step opens is in the machine what it is in the definition. Rests on Comprehending. Assumes nothing.
use Prim.Native.Nat.{ℕ, suc, ◌+◌, ◌≤◌}
use mathlib.Core.Path.{◌≡◌, refl, sym, ap, subst}
use mathlib.Core.List.{List, [], ◌∷◌, ◌++◌, append-nil}
use Rattle.std.specs.Prelude.{Option, None, Some, option_map}
use mathlib.Core.Bool.{Bool, true, false, cond}
use native.Mathlib.Omega.{arith}
use lib.Dec.{eqb}
use borrow.Author.Tests.{eqb-true}
use Rattle.meaning.specs.Limits.{Counts}
use Rattle.meaning.specs.Errors.{ErrorAt}
use Rattle.meaning.specs.Value as Meaning
use Rattle.meaning.specs.Value.{Values, nil, list, count}
use Rattle.meaning.specs.Expr.{LogicalFold, Arith, add, sub, div, mul, rem, Binary, logic, equals, not_equals, index, opt_index, opt_select, arith as arith_op, compare, is_in, Elements, no_elements, element, marked_element, count_elements}
use Rattle.meaning.specs.Run.{step, cells, Trace, Result, value, error, Raised, by_rule, by_operand, Eval, Rule, pure, charged, after, on_value, ◌>>=◌, from_operand, operand, placed, here, begin}
use Rattle.meaning.specs.Containers.{Making, keeping, having, ready_in, kept, append, element_rule, pad, finished, list_rule, into}
use Rattle.meaning.specs.Comprehension as Rules
use Rattle.meaning.specs.Comprehension.{Scope}
use Rattle.meaning.specs.Look.{Look, a_sum, a_fold, of_name, guarded_by, a_conditional, arith_look, binary_look, named}
use Rattle.meaning.specs.Meaning.{run, run_elements}
use Rattle.meaning.specs.Limited.{cells_built}
use Rattle.meaning_laws.proofs.Fine.{pad-count, join-count}
use Rattle.machine.specs.Outcomes.{Does}
use Rattle.machine.specs.Machine.{added_to, sum_to, appending}
use Rattle.machine.specs.Refines.{Refines}
use Rattle.machine.proofs.Lists.{longer}
use Rattle.machine.proofs.Gathering.{elements_in, ItemsOk}
use Rattle.machine.proofs.Comprehending.{PathOk}

-- ---- a List record's elements

append-count : (vs : Values) (o : Option Meaning.Value) → count (append vs o) ≤ count vs + 1
unfolding append
append-count vs None = omega arith
append-count vs (Some v) = omega (arith, longer vs v)

value-is : {vs ws : Values} → ◌≡◌ {A = Result (Values × Raised) Values} (value vs) (value ws) → vs ≡ ws
value-is e = cc

error≢value : {x : Values × Raised} {ws : Values} → ◌≡◌ {A = Result (Values × Raised) Values} (error x) (value ws) → ⊥
error≢value e = let z : ◌≡◌ {A = ℕ} 0 1 = cc in omega arith

element-count : (marked : Bool) (r : Eval Meaning.Value) (rest : Values → Making Values) (n : ℕ) (vs ws : Values) → ((us : Values) → (rest us).1 ≡ value ws → count ws ≤ count us + n) → (element_rule marked r rest vs).1 ≡ value ws → count ws ≤ count vs + suc n
unfolding element_rule having keeping ◌>>=◌ after charged on_value
element-count marked r rest n vs ws f e = go (operand r).1 e
  where
    go : (y : Result Raised Meaning.Value) → (on_value (λ v. rest (append vs (kept marked v))) (keeping vs y)).1 ≡ value ws → count ws ≤ count vs + suc n
    go (value v) i = omega (arith, f (append vs (kept marked v)) i, append-count vs (kept marked v))
    go (error x) i = absurd (error≢value i)

-- a list has no more elements than its record
elements-count : (es : Elements) (t : Scope) (vs ws : Values) → (run_elements es t vs).1 ≡ value ws → count ws ≤ count vs + count_elements es
unfolding run count_elements pure
elements-count no_elements t vs ws e = subst (λ z. count z ≤ count vs + 0) (value-is e) (omega arith)
elements-count (element x es) t vs ws e = element-count false (run x t) (λ us. run_elements es t us) (count_elements es) vs ws (λ us i. elements-count es t us ws i) e
elements-count (marked_element q x es) t vs ws e = element-count true (run x t) (λ us. run_elements es t us) (count_elements es) vs ws (λ us i. elements-count es t us ws i) e

-- ---- a List record by its elements, and as a value

-- the same run, its elements as a value
as-value : (p : ℕ) (ρ : Rule Values) (k : Values → Rule Meaning.Value) → ◌>>=◌ (operand (begin p ρ)) k ≡ ◌>>=◌ (operand (begin p (into list ρ))) (λ v. k (elements_in v))
unfolding ◌>>=◌ operand begin here into after charged
as-value p ρ k = go ρ.1
  where
    T : Trace
    T = ρ.0

    go : (y : Result Raised Values) → ◌≡◌ {A = Rule Meaning.Value}
        (step ∷ (T ++ (on_value k (from_operand (placed p y))).0), (on_value k (from_operand (placed p y))).1)
        (step ∷ ((T ++ (on_value (λ a. pure (list a)) y).0) ++ (on_value (λ v. k (elements_in v)) (from_operand (placed p (on_value (λ a. pure (list a)) y).1))).0), (on_value (λ v. k (elements_in v)) (from_operand (placed p (on_value (λ a. pure (list a)) y).1))).1)
    go (value a) = unfold on_value pure placed from_operand in ap (λ z. (step ∷ (z ++ (k a).0), (k a).1)) (sym (append-nil T))
    go (error (by_rule e)) = unfold on_value pure placed from_operand in ap (λ z. (step ∷ (z ++ []), error (by_operand (record { error = e; place = p })))) (sym (append-nil T))
    go (error (by_operand e)) = unfold on_value pure placed from_operand in ap (λ z. (step ∷ (z ++ []), error (by_operand e))) (sym (append-nil T))

-- what a List record gives is a list, no longer than the cells that it took
is-list : (p n : ℕ) (m : Making Values) → ((ws : Values) → m.1 ≡ value ws → count ws ≤ n) → (v : Meaning.Value) → (begin p (into list (list_rule n m))).1 ≡ value v → (vs : Values) × (v ≡ list vs) × (count vs ≤ count (cells_built (begin p (into list (list_rule n m))).0))
unfolding begin here into ◌>>=◌ after charged list_rule
is-list p n m f v e = go m.1 refl e
  where
    T : Trace
    T = m.0

    built : (z : Trace) → n ≤ count (cells_built (step ∷ (cells (pad n (ready_in m.1)) ∷ z)))
    built z = unfold cells_built in omega (arith, join-count (pad n (ready_in m.1)) (cells_built z), pad-count n (ready_in m.1))

    go : (y : Result (Values × Raised) Values) → m.1 ≡ y → placed p (on_value (λ a. pure (list a)) (finished list y).1).1 ≡ value v → (vs : Values) × (v ≡ list vs) × (count vs ≤ count (cells_built (step ∷ ((cells (pad n (ready_in m.1)) ∷ (T ++ (finished list m.1).0)) ++ (on_value (λ a. pure (list a)) (finished list m.1).1).0))))
    go (value a) i j = (a, unfold finished charged pure on_value placed in same j, omega (arith, f a i, built ((T ++ (finished list m.1).0) ++ (on_value (λ b. pure (list b)) (finished list m.1).1).0)))
      where
        same : ◌≡◌ {A = Result ErrorAt Meaning.Value} (value (list a)) (value v) → v ≡ list a
        same e = cc
    go (error (x, by_rule y)) i j = absurd (unfold finished on_value placed in no j)
      where
        no : ◌≡◌ {A = Result ErrorAt Meaning.Value} (error (record { error = y; place = p })) (value v) → ⊥
        no e = let z : ◌≡◌ {A = ℕ} 0 1 = cc in omega arith
    go (error (x, by_operand y)) i j = absurd (unfold finished on_value placed in no j)
      where
        no : ◌≡◌ {A = Result ErrorAt Meaning.Value} (error y) (value v) → ⊥
        no e = let z : ◌≡◌ {A = ℕ} 0 1 = cc in omega arith

-- ---- which steps append

-- by cases on a test
by-test : {A B : Type 0} (R : Option A → Option B → Type 1) → R None None → (b : Bool) (x : Option A) (y : Option B) → R x y → R (cond b x None) (cond b y None)
by-test R n true x y h = h
by-test R n false x y h = n

module _ (l : Counts) (src : List ℕ) where
  -- an items list, or none, in both
  abbrev pub ListedOk : Option Does → Option (Scope → Eval Values) → Type 1
  ListedOk None None = Unit {1}
  ListedOk None (Some f) = (P : Type 0) → P
  ListedOk (Some m) None = (P : Type 0) → P
  ListedOk (Some m) (Some f) = ItemsOk l src m f

  pub elements-items : (p : ℕ) (es : Elements) (m : Does) → Refines l src m (λ t. begin p (into list (list_rule (count_elements es) (run_elements es t nil)))) → ItemsOk l src m (λ t. begin p (list_rule (count_elements es) (run_elements es t nil)))
  unfolding count
  elements-items p es m h =
      record {
        listed = λ t. begin p (into list (list_rule (count_elements es) (run_elements es t nil)));
        refines = h;
        same = λ t k. as-value p (list_rule (count_elements es) (run_elements es t nil)) k;
        lists = λ t v e. is-list p (count_elements es) (run_elements es t nil) (λ ws i. fewer ws (elements-count es t nil ws i)) v e;
      }
    where
      fewer : (ws : Values) → count ws ≤ 0 + count_elements es → count ws ≤ count_elements es
      fewer ws h = omega arith

  -- `name + [..]`
  sum-ok : (a : ℕ) (n : Option ℕ) (does : Option Does) (items : Option (Scope → Eval Values)) → ListedOk does items → ListedOk (cond (named a n) does None) (of_name a (a_sum n items).adds)
  unfolding a_sum of_name named
  sum-ok a None does items h = tt
  sum-ok a (Some n) does None h = go (eqb n a) does h
    where
      go : (b : Bool) (does : Option Does) → ListedOk does None → ListedOk (cond b does None) None
      go true does h = h
      go false does h = tt
  sum-ok a (Some n) does (Some f) h = by-test ListedOk tt (eqb n a) does (Some f) h

  -- without a guard, and under one
  unguarded-ok : (a : ℕ) (n : Option ℕ) (does : Option Does) (items : Option (Scope → Eval Values)) → ListedOk does items → PathOk l src (appending None (cond (named a n) does None)) (of_name a (a_sum n items).appends)
  unfolding a_sum of_name named
  unguarded-ok a None does items h = tt
  unguarded-ok a (Some n) does None h = go (eqb n a) does h
    where
      go : (b : Bool) (does : Option Does) → ListedOk does None → PathOk l src (appending None (cond b does None)) None
      go true None h = tt
      go true (Some m) h = h
      go false does h = tt
  unguarded-ok a (Some n) does (Some f) h = go (eqb n a) does h
    where
      go : (b : Bool) (does : Option Does) → ListedOk does (Some f) → PathOk l src (appending None (cond b does None)) (cond b (Some (record { guard = None; items = f })) None)
      go true None h = h
      go true (Some m) h = (tt, h)
      go false does h = tt

  module _ (guard : Does) (f : Scope → Eval Meaning.Value) (h : Refines l src guard f) where
    -- the sum, of one name
    guarded-sum : (does : Option Does) (items : Option (Scope → Eval Values)) (n : ℕ) → ListedOk does items → PathOk l src (appending (Some guard) does) (option_map (λ x. x.1) (option_map (guarded_by f n) items))
    unfolding guarded_by
    guarded-sum None None n k = tt
    guarded-sum None (Some g) n k = k
    guarded-sum (Some m) None n k = k
    guarded-sum (Some m) (Some g) n k = (h, k)

    pub conditional-ok : (a : ℕ) (does : Option Does) (sum : Option (ℕ × (Scope → Eval Values))) (n : Option ℕ) → ListedOk does (of_name a sum) → PathOk l src (cond (named a n) (appending (Some guard) does) None) (of_name a (a_conditional f sum n).appends)
    unfolding a_conditional named
    conditional-ok a does sum None k = unfold of_name in tt
    conditional-ok a does sum (Some n) k = go (eqb n a) refl
      where
        -- what is seen of one name, found again under it
        again : (b : Bool) (items : Option (Scope → Eval Values)) → eqb n a ≡ b → of_name a (option_map (guarded_by f n) items) ≡ cond b (option_map (λ x. x.1) (option_map (guarded_by f n) items)) None
        again b None e = unfold of_name in same b
          where
            same : (b : Bool) → ◌≡◌ {A = Option Rules.AppendStep} None (cond b None None)
            same true = refl
            same false = refl
        again b (Some g) e = unfold of_name guarded_by in ap (λ z. cond z (Some (record { guard = Some f; items = g })) None) e

        go : (b : Bool) → eqb n a ≡ b → PathOk l src (cond (eqb n a) (appending (Some guard) does) None) (of_name a (option_map (guarded_by f n) (of_name n sum)))
        go true e = subst (λ z. PathOk l src z (of_name a (option_map (guarded_by f n) (of_name n sum)))) (ap (λ b. cond b (appending (Some guard) does) None) (sym e)) (subst (λ z. PathOk l src (appending (Some guard) does) z) (sym (again true (of_name n sum) e)) (guarded-sum does (of_name n sum) n (subst (λ z. ListedOk does (of_name z sum)) (sym (eqb-true n a e)) k)))
        go false e = subst (λ z. PathOk l src z (of_name a (option_map (guarded_by f n) (of_name n sum)))) (ap (λ b. cond b (appending (Some guard) does) None) (sym e)) (subst (λ z. PathOk l src None z) (sym (again false (of_name n sum) e)) tt)

  -- ---- by the operator

  arith-sum : (o : Arith) (a : ℕ) (x y : Look) (does : Option Does) → ListedOk does y.lists → ListedOk (added_to a o x.is_name does) (of_name a (arith_look o x y).adds)
  unfolding arith_look of_name
  arith-sum add a x y does h = sum-ok a x.is_name does y.lists h
  arith-sum sub a x y does h = tt
  arith-sum div a x y does h = tt
  arith-sum mul a x y does h = tt
  arith-sum rem a x y does h = tt

  fold-adds : (fold : LogicalFold) (a : ℕ) (n : Option ℕ) → of_name a (a_fold fold n).adds ≡ None
  unfolding a_fold of_name
  fold-adds fold a None = refl
  fold-adds fold a (Some n) = refl

  fold-appends : (fold : LogicalFold) (a : ℕ) (n : Option ℕ) → of_name a (a_fold fold n).appends ≡ None
  unfolding a_fold of_name
  fold-appends fold a None = refl
  fold-appends fold a (Some n) = refl

  pub binary-sum : (o : Binary) (a : ℕ) (x y : Look) (does : Option Does) → ListedOk does y.lists → ListedOk (sum_to a o x.is_name does) (of_name a (binary_look o x y).adds)
  unfolding binary_look of_name
  binary-sum (logic fold) a x y does h = subst (λ z. ListedOk None z) (sym (fold-adds fold a x.is_name)) tt
  binary-sum equals a x y does h = tt
  binary-sum not_equals a x y does h = tt
  binary-sum index a x y does h = tt
  binary-sum opt_index a x y does h = tt
  binary-sum opt_select a x y does h = tt
  binary-sum (arith_op o) a x y does h = arith-sum o a x y does h
  binary-sum (compare c) a x y does h = tt
  binary-sum is_in a x y does h = tt

  arith-path : (o : Arith) (a : ℕ) (x y : Look) (does : Option Does) → ListedOk does y.lists → PathOk l src (appending None (added_to a o x.is_name does)) (of_name a (arith_look o x y).appends)
  unfolding arith_look of_name
  arith-path add a x y does h = unguarded-ok a x.is_name does y.lists h
  arith-path sub a x y does h = tt
  arith-path div a x y does h = tt
  arith-path mul a x y does h = tt
  arith-path rem a x y does h = tt

  pub binary-path : (o : Binary) (a : ℕ) (x y : Look) (does : Option Does) → ListedOk does y.lists → PathOk l src (appending None (sum_to a o x.is_name does)) (of_name a (binary_look o x y).appends)
  unfolding binary_look of_name
  binary-path (logic fold) a x y does h = subst (λ z. PathOk l src None z) (sym (fold-appends fold a x.is_name)) tt
  binary-path equals a x y does h = tt
  binary-path not_equals a x y does h = tt
  binary-path index a x y does h = tt
  binary-path opt_index a x y does h = tt
  binary-path opt_select a x y does h = tt
  binary-path (arith_op o) a x y does h = arith-path o a x y does h
  binary-path (compare c) a x y does h = tt
  binary-path is_in a x y does h = tt
