-- The parts of a comprehension, at every item: their charges stand where each is begun, in the ordinary loop and on the append path.
-- Rests on Opening and BegunParts. Assumes nothing.
use Prim.Native.Nat.{ℕ}
use mathlib.Core.Path.{◌≡◌, refl, sym, ◌∙◌, ap, subst}
use mathlib.Core.List.{List, [], ◌∷◌, ◌++◌}
use Rattle.std.specs.Prelude.{Option, None, Some, option_map}
use mathlib.Core.Bool.{Bool, true, false, cond}
use native.Mathlib.Omega.{arith}
use lib.Dec.{T, eqb, eqb_refl}
use Rattle.meaning.specs.Errors.{UnexpectedType, an_iterable, ErrorAt}
use Rattle.meaning.specs.Value.{Scalar, Value, list, Values, nil, join}
use Rattle.meaning.specs.Expr.{LogicalFold, Expr, literal, name, list_of, Elements, count_elements}
use Rattle.meaning.specs.Run.{step, cells, Trace, Result, value, error, Raised, by_rule, by_operand, Eval, Rule, pure, charged, after, on_value, ◌>>=◌, or_fail, operand, placed, here, begin, choose}
use Rattle.meaning.specs.Containers.{list_rule, into}
use Rattle.meaning.specs.Comprehension.{Scope, store, Meaning, items_of, AppendStep, Comprehension, Pending, Onward, finish, fold_step, after_step, turn, loop, Gathering, append_items, append_turn, append_loop, is_empty_list, loop_from, comprehension_rule}
use Rattle.meaning.specs.Look.{a_sum, arith_look, binary_look, of_name, guarded_by, a_conditional, named, append_step}
use Rattle.meaning.specs.Meaning.{run, run_elements, look}
use Rattle.meaning_laws.specs.Begins.{GaveValue, GaveBool, GoesOn, plain, folded, cleared, still_held, held, InLoop, result_at_end, result_at_false, step_of_item, later_item, TakesLoop, no_append, not_empty, Appends, always, guarded, LetsIn, unguarded, guard_holds, InAppend, guard_of_item, items_of_item, after_items, after_no_items}
use Rattle.meaning_laws.proofs.Opening.{Opens, opens-self, opens-behind, opens-grouped, first-of-after, then-of-after, then-of, first-operand, then-operand, first-bool, then-bool}
use Rattle.meaning_laws.proofs.BegunParts.{into-charges}

-- a comprehension record's parts, as its rule sees them
abbrev pub parts_of : (accumulator item : ℕ) → Option LogicalFold → Option AppendStep → (range init condition next result : Expr) → Comprehension Value
parts_of a i fold path range init condition next result =
    record {
      items_in = items_of;
      enter = λ v t. store t i v;
      accumulator = a;
      fold = fold;
      append = path;
      range = λ t. run range t;
      init = λ t. run init t;
      condition = λ t. run condition t;
      step = λ t. run next t;
      result = λ t. run result t;
    }

-- ---- the loop

goes_on : {a : ℕ} {fold : Option LogicalFold} {s t : Scope} {pending still : Pending} {r : Result ErrorAt Value} →
    GoesOn a fold s pending r t still → (rest : Onward) → after_step a fold rest s pending r ≡ rest t still
unfolding after_step fold_step choose
goes_on plain rest = refl
goes_on folded rest = refl
goes_on {a} {s} (cleared {e = e} {v = v} h) rest = ap (choose (rest (store s a v) None) (rest s (Some e))) h
goes_on {a} {s} (still_held {e = e} {v = v} h) rest = ap (choose (rest (store s a v) None) (rest s (Some e))) h
goes_on held rest = refl

module _ (a i : ℕ) (fold : Option LogicalFold) (path : Option AppendStep) (range init condition next result : Expr) where
  abbrev parts : Comprehension Value
  parts = parts_of a i fold path range init condition next result

  pub loop-begun : {xs : List Value} {s t : Scope} {pending : Pending} {before : Trace} {f : Expr} →
      InLoop a i fold condition next result xs s pending before f t → Opens (before ++ (run f t).0) (loop parts xs s pending).0
  unfolding loop finish operand turn choose
  loop-begun {s} result_at_end = opens-self (run result s).0
  loop-begun {s} InLoop.condition_of_item = first-bool (run condition s) _
  loop-begun {s} (result_at_false g) = then-bool (run condition s) _ false g (opens-self (run result s).0)
  loop-begun {s} (step_of_item {x = x} g) = then-bool (run condition s) _ true g (first-of-after (run next (store s i x)) _)
  loop-begun {s} {t} {pending} (later_item {x = x} {xs = xs} {before = b} {f = f} g o l) =
      let r = run next (store s i x) in
      let rest : Onward = λ u q. loop parts xs u q in
      let k = after_step a fold rest (store s i x) pending in
      let on = subst (λ w. Opens (b ++ (run f t).0) w.0) (sym (goes_on o rest)) (loop-begun l) in
      opens-grouped (run condition s).0 (r.0 ++ b) (run f t).0
      (then-bool (run condition s) _ true g (opens-grouped r.0 b (run f t).0 (then-of-after r k r.1 refl on)))

-- ---- the append path

-- an items list in the append path: the list's own charges, and the list's elements, which come of no other value
pub record ItemsList (items : Expr) (m : Scope → Eval Values) : Type 0 where
  pub charges : (s : Scope) → (m s).0 ≡ (run items s).0
  pub elements : (s : Scope) (vs : Values) → (run items s).1 ≡ value (list vs) → (m s).1 ≡ value vs
  pub whole : (s : Scope) (vs : Values) → (m s).1 ≡ value vs → (run items s).1 ≡ value (list vs)

abbrev pub guard_of : Option Expr → Option Meaning
guard_of None = None
guard_of (Some g) = Some (λ t. run g t)

module _ {items : Expr} {m : Scope → Eval Values} (l : ItemsList items m) (rest : Gathering) (s : Scope) (out : Values) where
  items-first : Opens (run items s).0 (append_items m rest s out).0
  unfolding append_items
  items-first = subst (λ t. Opens t (append_items m rest s out).0) (l.charges s) (first-operand (m s) _)

  items-then : {u : Trace} (vs : Values) → (run items s).1 ≡ value (list vs) → Opens u (rest s (join out vs)).0 →
      Opens ((run items s).0 ++ (cells vs ∷ u)) (append_items m rest s out).0
  unfolding append_items charged
  items-then {u} vs e o =
      subst (λ t. Opens (t ++ (cells vs ∷ u)) (append_items m rest s out).0) (l.charges s)
      (then-operand (m s) _ vs (l.elements s vs e) (opens-behind (cells vs ∷ []) o))

lets-in : {guard : Option Expr} {s : Scope} {asked : Trace} → LetsIn guard s asked →
    (m : Scope → Eval Values) (rest : Gathering) (out : Values) {u : Trace} → Opens u (append_items m rest s out).0 →
    Opens (asked ++ u) (append_turn (guard_of guard) m rest s out).0
unfolding append_turn choose
lets-in unguarded m rest out o = o
lets-in {s} (guard_holds {guard = g} h) m rest out o = then-bool (run g s) _ true h o

module _ (a i : ℕ) (fold : Option LogicalFold) (path : Option AppendStep) (range init condition next result : Expr) (guard : Option Expr)
    {items : Expr} {m : Scope → Eval Values} (l : ItemsList items m) where
  abbrev parts' : Comprehension Value
  parts' = parts_of a i fold path range init condition next result

  abbrev way : AppendStep
  way = record { guard = guard_of guard; items = m }

  abbrev onwards : List Value → Gathering
  onwards xs = λ t more. append_loop parts' way xs t more

  guard-first : (g : Expr) → guard ≡ Some g → (rest : Gathering) (s : Scope) (out : Values) →
      Opens (run g s).0 (append_turn (guard_of guard) m rest s out).0
  unfolding append_turn
  guard-first g e rest s out = subst (λ o. Opens (run g s).0 (append_turn (guard_of o) m rest s out).0) (sym e) (first-bool (run g s) _)

  guard_out : (g : Expr) → guard ≡ Some g → (rest : Gathering) (s : Scope) (out : Values) {u : Trace} → GaveBool (run g s) false →
      Opens u (rest s out).0 → Opens ((run g s).0 ++ u) (append_turn (guard_of guard) m rest s out).0
  unfolding append_turn choose
  guard_out g e rest s out {u} h o =
      subst (λ q. Opens ((run g s).0 ++ u) (append_turn (guard_of q) m rest s out).0) (sym e) (then-bool (run g s) _ false h o)

  pub append-begun : {xs : List Value} {s t : Scope} {before : Trace} {f : Expr} → InAppend i condition guard items xs s before f t →
      (out : Values) → Opens (before ++ (run f t).0) (append_loop parts' way xs s out).0
  unfolding append_loop choose
  append-begun {s} InAppend.condition_of_item out = first-bool (run condition s) _
  append-begun {s} (guard_of_item {x = x} {xs = xs} {g = g} e h) out =
      then-bool (run condition s) _ true h (guard-first g e (onwards xs) (store s i x) out)
  append-begun {s} (items_of_item {x = x} {xs = xs} {asked = q} h d) out =
      opens-grouped (run condition s).0 q (run items (store s i x)).0
      (then-bool (run condition s) _ true h (lets-in d m (onwards xs) out (items-first l (onwards xs) (store s i x) out)))
  append-begun {s} {t} (after_items {x = x} {xs = xs} {vs = vs} {asked = q} {before = b} {f = f} h d e r) out =
      let n = (run items (store s i x)).0 in
      let u = (run f t).0 in
      opens-grouped (run condition s).0 (q ++ (n ++ (cells vs ∷ b))) u
      (then-bool (run condition s) _ true h (opens-grouped q (n ++ (cells vs ∷ b)) u
      (lets-in d m (onwards xs) out (opens-grouped n (cells vs ∷ b) u
      (items-then l (onwards xs) (store s i x) out vs e (append-begun r (join out vs)))))))
  append-begun {s} {t} (after_no_items {x = x} {xs = xs} {g = g} {before = b} {f = f} e h n r) out =
      let u = (run f t).0 in
      let c = (run g (store s i x)).0 in
      opens-grouped (run condition s).0 (c ++ b) u
      (then-bool (run condition s) _ true h (opens-grouped c b u (guard_out g e (onwards xs) (store s i x) out n (append-begun r out))))

-- ---- the append path is seen in how the step is written

same_name : (n : ℕ) → eqb n n ≡ true
same_name n = go (eqb n n) (eqb_refl n)
  where
    go : (b : Bool) → T b → b ≡ true
    go true h = refl
    go false h = absurd h

into-list : (p : ℕ) (made : Rule Values) (vs : Values) → placed p (into list made).1 ≡ value (list vs) → placed p made.1 ≡ value vs
unfolding into ◌>>=◌ after charged on_value pure placed
into-list p made vs e = go made.1 e
  where
    go : (x : Result Raised Values) → placed p (on_value (λ a. pure (list a)) x).1 ≡ value (list vs) → placed p x ≡ value vs
    go (value ws) q = cc
    go (error (by_rule f)) q = absurd (let z : ◌≡◌ {A = ℕ} 0 1 = cc in omega arith)
    go (error (by_operand f)) q = absurd (let z : ◌≡◌ {A = ℕ} 0 1 = cc in omega arith)

into-whole : (p : ℕ) (made : Rule Values) (vs : Values) → placed p made.1 ≡ value vs → placed p (into list made).1 ≡ value (list vs)
unfolding into ◌>>=◌ after charged on_value pure placed
into-whole p made vs e = go made.1 e
  where
    go : (x : Result Raised Values) → placed p x ≡ value vs → placed p (on_value (λ a. pure (list a)) x).1 ≡ value (list vs)
    go (value ws) q = let k : ws ≡ vs = cc in ap (λ us. value (list us)) k
    go (error (by_rule f)) q = absurd (let z : ◌≡◌ {A = ℕ} 0 1 = cc in omega arith)
    go (error (by_operand f)) q = absurd (let z : ◌≡◌ {A = ℕ} 0 1 = cc in omega arith)

list-items : (p : ℕ) (es : Elements) → ItemsList (list_of p es) (λ t. begin p (list_rule (count_elements es) (run_elements es t nil)))
unfolding run begin charged here
list-items p es =
    record {
      charges = λ s. ap (step ∷◌) (sym (into-charges list (list_rule (count_elements es) (run_elements es s nil))));
      elements = λ s. into-list p (list_rule (count_elements es) (run_elements es s nil));
      whole = λ s. into-whole p (list_rule (count_elements es) (run_elements es s nil));
    }

-- what the comprehension sees of such a step
pub record Seen (a : ℕ) (next : Expr) (guard : Option Expr) (items : Expr) : Type 0 where
  pub m : Scope → Eval Values
  pub sees : of_name a (look next).appends ≡ Some (record { guard = guard_of guard; items = m })
  pub lists : ItemsList items m

of-its-name : {A : Type 0} (a : ℕ) (x : A) → of_name a (Some (a, x)) ≡ Some x
unfolding of_name
of-its-name a x = ap (λ b. cond b (Some x) None) (same_name a)

pub seen : {a : ℕ} {next : Expr} {guard : Option Expr} {items : Expr} → Appends a next guard items → Seen a next guard items
unfolding look binary_look arith_look a_sum a_conditional guarded_by
seen {a} (always {r = r} {es = es}) =
    let m : Scope → Eval Values = λ t. begin r (list_rule (count_elements es) (run_elements es t nil)) in
    record { m = m; sees = of-its-name {A = AppendStep} a (record { guard = None; items = m }); lists = list-items r es }
seen {a} (guarded {r = r} {guard = g} {es = es}) =
    let m : Scope → Eval Values = λ t. begin r (list_rule (count_elements es) (run_elements es t nil)) in
    record {
      m = m;
      sees = ap (λ o. of_name a (option_map (guarded_by (λ t. run g t) a) o)) (of-its-name a m) ∙
          of-its-name {A = AppendStep} a (record { guard = Some (λ t. run g t); items = m });
      lists = list-items r es;
    }

-- so its append path is open where the condition is a literal and the result the accumulator
pub path-open : {a : ℕ} {next : Expr} {guard : Option Expr} {items : Expr} (q n : ℕ) (x : Scalar) (k : Seen a next guard items) →
    append_step a (look (literal q x)) (look next) (look (name n a)) ≡ Some (record { guard = guard_of guard; items = k.m })
unfolding look append_step named
path-open {a} {next} q n x k = ap (λ b. cond b (of_name a (look next).appends) None) (same_name a) ∙ k.sees

-- ---- the rule of a comprehension record

module _ (c : Comprehension Value) (s : Scope) where
  pub init-begun : Opens (c.init s).0 (comprehension_rule c s).0
  unfolding comprehension_rule
  init-begun = first-operand (c.init s) _

  pub range-begun : GaveValue (c.init s) → Opens ((c.init s).0 ++ (c.range s).0) (comprehension_rule c s).0
  unfolding comprehension_rule
  range-begun g = then-operand (c.init s) _ g.0 g.1 (first-operand (c.range s) _)

  pub items-begun : (v w : Value) (xs : List Value) (b u : Trace) → (c.init s).1 ≡ value v → (c.range s).1 ≡ value w → c.items_in w ≡ Some xs →
      Opens (b ++ u) (loop_from c c.append v xs s).0 → Opens (((c.init s).0 ++ ((c.range s).0 ++ b)) ++ u) (comprehension_rule c s).0
  unfolding comprehension_rule or_fail pure
  items-begun v w xs b u e f g o =
      opens-grouped (c.init s).0 ((c.range s).0 ++ b) u
      (then-operand (c.init s) _ v e (opens-grouped (c.range s).0 b u
      (then-operand (c.range s) _ w f (subst (λ q. Opens (b ++ u)
      (◌>>=◌ (or_fail (UnexpectedType an_iterable) q) (λ ys. loop_from c c.append v ys s)).0) (sym g) (then-of (pure xs) _ xs refl o)))))

-- with no append step, or an init that is no empty list, the ordinary loop follows
pub takes-loop : (c : Comprehension Value) {path : Option AppendStep} {v : Value} → TakesLoop path v → (xs : List Value) (s : Scope) →
    loop_from c path v xs s ≡ loop c xs (store s c.accumulator v) None
unfolding loop_from choose
takes-loop c no_append xs s = refl
takes-loop c {v} (not_empty {path = p} e) xs s = ap (choose (append_loop c p xs s nil) (loop c xs (store s c.accumulator v) None)) e

-- .. and with an append step and an empty list, the append path
pub takes-append : {a i q : ℕ} {x : Scalar} {next items : Expr} {guard : Option Expr} (n : ℕ) (range init : Expr) (fold : Option LogicalFold)
    (path : Option AppendStep) → Appends a next guard items → {xs : List Value} {s t : Scope} {before : Trace} {f : Expr} →
    InAppend i (literal q x) guard items xs s before f t →
    Opens (before ++ (run f t).0) (loop_from (parts_of a i fold path range init (literal q x) next (name n a))
    (append_step a (look (literal q x)) (look next) (look (name n a))) (list nil) xs s).0
unfolding loop_from is_empty_list choose
takes-append {a} {i} {q} {x} {next} {items} {guard} n range init fold path p {xs} {s} {t} {before} {f} b =
    let k = seen p in
    subst (λ o. Opens (before ++ (run f t).0) (loop_from (parts_of a i fold path range init (literal q x) next (name n a)) o (list nil) xs s).0)
    (sym (path-open q n x k)) (append-begun a i fold path range init (literal q x) next (name n a) guard k.lists b nil)
