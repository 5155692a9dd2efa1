-- What a rule does not name cannot change its answer or its counts: scopes that agree on the names of an expression give it one run.
-- First the proof, a line for each kind of record; then the theorems. Rests on the congruence of the rules. Assumes nothing.
use Prim.Native.Nat.{ℕ}
use mathlib.Core.Path.{◌≡◌, refl, ap, ap₂}
use Rattle.std.specs.Prelude.{Option, None, Some}
use mathlib.Core.Bool.{true, false}
use Rattle.meaning.specs.Limits.{Counts}
use Rattle.meaning.specs.Errors.{UndeclaredReference}
use Rattle.meaning.specs.Value.{Value, list, map, Values, nil, Entries, empty}
use Rattle.meaning.specs.Expr.{Expr, literal, name, unary, binary, conditional, select, list_of, map_of, comprehension, call, none_call, or_value, Elements, no_elements, element, marked_element, Pairs, no_pairs, pair, marked_pair, count_elements, count_pairs}
use Rattle.meaning.specs.Run.{Eval, pure, charged, fail, or_fail, placed, here, begin}
use Rattle.meaning.specs.Selection.{select_field}
use Rattle.meaning.specs.Calls.{call_rule, or_value_call}
use Rattle.meaning.specs.Containers.{list_rule, map_rule, into}
use Rattle.meaning.specs.Comprehension.{Scope}
use Rattle.meaning.specs.Meaning.{of_one, unary_rule, binary_rule, run, run_elements, run_pairs, look}
use Rattle.meaning.specs.Answer.{answer_run}
use Rattle.meaning_laws.specs.Names.{Names, NamesInElements, NamesInPairs, Among}
use Rattle.meaning_laws.proofs.Names.{first, rest}
use Rattle.meaning_laws.proofs.Congruence.{conditional-same, element-same, pair_same, Both, store-agree, Alike, comprehension-alike}
use Rattle.meaning_laws.proofs.Seen.{LookAlike, nothing-alike, binary_look-alike, a_conditional-alike, append_step-alike}

module _ (these : ℕ → Type 0) where
  mutual
    unfolding run run_elements run_pairs look Names NamesInElements NamesInPairs

    run-alike : (e : Expr) → Among (Names e) these → Alike these (run e)
    run-alike (literal p x) h g = refl
    run-alike (name p n) h g = ap (λ o. begin p (or_fail UndeclaredReference o)) (g.agree n (h n refl))
    run-alike (unary p o e) h g = ap (λ r. begin p (unary_rule o r)) (run-alike e h g)
    run-alike (binary p o e f) h g = ap₂ (λ r q. begin p (binary_rule o r q)) (run-alike e (first h) g) (run-alike f (rest h) g)
    run-alike (conditional p c e f) h g =
        ap (begin p) (conditional-same (run-alike c (first h) g) (run-alike e (first (rest h)) g) (run-alike f (rest (rest h)) g))
    run-alike (select p test field e) h g = ap (λ r. begin p (of_one r (select_field test field))) (run-alike e h g)
    run-alike (list_of p es) h g = ap (λ m. begin p (into list (list_rule (count_elements es) m))) (elements-alike es h g nil)
    run-alike (map_of p ps) h g = ap (λ m. begin p (into map (map_rule (count_pairs ps) m))) (pairs-alike ps h g empty)
    run-alike (comprehension p a i range init condition step result) h g =
        ap (begin p)
        (comprehension-alike these _
        (record {
          entered = store-agree these i;
          append = append_step-alike these a (look condition) (look step) (look result) (look-alike step (first (rest (rest (rest h)))));
          range = run-alike range (first h);
          init = run-alike init (first (rest h));
          condition = run-alike condition (first (rest (rest h)));
          step = run-alike step (first (rest (rest (rest h))));
          result = run-alike result (rest (rest (rest (rest h))));
        })
        g)
    run-alike (call p f e) h g = ap (λ r. begin p (of_one r (call_rule f))) (run-alike e h g)
    run-alike (none_call p) h g = refl
    run-alike (or_value p e f) h g = ap₂ (λ r q. begin p (or_value_call r q)) (run-alike e (first h) g) (run-alike f (rest h) g)

    elements-alike : (es : Elements) → Among (NamesInElements es) these
        → (g : Both these) (vs : Values) → run_elements es g.one vs ≡ run_elements es g.other vs
    elements-alike no_elements h g = λ vs. refl
    elements-alike (element e es) h g = element-same false (run-alike e (first h) g) (elements-alike es (rest h) g)
    elements-alike (marked_element p e es) h g = element-same true (run-alike e (first h) g) (elements-alike es (rest h) g)

    pairs-alike : (ps : Pairs) → Among (NamesInPairs ps) these
        → (g : Both these) (es : Entries) → run_pairs ps g.one es ≡ run_pairs ps g.other es
    pairs-alike no_pairs h g = λ es. refl
    pairs-alike (pair k e ps) h g =
        pair_same false (run-alike k (first h) g) (run-alike e (first (rest h)) g) (pairs-alike ps (rest (rest h)) g)
    pairs-alike (marked_pair k p e ps) h g =
        pair_same true (run-alike k (first h) g) (run-alike e (first (rest h)) g) (pairs-alike ps (rest (rest h)) g)

    look-alike : (e : Expr) → Among (Names e) these → LookAlike these (look e)
    look-alike (literal p x) h = record { lists = tt; adds = tt; appends = tt }
    look-alike (name p n) h = record { lists = tt; adds = tt; appends = tt }
    look-alike (unary p o e) h = nothing-alike these
    look-alike (binary p o e f) h = binary_look-alike these o (look e) (look f) (look-alike f (rest h))
    look-alike (conditional p c e f) h =
        a_conditional-alike these (λ t. run c t) (λ g. run-alike c (first h) g) (look e).adds (look-alike e (first (rest h))).adds (look f).is_name
    look-alike (select p test field e) h = nothing-alike these
    look-alike (list_of p es) h = record { lists = λ g. ap (λ m. begin p (list_rule (count_elements es) m)) (elements-alike es h g nil); adds = tt; appends = tt }
    look-alike (map_of p es) h = nothing-alike these
    look-alike (comprehension p a i range init condition step result) h = nothing-alike these
    look-alike (call p f e) h = nothing-alike these
    look-alike (none_call p) h = nothing-alike these
    look-alike (or_value p target argument) h = nothing-alike these

-- ---- one run

-- What a rule does not name cannot change what it does: two scopes that hold the same value, or both none, under every name that stands in
-- a name record of the rule give it the same run, with the same charges in the same order and the same value, or error at its place.
pub same-run : (e : Expr) (s t : Scope) → ((n : ℕ) → Names e n → s n ≡ t n) → run e s ≡ run e t
same-run e s t g = run-alike (Names e) e (λ n i. i) (record { one = s; other = t; agree = g })

-- So its answer, all its counts and what the evaluation rooms hold afterwards are the same, under whatever limits.
pub same_answer : (limits : Counts) (e : Expr) (s t : Scope) → ((n : ℕ) → Names e n → s n ≡ t n)
    → answer_run limits (run e s) ≡ answer_run limits (run e t)
same_answer limits e s t g = ap (answer_run limits) (same-run e s t g)

-- What a rule does name can change it: one that is a single name record runs alike only in scopes that agree on its name.
pub name-seen : (p n : ℕ) (s t : Scope) → run (name p n) s ≡ run (name p n) t → s n ≡ t n
unfolding run begin here charged or_fail fail pure placed
name-seen p n s t same = seen (s n) (t n) (ap (λ (r : Eval Value). r.1) same)
  where
    seen : (x y : Option Value) → (begin p (or_fail UndeclaredReference x)).1 ≡ (begin p (or_fail UndeclaredReference y)).1 → x ≡ y
    seen None None h = refl
    seen None (Some w) h = cc
    seen (Some v) None h = cc
    seen (Some v) (Some w) h = cc
