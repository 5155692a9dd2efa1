-- The steps of a List record, all of its elements', and of a Map record: its keys', its values', and those of the keys it compares.
-- Rests on CoveredSteps and OwnSteps. Assumes nothing.
use Prim.Native.Nat.{ℕ}
use mathlib.Core.Path.{◌≡◌, sym, subst}
use mathlib.Core.List.{[], ◌∷◌, ◌++◌, append_assoc}
use mathlib.Core.Bool.{Bool, true, false}
use native.Mathlib.Omega.{arith}
use lib.ListN.{replicate}
use Rattle.meaning.specs.Errors.{UnsupportedKeyType}
use Rattle.meaning.specs.Value.{Value, list, map, Values, nil, Entries, empty, key_of}
use Rattle.meaning.specs.Expr.{Expr, Elements, no_elements, element, marked_element, Pairs, no_pairs, pair, marked_pair, count_elements, count_pairs}
use Rattle.meaning.specs.Run.{step, Trace, Result, value, error, Raised, Eval, pure, charged, from_operand, operand}
use Rattle.meaning.specs.Containers.{Making, keeping, having, kept, append, element_rule, entry_rule, pair_rule, finished, list_rule, map_rule, into}
use Rattle.meaning.specs.Comprehension.{Scope}
use Rattle.meaning.specs.Meaning.{run, run_elements, run_pairs}
use Rattle.meaning_laws.specs.Begins.{GaveValue, list_cells, map_cells, BeginsElement, first_element, first_marked, after_element, after_marked, GaveKey, BeginsEntry, first_key, first_marked_key, its_value, its_marked_value, after_entry, after_marked_entry}
use Rattle.meaning_laws.specs.Steps.{StepIn, ComparesKey, its_key, its_marked_key, later_key, later_marked_key, StepOf}
use Rattle.meaning_laws.proofs.BegunParts.{into-charges}
use Rattle.meaning_laws.proofs.NotBegun.{operand-value}
use Rattle.meaning_laws.proofs.CoveredSteps.{Covered, Silent, nothing, silent-any, covered-map, covered-given, covered-after, covered-bind, covered-operand, covered-or_fail}
use Rattle.meaning_laws.proofs.OwnSteps.{insert-pairs}
use Rattle.meaning_laws.proofs.StepOrigins.{Accounted}
use Rattle.meaning_laws.proofs.StepOperands.{pairs-any}

-- ---- elements

-- the steps of all elements are accounted for
abbrev pub ElementsAccounted : Elements → Type 0
ElementsAccounted no_elements = Unit {0}
ElementsAccounted (element e es) = Accounted e × ElementsAccounted es
ElementsAccounted (marked_element p e es) = Accounted e × ElementsAccounted es

kept-value : {A B : Type 0} (ready : A) (x : Result Raised B) (b : B) → keeping ready x ≡ value b → x ≡ value b
unfolding keeping
kept-value ready (value c) b e = cc
kept-value ready (error f) b e = absurd (let z : ◌≡◌ {A = ℕ} 0 1 = cc in omega arith)

element-accounted : {P : Trace → Type 0} (marked : Bool) (r : Eval Value) (rest : Values → Making Values) (vs : Values) → Covered P r.0 →
    (GaveValue r → (ws : Values) → Covered (λ f. P (r.0 ++ f)) (rest ws).0) → Covered P (element_rule marked r rest vs).0
unfolding element_rule having operand
element-accounted marked r rest vs c d =
    covered-bind (having vs (operand r)) _ c (λ v e. d (v, operand-value r.1 v (kept-value vs (from_operand r.1) v e)) (append vs (kept marked v)))

-- a step of each element that is begun is a step of the whole
pub elements-accounted : {P : Trace → Type 0} (s : Scope) (es : Elements) (vs : Values) → ElementsAccounted es →
    ((before : Trace) (f : Expr) → BeginsElement s es before f → (x : Trace) → StepOf f s x → P (before ++ x)) → Covered P (run_elements es s vs).0
unfolding run_elements pure
elements-accounted s no_elements vs a h = nothing
elements-accounted {P} s (element e es) vs a h =
    element-accounted false (run e s) _ vs (covered-map (run e s).0 (h [] e first_element) (a.0 s))
    (λ g ws. elements-accounted {P = λ x. P ((run e s).0 ++ x)} s es ws a.1
    (λ b f i x o. subst P (append_assoc (run e s).0 b x) (h ((run e s).0 ++ b) f (after_element g i) x o)))
elements-accounted {P} s (marked_element p e es) vs a h =
    element-accounted true (run e s) _ vs (covered-map (run e s).0 (h [] e first_marked) (a.0 s))
    (λ g ws. elements-accounted {P = λ x. P ((run e s).0 ++ x)} s es ws a.1
    (λ b f i x o. subst P (append_assoc (run e s).0 b x) (h ((run e s).0 ++ b) f (after_marked g i) x o)))

-- ---- entries

-- the steps of all keys and values are accounted for
abbrev pub PairsAccounted : Pairs → Type 0
PairsAccounted no_pairs = Unit {0}
PairsAccounted (pair k e ps) = Accounted k × Accounted e × PairsAccounted ps
PairsAccounted (marked_pair k p e ps) = Accounted k × Accounted e × PairsAccounted ps

module _ {P : Trace → Type 0} (marked : Bool) (key element : Eval Value) (es : Entries) where
  entry-accounted : Covered P key.0 → (GaveKey key → Covered (λ f. P (key.0 ++ f)) element.0) →
      (GaveKey key → GaveValue element → (n : ℕ) → StepIn ((key.0 ++ element.0) ++ replicate n step) (entry_rule marked key element es).0 →
      P ((key.0 ++ element.0) ++ replicate n step)) → Covered P (entry_rule marked key element es).0
  unfolding entry_rule
  entry-accounted c d h =
      covered-given (covered-operand key _ (covered-map key.0 (λ f x i. x) c)
      (λ v e. covered-or_fail UnsupportedKeyType (key_of v) _ (λ k q. covered-operand element _
      (covered-map element.0 (λ f x i. x) (d (v, k, e, q))) (λ w f. pairs-any _ (insert-pairs es k (kept marked w))
      (λ n. subst (λ t. StepIn t (entry_rule marked key element es).0 → P t) (append_assoc key.0 element.0 (replicate n step))
      (h (v, k, e, q) (w, f) n))))))

  pair-accounted : (rest : Entries → Making Entries) → Covered P (entry_rule marked key element es).0 →
      ((more : Entries) → (entry_rule marked key element es).1 ≡ value more →
      Covered (λ f. P ((entry_rule marked key element es).0 ++ f)) (rest more).0) → Covered P (pair_rule marked key element rest es).0
  unfolding pair_rule having
  pair-accounted rest c d =
      covered-bind (having es (entry_rule marked key element es)) _ c (λ more e. d more (kept-value es (entry_rule marked key element es).1 more e))

-- a step of each key and value that is begun, and of each key that is compared, is a step of the whole
pub pairs-accounted : {P : Trace → Type 0} (s : Scope) (ps : Pairs) (ready : Entries) → PairsAccounted ps →
    ((before : Trace) (f : Expr) → BeginsEntry s ps ready before f → (x : Trace) → StepOf f s x → P (before ++ x)) →
    ((before : Trace) → ComparesKey s ps ready before → P before) → Covered P (run_pairs ps s ready).0
unfolding run_pairs pure
pairs-accounted s no_pairs ready a h q = nothing
pairs-accounted {P} s (pair k e ps) ready a h q =
    let made = (entry_rule false (run k s) (run e s) ready).0 in
    pair-accounted false (run k s) (run e s) ready _ (entry-accounted false (run k s) (run e s) ready
    (covered-map (run k s).0 (h [] k first_key) (a.0 s)) (λ g. covered-map (run e s).0 (h (run k s).0 e (its_value g)) (a.1 s))
    (λ g w n i. q (((run k s).0 ++ (run e s).0) ++ replicate n step) (its_key g w n i)))
    (λ more g. pairs-accounted {P = λ x. P (made ++ x)} s ps more a.2
    (λ b f i x o. subst P (append_assoc made b x) (h (made ++ b) f (after_entry g i) x o))
    (λ b i. q (made ++ b) (later_key g i)))
pairs-accounted {P} s (marked_pair k p e ps) ready a h q =
    let made = (entry_rule true (run k s) (run e s) ready).0 in
    pair-accounted true (run k s) (run e s) ready _ (entry-accounted true (run k s) (run e s) ready
    (covered-map (run k s).0 (h [] k first_marked_key) (a.0 s)) (λ g. covered-map (run e s).0 (h (run k s).0 e (its_marked_value g)) (a.1 s))
    (λ g w n i. q (((run k s).0 ++ (run e s).0) ++ replicate n step) (its_marked_key g w n i)))
    (λ more g. pairs-accounted {P = λ x. P (made ++ x)} s ps more a.2
    (λ b f i x o. subst P (append_assoc made b x) (h (made ++ b) f (after_marked_entry g i) x o))
    (λ b i. q (made ++ b) (later_marked_key g i)))

-- ---- the records

finished-silent : {A : Type 0} (container : A → Value) (x : Result (A × Raised) A) → Silent (finished container x).0
unfolding finished charged pure
finished-silent container (value a) = record { each = tt }
finished-silent container (error e) = nothing

pub list-accounted : {P : Trace → Type 0} (s : Scope) (es : Elements) → Covered (λ f. P (list_cells es s ∷ f)) (run_elements es s nil).0 →
    Covered P (into list (list_rule (count_elements es) (run_elements es s nil))).0
unfolding list_rule list_cells charged
list-accounted {P} s es c =
    subst (Covered P) (sym (into-charges list (list_rule (count_elements es) (run_elements es s nil))))
    (record { each = (covered-after (run_elements es s nil) (finished list) c (silent-any _ (finished-silent list (run_elements es s nil).1))).each })

pub map-accounted : {P : Trace → Type 0} (s : Scope) (ps : Pairs) → Covered (λ f. P (map_cells ps s ∷ f)) (run_pairs ps s empty).0 →
    Covered P (into map (map_rule (count_pairs ps) (run_pairs ps s empty))).0
unfolding map_rule map_cells charged
map-accounted {P} s ps c =
    subst (Covered P) (sym (into-charges map (map_rule (count_pairs ps) (run_pairs ps s empty))))
    (record { each = (covered-after (run_pairs ps s empty) (finished map) c (silent-any _ (finished-silent map (run_pairs ps s empty).1))).each })
