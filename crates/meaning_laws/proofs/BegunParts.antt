-- The elements of a List record and the keys and values of a Map record: their charges stand where each is begun.
-- Rests on Opening. Assumes nothing.
use mathlib.Core.Path.{◌≡◌, refl, sym, ap, subst}
use mathlib.Core.List.{[], ◌∷◌, ◌++◌, append-nil}
use mathlib.Core.Bool.{Bool, true, false}
use Rattle.meaning.specs.Errors.{UnsupportedKeyType}
use Rattle.meaning.specs.Value.{Value, list, map, Values, nil, Entries, empty}
use Rattle.meaning.specs.Expr.{Expr, Elements, Pairs, count_elements, count_pairs}
use Rattle.meaning.specs.Run.{Trace, Result, value, error, Raised, Eval, Rule, pure, charged, after, on_value, ◌>>=◌, or_fail, from_operand, operand}
use Rattle.meaning.specs.Containers.{Making, having, keeping, element_rule, pair_rule, entry_rule, insert, kept, list_rule, map_rule, into}
use Rattle.meaning.specs.Comprehension.{Scope}
use Rattle.meaning.specs.Meaning.{run, run_elements, run_pairs}
use Rattle.meaning_laws.specs.Begins.{GaveValue, list_cells, map_cells, BeginsElement, first_element, first_marked, after_element, after_marked, GaveKey, BeginsEntry, first_key, first_marked_key, its_value, its_marked_value, after_entry, after_marked_entry}
use Rattle.meaning_laws.proofs.Opening.{Opens, opens-more, opens-behind, opens-grouped, opens-within, first_of, then-of, first-operand, then-operand}

-- ---- elements

module _ (marked : Bool) (r : Eval Value) (rest : Values → Making Values) (vs : Values) where
  element-first : Opens r.0 (element_rule marked r rest vs).0
  unfolding element_rule having operand
  element-first = first_of (having vs (operand r)) _

  element-then : {u : Trace} → (g : GaveValue r) → ((ws : Values) → Opens u (rest ws).0) → Opens (r.0 ++ u) (element_rule marked r rest vs).0
  unfolding element_rule having operand keeping from_operand
  element-then g o = then-of (having vs (operand r)) _ g.0 (ap (λ x. keeping vs (from_operand x)) g.1) (o _)

pub element-begun : {s : Scope} {es : Elements} {before : Trace} {f : Expr} → BeginsElement s es before f → (vs : Values) →
    Opens (before ++ (run f s).0) (run_elements es s vs).0
unfolding run_elements
element-begun {s} (first_element {e} {es}) vs = element-first false (run e s) _ vs
element-begun {s} (first_marked {p} {e} {es}) vs = element-first true (run e s) _ vs
element-begun {s} (after_element {e} {f} {es} {before = b} g i) vs =
    opens-grouped (run e s).0 b (run f s).0 (element-then false (run e s) _ vs g (λ ws. element-begun i ws))
element-begun {s} (after_marked {p} {e} {f} {es} {before = b} g i) vs =
    opens-grouped (run e s).0 b (run f s).0 (element-then true (run e s) _ vs g (λ ws. element-begun i ws))

-- ---- entries

module _ (marked : Bool) (key element : Eval Value) (es : Entries) where
  key-first : Opens key.0 (entry_rule marked key element es).0
  unfolding entry_rule
  key-first = first-operand key _

  value-next : GaveKey key → Opens (key.0 ++ element.0) (entry_rule marked key element es).0
  unfolding entry_rule or_fail pure
  value-next g =
      then-operand key _ g.0 g.2 (subst (λ o. Opens element.0
      (◌>>=◌ (or_fail UnsupportedKeyType o) (λ k. ◌>>=◌ (operand element) (λ w. insert es k (kept marked w)))).0) (sym g.3)
      (then-of (pure g.1) _ g.1 refl (first-operand element _)))

module _ (marked : Bool) (key element : Eval Value) (rest : Entries → Making Entries) (es : Entries) where
  entry_first : {u : Trace} → Opens u (entry_rule marked key element es).0 → Opens u (pair_rule marked key element rest es).0
  unfolding pair_rule having
  entry_first o = opens-within o (first_of (having es (entry_rule marked key element es)) _)

  entry-then : {u : Trace} (more : Entries) → (entry_rule marked key element es).1 ≡ value more → Opens u (rest more).0 →
      Opens ((entry_rule marked key element es).0 ++ u) (pair_rule marked key element rest es).0
  unfolding pair_rule having keeping
  entry-then more e o = then-of (having es (entry_rule marked key element es)) _ more (ap (keeping es) e) o

pub entry-begun : {s : Scope} {ps : Pairs} {ready : Entries} {before : Trace} {f : Expr} → BeginsEntry s ps ready before f →
    Opens (before ++ (run f s).0) (run_pairs ps s ready).0
unfolding run_pairs
entry-begun {s} {ready} (first_key {k} {e}) = entry_first false (run k s) (run e s) _ ready (key-first false (run k s) (run e s) ready)
entry-begun {s} {ready} (first_marked_key {p} {k} {e}) = entry_first true (run k s) (run e s) _ ready (key-first true (run k s) (run e s) ready)
entry-begun {s} {ready} (its_value {k} {e} g) = entry_first false (run k s) (run e s) _ ready (value-next false (run k s) (run e s) ready g)
entry-begun {s} {ready} (its_marked_value {p} {k} {e} g) = entry_first true (run k s) (run e s) _ ready (value-next true (run k s) (run e s) ready g)
entry-begun {s} {ready} (after_entry {k} {e} {f} {more = m} {before = b} g i) =
    opens-grouped (entry_rule false (run k s) (run e s) ready).0 b (run f s).0 (entry-then false (run k s) (run e s) _ ready m g (entry-begun i))
entry-begun {s} {ready} (after_marked_entry {p} {k} {e} {f} {more = m} {before = b} g i) =
    opens-grouped (entry_rule true (run k s) (run e s) ready).0 b (run f s).0 (entry-then true (run k s) (run e s) _ ready m g (entry-begun i))

-- ---- the records

-- what a container is made into charges nothing more
pub into-charges : {A : Type 0} (container : A → Value) (parts : Rule A) → (into container parts).0 ≡ parts.0
unfolding into ◌>>=◌ after charged on_value pure
into-charges container parts = go parts.1
  where
    go : (x : Result Raised _) → parts.0 ++ (on_value (λ a. pure (container a)) x).0 ≡ parts.0
    go (value a) = append-nil parts.0
    go (error e) = append-nil parts.0

pub list-begun : {s : Scope} {es : Elements} {before : Trace} {f : Expr} → BeginsElement s es before f →
    Opens (list_cells es s ∷ (before ++ (run f s).0)) (into list (list_rule (count_elements es) (run_elements es s nil))).0
unfolding list_rule list_cells after charged
list-begun {s} {es} {before} {f} b =
    subst (Opens (list_cells es s ∷ (before ++ (run f s).0))) (sym (into-charges list (list_rule (count_elements es) (run_elements es s nil))))
    (opens-behind (list_cells es s ∷ []) (opens-within (element-begun b nil) (opens-more (run_elements es s nil).0 _)))

pub map-begun : {s : Scope} {ps : Pairs} {before : Trace} {f : Expr} → BeginsEntry s ps empty before f →
    Opens (map_cells ps s ∷ (before ++ (run f s).0)) (into map (map_rule (count_pairs ps) (run_pairs ps s empty))).0
unfolding map_rule map_cells after charged
map-begun {s} {ps} {before} {f} b =
    subst (Opens (map_cells ps s ∷ (before ++ (run f s).0))) (sym (into-charges map (map_rule (count_pairs ps) (run_pairs ps s empty))))
    (opens-behind (map_cells ps s ∷ []) (opens-within (entry-begun b) (opens-more (run_pairs ps s empty).0 _)))
