-- Where a part is begun, or compares a pair, a step does stand: so the relation says just where the steps of a run are.
-- Rests on EveryStep and Begun. Assumes nothing.
use Prim.Native.Nat.{ℕ}
use mathlib.Core.Path.{◌≡◌, refl, sym, ◌∙◌, ap, subst}
use mathlib.Core.List.{[], ◌∷◌, ◌++◌, append_assoc, append-nil}
use mathlib.Core.Bool.{Bool, true, false}
use Rattle.meaning.specs.Value.{Value, map, Entries, empty}
use Rattle.meaning.specs.Expr.{Expr, literal, name, unary, binary, conditional, select, list_of, map_of, comprehension, call, none_call, or_value, Pairs, count_pairs}
use Rattle.meaning.specs.Run.{step, Trace, value, Eval, Rule, charged, after, here, begin}
use Rattle.meaning.specs.Containers.{Making, keeping, having, entry_rule, pair_rule, map_rule, into}
use Rattle.meaning.specs.Comprehension.{Scope}
use Rattle.meaning.specs.Meaning.{run, run_pairs}
use Rattle.meaning_laws.specs.Begins.{map_cells}
use Rattle.meaning_laws.specs.Steps.{StepIn, ComparesKey, its_key, its_marked_key, later_key, later_marked_key, Compares, of_two, of_field, of_keys, StepOf, begins, compares}
use Rattle.meaning_laws.proofs.Opening.{Opens, opens-more, first_of, then-of}
use Rattle.meaning_laws.proofs.BegunParts.{into-charges}
use Rattle.meaning_laws.proofs.Begun.{reached}
use Rattle.meaning_laws.proofs.EveryStep.{every-step}

-- ---- steps of a part are steps of the whole

step-opened : {front u t : Trace} → StepIn front u → Opens u t → StepIn front t
step-opened {front} i o =
    record { back = i.back ++ o.rest; whole = o.whole ∙ ap (◌++ o.rest) i.whole ∙ append_assoc front (step ∷ i.back) o.rest }

step-behind : (a : Trace) {front t : Trace} → StepIn front t → StepIn (a ++ front) (a ++ t)
step-behind a {front} i = record { back = i.back; whole = ap (a ++◌) i.whole ∙ sym (append_assoc a front (step ∷ i.back)) }

-- every record begins with a step
at_once : (p : ℕ) (rule : Rule Value) {r : Eval Value} → r ≡ begin p rule → StepIn [] r.0
unfolding begin charged here
at_once p rule e = record { back = rule.0; whole = ap (λ (q : Eval Value). q.0) e }

first_step : (e : Expr) (s : Scope) → StepIn [] (run e s).0
unfolding run
first_step (literal p x) s = at_once p _ refl
first_step (name p n) s = at_once p _ refl
first_step (unary p o e) s = at_once p _ refl
first_step (binary p o e f) s = at_once p _ refl
first_step (conditional p c e f) s = at_once p _ refl
first_step (select p test field e) s = at_once p _ refl
first_step (list_of p es) s = at_once p _ refl
first_step (map_of p ps) s = at_once p _ refl
first_step (comprehension p a i range init condition next result) s = at_once p _ refl
first_step (call p f e) s = at_once p _ refl
first_step (none_call p) s = at_once p _ refl
first_step (or_value p target argument) s = at_once p _ refl

-- ---- keys

module _ (marked : Bool) (key element : Eval Value) (rest : Entries → Making Entries) (es : Entries) where
  entry-opens : Opens (entry_rule marked key element es).0 (pair_rule marked key element rest es).0
  unfolding pair_rule having
  entry-opens = first_of (having es (entry_rule marked key element es)) _

  entry-then : (more : Entries) → (entry_rule marked key element es).1 ≡ value more →
      Opens ((entry_rule marked key element es).0 ++ (rest more).0) (pair_rule marked key element rest es).0
  unfolding pair_rule having keeping
  entry-then more e =
      then-of (having es (entry_rule marked key element es)) _ more (ap (keeping es) e) (record { rest = []; whole = sym (append-nil (rest more).0) })

key_step : {s : Scope} {ps : Pairs} {ready : Entries} {before : Trace} → ComparesKey s ps ready before → StepIn before (run_pairs ps s ready).0
unfolding run_pairs
key_step {s} {ready} (its_key {k} {e} g w n i) = step-opened i (entry-opens false (run k s) (run e s) _ ready)
key_step {s} {ready} (its_marked_key {p} {k} {e} g w n i) = step-opened i (entry-opens true (run k s) (run e s) _ ready)
key_step {s} {ready} (later_key {k} {e} {more = m} g q) =
    step-opened (step-behind (entry_rule false (run k s) (run e s) ready).0 (key_step q)) (entry-then false (run k s) (run e s) _ ready m g)
key_step {s} {ready} (later_marked_key {p} {k} {e} {more = m} g q) =
    step-opened (step-behind (entry_rule true (run k s) (run e s) ready).0 (key_step q)) (entry-then true (run k s) (run e s) _ ready m g)

map-step : {s : Scope} {ps : Pairs} {before : Trace} → ComparesKey s ps empty before →
    StepIn (map_cells ps s ∷ before) (into map (map_rule (count_pairs ps) (run_pairs ps s empty))).0
unfolding map_rule map_cells after charged
map-step {s} {ps} {before} q =
    subst (StepIn (map_cells ps s ∷ before)) (sym (into-charges map (map_rule (count_pairs ps) (run_pairs ps s empty))))
    (step-behind (map_cells ps s ∷ []) (step-opened (key_step q) (opens-more (run_pairs ps s empty).0 _)))

compared-step : {e : Expr} {s : Scope} {before : Trace} → Compares e s before → StepIn before (run e s).0
unfolding run begin charged here
compared-step (of_two q v w n i) = i
compared-step (of_field v n i) = i
compared-step (of_keys q) = step-behind (step ∷ []) (map-step q)

-- ---- the other direction

-- Where the relation begins a part, and where a part compares a pair, a step stands in the run.
pub a-step-there : {e : Expr} {s : Scope} {front : Trace} → StepOf e s front → StepIn front (run e s).0
a-step-there {e} {s} (begins {before} {f} {t} r) =
    step-opened (subst (λ w. StepIn w (before ++ (run f t).0)) (append-nil before) (step-behind before (first_step f t))) (reached r)
a-step-there {e} {s} (compares {before} {more} {f} {t} r q) = step-opened (step-behind before (compared-step q)) (reached r)

-- Behind some charges a step stands in a run exactly if after them the relation begins a part, or a part compares a pair.
pub steps-exactly : (e : Expr) (s : Scope) (front : Trace) →
    (StepIn front (run e s).0 → StepOf e s front) × (StepOf e s front → StepIn front (run e s).0)
steps-exactly e s front = (every-step e s front, a-step-there)
