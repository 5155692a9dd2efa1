-- Where the steps of a run come from: a part that is begun, or a pair that a record compares when its operands are there.
-- Rests on the relation `Begins`. That every step is one of these, and each of these a step, is proved in proofs/StepsExactly.
use Rattle.std.specs.Prelude.{ℕ, ◌≡◌, List, ◌∷◌, ◌++◌, Bool, true, false, replicate}
use Rattle.meaning.specs.Value.{Entries, empty}
use Rattle.meaning.specs.Expr.{Binary, logic, equals, not_equals, index, opt_index, opt_select, arith, compare, is_in, Expr, binary, select, map_of, Pairs, pair, marked_pair}
use Rattle.meaning.specs.Run.{step, Trace, value}
use Rattle.meaning.specs.Containers.{entry_rule}
use Rattle.meaning.specs.Comprehension.{Scope}
use Rattle.meaning.specs.Meaning.{run}
use Rattle.meaning_laws.specs.Begins.{GaveValue, GaveKey, map_cells, Reaches}

-- a step stands in a trace behind these charges
pub record StepIn (front t : Trace) : Type 0 where
  pub back : Trace
  pub whole : t ≡ front ++ step ∷ back

-- ---- pairs

-- the operators that compare or look up
abbrev pub Comparing : Binary → Type 0
Comparing (logic fold) = ⊥
Comparing equals = Unit {0}
Comparing not_equals = Unit {0}
Comparing index = Unit {0}
Comparing opt_index = Unit {0}
Comparing opt_select = Unit {0}
Comparing (arith o) = ⊥
Comparing (compare c) = ⊥
Comparing is_in = Unit {0}

module _ (s : Scope) where
  -- an entry's key is compared with the keys before it, after its value; this is the step that follows n compared pairs
  pub data ComparesKey : Pairs → Entries → Trace → Type 0 where
    its_key : {k e : Expr} {ps : Pairs} {ready : Entries} → GaveKey (run k s) → GaveValue (run e s) → (n : ℕ) →
        StepIn (((run k s).0 ++ (run e s).0) ++ replicate n step) (entry_rule false (run k s) (run e s) ready).0 →
        ComparesKey (pair k e ps) ready (((run k s).0 ++ (run e s).0) ++ replicate n step)
    its_marked_key : {p : ℕ} {k e : Expr} {ps : Pairs} {ready : Entries} → GaveKey (run k s) → GaveValue (run e s) → (n : ℕ) →
        StepIn (((run k s).0 ++ (run e s).0) ++ replicate n step) (entry_rule true (run k s) (run e s) ready).0 →
        ComparesKey (marked_pair k p e ps) ready (((run k s).0 ++ (run e s).0) ++ replicate n step)
    later_key : {k e : Expr} {ps : Pairs} {ready more : Entries} {before : Trace} →
        (entry_rule false (run k s) (run e s) ready).1 ≡ value more →
        ComparesKey ps more before →
        ComparesKey (pair k e ps) ready ((entry_rule false (run k s) (run e s) ready).0 ++ before)
    later_marked_key : {p : ℕ} {k e : Expr} {ps : Pairs} {ready more : Entries} {before : Trace} →
        (entry_rule true (run k s) (run e s) ready).1 ≡ value more →
        ComparesKey ps more before →
        ComparesKey (marked_pair k p e ps) ready ((entry_rule true (run k s) (run e s) ready).0 ++ before)

-- `Compares e s before`: evaluating e in the scope s makes the charges `before`, which are all its operands' charges and the steps of n pairs,
-- and then a step of its own for one more pair
pub data Compares : Expr → Scope → Trace → Type 0 where
  of_two : {p : ℕ} {o : Binary} {e f : Expr} {s : Scope} → Comparing o → GaveValue (run e s) → GaveValue (run f s) → (n : ℕ) →
      StepIn (step ∷ (((run e s).0 ++ (run f s).0) ++ replicate n step)) (run (binary p o e f) s).0 →
      Compares (binary p o e f) s (step ∷ (((run e s).0 ++ (run f s).0) ++ replicate n step))
  of_field : {p : ℕ} {test : Bool} {field : List ℕ} {e : Expr} {s : Scope} → GaveValue (run e s) → (n : ℕ) →
      StepIn (step ∷ ((run e s).0 ++ replicate n step)) (run (select p test field e) s).0 →
      Compares (select p test field e) s (step ∷ ((run e s).0 ++ replicate n step))
  of_keys : {p : ℕ} {ps : Pairs} {s : Scope} {before : Trace} → ComparesKey s ps empty before → Compares (map_of p ps) s (step ∷ map_cells ps s ∷ before)

-- ---- every step

-- `StepOf e s before`: in evaluating e in s, the step behind the charges `before` begins a part, or is for a pair that a part compares
pub data StepOf (e : Expr) (s : Scope) : Trace → Type 0 where
  begins : {before : Trace} {f : Expr} {t : Scope} → Reaches e s before f t → StepOf e s before
  compares : {before more : Trace} {f : Expr} {t : Scope} → Reaches e s before f t → Compares f t more →
      StepOf e s (before ++ more)
