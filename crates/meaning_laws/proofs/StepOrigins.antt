-- How the steps of a record are accounted for: its own first one, and those of its operands. Where a step comes from is said in specs/Steps.
-- Rests on the relation `Begins` and on CoveredSteps. Assumes nothing.
use Prim.Native.Nat.{ℕ}
use mathlib.Core.Path.{◌≡◌, sym, subst}
use mathlib.Core.List.{◌∷◌, ◌++◌, append_assoc}
use Rattle.meaning.specs.Value.{Value}
use Rattle.meaning.specs.Expr.{Expr}
use Rattle.meaning.specs.Run.{step, Trace, Rule, charged, here, begin}
use Rattle.meaning.specs.Comprehension.{Scope}
use Rattle.meaning.specs.Meaning.{run}
use Rattle.meaning_laws.specs.Begins.{Begins, itself, inside}
use Rattle.meaning_laws.specs.Steps.{StepIn, StepOf, begins, compares}
use Rattle.meaning_laws.proofs.CoveredSteps.{Covered, covered-map, covered-given}

-- the steps of a record are accounted for, in every scope
abbrev pub Accounted : Expr → Type 0
Accounted e = (s : Scope) → Covered (λ f. StepOf e s f) (run e s).0

-- a step of an operand is one of the record's
pub of-operand : {e f : Expr} {s t : Scope} {before : Trace} → Begins e s before f t → (x : Trace) → StepOf f t x → StepOf e s (before ++ x)
of-operand {e} {f} {s} {t} {before} b x (begins r) = begins (inside b r)
of-operand {e} {f} {s} {t} {before} b _ (compares {before = c} {more = m} r q) =
    subst (StepOf e s) (append_assoc before c m) (compares (inside b r) q)

-- ---- a record: its own step, then its rule

-- a step behind the record's own and these charges; needed only where one stands
abbrev pub Behind : Expr → Scope → Trace → Type 0
Behind e s f = StepIn (step ∷ f) (run e s).0 → StepOf e s (step ∷ f)

pub begun-accounted : (e : Expr) (s : Scope) (p : ℕ) (rule : Rule Value) → run e s ≡ begin p rule → Covered (λ f. Behind e s f) rule.0 →
    Covered (λ f. StepOf e s f) (run e s).0
unfolding begin charged here
begun-accounted e s p rule same c =
    covered-given (subst (λ r. Covered (λ f. StepIn f (run e s).0 → StepOf e s f) r.0) (sym same)
    (record { each = (λ i. begins itself, c.each) }))

-- an operand begun behind the record's step and these charges
pub operand-steps : {e f : Expr} {s t : Scope} (before : Trace) → Begins e s (step ∷ before) f t → Accounted f →
    Covered (λ x. Behind e s (before ++ x)) (run f t).0
operand-steps {e} {f} {s} {t} before b a = covered-map (run f t).0 (λ x o i. of-operand b x o) (a t)
