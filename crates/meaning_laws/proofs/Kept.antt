-- What evaluation keeps, for runs one after the other: where every charge is within the limits, what is charged holds fine values
-- and what comes of it is fine. A law for each way in which runs are put together. Rests on Fine. Assumes nothing.
use Prim.Native.Nat.{ℕ, zero, suc, ◌≤◌}
use mathlib.Core.List.{[], ◌∷◌, ◌++◌}
use Rattle.std.specs.Prelude.{Option, None, Some}
use mathlib.Core.Bool.{Bool, true, false}
use lib.ListN.{length, replicate}
use Rattle.meaning.specs.Limits.{deepest_value, most_cells, most_bytes}
use Rattle.meaning.specs.Errors.{Error, UnexpectedType, a_bool, ErrorAt}
use Rattle.meaning.specs.Value.{bool, Value, scalar, Values, nesting, count, bool_of}
use Rattle.meaning.specs.Run.{Charge, step, cells, text, nest, Trace, Result, value, error, Run, Eval, Raised, by_rule, by_operand, Rule, pure, charged, after, on_value, ◌>>=◌, fail, or_fail, from_operand, operand, placed, here, begin, truth, try_bool, choose, built}
use Rattle.meaning.specs.Comparison.{Tally, compared}
use Rattle.meaning.specs.WellFormed.{AllBytes}
use Rattle.meaning_laws.specs.Each.{Each}
use Rattle.meaning_laws.proofs.Fine.{Fine, FineElements, Perhaps, fine-bool}

-- ---- charges

-- a charge within the limits
abbrev pub Modest : Charge → Type 0
Modest step = Unit {0}
Modest (cells vs) = count vs ≤ most_cells
Modest (text s) = length s ≤ most_bytes
Modest (nest d) = d ≤ deepest_value

-- what it holds is fine
abbrev pub Holding : Charge → Type 0
Holding step = Unit {0}
Holding (cells vs) = FineElements vs
Holding (text s) = AllBytes s
Holding (nest d) = Unit {0}

pub modest-first : (t u : Trace) → Each Modest (t ++ u) → Each Modest t
modest-first [] u h = tt
modest-first (x ∷ t) u h = (h.0, modest-first t u h.1)

modest-then : (t u : Trace) → Each Modest (t ++ u) → Each Modest u
modest-then [] u h = h
modest-then (x ∷ t) u h = modest-then t u h.1

holding-both : (t u : Trace) → Each Holding t → Each Holding u → Each Holding (t ++ u)
holding-both [] u h k = k
holding-both (x ∷ t) u h k = (h.0, holding-both t u h.1 k)

steps-hold : (n : ℕ) → Each Holding (replicate n step)
steps-hold zero = tt
steps-hold (suc n) = (tt, steps-hold n)

-- ---- runs

abbrev pub Any : {A : Type 0} → A → Type 0
Any a = Unit {0}

-- P of a value, Q of an error
abbrev pub Gives : {E A : Type 0} → (E → Type 0) → (A → Type 0) → Result E A → Type 0
Gives Q P (value a) = P a
Gives Q P (error e) = Q e

-- with modest charges: what is charged holds fine values, and what comes is as P and Q say
pub record Keeps {E A : Type 0} (Q : E → Type 0) (P : A → Type 0) (r : Run E A) : Type 0 where
  pub held : Each Modest r.0 → Each Holding r.0
  pub gives : Each Modest r.0 → Gives Q P r.1

pub keeps-pure : {E A : Type 0} {Q : E → Type 0} {P : A → Type 0} (a : A) → P a → Keeps Q P (pure a)
unfolding pure
keeps-pure a h = record { held = λ m. tt; gives = λ m. h }

-- charges that hold fine values, before a run that may take them for modest
pub keeps-charged : {E A : Type 0} {Q : E → Type 0} {P : A → Type 0} (t : Trace) {r : Run E A}
    → Each Holding t → (Each Modest t → Keeps Q P r) → Keeps Q P (charged t r)
unfolding charged
keeps-charged t {r} h k =
    record {
      held = λ m. holding-both t r.0 h ((k (modest-first t r.0 m)).held (modest-then t r.0 m));
      gives = λ m. (k (modest-first t r.0 m)).gives (modest-then t r.0 m);
    }

-- Whatever came, go on from it.
pub keeps-after : {E F A B : Type 0} {Q : E → Type 0} {P : A → Type 0} {S : F → Type 0} {R : B → Type 0} {r : Run E A} {k : Result E A → Run F B}
    → Keeps Q P r → ((x : Result E A) → Gives Q P x → Keeps S R (k x)) → Keeps S R (after r k)
unfolding after charged
keeps-after {Q} {P} {r} {k} h g =
    let u = (k r.1).0 in
    let given : Each Modest (r.0 ++ u) → Gives Q P r.1 = λ m. h.gives (modest-first r.0 u m) in
    record {
      held = λ m. holding-both r.0 u (h.held (modest-first r.0 u m)) ((g r.1 (given m)).held (modest-then r.0 u m));
      gives = λ m. (g r.1 (given m)).gives (modest-then r.0 u m);
    }

-- on a value go on, and an error stays what it was
pub keeps-bind : {E A B : Type 0} {Q : E → Type 0} {P : A → Type 0} {R : B → Type 0} {r : Run E A} {k : A → Run E B}
    → Keeps Q P r → ((a : A) → P a → Keeps Q R (k a)) → Keeps Q R (◌>>=◌ r k)
unfolding ◌>>=◌ on_value
keeps-bind {E} {A} {B} {Q} {P} {R} {r} {k} h g = keeps-after h go
  where
    go : (x : Result E A) → Gives Q P x → Keeps Q R (on_value k x)
    go (value a) p = g a p
    go (error e) q = record { held = λ m. tt; gives = λ m. q }

-- More was kept than is asked.
pub keeps-weaker : {E A : Type 0} {Q : E → Type 0} {P R : A → Type 0} {r : Run E A} → ((a : A) → P a → R a) → Keeps Q P r → Keeps Q R r
keeps-weaker {E} {A} {Q} {P} {R} {r} weaker h = record { held = h.held; gives = λ m. go r.1 (h.gives m) }
  where
    go : (x : Result E A) → Gives Q P x → Gives Q R x
    go (value a) p = weaker a p
    go (error e) q = q

-- ---- rules and records

abbrev pub KeepsRule : {A : Type 0} → (A → Type 0) → Rule A → Type 0
KeepsRule P r = Keeps Any P r

abbrev pub KeepsEval : {A : Type 0} → (A → Type 0) → Eval A → Type 0
KeepsEval P r = Keeps Any P r

pub keeps-error : {E A : Type 0} {Q : E → Type 0} {P : A → Type 0} {e : E} → Q e → Keeps {A = A} Q P ([], error e)
keeps-error h = record { held = λ m. tt; gives = λ m. h }

pub keeps-fail : {A : Type 0} {P : A → Type 0} (e : Error) → KeepsRule P (fail {A = A} e)
unfolding fail
keeps-fail e = keeps-error tt

pub keeps-or_fail : {A : Type 0} {P : A → Type 0} (e : Error) (o : Option A) → Perhaps P o → KeepsRule P (or_fail e o)
unfolding or_fail
keeps-or_fail e None h = keeps-fail e
keeps-or_fail e (Some a) h = keeps-pure a h

-- where nothing is asked of the value
pub keeps-anything : {A : Type 0} (e : Error) (o : Option A) → KeepsRule {A = A} Any (or_fail e o)
keeps-anything e None = keeps-or_fail e None tt
keeps-anything e (Some a) = keeps-or_fail e (Some a) tt

pub keeps-operand : {A : Type 0} {P : A → Type 0} {r : Eval A} → KeepsEval P r → KeepsRule P (operand r)
unfolding operand from_operand
keeps-operand {A} {P} {r} h = record { held = h.held; gives = λ m. go r.1 (h.gives m) }
  where
    go : (x : Result ErrorAt A) → Gives Any P x → Gives Any P (from_operand x)
    go (value a) p = p
    go (error e) q = tt

keeps_here : {A : Type 0} {P : A → Type 0} (p : ℕ) {r : Rule A} → KeepsRule P r → KeepsEval P (here p r)
unfolding here placed
keeps_here {A} {P} p {r} h = record { held = h.held; gives = λ m. go r.1 (h.gives m) }
  where
    go : (x : Result Raised A) → Gives Any P x → Gives Any P (placed p x)
    go (value a) h = h
    go (error (by_rule e)) q = tt
    go (error (by_operand e)) q = tt

pub keeps-begin : {A : Type 0} {P : A → Type 0} (p : ℕ) {r : Rule A} → KeepsRule P r → KeepsEval P (begin p r)
unfolding begin
keeps-begin p h = keeps-charged (step ∷ []) (tt, tt) (λ m. keeps_here p h)

-- ---- what many rules share

pub keeps-truth : (b : Bool) → KeepsRule Fine (truth b)
unfolding truth
keeps-truth b = keeps-pure (scalar (bool b)) (fine-bool b)

pub keeps-try_bool : {r : Eval Value} → KeepsEval Fine r → KeepsRule Any (try_bool r)
unfolding try_bool
keeps-try_bool h = keeps-bind (keeps-operand h) (λ v f. keeps-anything (UnexpectedType a_bool) (bool_of v))

pub keeps-choose : {A : Type 0} {P : A → Type 0} {r s : Rule A} (b : Bool) → KeepsRule P r → KeepsRule P s → KeepsRule P (choose r s b)
unfolding choose
keeps-choose true h k = h
keeps-choose false h k = k

pub keeps-compared : {A : Type 0} {P : A → Type 0} (t : Tally A) → P t.1 → KeepsRule P (compared t)
unfolding compared
keeps-compared t h = keeps-charged (replicate t.0 step) (steps-hold t.0) (λ m. keeps-pure t.1 h)

-- a value built at once is as deep as is charged, and has the cells that are charged
pub keeps-built : {P : Value → Type 0} (ws : Values) (v : Value) → FineElements ws → (count ws ≤ most_cells → nesting v ≤ deepest_value → P v)
    → KeepsRule P (built ws v)
unfolding built
keeps-built ws v f h = keeps-charged (cells ws ∷ nest (nesting v) ∷ []) (f, (tt, tt)) (λ m. keeps-pure v (h m.0 m.1.0))
