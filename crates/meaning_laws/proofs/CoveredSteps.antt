-- Steps in a trace, each with the charges before it: what is said of every step, and how that is put together where runs follow one another.
-- Rests on how runs follow one another. Assumes nothing.
use Prim.Native.Nat.{ℕ, zero, suc}
use mathlib.Core.Path.{◌≡◌, refl, sym, ap, subst}
use mathlib.Core.List.{[], ◌∷◌, ◌++◌, append-nil}
use Rattle.std.specs.Prelude.{Option, None, Some}
use mathlib.Core.Bool.{Bool, true, false}
use native.Mathlib.Omega.{arith}
use lib.ListN.{replicate}
use Rattle.meaning.specs.Errors.{Error, ErrorAt}
use Rattle.meaning.specs.Value.{Value}
use Rattle.meaning.specs.Run.{Charge, step, cells, text, nest, Trace, Result, value, error, Run, Eval, Rule, pure, charged, after, on_value, ◌>>=◌, fail, or_fail, from_operand, operand, try_bool, choose}
use Rattle.meaning.specs.Comparison.{Tally, compared}
use Rattle.meaning_laws.specs.Begins.{GaveBool}
use Rattle.meaning_laws.specs.Steps.{StepIn}
use Rattle.meaning_laws.proofs.Opening.{try_bool-charges}
use Rattle.meaning_laws.proofs.BegunOperands.{gave-try_bool}

-- P holds of the charges before each step of a trace
abbrev pub EachStep : (Trace → Type 0) → Trace → Type 0
EachStep P [] = Unit {0}
EachStep P (step ∷ t) = P [] × EachStep (λ f. P (step ∷ f)) t
EachStep P (cells vs ∷ t) = EachStep (λ f. P (cells vs ∷ f)) t
EachStep P (text s ∷ t) = EachStep (λ f. P (text s ∷ f)) t
EachStep P (nest d ∷ t) = EachStep (λ f. P (nest d ∷ f)) t

pub record Covered (P : Trace → Type 0) (t : Trace) : Type 0 where
  pub each : EachStep P t

-- there are no steps
abbrev pub Silent : Trace → Type 0
Silent t = Covered (λ f. ⊥) t

-- nothing but the steps of pairs that were compared
abbrev pub OnlyPairs : Trace → Type 0
OnlyPairs f = (n : ℕ) × (f ≡ replicate n step)

each_map : (P Q : Trace → Type 0) (t : Trace) → ((f : Trace) → P f → Q f) → EachStep P t → EachStep Q t
each_map P Q [] h c = tt
each_map P Q (step ∷ t) h c = (h [] c.0, each_map _ _ t (λ f. h (step ∷ f)) c.1)
each_map P Q (cells vs ∷ t) h c = each_map _ _ t (λ f. h (cells vs ∷ f)) c
each_map P Q (text s ∷ t) h c = each_map _ _ t (λ f. h (text s ∷ f)) c
each_map P Q (nest d ∷ t) h c = each_map _ _ t (λ f. h (nest d ∷ f)) c

each-then : (P : Trace → Type 0) (t u : Trace) → EachStep P t → EachStep (λ f. P (t ++ f)) u → EachStep P (t ++ u)
each-then P [] u c d = d
each-then P (step ∷ t) u c d = (c.0, each-then (λ f. P (step ∷ f)) t u c.1 d)
each-then P (cells vs ∷ t) u c d = each-then (λ f. P (cells vs ∷ f)) t u c d
each-then P (text s ∷ t) u c d = each-then (λ f. P (text s ∷ f)) t u c d
each-then P (nest n ∷ t) u c d = each-then (λ f. P (nest n ∷ f)) t u c d

each_at : (P : Trace → Type 0) (front back : Trace) → EachStep P (front ++ step ∷ back) → P front
each_at P [] back d = d.0
each_at P (step ∷ f) back d = each_at (λ g. P (step ∷ g)) f back d.1
each_at P (cells vs ∷ f) back d = each_at (λ g. P (cells vs ∷ g)) f back d
each_at P (text s ∷ f) back d = each_at (λ g. P (text s ∷ g)) f back d
each_at P (nest n ∷ f) back d = each_at (λ g. P (nest n ∷ g)) f back d

step_after : (x : Charge) {f t : Trace} → StepIn f t → StepIn (x ∷ f) (x ∷ t)
step_after x i = record { back = i.back; whole = ap (x ∷◌) i.whole }

-- a step of the second trace is one of the first, behind what `up` adds
each-given : (P : Trace → Type 0) (up : Trace → Trace) (t u : Trace) → ((f : Trace) → StepIn f u → StepIn (up f) t) →
    EachStep (λ f. StepIn (up f) t → P f) u → EachStep P u
each-given P up t [] h c = tt
each-given P up t (step ∷ u) h c =
    (c.0 (h [] (record { back = u; whole = refl })), each-given _ (λ f. up (step ∷ f)) t u (λ f i. h (step ∷ f) (step_after step i)) c.1)
each-given P up t (cells vs ∷ u) h c = each-given _ (λ f. up (cells vs ∷ f)) t u (λ f i. h (cells vs ∷ f) (step_after (cells vs) i)) c
each-given P up t (text s ∷ u) h c = each-given _ (λ f. up (text s ∷ f)) t u (λ f i. h (text s ∷ f) (step_after (text s) i)) c
each-given P up t (nest d ∷ u) h c = each-given _ (λ f. up (nest d ∷ f)) t u (λ f i. h (nest d ∷ f) (step_after (nest d) i)) c

pub covered-map : {P Q : Trace → Type 0} (t : Trace) → ((f : Trace) → P f → Q f) → Covered P t → Covered Q t
covered-map {P} {Q} t h c = record { each = each_map P Q t h c.each }

pub covered-then : {P : Trace → Type 0} (t u : Trace) → Covered P t → Covered (λ f. P (t ++ f)) u → Covered P (t ++ u)
covered-then {P} t u c d = record { each = each-then P t u c.each d.each }

-- what is covered holds wherever a step stands ..
pub covered-at : {P : Trace → Type 0} {t front : Trace} → Covered P t → StepIn front t → P front
covered-at {P} {t} {front} c i = each_at P front i.back (subst (EachStep P) i.whole c.each)

-- .. and has to hold only there
pub covered-given : {P : Trace → Type 0} {t : Trace} → Covered (λ f. StepIn f t → P f) t → Covered P t
covered-given {P} {t} c = record { each = each-given P (λ f. f) t t (λ f i. i) c.each }

pub silent-any : {P : Trace → Type 0} (t : Trace) → Silent t → Covered P t
silent-any t c = covered-map t (λ f x. absurd x) c

pub nothing : {P : Trace → Type 0} → Covered P []
nothing = record { each = tt }

-- ---- runs one after the other

module _ {P : Trace → Type 0} where
  pub covered-after : {E F A B : Type 0} (r : Run E A) (k : Result E A → Run F B) → Covered P r.0 →
      Covered (λ f. P (r.0 ++ f)) (k r.1).0 → Covered P (after r k).0
  unfolding after charged
  covered-after r k c d = covered-then r.0 (k r.1).0 c d

  pub covered-bind : {E A B : Type 0} (r : Run E A) (k : A → Run E B) → Covered P r.0 →
      ((a : A) → r.1 ≡ value a → Covered (λ f. P (r.0 ++ f)) (k a).0) → Covered P (◌>>=◌ r k).0
  unfolding ◌>>=◌ on_value
  covered-bind {E} {A} r k c d = covered-after r (on_value k) c (go r.1 refl)
    where
      go : (x : Result E A) → r.1 ≡ x → Covered (λ f. P (r.0 ++ f)) (on_value k x).0
      go (value a) e = d a e
      go (error x) e = nothing

  pub covered-operand : {A B : Type 0} (r : Eval A) (k : A → Rule B) → Covered P r.0 →
      ((a : A) → r.1 ≡ value a → Covered (λ f. P (r.0 ++ f)) (k a).0) → Covered P (◌>>=◌ (operand r) k).0
  unfolding operand from_operand
  covered-operand {A} r k c d = covered-bind (operand r) k c (λ a e. d a (back r.1 a e))
    where
      back : (x : Result ErrorAt A) (a : A) → from_operand x ≡ value a → x ≡ value a
      back (value b) a e = cc
      back (error f) a e = absurd (let z : ◌≡◌ {A = ℕ} 0 1 = cc in omega arith)

  pub covered-tried : (r : Eval Value) {A : Type 0} (k : Result _ Bool → Rule A) → Covered P r.0 →
      Covered (λ f. P (r.0 ++ f)) (k (try_bool r).1).0 → Covered P (after (try_bool r) k).0
  covered-tried r k c d =
      covered-after (try_bool r) k (subst (Covered P) (sym (try_bool-charges r)) c)
      (subst (λ t. Covered (λ f. P (t ++ f)) (k (try_bool r).1).0) (sym (try_bool-charges r)) d)

  pub covered-bool : {A : Type 0} (r : Eval Value) (k : Bool → Rule A) → Covered P r.0 →
      ((b : Bool) → GaveBool r b → Covered (λ f. P (r.0 ++ f)) (k b).0) → Covered P (◌>>=◌ (try_bool r) k).0
  covered-bool r k c d =
      covered-bind (try_bool r) k (subst (Covered P) (sym (try_bool-charges r)) c)
      (λ b e. subst (λ t. Covered (λ f. P (t ++ f)) (k b).0) (sym (try_bool-charges r)) (d b (gave-try_bool r b e)))

  -- a Bool that chooses
  pub covered-choice : {A : Type 0} (r : Eval Value) (q w : Rule A) → Covered P r.0 →
      (GaveBool r true → Covered (λ f. P (r.0 ++ f)) q.0) → (GaveBool r false → Covered (λ f. P (r.0 ++ f)) w.0) →
      Covered P (◌>>=◌ (try_bool r) (λ b. choose q w b)).0
  unfolding choose
  covered-choice r q w c y n = covered-bool r (λ b. choose q w b) c go
    where
      go : (b : Bool) → GaveBool r b → Covered (λ f. P (r.0 ++ f)) (choose q w b).0
      go true g = y g
      go false g = n g

  pub covered-or_fail : {A B : Type 0} (x : Error) (o : Option A) (k : A → Rule B) → ((a : A) → o ≡ Some a → Covered P (k a).0) →
      Covered P (◌>>=◌ (or_fail x o) k).0
  unfolding or_fail fail pure ◌>>=◌ after charged on_value
  covered-or_fail x None k d = nothing
  covered-or_fail x (Some a) k d = d a refl

-- ---- pairs that are compared

pub pairs-then : (n : ℕ) (t : Trace) → Silent t → Covered OnlyPairs (replicate n step ++ t)
pairs-then n t c = covered-then (replicate n step) t (alone n) (silent-any t c)
  where
    more : (f : Trace) → OnlyPairs f → OnlyPairs (step ∷ f)
    more f p = (suc p.0, ap (step ∷◌) p.1)

    alone : (n : ℕ) → Covered OnlyPairs (replicate n step)
    alone zero = nothing
    alone (suc n) = record { each = ((0, refl), (covered-map (replicate n step) more (alone n)).each) }

pub pairs-compared : {A B : Type 0} (t : Tally A) (k : A → Rule B) → Silent (k t.1).0 → Covered OnlyPairs (◌>>=◌ (compared t) k).0
unfolding compared pure charged ◌>>=◌ after on_value
pairs-compared t k c =
    subst (λ u. Covered OnlyPairs (u ++ (k t.1).0)) (sym (append-nil (replicate t.0 step))) (pairs-then t.0 (k t.1).0 c)
