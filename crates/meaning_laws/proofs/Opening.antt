-- Traces that begin with others, and the charges of a run that goes on from an operand's: first the operand's, then what follows.
-- Rests on how runs follow one another. Assumes nothing.
use mathlib.Core.Path.{◌≡◌, refl, sym, ◌∙◌, ap, subst}
use mathlib.Core.List.{[], ◌++◌, append_assoc, append-nil}
use Rattle.std.specs.Prelude.{Option, None, Some}
use mathlib.Core.Bool.{Bool}
use Rattle.meaning.specs.Errors.{Error, UnexpectedType, a_bool, ErrorAt}
use Rattle.meaning.specs.Value.{Value, bool_of}
use Rattle.meaning.specs.Run.{Trace, Result, value, error, Run, Eval, Rule, pure, charged, after, on_value, ◌>>=◌, fail, or_fail, from_operand, operand, try_bool}
use Rattle.meaning_laws.specs.Begins.{GaveBool}

-- ---- traces that open others

-- the second trace begins with the first
pub record Opens (u t : Trace) : Type 0 where
  pub rest : Trace
  pub whole : t ≡ u ++ rest

pub opens-more : (t u : Trace) → Opens t (t ++ u)
opens-more t u = record { rest = u; whole = refl }

pub opens-self : (t : Trace) → Opens t t
opens-self t = record { rest = []; whole = sym (append-nil t) }

pub opens-behind : (a : Trace) {u t : Trace} → Opens u t → Opens (a ++ u) (a ++ t)
opens-behind a {u} o = record { rest = o.rest; whole = ap (a ++◌) o.whole ∙ sym (append_assoc a u o.rest) }

pub opens-grouped : (a b u : Trace) {t : Trace} → Opens (a ++ (b ++ u)) t → Opens ((a ++ b) ++ u) t
opens-grouped a b u {t} o = subst (λ w. Opens w t) (sym (append_assoc a b u)) o

pub opens-within : {u v w : Trace} → Opens u v → Opens v w → Opens u w
opens-within {u} o q = record { rest = o.rest ++ q.rest; whole = q.whole ∙ ap (◌++ q.rest) o.whole ∙ append_assoc u o.rest q.rest }

-- ---- runs one after the other

module _ {E F A B : Type 0} (r : Run E A) (k : Result E A → Run F B) where
  pub first-of-after : Opens r.0 (after r k).0
  unfolding after charged
  first-of-after = opens-more r.0 (k r.1).0

  pub then-of-after : (x : Result E A) {u : Trace} → r.1 ≡ x → Opens u (k x).0 → Opens (r.0 ++ u) (after r k).0
  unfolding after charged
  then-of-after x {u} e o = opens-behind r.0 (subst (λ y. Opens u (k y).0) (sym e) o)

module _ {E A B : Type 0} (r : Run E A) (k : A → Run E B) where
  pub first_of : Opens r.0 (◌>>=◌ r k).0
  unfolding ◌>>=◌
  first_of = first-of-after r (on_value k)

  pub then-of : (a : A) {u : Trace} → r.1 ≡ value a → Opens u (k a).0 → Opens (r.0 ++ u) (◌>>=◌ r k).0
  unfolding ◌>>=◌ on_value
  then-of a e o = then-of-after r (on_value k) (value a) e o

module _ {A B : Type 0} (r : Eval A) (k : A → Rule B) where
  pub first-operand : Opens r.0 (◌>>=◌ (operand r) k).0
  unfolding operand
  first-operand = first_of (operand r) k

  pub then-operand : (a : A) {u : Trace} → r.1 ≡ value a → Opens u (k a).0 → Opens (r.0 ++ u) (◌>>=◌ (operand r) k).0
  unfolding operand from_operand
  then-operand a e o = then-of (operand r) k a (ap from_operand e) o

-- ---- an operand that has to be a Bool

or_fail-charges-nothing : {A : Type 0} (e : Error) (o : Option A) → (or_fail e o).0 ≡ []
unfolding or_fail fail pure
or_fail-charges-nothing e None = refl
or_fail-charges-nothing e (Some a) = refl

pub try_bool-charges : (r : Eval Value) → (try_bool r).0 ≡ r.0
unfolding try_bool operand ◌>>=◌ after charged on_value from_operand
try_bool-charges r = go r.1
  where
    go : (x : Result ErrorAt Value) → r.0 ++ (on_value (λ v. or_fail (UnexpectedType a_bool) (bool_of v)) (from_operand x)).0 ≡ r.0
    go (value v) = ap (r.0 ++◌) (or_fail-charges-nothing (UnexpectedType a_bool) (bool_of v)) ∙ append-nil r.0
    go (error e) = append-nil r.0

pub try_bool-gave : (r : Eval Value) (b : Bool) → GaveBool r b → (try_bool r).1 ≡ value b
unfolding try_bool operand ◌>>=◌ after charged on_value from_operand or_fail pure
try_bool-gave r b g =
    ap (λ x. (on_value (λ v. or_fail (UnexpectedType a_bool) (bool_of v)) (from_operand x)).1) g.1 ∙ ap (λ o. (or_fail (UnexpectedType a_bool) o).1) g.2

module _ {A : Type 0} (r : Eval Value) (k : Bool → Rule A) where
  pub first-bool : Opens r.0 (◌>>=◌ (try_bool r) k).0
  first-bool = subst (λ t. Opens t (◌>>=◌ (try_bool r) k).0) (try_bool-charges r) (first_of (try_bool r) k)

  pub then-bool : (b : Bool) {u : Trace} → GaveBool r b → Opens u (k b).0 → Opens (r.0 ++ u) (◌>>=◌ (try_bool r) k).0
  then-bool b {u} g o = subst (λ t. Opens (t ++ u) (◌>>=◌ (try_bool r) k).0) (try_bool-charges r) (then-of (try_bool r) k b (try_bool-gave r b g) o)
