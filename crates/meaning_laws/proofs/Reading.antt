-- What holds of everything that is read, for readings one after the other: a law for each way in which they are put together.
-- Rests on nothing but the definition of a reading. Assumes nothing.
use Prim.Native.Nat.{ℕ}
use mathlib.Core.Path.{◌≡◌, refl, subst}
use Rattle.std.specs.Prelude.{Option, None, Some}
use mathlib.Core.Bool.{Bool, true, false}
use Rattle.meaning.specs.declared.refusal.Reason.{Reason}
use Rattle.meaning.specs.Heads.{Got, got, refused, ◌>>=◌, ◌>>◌, demand, or_refuse}
use Rattle.meaning_laws.specs.Each.{Only, Reads}
use Rattle.meaning_laws.proofs.Fine.{Perhaps}

pub reads-got : {A : Type 0} {P : A → Type 0} (a : A) → P a → Reads P (got a)
reads-got a h = record { only = h }

pub reads-refused : {A : Type 0} {P : A → Type 0} {r : Reason} {p : ℕ} → Reads {A = A} P (refused r p)
reads-refused = record { only = tt }

pub reads-bind : {A B : Type 0} {P : A → Type 0} {R : B → Type 0} {g : Got A} {k : A → Got B} → Reads P g → ((a : A) → P a → Reads R (k a))
    → Reads R (◌>>=◌ g k)
unfolding ◌>>=◌
reads-bind {A} {B} {P} {R} {g} {k} h l = go g h.only
  where
    go : (x : Got A) → Only P x → Reads R (◌>>=◌ x k)
    go (got a) f = l a f
    go (refused r p) f = reads-refused

-- where nothing is asked of what is read
pub reads-bind-any : {A B : Type 0} {R : B → Type 0} (g : Got A) {k : A → Got B} → ((a : A) → Reads R (k a)) → Reads R (◌>>=◌ g k)
unfolding ◌>>=◌
reads-bind-any (got a) l = l a
reads-bind-any (refused r p) l = reads-refused

pub reads_then : {A B : Type 0} {R : B → Type 0} (g : Got A) {h : Got B} → Reads R h → Reads R (◌>>◌ g h)
unfolding ◌>>◌ ◌>>=◌
reads_then (got a) h = h
reads_then (refused r p) h = reads-refused

pub reads-demand : {B : Type 0} {R : B → Type 0} (b : Bool) (r : Reason) (p : ℕ) {h : Got B} → (b ≡ true → Reads R h) → Reads R (◌>>◌ (demand b r p) h)
unfolding ◌>>◌ ◌>>=◌ demand
reads-demand true r p h = h refl
reads-demand false r p h = reads-refused

pub reads-or_refuse : {A : Type 0} {P : A → Type 0} (r : Reason) (p : ℕ) (o : Option A) → Perhaps P o → Reads P (or_refuse r p o)
unfolding or_refuse
reads-or_refuse r p None h = reads-refused
reads-or_refuse r p (Some a) h = reads-got a h

pub reads-weaker : {A : Type 0} {P R : A → Type 0} {g : Got A} → ((a : A) → P a → R a) → Reads P g → Reads R g
reads-weaker {A} {P} {R} {g} weaker h = go g h.only
  where
    go : (x : Got A) → Only P x → Reads R x
    go (got a) f = reads-got a (weaker a f)
    go (refused r p) f = reads-refused

-- what was read is what was read
pub reads-itself : {A : Type 0} (g : Got A) → Reads (λ a. g ≡ got a) g
reads-itself (got a) = reads-got a refl
reads-itself (refused r p) = reads-refused

-- what was read has it
pub was_read : {A : Type 0} {P : A → Type 0} {g : Got A} {a : A} → Reads P g → g ≡ got a → P a
was_read {A} {P} {g} {a} h e = subst (λ (x : Got A). Only P x) e h.only
