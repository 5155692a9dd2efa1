-- An outcome that is a value, and one that is not: a rule goes on from the first, and the second is its answer. Assumes nothing.
use Prim.Native.Nat.{ℕ}
use mathlib.Core.Path.{◌≡◌, refl, ap}
use mathlib.Core.List.{[], ◌∷◌}
use types.Run.{OneOf, miss}
use denote.Enum.Declared.{tag_of}
use Rattle.rooms.specs.declared.value.Value.{Value}
use Rattle.rooms.specs.Rooms.{Rooms}
use Rattle.machine.specs.declared.outcome.Used.{Used}
use Rattle.machine.specs.declared.outcome.Error.{Error}
use Rattle.machine.specs.declared.outcome.Limit.{Limit}
use Rattle.machine.specs.declared.outcome.Outcome.{Outcome}
use Rattle.machine.specs.Outcomes.{Res, with_value}
use Rattle.machine.specs.contracts.outcome.Outcome.{the_type}

-- what two functions give for the two kinds that are left
pub by-stop : {A : Type 0} (f g : Outcome → A) → ((e : Error) (p : ℕ) (u : Used) → f (Outcome.Error e p u) ≡ g (Outcome.Error e p u)) →
    ((x : Limit) (u : Used) → f (Outcome.Exhausted x u) ≡ g (Outcome.Exhausted x u)) → (o : Outcome) → OneOf (1 ∷ 2 ∷ []) (tag_of the_type o) → f o ≡ g o
by-stop f g a b (Outcome.Value v u) h = absurd (miss (1 ∷ 2 ∷ []) 0 tt h)
by-stop f g a b (Outcome.Error e p u) h = a e p u
by-stop f g a b (Outcome.Exhausted x u) h = b x u

-- an outcome that is no value is the answer unchanged
pub goes-out : (o : Outcome) (r : Rooms) (k : Value → Used → Rooms → Res) → OneOf (1 ∷ 2 ∷ []) (tag_of the_type o) → with_value o r k ≡ (o, r)
goes-out o r k h = by-stop (λ x. with_value x r k) (λ x. (x, r)) (λ e p u. refl) (λ x u. refl) o h

pub goes_on : (o : Outcome) (v : Value) (u : Used) (r : Rooms) (k : Value → Used → Rooms → Res) → o ≡ Outcome.Value v u → with_value o r k ≡ k v u r
goes_on o v u r k e = ap (λ x. with_value x r k) e
