-- Operators on two values: the code's cut is the machine's. Assumes nothing.
use Prim.Native.Nat.{ℕ}
use mathlib.Core.Path.{◌≡◌, refl}
use mathlib.Core.List.{[], ◌∷◌}
use types.Run.{OneOf, miss}
use denote.Enum.Declared.{tag_of}
use Rattle.meaning.specs.Expr.{Binary, logic, equals, not_equals, index, opt_index, opt_select, arith, compare, is_in}
use Rattle.rooms.specs.declared.value.Value.{Value}
use Rattle.rooms.specs.Rooms.{Rooms}
use Rattle.machine.specs.declared.outcome.Used.{Used}
use Rattle.machine.specs.declared.outcome.Outcome.{Outcome}
use Rattle.machine.specs.Machine.{both, values_out, right_of}
use Rattle.eval_outcomes.specs.declared.operators.Binary.{Binary as Operator}
use Rattle.eval_outcomes.specs.contracts.operators.Binary.{the_type}
use Rattle.eval_outcomes.specs.Seen.{binary_seen}

abbrev OfValues : Binary → Type 0
OfValues (logic f) = ⊥
OfValues equals = Unit {0}
OfValues not_equals = Unit {0}
OfValues index = Unit {0}
OfValues opt_index = Unit {0}
OfValues opt_select = Unit {0}
OfValues (arith o) = Unit {0}
OfValues (compare c) = Unit {0}
OfValues is_in = Unit {0}

-- any but logic
pub of_values : (o : Operator) → OneOf (1 ∷ 2 ∷ 3 ∷ 4 ∷ 5 ∷ 6 ∷ 7 ∷ 8 ∷ []) (tag_of the_type o) → OfValues (binary_seen o)
of_values (Operator.Logic f) h = absurd (miss (1 ∷ 2 ∷ 3 ∷ 4 ∷ 5 ∷ 6 ∷ 7 ∷ 8 ∷ []) 0 tt h)
of_values Operator.Equals h = tt
of_values Operator.NotEquals h = tt
of_values Operator.Index h = tt
of_values Operator.OptionalIndex h = tt
of_values Operator.OptionalSelect h = tt
of_values (Operator.Arithmetic a) h = tt
of_values (Operator.Order c) h = tt
of_values Operator.In h = tt

pub right-values : (limit p : ℕ) (o : Binary) (left : Outcome) (w : Value) (u : Used) (r : Rooms) → OfValues o →
    both left r (λ v. values_out limit p o v w u r) ≡ right_of limit p o left w u r
right-values limit p (logic f) left w u r h = absurd h
right-values limit p equals left w u r h = refl
right-values limit p not_equals left w u r h = refl
right-values limit p index left w u r h = refl
right-values limit p opt_index left w u r h = refl
right-values limit p opt_select left w u r h = refl
right-values limit p (arith o) left w u r h = refl
right-values limit p (compare c) left w u r h = refl
right-values limit p is_in left w u r h = refl
