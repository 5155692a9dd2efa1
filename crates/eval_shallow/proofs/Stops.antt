-- A result and its rooms as one equation with what the machine does, and outcomes that are no value. Assumes nothing.
use mathlib.Core.Path.{◌≡◌, refl, sym, ◌∙◌, ap}
use mathlib.Core.List.{[], ◌∷◌}
use types.Run.{OneOf}
use denote.Enum.Declared.{tag_of}
use Rattle.rooms.specs.declared.value.Value.{Value}
use Rattle.rooms.specs.Rooms.{Rooms}
use Rattle.machine.specs.declared.outcome.Used.{Used}
use Rattle.machine.specs.declared.outcome.Outcome.{Outcome}
use Rattle.machine.specs.Outcomes.{Res, with_value}
use Rattle.machine.specs.contracts.outcome.Outcome.{the_type}
use Rattle.rooms.specs.declared.memory.Lent.{Lent}
use Rattle.rooms.specs.Memory.{rooms_lent}
use Rattle.eval_outcomes.specs.Gives.{Gives, Stays}
use Rattle.eval_outcomes.proofs.Stops.{goes-out}

abbrev pub Is : Outcome → Rooms → Res → Type 0
Is o z m = ◌≡◌ {A = Res} (o, z) m

-- ---- the references stay those that were lent

pub stays-here : {m : Lent} → Stays m m
stays-here = record { same_literal = refl; same_binding_cells = refl; same_binding_text = refl; same_cells = refl; same_text = refl; cells_long = refl; text_long = refl }

pub stays : {A : Type 0} {a : A} {old new : Lent} {does : Rooms → A × Rooms} → Gives a old new does → Stays old new
stays g = record { same_literal = g.same_literal; same_binding_cells = g.same_binding_cells; same_binding_text = g.same_binding_text; same_cells = g.same_cells; same_text = g.same_text; cells_long = g.cells_long; text_long = g.text_long }

pub stays-on : {old middle new : Lent} → Stays old middle → Stays middle new → Stays old new
stays-on f g =
    record {
      same_literal = g.same_literal ∙ f.same_literal;
      same_binding_cells = g.same_binding_cells ∙ f.same_binding_cells;
      same_binding_text = g.same_binding_text ∙ f.same_binding_text;
      same_cells = g.same_cells ∙ f.same_cells;
      same_text = g.same_text ∙ f.same_text;
      cells_long = g.cells_long ∙ f.cells_long;
      text_long = g.text_long ∙ f.text_long;
    }

pub stays-given : {o : Outcome} {old new : Lent} {does : Rooms → Res} → Stays old new → Is o (rooms_lent new) (does (rooms_lent old)) → Gives o old new does
stays-given f e = record { same_literal = f.same_literal; same_binding_cells = f.same_binding_cells; same_binding_text = f.same_binding_text; same_cells = f.same_cells; same_text = f.same_text; cells_long = f.cells_long; text_long = f.text_long; gives = e }

-- ---- outcomes that are no value

-- an error or exhaustion
abbrev pub Stops : Outcome → Type 0
Stops o = OneOf (1 ∷ 2 ∷ []) (tag_of the_type o)

-- what follows an operand, by what it came to
pub after-operand : (m : Res) {o : Outcome} {z : Rooms} → Is o z m → (k : Value → Used → Rooms → Res) → with_value m.0 m.1 k ≡ with_value o z k
after-operand m e k = ap (λ (y : Res). with_value y.0 y.1 k) (sym e)

pub stops-there : (m : Res) {o : Outcome} {z : Rooms} → Is o z m → Stops o → (k : Value → Used → Rooms → Res) → Is o z (with_value m.0 m.1 k)
stops-there m {o} {z} e h k = sym (after-operand m e k ∙ goes-out o z k h)

pub goes_on : (m : Res) {o : Outcome} {z : Rooms} → Is o z m → {v : Value} {w : Used} → o ≡ Outcome.Value v w → (k : Value → Used → Rooms → Res) →
    k v w z ≡ with_value m.0 m.1 k
goes_on m {o} {z} e is k = sym (after-operand m e k ∙ ap (λ o. with_value o z k) is)
