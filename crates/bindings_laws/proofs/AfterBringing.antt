-- What follows for the names of the lent room, of a binding that the definition accepts: its name holds the value that its table spells,
-- every other name what it held. Rests on Brought and on the laws of the definition. Assumes nothing.
use Prim.Native.Nat.{ℕ, ◌/◌}
use mathlib.Core.Path.{◌≡◌, sym, ◌∙◌, subst}
use mathlib.Core.List.{List}
use Rattle.std.specs.Prelude.{Some}
use lib.ListN.{length}
use Rattle.meaning.specs.Heads.{Got, got}
use Rattle.meaning.specs.Bindings.{BindingRoom, bring}
use Rattle.meaning.specs.WellFormed.{AllBytes}
use Rattle.meaning_laws.proofs.BoundValues.{brought-value}
use Rattle.meaning_laws.proofs.Bystanders.{others-kept}
use Rattle.bindings_sound.specs.declared.Bindings.{Bindings}
use Rattle.bindings_sound.specs.Held.{held_scope}
use Rattle.bindings.specs.Bringing.{Outcome, outcome_of}
use Rattle.bindings_laws.specs.Brings.{StandsFor, Holds, Brings}
use Rattle.bindings_laws.proofs.Brought.{brings-in}

module _ (w t : List ℕ) (b : Bindings) (slots : length b.scope.slots ≡ 128) (name : ℕ) (table text : List ℕ) (table_bytes : AllBytes table) (text_bytes : AllBytes text)
    (room : BindingRoom) (stands : StandsFor w t b room) (more : BindingRoom) (accepted : bring (length w / 2) (length t) room name table text ≡ got more) where
  abbrev o : Outcome
  o = outcome_of w t b name table text

  pub holds_then : Holds w t b more o
  holds_then = subst (λ (g : Got BindingRoom). Brings w t b g o) accepted ((brings-in w t b slots name table text table_bytes text_bytes).sound room stands)

  -- The name holds the value that the table spells.
  pub name-holds : held_scope o.words o.text o.bindings name ≡ Some (brought-value (length w / 2) (length t) room name table text more accepted).held
  name-holds = holds_then.stands.scope name ∙ (brought-value (length w / 2) (length t) room name table text more accepted).holds

  -- Every other name holds what it held.
  pub others-hold : (n : ℕ) → (n ≡ name → ⊥) → held_scope o.words o.text o.bindings n ≡ held_scope w t b n
  others-hold n other =
      holds_then.stands.scope n ∙ (others-kept (length w / 2) (length t) room name table text more accepted n other ∙ sym (stands.scope n))
