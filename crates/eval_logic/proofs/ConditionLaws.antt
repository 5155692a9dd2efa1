-- A condition or a guard: what the code decides is what the machine does. Assumes nothing.
use Prim.Native.Nat.{ℕ}
use mathlib.Core.Path.{◌≡◌, refl, sym, ap, ◌∙◌}
use mathlib.Core.Bool.{Bool, true, false}
use Rattle.std.specs.Prelude.{Option, None, Some}
use Rattle.rooms.specs.Rooms.{Rooms}
use Rattle.machine.specs.declared.outcome.Used.{Used}
use Rattle.machine.specs.declared.outcome.Outcome.{Outcome}
use Rattle.machine.specs.Outcomes.{Res, with_value}
use Rattle.machine.specs.Views.{bool_in}
use Rattle.machine.specs.Logic.{branch}
use Rattle.machine.specs.Comprehension.{asks}
use Rattle.eval_logic.specs.declared.conditions.Asked.{Asked}
use Rattle.eval_logic.specs.Conditions.{asked_bool, asked_of, on_asked}

module _ (p : ℕ) (holds fails : Used → Rooms → Res) where
  by_bool : (u : Used) (r : Rooms) (b : Option Bool) → branch p u r b holds fails ≡ on_asked (asked_bool p u b) r holds fails
  by_bool u r None = refl
  by_bool u r (Some true) = refl
  by_bool u r (Some false) = refl

  by-outcome : (o : Outcome) (r : Rooms) → with_value o r (λ v u q. branch p u q (bool_in v) holds fails) ≡ on_asked (asked_of p o) r holds fails
  by-outcome (Outcome.Value v u) r = by_bool u r (bool_in v)
  by-outcome (Outcome.Error e q u) r = refl
  by-outcome (Outcome.Exhausted x u) r = refl

  pub asked : (x : Res) → asks p x holds fails ≡ on_asked (asked_of p x.0) x.1 holds fails
  asked x = by-outcome x.0 x.1

  pub asked-as : (x : Res) (a : Asked) → a ≡ asked_of p x.0 → asks p x holds fails ≡ on_asked a x.1 holds fails
  asked-as x a e = asked x ∙ ap (λ y. on_asked y x.1 holds fails) (sym e)
