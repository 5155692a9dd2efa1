-- What a condition or a guard of the record at p decides.
use Rattle.std.specs.Prelude.{ℕ, Bool, true, false, Option, None, Some}
use Rattle.rooms.specs.Rooms.{Rooms}
use Rattle.machine.specs.declared.outcome.Used.{Used}
use Rattle.machine.specs.declared.outcome.Error.TheVariants as Error
use Rattle.machine.specs.declared.outcome.Outcome.{Outcome}
use Rattle.machine.specs.Outcomes.{Res}
use Rattle.machine.specs.Views.{bool_in}
use Rattle.eval_logic.specs.declared.conditions.Asked.{Asked}

abbrev pub asked_bool : ℕ → Used → Option Bool → Asked
asked_bool p u None = Asked.Ends (Outcome.Error Error.BoolWanted p u)
asked_bool p u (Some true) = Asked.Holds u
asked_bool p u (Some false) = Asked.Fails u

abbrev pub asked_of : ℕ → Outcome → Asked
asked_of p (Outcome.Value v u) = asked_bool p u (bool_in v)
asked_of p (Outcome.Error e q u) = Asked.Ends (Outcome.Error e q u)
asked_of p (Outcome.Exhausted x u) = Asked.Ends (Outcome.Exhausted x u)

abbrev pub on_asked : Asked → Rooms → (Used → Rooms → Res) → (Used → Rooms → Res) → Res
on_asked (Asked.Holds u) r holds fails = holds u r
on_asked (Asked.Fails u) r holds fails = fails u r
on_asked (Asked.Ends o) r holds fails = (o, r)
