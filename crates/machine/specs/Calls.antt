-- Modules 4 and 7 on rooms: size, and the functions on Optionals.
use Rattle.std.specs.Prelude.{ℕ, true, false, pos}
use Rattle.meaning.specs.Expr.{Function, size_call, of_call, has_value_call, value_call}
use Rattle.rooms.specs.declared.value.Value.{Value}
use Rattle.std.specs.Prelude.{Option, None, Some}
use Rattle.rooms.specs.Rooms.{Rooms, cell_at}
use Rattle.rooms_text.specs.Sizes.{size_of}
use Rattle.machine.specs.declared.outcome.Used.{Used}
use Rattle.machine.specs.declared.outcome.Error.TheVariants as Error
use Rattle.machine.specs.declared.outcome.Outcome.{Outcome}
use Rattle.machine.specs.Outcomes.{Res, truth_out, no_overload, present}
use Rattle.machine.specs.Views.{Optional, not_optional, none_present, optional_in}
use Rattle.machine.specs.Views as Views

abbrev pub size_out : ℕ → Used → Option ℕ → Outcome
size_out p u (Some n) = Outcome.Value (Value.Int (pos n)) u
size_out p u None = no_overload p u

abbrev pub has_value_out : ℕ → Used → Optional → Outcome
has_value_out p u not_optional = no_overload p u
has_value_out p u none_present = truth_out false u
has_value_out p u (Views.present s a) = truth_out true u

abbrev pub value_out : ℕ → Used → Rooms → Optional → Outcome
value_out p u r not_optional = no_overload p u
value_out p u r none_present = Outcome.Error Error.FunctionError p u
value_out p u r (Views.present s a) = Outcome.Value (cell_at r s a) u

abbrev pub or_value_out : ℕ → Value → Used → Rooms → Optional → Outcome
or_value_out p default u r not_optional = no_overload p u
or_value_out p default u r none_present = Outcome.Value default u
or_value_out p default u r (Views.present s a) = Outcome.Value (cell_at r s a) u

abbrev pub called : ℕ → Function → Value → Used → Rooms → Res
called p size_call v u r = (size_out p u (size_of r v), r)
called p of_call v u r = present v u r
called p has_value_call v u r = (has_value_out p u (optional_in v), r)
called p value_call v u r = (value_out p u r (optional_in v), r)
