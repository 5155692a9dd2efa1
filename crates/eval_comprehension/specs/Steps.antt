-- What a comprehension makes of its step, as the code has it.
use Rattle.std.specs.Prelude.{Bool, true, false, Option, None, Some}
use Rattle.meaning.specs.Expr.{LogicalFold}
use Rattle.meaning.specs.Logic.{absorbs}
use Rattle.rooms.specs.declared.value.Value.{Value}
use Rattle.rooms.specs.Rooms.{Rooms}
use Rattle.machine.specs.declared.outcome.Used.{Used}
use Rattle.machine.specs.declared.outcome.Outcome.{Outcome}
use Rattle.machine.specs.Outcomes.{Res}
use Rattle.machine.specs.Views.{bool_in}
use Rattle.machine.specs.Comprehension as Machine
use Rattle.machine.specs.Comprehension.{Pending}
use Rattle.eval_outcomes.specs.declared.operators.Fold.{Fold}
use Rattle.eval_outcomes.specs.Seen.{fold_seen}
use Rattle.eval_comprehension.specs.declared.steps.Step.{Step}

abbrev pub folds_seen : Option Fold → Option LogicalFold
folds_seen (Some f) = Some (fold_seen f)
folds_seen None = None

abbrev pub cleared_step : Bool → Pending → Value → Used → Step
cleared_step true held v u = Step.Bind v u
cleared_step false held v u = Step.Hold held u

abbrev pub value_step : LogicalFold → Pending → Value → Used → Step
value_step f None v u = Step.Bind v u
value_step f (Some e) v u = cleared_step (absorbs f (bool_in v)) (Some e) v u

abbrev pub fold_step : LogicalFold → Pending → Outcome → Step
fold_step f held (Outcome.Value v u) = value_step f held v u
fold_step f held (Outcome.Error e p u) = Step.Hold (Some (e, p)) u
fold_step f held (Outcome.Exhausted x u) = Step.Ends (Outcome.Exhausted x u)

abbrev pub plain_step : Outcome → Step
plain_step (Outcome.Value v u) = Step.Bind v u
plain_step (Outcome.Error e p u) = Step.Ends (Outcome.Error e p u)
plain_step (Outcome.Exhausted x u) = Step.Ends (Outcome.Exhausted x u)

abbrev pub step_of : Option LogicalFold → Pending → Outcome → Step
step_of None held o = plain_step o
step_of (Some f) held o = fold_step f held o

abbrev pub on_step : Step → Rooms → Machine.Binds → Machine.Holds → Res
on_step (Step.Bind v u) r binds holds = binds v u r
on_step (Step.Hold held u) r binds holds = holds held u r
on_step (Step.Ends o) r binds holds = (o, r)
