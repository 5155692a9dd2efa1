-- A comprehension's turns: what the code decides between the operands is what the machine does. Assumes nothing.
use mathlib.Core.Path.{◌≡◌, refl, sym, ap, ◌∙◌}
use mathlib.Core.Bool.{Bool, true, false}
use Rattle.std.specs.Prelude.{Option, None, Some}
use Rattle.meaning.specs.Expr.{LogicalFold}
use Rattle.meaning.specs.Logic.{absorbs}
use Rattle.rooms.specs.declared.value.Value.{Value}
use Rattle.rooms.specs.Rooms.{Rooms}
use Rattle.machine.specs.declared.outcome.Used.{Used}
use Rattle.machine.specs.declared.outcome.Outcome.{Outcome}
use Rattle.machine.specs.Views.{bool_in}
use Rattle.machine.specs.Comprehension as Machine
use Rattle.machine.specs.Comprehension.{Pending, Binds, Holds, after_step}
use Rattle.eval_comprehension.specs.declared.steps.Step.{Step}
use Rattle.eval_comprehension.specs.Steps.{cleared_step, step_of, on_step}

module _ (r : Rooms) (binds : Binds) (holds : Holds) where
  by-clearing : (c : Bool) (held : Pending) (v : Value) (u : Used) →
      Machine.unless_cleared c held v u r binds holds ≡ on_step (cleared_step c held v u) r binds holds
  by-clearing true held v u = refl
  by-clearing false held v u = refl

  by-step : (fold : Option LogicalFold) (held : Pending) (o : Outcome) → after_step fold held o r binds holds ≡ on_step (step_of fold held o) r binds holds
  by-step None held (Outcome.Value v u) = refl
  by-step None held (Outcome.Error e p u) = refl
  by-step None held (Outcome.Exhausted x u) = refl
  by-step (Some f) None (Outcome.Value v u) = refl
  by-step (Some f) (Some e) (Outcome.Value v u) = by-clearing (absorbs f (bool_in v)) (Some e) v u
  by-step (Some f) held (Outcome.Error e p u) = refl
  by-step (Some f) held (Outcome.Exhausted x u) = refl

  pub step-as : (fold : Option LogicalFold) (held : Pending) (o : Outcome) (a : Step) → a ≡ step_of fold held o →
      after_step fold held o r binds holds ≡ on_step a r binds holds
  step-as fold held o a e = by-step fold held o ∙ ap (λ y. on_step y r binds holds) (sym e)
