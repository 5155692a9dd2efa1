-- `no_bindings`. Assumes nothing.
use mathlib.Core.Path.{ap, ◌∙◌}
use Rattle.rooms.specs.declared.value.Value.TheVariants as Value
use Rattle.rooms.specs.declared.scope.Scope.{Scope}
use Rattle.rooms.specs.Scope.{stored}
use Rattle.board_state.specs.State.{no_bindings}
use Rattle.board_state.proofs.no_bindings.Goals as goal

pub returns : goal.returns
unfolding no_bindings
returns c = ap (λ (s : Scope). record { scope = s; cells = 0; bytes = 0 }) (c.with.ensures ∙ ap (λ (s : Scope). stored s 0 Value.OptionalNone) c.empty.ensures)
