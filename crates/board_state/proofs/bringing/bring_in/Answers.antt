-- `bringing::bring_in`. Assumes nothing.
use mathlib.Core.Path.{refl}
use Rattle.bindings.proofs.AcceptedLaws.{handed_on}
use Rattle.board_state.specs.Bringing.{binding_room}
use Rattle.board_state.proofs.BringingSteps.{stows-so}
use Rattle.board_state.proofs.bringing.bring_in.Goals as goal

pub returns-in_err-bring_in : goal.returns-in_err-bring_in
returns-in_err-bring_in c =
    rw (handed_on c.from_residual.result c.in_err-bring_in.field-0.0 c.from_residual.ensures.1)
    (stows-so (binding_room c.args.state.now c.args.cells.now c.args.text.now) c.args.name c.args.table.now c.args.literal.now c.bindings_in-bindings.ensures c.bring_in.ensures
    c.in_err-bring_in.was refl)

pub returns : goal.returns
returns c =
    stows-so (binding_room c.args.state.now c.args.cells.now c.args.text.now) c.args.name c.args.table.now c.args.literal.now c.bindings_in-bindings.ensures c.bring_in.ensures
    c.in_ok-bring_in.was c.put_bindings.ensures
