-- `evaluate` meets its contract. Assumes nothing.
use mathlib.Core.Path.{sym, ◌∙◌}
use native.Mathlib.Omega.{arith}
use Rattle.std.proofs.Common.{rules}
use Rattle.rooms.specs.Rooms.{rooms}
use Rattle.rooms.specs.Memory.{rooms_lent}
use Rattle.answer.specs.Meant.{Evaluates}
use Rattle.answer.specs.declared.Answer.TheVariants as Answer
use Rattle.answer.specs.Promised.{Lent}
use Rattle.answer.proofs.Lending.{slots-fit, is-lent}
use Rattle.answer.proofs.Deciding.{table-refuses, root-sound, room-refuses, runs}
use Rattle.answer.proofs.Answering.{evaluates}
use Rattle.evaluator.proofs.Running.{kept-rooms}
use Rattle.evaluator.proofs.evaluate.Goals as goal
use Rattle.evaluator.proofs.evaluate.Goals.{After-slice_known-2-1}

-- of what is lent all is known at the start
all-lent : (c : After-slice_known-2-1) →
    Lent c.args.table.now c.args.bindings (rooms c.args.literal.now c.args.binding_cells.now c.args.binding_text.now c.args.cells.now c.args.text.now)
all-lent c =
    let slots = c.well_formed.1.1.0.1.1.0.1.1.0 in
    is-lent c.args.table.now c.args.bindings (rooms c.args.literal.now c.args.binding_cells.now c.args.binding_text.now c.args.cells.now c.args.text.now)
    (λ i. omega (arith, c.shared_slice_known-1.given i))
    (λ i. omega (arith, c.slice_known-1.given i))
    (λ i. omega (arith, c.shared_slice_known-3-1.given i))
    slots.1.0.1
    (slots-fit c.args.bindings.scope.slots slots.0 slots.1.1)

pub returns-in-Err : goal.returns-in-Err
returns-in-Err c =
    let lent = rooms c.args.literal.now c.args.binding_cells.now c.args.binding_text.now c.args.cells.now c.args.text.now in
    evaluates c.args.table.now c.args.bindings c.args.steps lent (all-lent (goal.at.returns-in-Err c).After-slice_known-2-1) (Answer.Refused c.in-Err.refusal) lent
    (table-refuses c.args.table.now c.args.bindings c.args.steps lent c.in-Err.refusal (sym c.check.ensures ∙ c.in-Err.is))

pub returns-in-Err-sound : goal.returns-in-Err-sound
returns-in-Err-sound c =
    let lent = rooms c.args.literal.now c.args.binding_cells.now c.args.binding_text.now c.args.cells.now c.args.text.now in
    evaluates c.args.table.now c.args.bindings c.args.steps lent (all-lent (goal.at.returns-in-Err-sound c).After-slice_known-2-1) (Answer.Refused c.at.result) lent
    (rw c.at.ensures (room-refuses c.args.table.now c.args.bindings c.args.steps lent (sym c.check.ensures ∙ c.in_default.is) c.in-Err-sound.place (sym c.sound.ensures ∙ c.in-Err-sound.is)))

pub run-requires : goal.run-requires
run-requires c =
    let lent = rooms c.args.literal.now c.args.binding_cells.now c.args.binding_text.now c.args.cells.now c.args.text.now in
    root-sound c.args.table.now c.args.bindings c.args.steps lent (sym c.check.ensures ∙ c.in_default.is)

pub returns : goal.returns
returns c =
    let lent = rooms c.args.literal.now c.args.binding_cells.now c.args.binding_text.now c.args.cells.now c.args.text.now in
    let left = rooms_lent c.run.new.lent in
    let e = evaluates c.args.table.now c.args.bindings c.args.steps lent (all-lent (goal.at.returns c).After-slice_known-2-1) c.run.result left
    (runs c.args.table.now c.args.bindings c.args.steps lent (sym c.check.ensures ∙ c.in_default.is) (sym c.sound.ensures ∙ c.in_default-sound.is) c.run.result left c.run.ensures.gives) in
    kept-rooms (λ r. Evaluates c.args.table.now c.args.bindings c.args.steps lent c.run.result r) c.args.literal.now c.args.binding_cells.now c.args.binding_text.now _ _
    e.says.literal e.says.binding_cells e.says.binding_text (search rules) (search rules) e
