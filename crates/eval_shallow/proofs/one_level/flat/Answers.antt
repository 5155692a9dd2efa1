-- `one_level::flat` meets its contract. Assumes nothing.
use borrow.Enum.Refused.{opened}
use mathlib.Core.Path.{sym, ◌∙◌}
use native.Mathlib.Omega.{arith}
use Rattle.rooms.specs.Memory.{rooms_lent}
use Rattle.table_check.specs.Records.{expr_of}
use Rattle.eval_shapes.proofs.Operands.{fixed-at}
use Rattle.eval_shallow.proofs.Stops.{stays-here, stays, stays-on, stays-given}
use Rattle.eval_shallow.proofs.FixedOperands.{no_step, after-step, stops_first, joins-both}
use Rattle.eval_shallow.proofs.OneLevelLaws.{flat-else, first_leaf, next-leaf, first_does, next-does}
use Rattle.eval_shallow.proofs.one_level.flat.Goals as goal

pub returns-then-limit-used : goal.returns-then-limit-used
returns-then-limit-used c =
    (stays-here, λ s h. stays-given stays-here (no_step c.args.table.now c.args.lent.now.literal.now c.args.limit c.args.at s c.args.used (rooms_lent c.args.lent.now) c.if-limit-used.true c.out_of_steps.ensures))

pub stepped-begun-requires : goal.stepped-begun-requires
stepped-begun-requires c = omega (arith, c.if-limit-used.false, c.ranges.limit)

pub shape_at-requires : goal.shape_at-requires
shape_at-requires c = c.requires.0

pub begun_first-one-requires : goal.begun_first-one-requires
begun_first-one-requires c = (c.requires.0, sym c.shape_at.ensures ∙ c.in-Operands.is)

pub leaf-left-requires : goal.leaf-left-requires
leaf-left-requires c =
    let shape = sym c.shape_at.ensures ∙ c.in-Operands.is in
    first_leaf c.args.table.now c.args.lent.now.literal.now c.args.limit c.args.at c.requires.0 shape c.requires.1 c.begun_first-one.ensures

pub next_after-requires : goal.next_after-requires
next_after-requires c = (c.requires.0, sym c.shape_at.ensures ∙ c.in-Operands.is)

pub leaf-right-requires : goal.leaf-right-requires
leaf-right-requires c =
    let shape = sym c.shape_at.ensures ∙ c.in-Operands.is in
    next-leaf c.args.table.now c.args.lent.now.literal.now c.args.limit c.args.at c.requires.0 shape c.requires.1 c.leaf-left.result (rooms_lent c.args.lent.now) c.next_after.ensures.gives c.in-At.is

pub returns-in-Stop : goal.returns-in-Stop
returns-in-Stop c =
    let shape = sym c.shape_at.ensures ∙ c.in-Operands.is in
    let operands = fixed-at c.args.table.now c.args.lent.now.literal.now c.args.at c.requires.0 c.in-Operands.fixed shape in
    let same = stays c.next_after.ensures in (
      same,
      λ s h.
          let first = first_does c.args.table.now c.args.lent.now.literal.now c.args.limit c.args.at c.requires.0 shape c.requires.1 s c.args.slots h c.begun_first-one.ensures c.stepped-begun.result c.leaf-left.ensures (rooms_lent c.args.lent.now) in
          stays-given same (after-step c.args.table.now c.args.lent.now.literal.now c.args.limit c.args.at s c.args.used (rooms_lent c.args.lent.now) c.if-limit-used.false c.stepped-begun.ensures (stops_first c.args.table.now c.args.lent.now.literal.now c.args.limit c.args.at s c.stepped-begun.result (rooms_lent c.args.lent.now) operands first c.next_after.ensures.gives c.in-Stop.is)),
    )

pub returns-in-At : goal.returns-in-At
returns-in-At c =
    let shape = sym c.shape_at.ensures ∙ c.in-Operands.is in
    let operands = fixed-at c.args.table.now c.args.lent.now.literal.now c.args.at c.requires.0 c.in-Operands.fixed shape in
    let same = stays-on (stays c.next_after.ensures) (stays c.after_both.ensures) in (
      same,
      λ s h.
          let first = first_does c.args.table.now c.args.lent.now.literal.now c.args.limit c.args.at c.requires.0 shape c.requires.1 s c.args.slots h c.begun_first-one.ensures c.stepped-begun.result c.leaf-left.ensures (rooms_lent c.args.lent.now) in
          let second = next-does c.args.table.now c.args.lent.now.literal.now c.args.limit c.args.at c.requires.0 shape c.requires.1 s c.args.slots h c.leaf-left.result (rooms_lent c.args.lent.now) c.next_after.ensures.gives c.in-At.is c.leaf-right.ensures _ in
          stays-given same (after-step c.args.table.now c.args.lent.now.literal.now c.args.limit c.args.at s c.args.used (rooms_lent c.args.lent.now) c.if-limit-used.false c.stepped-begun.ensures (joins-both c.args.table.now c.args.lent.now.literal.now c.args.limit c.args.at s c.stepped-begun.result (rooms_lent c.args.lent.now) operands first c.next_after.ensures.gives c.in-At.is second c.after_both.ensures.gives)),
    )

pub returns-in_default : goal.returns-in_default
returns-in_default c =
    flat-else (expr_of c.args.table.now c.args.lent.now.literal.now c.args.at) c.requires.1 c.shape_at.result c.shape_at.ensures (opened c.in_default.in_default-own.keys2)
