-- `two_levels::near` meets its contract. Assumes nothing.
use borrow.Enum.Refused.{opened}
use mathlib.Core.Path.{sym, ◌∙◌}
use native.Mathlib.Omega.{arith}
use Rattle.rooms.specs.Memory.{rooms_lent}
use Rattle.table_check.specs.Records.{expr_of}
use Rattle.eval_shapes.proofs.Operands.{fixed-at}
use Rattle.eval_shallow.proofs.Stops.{stays-here, stays, stays-on, stays-given}
use Rattle.eval_shallow.proofs.FixedOperands.{no_step, after-step, stops_first, joins-both}
use Rattle.eval_shallow.proofs.TwoLevelLaws.{near-else, first_small, next_small, first-near, next-near}
use Rattle.eval_shallow.proofs.two_levels.near.Goals as goal

pub returns-then-limit-used : goal.returns-then-limit-used
returns-then-limit-used c =
    (stays-here, λ s h. stays-given stays-here (no_step c.args.table.now c.args.lent.now.literal.now c.args.limit c.args.at s c.args.used (rooms_lent c.args.lent.now) c.if-limit-used.true c.out_of_steps.ensures))

pub stepped-begun-requires : goal.stepped-begun-requires
stepped-begun-requires c = omega (arith, c.if-limit-used.false, c.ranges.limit)

pub shape_at-requires : goal.shape_at-requires
shape_at-requires c = c.requires.0

pub begun_first-one-requires : goal.begun_first-one-requires
begun_first-one-requires c = (c.requires.0, sym c.shape_at.ensures ∙ c.in-Operands.is)

pub small-left-requires : goal.small-left-requires
small-left-requires c =
    let shape = sym c.shape_at.ensures ∙ c.in-Operands.is in
    first_small c.args.table.now c.args.lent.now.literal.now c.args.limit c.args.at c.requires.0 shape c.requires.1 c.begun_first-one.ensures

pub next_after-requires : goal.next_after-requires
next_after-requires c = rw c.small-left.ensures.0.same_literal (c.requires.0, sym c.shape_at.ensures ∙ c.in-Operands.is)

pub small-right-requires : goal.small-right-requires
small-right-requires c =
    let shape = sym c.shape_at.ensures ∙ c.in-Operands.is in
    let same = stays-on c.small-left.ensures.0 (stays c.next_after.ensures) in
    rw same.same_literal (next_small c.args.table.now c.args.lent.now.literal.now c.args.limit c.args.at c.requires.0 shape c.requires.1 c.small-left.result (rooms_lent c.small-left.new.lent) c.next_after.ensures.gives c.in-At.is)

pub returns-in-Stop : goal.returns-in-Stop
returns-in-Stop c =
    let shape = sym c.shape_at.ensures ∙ c.in-Operands.is in
    let operands = fixed-at c.args.table.now c.args.lent.now.literal.now c.args.at c.requires.0 c.in-Operands.fixed shape in
    let same = stays-on c.small-left.ensures.0 (stays c.next_after.ensures) in (
      same,
      λ s h.
          let first = first-near c.args.table.now c.args.lent.now.literal.now c.args.limit c.args.at c.requires.0 shape s c.args.slots h c.begun_first-one.ensures c.stepped-begun.result (rooms_lent c.args.lent.now) (λ s h. (c.small-left.ensures.1 s h).gives) in
          stays-given same (after-step c.args.table.now c.args.lent.now.literal.now c.args.limit c.args.at s c.args.used (rooms_lent c.args.lent.now) c.if-limit-used.false c.stepped-begun.ensures (stops_first c.args.table.now c.args.lent.now.literal.now c.args.limit c.args.at s c.stepped-begun.result (rooms_lent c.args.lent.now) operands first c.next_after.ensures.gives c.in-Stop.is)),
    )

pub returns-in-At : goal.returns-in-At
returns-in-At c =
    let shape = sym c.shape_at.ensures ∙ c.in-Operands.is in
    let operands = fixed-at c.args.table.now c.args.lent.now.literal.now c.args.at c.requires.0 c.in-Operands.fixed shape in
    let between = stays-on c.small-left.ensures.0 (stays c.next_after.ensures) in
    let same = stays-on between (stays-on c.small-right.ensures.0 (stays c.after_both.ensures)) in (
      same,
      λ s h.
          let first = first-near c.args.table.now c.args.lent.now.literal.now c.args.limit c.args.at c.requires.0 shape s c.args.slots h c.begun_first-one.ensures c.stepped-begun.result (rooms_lent c.args.lent.now) (λ s h. (c.small-left.ensures.1 s h).gives) in
          let second = next-near c.args.table.now c.args.lent.now.literal.now c.args.limit c.args.at c.requires.0 shape s c.args.slots h c.small-left.result (rooms_lent c.small-left.new.lent) c.next_after.ensures.gives c.in-At.is _ between.same_literal (λ s h. (c.small-right.ensures.1 s h).gives) in
          stays-given same (after-step c.args.table.now c.args.lent.now.literal.now c.args.limit c.args.at s c.args.used (rooms_lent c.args.lent.now) c.if-limit-used.false c.stepped-begun.ensures (joins-both c.args.table.now c.args.lent.now.literal.now c.args.limit c.args.at s c.stepped-begun.result (rooms_lent c.args.lent.now) operands first c.next_after.ensures.gives c.in-At.is second c.after_both.ensures.gives)),
    )

pub returns-in_default : goal.returns-in_default
returns-in_default c =
    near-else (expr_of c.args.table.now c.args.lent.now.literal.now c.args.at) c.requires.1 c.shape_at.result c.shape_at.ensures (opened c.in_default.in_default-own.keys2)
