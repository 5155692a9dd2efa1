-- `single_lists::single` meets its contract. Assumes nothing.
use borrow.Enum.Refused.{opened}
use native.Mathlib.Omega.{arith}
use mathlib.Core.Bool.{false}
use Rattle.rooms.specs.Memory.{rooms_lent}
use Rattle.eval_shapes.proofs.KindLaws.{sound-stands}
use Rattle.eval_shallow.proofs.Stops.{stays-here, stays, stays-on, stays-given}
use Rattle.eval_shallow.proofs.FixedOperands.{no_step, after-step}
use Rattle.eval_shallow.proofs.ListLaws.{added-count}
use Rattle.eval_shallow.proofs.SingleListLaws.{single-here, element-asked, element-gives, single-full, single-stops, single-whole}
use Rattle.eval_shallow.proofs.single_lists.single.Goals as goal

pub returns-then-limit-used : goal.returns-then-limit-used
returns-then-limit-used c =
    (stays-here, λ s h. stays-given stays-here (no_step c.args.table.now c.args.lent.now.literal.now c.args.limit c.args.at s c.args.used (rooms_lent c.args.lent.now) c.if-limit-used.true c.out_of_steps.ensures))

pub stepped-charged-requires : goal.stepped-charged-requires
stepped-charged-requires c = omega (arith, c.if-limit-used.false, c.ranges.limit)

pub first_operand-requires : goal.first_operand-requires
first_operand-requires c =
    let stands = sound-stands c.args.table.now c.args.lent.now.literal.now c.args.at c.requires.0 in
    (stands.here, stands.known)

pub reach-element-requires : goal.reach-element-requires
reach-element-requires c =
    let one = single-here c.args.table.now c.args.lent.now.literal.now c.args.at c.requires.0 c.requires.1 in
    rw c.begin.ensures.same_literal (element-asked c.args.table.now c.args.lent.now.literal.now c.args.at one c.first_operand.ensures c.requires.1)

pub returns-in-None : goal.returns-in-None
returns-in-None c =
    let one = single-here c.args.table.now c.args.lent.now.literal.now c.args.at c.requires.0 c.requires.1 in
    let same = stays c.begin.ensures in
    (same, λ s h. stays-given same (after-step c.args.table.now c.args.lent.now.literal.now c.args.limit c.args.at s c.args.used (rooms_lent c.args.lent.now) c.if-limit-used.false c.stepped-charged.ensures (single-full c.args.table.now c.args.lent.now.literal.now c.args.limit c.args.at c.requires.0 one s c.stepped-charged.result c.begin.ensures c.in-None.is c.out_of_cells.ensures)))

pub returns-in_default : goal.returns-in_default
returns-in_default c =
    let one = single-here c.args.table.now c.args.lent.now.literal.now c.args.at c.requires.0 c.requires.1 in
    let same = stays-on (stays c.begin.ensures) c.reach-element.ensures.0 in (
      same,
      λ s h.
          let element = element-gives c.args.table.now c.args.lent.now.literal.now c.args.at one c.first_operand.ensures s c.args.slots h c.args.limit _ _ c.begin.ensures.same_literal (λ s h. (c.reach-element.ensures.1 s h).gives) in
          stays-given same (after-step c.args.table.now c.args.lent.now.literal.now c.args.limit c.args.at s c.args.used (rooms_lent c.args.lent.now) c.if-limit-used.false c.stepped-charged.ensures (single-stops c.args.table.now c.args.lent.now.literal.now c.args.limit c.args.at c.requires.0 one s c.stepped-charged.result c.begin.ensures c.in-Some.is c.reach-element.new.lent element (opened c.in_default.in_default-own.keys2))),
    )

pub whole_of-requires : goal.whole_of-requires
whole_of-requires c = omega (arith, added-count c.in-Some.begun.first (record { count = 0; deep = 0 }) false c.in-Value.value c.add_element-ready.ensures)

pub returns-in-Value : goal.returns-in-Value
returns-in-Value c =
    let one = single-here c.args.table.now c.args.lent.now.literal.now c.args.at c.requires.0 c.requires.1 in
    let same = stays-on (stays c.begin.ensures) (stays-on c.reach-element.ensures.0 (stays c.add_element-ready.ensures)) in (
      same,
      λ s h.
          let element = element-gives c.args.table.now c.args.lent.now.literal.now c.args.at one c.first_operand.ensures s c.args.slots h c.args.limit _ _ c.begin.ensures.same_literal (λ s h. (c.reach-element.ensures.1 s h).gives) in
          stays-given same (after-step c.args.table.now c.args.lent.now.literal.now c.args.limit c.args.at s c.args.used (rooms_lent c.args.lent.now) c.if-limit-used.false c.stepped-charged.ensures (single-whole c.args.table.now c.args.lent.now.literal.now c.args.limit c.args.at c.requires.0 one s c.stepped-charged.result c.begin.ensures c.in-Some.is c.reach-element.new.lent element c.in-Value.is c.add_element-ready.ensures c.whole_of.ensures)),
    )
