-- `slots::flat_at` meets its contract. Assumes nothing.
use native.Mathlib.Omega.{arith}
use Rattle.eval_shapes.proofs.KindLaws.{sound-stands}
use Rattle.eval_shallow.proofs.SideLaws.{none-flat, one-sound, one-far, one-flat, two-sound, two-far, second-far, two-flat}
use Rattle.eval_shallow.proofs.slots.flat_at.Goals as goal

pub is_leaf-requires : goal.is_leaf-requires
is_leaf-requires c = (sound-stands c.args.table.now c.args.literal.now _ (one-sound c.args.table.now c.args.literal.now c.sides_at.ensures.0 c.sides_at.ensures.1 c.in-One.is)).here

pub returns-then-not-is_leaf : goal.returns-then-not-is_leaf
returns-then-not-is_leaf c = (one-far c.args.table.now c.args.literal.now c.sides_at.ensures.0 c.sides_at.ensures.1 c.in-One.is c.is_leaf.ensures (c.if-not-is_leaf.true), tt)

pub slot_at-requires : goal.slot_at-requires
slot_at-requires c = (one-sound c.args.table.now c.args.literal.now c.sides_at.ensures.0 c.sides_at.ensures.1 c.in-One.is)

pub is_leaf-requires-in-Two : goal.is_leaf-requires-in-Two
is_leaf-requires-in-Two c = (sound-stands c.args.table.now c.args.literal.now _ (two-sound c.args.table.now c.args.literal.now c.sides_at.ensures.0 c.sides_at.ensures.1 c.in-Two.is).0).here

pub returns-then-not-is_leaf-2 : goal.returns-then-not-is_leaf-2
returns-then-not-is_leaf-2 c = (two-far c.args.table.now c.args.literal.now c.sides_at.ensures.0 c.sides_at.ensures.1 c.in-Two.is c.is_leaf-in-Two.ensures (c.if-not-is_leaf-2.true), tt)

pub is_leaf-requires-in-Two-2 : goal.is_leaf-requires-in-Two-2
is_leaf-requires-in-Two-2 c = (sound-stands c.args.table.now c.args.literal.now _ (two-sound c.args.table.now c.args.literal.now c.sides_at.ensures.0 c.sides_at.ensures.1 c.in-Two.is).1).here

pub returns-then-not-is_leaf-3 : goal.returns-then-not-is_leaf-3
returns-then-not-is_leaf-3 c = (second-far c.args.table.now c.args.literal.now c.sides_at.ensures.0 c.sides_at.ensures.1 c.in-Two.is c.is_leaf-in-Two.ensures (c.if-not-is_leaf-2.false) c.is_leaf-in-Two-2.ensures (c.if-not-is_leaf-3.true), tt)

pub slot_at-first-requires : goal.slot_at-first-requires
slot_at-first-requires c = (two-sound c.args.table.now c.args.literal.now c.sides_at.ensures.0 c.sides_at.ensures.1 c.in-Two.is).0

pub slot_at-requires-in-Two : goal.slot_at-requires-in-Two
slot_at-requires-in-Two c = (two-sound c.args.table.now c.args.literal.now c.sides_at.ensures.0 c.sides_at.ensures.1 c.in-Two.is).1

pub returns-in-Neither : goal.returns-in-Neither
returns-in-Neither c = (none-flat c.args.table.now c.args.literal.now c.sides_at.ensures.0 c.sides_at.ensures.1 c.in-Neither.is, tt)

pub returns-else-not-is_leaf : goal.returns-else-not-is_leaf
returns-else-not-is_leaf c = (one-flat c.args.table.now c.args.literal.now c.sides_at.ensures.0 c.sides_at.ensures.1 c.in-One.is c.is_leaf.ensures (c.if-not-is_leaf.false) c.slot_at.ensures.0, (c.slot_at.ensures.1, omega arith))

pub returns-else-not-is_leaf-3 : goal.returns-else-not-is_leaf-3
returns-else-not-is_leaf-3 c = (two-flat c.args.table.now c.args.literal.now c.sides_at.ensures.0 c.sides_at.ensures.1 c.in-Two.is c.is_leaf-in-Two.ensures (c.if-not-is_leaf-2.false) c.is_leaf-in-Two-2.ensures (c.if-not-is_leaf-3.false) c.slot_at-first.ensures.0 c.slot_at-in-Two.ensures.0, (c.slot_at-first.ensures.1, c.slot_at-in-Two.ensures.1))
