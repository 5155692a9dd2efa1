-- `slots::near_at` meets its contract. Assumes nothing.
use Rattle.eval_shallow.proofs.SideLaws.{one-sound, two-sound, none-near, one-near, two-near}
use Rattle.eval_shallow.proofs.slots.near_at.Goals as goal

pub small_at-requires : goal.small_at-requires
small_at-requires c = one-sound c.args.table.now c.args.literal.now c.sides_at.ensures.0 c.sides_at.ensures.1 c.in-One.is

pub small_at-first-requires : goal.small_at-first-requires
small_at-first-requires c = (two-sound c.args.table.now c.args.literal.now c.sides_at.ensures.0 c.sides_at.ensures.1 c.in-Two.is).0

pub small_at-requires-in-Two : goal.small_at-requires-in-Two
small_at-requires-in-Two c = (two-sound c.args.table.now c.args.literal.now c.sides_at.ensures.0 c.sides_at.ensures.1 c.in-Two.is).1

pub returns-in-Neither : goal.returns-in-Neither
returns-in-Neither c = (none-near c.args.table.now c.args.literal.now c.sides_at.ensures.0 c.sides_at.ensures.1 c.in-Neither.is, tt)

pub returns-in-One : goal.returns-in-One
returns-in-One c = (one-near c.args.table.now c.args.literal.now c.sides_at.ensures.0 c.sides_at.ensures.1 c.in-One.is c.small_at.ensures.0 c.both.ensures.0, c.both.ensures.1)

pub returns-in-Two : goal.returns-in-Two
returns-in-Two c = (two-near c.args.table.now c.args.literal.now c.sides_at.ensures.0 c.sides_at.ensures.1 c.in-Two.is c.small_at-first.ensures.0 c.small_at-in-Two.ensures.0 c.both-in-Two.ensures.0, c.both-in-Two.ensures.1)
