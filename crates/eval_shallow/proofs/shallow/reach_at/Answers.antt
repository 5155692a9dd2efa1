-- `shallow::reach_at` meets its contract. Assumes nothing.
use native.Mathlib.Omega.{arith}
use Rattle.table_check.specs.Records.{expr_of}
use Rattle.eval_shapes.proofs.KindLaws.{sound-stands}
use Rattle.eval_shallow.proofs.SideLaws.{leaf-seen}
use Rattle.eval_shallow.proofs.ShallowLaws.{leaf-slots, near-slots}
use Rattle.eval_shallow.proofs.shallow.reach_at.Goals as goal

pub is_leaf-requires : goal.is_leaf-requires
is_leaf-requires c = (sound-stands c.args.table.now c.args.literal.now c.args.at c.requires).here

pub returns-then-is_leaf : goal.returns-then-is_leaf
returns-then-is_leaf c = (leaf-slots (expr_of c.args.table.now c.args.literal.now c.args.at) (leaf-seen c.args.table.now c.args.literal.now c.args.at c.requires c.is_leaf.ensures) c.if-is_leaf.true c.slot_at.ensures.0, ((c.slot_at.ensures.1, omega arith), (omega arith, omega arith)))

pub returns : goal.returns
returns c = (near-slots (expr_of c.args.table.now c.args.literal.now c.args.at) (leaf-seen c.args.table.now c.args.literal.now c.args.at c.requires c.is_leaf.ensures) c.if-is_leaf.false c.near_at.ensures.0, c.near_at.ensures.1)
