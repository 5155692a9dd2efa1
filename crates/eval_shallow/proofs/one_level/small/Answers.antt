-- `one_level::small` meets its contract. Assumes nothing.
use Rattle.rooms.specs.Memory.{rooms_lent}
use Rattle.table_check.specs.Records.{expr_of}
use Rattle.eval_shapes.proofs.KindLaws.{sound-stands}
use Rattle.eval_shallow.proofs.SideLaws.{leaf-seen}
use Rattle.eval_shallow.proofs.SlotLaws.{leaf-here, leaf-does}
use Rattle.eval_shallow.proofs.Stops.{stays-here, stays-given}
use Rattle.eval_shallow.proofs.OneLevelLaws.{leaf-slot, flat-pair, flat-shows}
use Rattle.eval_shallow.proofs.one_level.small.Goals as goal

pub is_leaf-requires : goal.is_leaf-requires
is_leaf-requires c = (sound-stands c.args.table.now c.args.lent.now.literal.now c.args.at c.requires.0).here

pub leaf-requires : goal.leaf-requires
leaf-requires c = (c.requires.0, leaf-here c.args.table.now c.args.at c.is_leaf.ensures c.if-is_leaf.true)

pub returns-then-is_leaf : goal.returns-then-is_leaf
returns-then-is_leaf c =
    let seen = leaf-seen c.args.table.now c.args.lent.now.literal.now c.args.at c.requires.0 c.is_leaf.ensures in (
      stays-here,
      λ s h.
          let slot = leaf-slot (expr_of c.args.table.now c.args.lent.now.literal.now c.args.at) seen c.if-is_leaf.true s c.args.slots h in
          stays-given stays-here (leaf-does c.args.table.now c.args.lent.now.literal.now c.args.limit c.args.at c.requires.0 s c.args.used (leaf-here c.args.table.now c.args.at c.is_leaf.ensures c.if-is_leaf.true) slot c.leaf.ensures (rooms_lent c.args.lent.now)),
    )

pub flat-requires : goal.flat-requires
flat-requires c =
    let seen = leaf-seen c.args.table.now c.args.lent.now.literal.now c.args.at c.requires.0 c.is_leaf.ensures in
    (c.requires.0, flat-pair (expr_of c.args.table.now c.args.lent.now.literal.now c.args.at) seen c.if-is_leaf.false c.requires.1)

pub returns : goal.returns
returns c =
    let seen = leaf-seen c.args.table.now c.args.lent.now.literal.now c.args.at c.requires.0 c.is_leaf.ensures in
    (c.flat.ensures.0, λ s h. c.flat.ensures.1 s (flat-shows (expr_of c.args.table.now c.args.lent.now.literal.now c.args.at) seen c.if-is_leaf.false s c.args.slots h))
