-- `comprehensions::is_literal` meets its contract. Assumes nothing.
use Rattle.eval_shapes.proofs.KindLaws.{sound-stands}
use Rattle.eval_shapes.proofs.SeenOfRecords.{literal-seen}
use Rattle.eval_shapes.proofs.comprehensions.is_literal.Goals as goal

pub kind_at-requires : goal.kind_at-requires
kind_at-requires c = (sound-stands c.args.table.now c.args.literal.now c.args.at c.requires).here

pub returns : goal.returns
returns c = rw c.kind_at.ensures (literal-seen c.args.table.now c.args.literal.now c.args.at c.requires)
