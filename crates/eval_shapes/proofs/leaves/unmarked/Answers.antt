-- `leaves::unmarked` meets its contract. Assumes nothing.
use mathlib.Core.Path.{sym, ◌∙◌}
use Rattle.eval_shapes.proofs.KindLaws.{part-stands}
use Rattle.eval_shapes.proofs.LeafLaws.{marked-unmarked, bare-unmarked}
use Rattle.eval_shapes.proofs.leaves.unmarked.Goals as goal

pub is_marked-requires : goal.is_marked-requires
is_marked-requires c = (part-stands c.args.table.now c.args.literal.now c.args.at c.requires).here

pub first_operand-requires : goal.first_operand-requires
first_operand-requires c = let h = part-stands c.args.table.now c.args.literal.now c.args.at c.requires in (h.here, h.known)

pub returns-then-is_marked : goal.returns-then-is_marked
returns-then-is_marked c = c.first_operand.ensures ∙ marked-unmarked c.args.table.now c.args.at (sym c.is_marked.ensures ∙ c.if-is_marked.true)

pub returns-else-is_marked : goal.returns-else-is_marked
returns-else-is_marked c = bare-unmarked c.args.table.now c.args.at (sym c.is_marked.ensures ∙ c.if-is_marked.false)
