-- `leaves::slot_at` meets its contract. Assumes nothing.
use mathlib.Core.Path.{sym, ◌∙◌}
use native.Mathlib.Omega.{arith}
use Rattle.meaning.specs.Kinds.{name_kind}
use Rattle.table_check.proofs.Opened.{opened}
use Rattle.eval_shapes.proofs.KindLaws.{sound-stands}
use Rattle.eval_shapes.proofs.LeafLaws.{name-slot, no-name-slot, name-number}
use Rattle.eval_shapes.proofs.leaves.slot_at.Goals as goal

pub kind_at-requires : goal.kind_at-requires
kind_at-requires c = (sound-stands c.args.table.now c.args.literal.now c.args.at c.requires).here

pub number_at-requires : goal.number_at-requires
number_at-requires c = (opened c.args.table.now c.args.literal.now c.args.at name_kind (sym c.kind_at.ensures ∙ c.if-kind_at-eq-NAME.true) c.requires).body

pub returns-then-kind_at-eq-NAME : goal.returns-then-kind_at-eq-NAME
returns-then-kind_at-eq-NAME c = let k = (sym c.kind_at.ensures ∙ c.if-kind_at-eq-NAME.true) in (c.number_at.ensures ∙ sym (name-slot c.args.table.now c.args.literal.now c.args.at c.requires k), rw c.number_at.ensures (name-number c.args.table.now c.args.literal.now c.args.at c.requires k))

pub returns-else-kind_at-eq-NAME : goal.returns-else-kind_at-eq-NAME
returns-else-kind_at-eq-NAME c = (sym (no-name-slot c.args.table.now c.args.literal.now c.args.at c.requires (λ k. c.if-kind_at-eq-NAME.false (c.kind_at.ensures ∙ k))), omega arith)
