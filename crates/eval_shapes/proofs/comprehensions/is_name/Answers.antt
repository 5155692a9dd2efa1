-- `comprehensions::is_name` meets its contract. Assumes nothing.
use mathlib.Core.Path.{sym, ◌∙◌}
use Rattle.meaning.specs.Kinds.{name_kind}
use Rattle.table_check.proofs.Opened.{opened}
use Rattle.eval_shapes.proofs.KindLaws.{sound-stands}
use Rattle.eval_shapes.proofs.SeenOfRecords.{name-seen, name-unseen}
use Rattle.eval_shapes.proofs.comprehensions.is_name.Goals as goal

pub kind_at-requires : goal.kind_at-requires
kind_at-requires c = (sound-stands c.args.table.now c.args.literal.now c.args.at c.requires).here

pub returns-then-kind_at-ne-NAME : goal.returns-then-kind_at-ne-NAME
returns-then-kind_at-ne-NAME c = name-unseen c.args.table.now c.args.literal.now c.args.at c.requires (λ k. c.if-kind_at-ne-NAME.true (c.kind_at.ensures ∙ k)) c.args.name

pub number_at-requires : goal.number_at-requires
number_at-requires c = (opened c.args.table.now c.args.literal.now c.args.at name_kind (sym c.kind_at.ensures ∙ c.if-kind_at-ne-NAME.false) c.requires).body

pub returns : goal.returns
returns c = rw c.number_at.ensures (name-seen c.args.table.now c.args.literal.now c.args.at c.requires (sym c.kind_at.ensures ∙ c.if-kind_at-ne-NAME.false) c.args.name)
