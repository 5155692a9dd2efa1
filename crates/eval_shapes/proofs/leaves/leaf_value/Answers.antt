-- `leaves::leaf_value` meets its contract. Assumes nothing.
use mathlib.Core.Path.{sym, ◌∙◌}
use native.Mathlib.Omega.{arith}
use Rattle.eval_shapes.proofs.KindLaws.{sound-stands}
use Rattle.eval_shapes.proofs.LeafLaws.{name-gives, literal-gives}
use Rattle.eval_shapes.proofs.leaves.leaf_value.Goals as goal

pub kind_at-kind-requires : goal.kind_at-kind-requires
kind_at-kind-requires c = (sound-stands c.args.table.now c.args.literal.now c.args.at c.requires.0).here

pub returns-then-kind-eq-NAME : goal.returns-then-kind-eq-NAME
returns-then-kind-eq-NAME c = c.named.ensures ∙ sym (name-gives c.args.table.now c.args.literal.now c.args.at c.requires.0 (sym c.kind_at-kind.ensures ∙ c.if-kind-eq-NAME.true) c.args.slot.value c.args.used)

pub literal_at-requires : goal.literal_at-requires
literal_at-requires c = (c.requires.0, sym c.kind_at-kind.ensures, omega (arith, c.requires.1, c.kind_at-kind.ensures, c.if-kind-eq-NAME.false))

pub returns : goal.returns
returns c = rw c.literal_at.ensures (sym (literal-gives c.args.table.now c.args.literal.now c.args.at c.requires.0 (omega (arith, c.requires.1, c.kind_at-kind.ensures, c.if-kind-eq-NAME.false)) c.args.slot.value c.args.used))
