-- `leaves::leaf` meets its contract. Assumes nothing.
use mathlib.Core.Path.{sym, ◌∙◌}
use native.Mathlib.Omega.{arith}
use Rattle.table_check.specs.Records.{expr_of}
use Rattle.eval_shapes.proofs.LeafLaws.{leaf-out-of-steps, leaf-in-steps}
use Rattle.eval_shapes.proofs.leaves.leaf.Goals as goal

pub returns-then-limit-used : goal.returns-then-limit-used
returns-then-limit-used c = c.out_of_steps.ensures ∙ sym (leaf-out-of-steps c.args.table.now c.args.limit (expr_of c.args.table.now c.args.literal.now c.args.at) c.args.slot.value c.args.used c.if-limit-used.true)

pub returns : goal.returns
returns c = rw (c.leaf_value.ensures, c.stepped.ensures) (sym (leaf-in-steps c.args.table.now c.args.limit (expr_of c.args.table.now c.args.literal.now c.args.at) c.args.slot.value c.args.used (omega (arith, c.if-limit-used.false))))
