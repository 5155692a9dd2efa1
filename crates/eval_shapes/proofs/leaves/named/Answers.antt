-- `leaves::named` meets its contract. Assumes nothing.
use borrow.Enum.Refused.{opened}
use Rattle.eval_shapes.proofs.LeafLaws.{name-has}
use Rattle.eval_shapes.proofs.leaves.named.Goals as goal

pub returns-in-Absent : goal.returns-in-Absent
returns-in-Absent c = simp c.in-Absent.is

pub returns-in_default : goal.returns-in_default
returns-in_default c = name-has c.args.at c.args.v c.args.used (opened c.in_default.in_default-own.keys2)
