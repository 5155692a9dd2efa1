-- `unary_of` meets its contract. Assumes nothing.
use Rattle.meaning.specs.Kinds.{numbered, unaries}
use Rattle.eval_shapes.proofs.ShapeLaws.{no-unary}
use Rattle.eval_shapes.proofs.unary_of.Goals as goal

pub returns-in-2 : goal.returns-in-2
unfolding numbered unaries
returns-in-2 c = rw c.in-2.is

pub returns-in-3 : goal.returns-in-3
unfolding numbered unaries
returns-in-3 c = rw c.in-3.is

pub returns-in_default : goal.returns-in_default
returns-in_default c = no-unary c.args.number c.in_default.in_default-own.rest.0.1 c.in_default.in_default-own.rest.1
