-- `call_shape` meets its contract. Assumes nothing.
use Rattle.meaning.specs.Kinds.{numbered, functions}
use Rattle.eval_shapes.proofs.ShapeLaws.{no_call}
use Rattle.eval_shapes.proofs.call_shape.Goals as goal

pub returns-in-1 : goal.returns-in-1
unfolding numbered functions
returns-in-1 c = rw c.in-1.is

pub returns-in-2 : goal.returns-in-2
unfolding numbered functions
returns-in-2 c = rw c.in-2.is

pub returns-in-4 : goal.returns-in-4
unfolding numbered functions
returns-in-4 c = rw c.in-4.is

pub returns-in-5 : goal.returns-in-5
unfolding numbered functions
returns-in-5 c = rw c.in-5.is

pub returns-in-6 : goal.returns-in-6
unfolding numbered functions
returns-in-6 c = rw c.in-6.is

pub returns-in_default : goal.returns-in_default
returns-in_default c = no_call c.args.number c.in_default.in_default-own.rest.0.0.0.0.1 c.in_default.in_default-own.rest.0.0.0.1 c.in_default.in_default-own.rest.0.0.1 c.in_default.in_default-own.rest.0.1 c.in_default.in_default-own.rest.1
