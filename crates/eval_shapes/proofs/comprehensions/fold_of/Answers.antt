-- `comprehensions::fold_of` meets its contract. Assumes nothing.
use Rattle.eval_shapes.proofs.Looks.{or-fold, and-fold, no-fold}
use Rattle.eval_shapes.proofs.comprehensions.fold_of.Goals as goal

pub returns-in-1 : goal.returns-in-1
returns-in-1 c = or-fold c.in-1.is

pub returns-in-2 : goal.returns-in-2
returns-in-2 c = and-fold c.in-2.is

pub returns-in_default : goal.returns-in_default
returns-in_default c = no-fold c.args.number c.in_default.in_default-own.rest.0.1 c.in_default.in_default-own.rest.1
