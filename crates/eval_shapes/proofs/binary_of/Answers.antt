-- `binary_of` meets its contract. Assumes nothing.
use Rattle.meaning.specs.Kinds.{numbered, binaries}
use Rattle.eval_shapes.proofs.ShapeLaws.{no-binary}
use Rattle.eval_shapes.proofs.binary_of.Goals as goal

pub returns-in-1 : goal.returns-in-1
unfolding numbered binaries
returns-in-1 c = rw c.in-1.is

pub returns-in-2 : goal.returns-in-2
unfolding numbered binaries
returns-in-2 c = rw c.in-2.is

pub returns-in-4 : goal.returns-in-4
unfolding numbered binaries
returns-in-4 c = rw c.in-4.is

pub returns-in-5 : goal.returns-in-5
unfolding numbered binaries
returns-in-5 c = rw c.in-5.is

pub returns-in-6 : goal.returns-in-6
unfolding numbered binaries
returns-in-6 c = rw c.in-6.is

pub returns-in-7 : goal.returns-in-7
unfolding numbered binaries
returns-in-7 c = rw c.in-7.is

pub returns-in-8 : goal.returns-in-8
unfolding numbered binaries
returns-in-8 c = rw c.in-8.is

pub returns-in-9 : goal.returns-in-9
unfolding numbered binaries
returns-in-9 c = rw c.in-9.is

pub returns-in-10 : goal.returns-in-10
unfolding numbered binaries
returns-in-10 c = rw c.in-10.is

pub returns-in-11 : goal.returns-in-11
unfolding numbered binaries
returns-in-11 c = rw c.in-11.is

pub returns-in-12 : goal.returns-in-12
unfolding numbered binaries
returns-in-12 c = rw c.in-12.is

pub returns-in-13 : goal.returns-in-13
unfolding numbered binaries
returns-in-13 c = rw c.in-13.is

pub returns-in-14 : goal.returns-in-14
unfolding numbered binaries
returns-in-14 c = rw c.in-14.is

pub returns-in-15 : goal.returns-in-15
unfolding numbered binaries
returns-in-15 c = rw c.in-15.is

pub returns-in-16 : goal.returns-in-16
unfolding numbered binaries
returns-in-16 c = rw c.in-16.is

pub returns-in-17 : goal.returns-in-17
unfolding numbered binaries
returns-in-17 c = rw c.in-17.is

pub returns-in_default : goal.returns-in_default
returns-in_default c = no-binary c.args.number c.in_default.in_default-own.rest.0.0.0.0.0.0.0.0.0.0.0.0.0.0.0.1 c.in_default.in_default-own.rest.0.0.0.0.0.0.0.0.0.0.0.0.0.0.1 c.in_default.in_default-own.rest.0.0.0.0.0.0.0.0.0.0.0.0.0.1 c.in_default.in_default-own.rest.0.0.0.0.0.0.0.0.0.0.0.0.1 c.in_default.in_default-own.rest.0.0.0.0.0.0.0.0.0.0.0.1 c.in_default.in_default-own.rest.0.0.0.0.0.0.0.0.0.0.1 c.in_default.in_default-own.rest.0.0.0.0.0.0.0.0.0.1 c.in_default.in_default-own.rest.0.0.0.0.0.0.0.0.1 c.in_default.in_default-own.rest.0.0.0.0.0.0.0.1 c.in_default.in_default-own.rest.0.0.0.0.0.0.1 c.in_default.in_default-own.rest.0.0.0.0.0.1 c.in_default.in_default-own.rest.0.0.0.0.1 c.in_default.in_default-own.rest.0.0.0.1 c.in_default.in_default-own.rest.0.0.1 c.in_default.in_default-own.rest.0.1 c.in_default.in_default-own.rest.1
