-- `sizes::position_in` meets its contract. Assumes nothing.
use borrow.Enum.Refused.{opened}
use mathlib.Core.Path.{ap, sym, ◌∙◌}
use native.Mathlib.Omega.{arith}
use lib.IntN.{nat_abs}
use mir.Syntax.{w64}
use mir.ValLaws.{to_z-of_z}
use Rattle.numbers.proofs.IntMag.{is_positive, abs-le}
use Rattle.rooms_text.specs.Sizes.{position_of, inside}
use Rattle.rooms_text.proofs.Positions.{negative-outside, positive-inside}
use Rattle.rooms_text.proofs.OtherKinds.{no_index}
use borrow.Author.Rules.{sfits_of}
use Rattle.rooms_text.proofs.sizes.position_in.Goals as goal

pub returns-then-number-lt0 : goal.returns-then-number-lt0
returns-then-number-lt0 c = negative-outside c.in-Int.number c.args.length (rw (to_z-of_z w64 c.in-Int.number (sfits_of c.in-Int.known_told-1-own.given.0.1)) at c.if-number-lt0.true) ∙ sym (ap (λ v. position_of v c.args.length) c.in-Int.is)

pub overflow_cast-number : goal.overflow_cast-number
overflow_cast-number c = rw ((to_z-of_z w64 c.in-Int.number (sfits_of c.in-Int.known_told-1-own.given.0.1)), is_positive c.in-Int.number (rw (to_z-of_z w64 c.in-Int.number (sfits_of c.in-Int.known_told-1-own.given.0.1)) at c.if-number-lt0.false)) (tt, record { fits = omega (arith, abs-le c.in-Int.number c.in-Int.known_told-1-own.given.0.1) })

pub returns-else-number-lt0 : goal.returns-else-number-lt0
returns-else-number-lt0 c = c.within.ensures ∙ ap (λ z. inside (nat_abs z) c.args.length) (to_z-of_z w64 c.in-Int.number (sfits_of c.in-Int.known_told-1-own.given.0.1)) ∙ positive-inside c.in-Int.number c.args.length (rw (to_z-of_z w64 c.in-Int.number (sfits_of c.in-Int.known_told-1-own.given.0.1)) at c.if-number-lt0.false) ∙ sym (ap (λ v. position_of v c.args.length) c.in-Int.is)

pub returns-in-Uint : goal.returns-in-Uint
returns-in-Uint c = simp (c.in-Uint.is, ← c.within-in-Uint.ensures)

pub returns-in_default : goal.returns-in_default
returns-in_default c = no_index c.args.index c.args.length (opened c.in_default.in_default-own.keys3)
