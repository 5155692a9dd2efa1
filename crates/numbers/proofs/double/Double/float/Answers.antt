-- `Double::float` meets its contract. Assumes nothing.
use Rattle.std.proofs.Common.{rules}
use mathlib.Core.Path.{sym, ap, ◌∙◌}
use lib.Ieee.{binary64, of_bits}
use lib.Ieee.Bits.{of_bits-to_bits}
use Rattle.numbers.specs.declared.double.Double.{Double}
use Rattle.numbers.specs.Double.{bits_of}
use Rattle.numbers.proofs.DoubleLaws.{nan-test, no-nan-test, no-pattern, nan-of, nan-back}
use Rattle.numbers.proofs.double.Double.float.Goals as goal

pub float_from_bits-result : goal.float_from_bits-result
float_from_bits-result c = no-pattern _ (no-nan-test _ c.if-pattern-gt-INFINITY_BITS.false)

pub returns-in-Plain : goal.returns-in-Plain
returns-in-Plain c = sym (ap (λ (d : Double). of_bits binary64 (bits_of d)) c.in-Plain.is ∙ of_bits-to_bits binary64 c.in-Plain.f (search rules))

pub returns-then-pattern-gt-INFINITY_BITS : goal.returns-then-pattern-gt-INFINITY_BITS
returns-then-pattern-gt-INFINITY_BITS c = nan-back ∙ sym (ap (λ (d : Double). of_bits binary64 (bits_of d)) c.in-Nan.is ∙ nan-of _ (nan-test _ c.if-pattern-gt-INFINITY_BITS.true))
