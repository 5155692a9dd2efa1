-- `Double::to_bits` meets its contract. Assumes nothing.
use mathlib.Core.Path.{sym, ap, ◌∙◌}
use Rattle.numbers.specs.Double.{bits_of}
use Rattle.numbers.proofs.DoubleLaws.{bits-of-nan}
use Rattle.numbers.proofs.double.Double.to_bits.Goals as goal

pub returns-in-Plain : goal.returns-in-Plain
returns-in-Plain c = sym (ap bits_of c.in-Plain.is ∙ bits-of-nan _ (sym c.is_nan.ensures.value ∙ c.if-is_nan.true))
