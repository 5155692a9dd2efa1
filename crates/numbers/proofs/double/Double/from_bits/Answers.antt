-- `Double::from_bits` meets its contract. Assumes nothing.
use Rattle.numbers.proofs.DoubleLaws.{no-nan-test, no-pattern}
use Rattle.numbers.proofs.double.Double.from_bits.Goals as goal

pub float_from_bits-result : goal.float_from_bits-result
float_from_bits-result c = no-pattern _ (no-nan-test _ c.if-bits-gt-INFINITY_BITS.false)
