-- `against` meets its contract. Assumes nothing.
use mathlib.Core.Path.{sym, ◌∙◌}
use Rattle.numbers.specs.Double.{size_of}
use Rattle.numbers_laws.proofs.SignedOrder.{size_less}
use Rattle.numbers_order.proofs.SizeLaws.{less-huge, parts-order}
use Rattle.numbers_order.proofs.against.Goals as goal

pub returns-in-Some : goal.returns-in-Some
returns-in-Some c = c.cmp.ensures ∙ parts-order _ _ _ c.in-Some.ensures

pub returns-in-None : goal.returns-in-None
returns-in-None c = sym (size_less _ _ (less-huge c.args.whole (size_of c.args.bits) c.ranges.whole.fits c.in-None.ensures))
