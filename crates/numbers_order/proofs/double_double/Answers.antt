-- `double_double` meets its contract. Assumes nothing.
use mathlib.Core.Path.{sym, ap, ◌∙◌}
use Rattle.std.specs.Prelude.{Some}
use Rattle.numbers.specs.Double.{Point, point_of}
use Rattle.numbers.specs.Order.{order_of}
use Rattle.numbers.proofs.DoubleLaws.{nan-test, no-nan-test}
use Rattle.numbers_laws.proofs.OrderLaws.{nan_left, nan_right}
use Rattle.numbers_laws.proofs.PointLaws.{nan-point, bits-order}
use Rattle.numbers_order.proofs.double_double.Goals.{then-a-gt-INFINITY_BITS-via-then-a-gt-INFINITY_BITS, then-a-gt-INFINITY_BITS-via-else-a-gt-INFINITY_BITS+then-b-gt-INFINITY_BITS}
use Rattle.numbers_order.proofs.double_double.Goals as goal

pub returns-then-a-gt-INFINITY_BITS : goal.returns-then-a-gt-INFINITY_BITS
returns-then-a-gt-INFINITY_BITS c =
    elim c.then-a-gt-INFINITY_BITS.branch [
      | then-a-gt-INFINITY_BITS-via-then-a-gt-INFINITY_BITS w ↦
          sym (ap (λ (x : Point). order_of x (point_of c.args.right)) (nan-point _ (nan-test _ w.if-a-gt-INFINITY_BITS.true)) ∙ nan_left _)
      | then-a-gt-INFINITY_BITS-via-else-a-gt-INFINITY_BITS+then-b-gt-INFINITY_BITS w ↦
          sym (ap (order_of (point_of c.args.left)) (nan-point _ (nan-test _ w.if-b-gt-INFINITY_BITS.true)) ∙ nan_right _)
    ]

pub returns : goal.returns
returns c = ap Some c.signed_sizes.ensures ∙ sym (bits-order _ _ (no-nan-test _ c.if-a-gt-INFINITY_BITS.false) (no-nan-test _ c.if-b-gt-INFINITY_BITS.false))
