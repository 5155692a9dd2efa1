-- `whole_double` meets its contract. Assumes nothing.
use Rattle.std.proofs.Common.{rules}
use mathlib.Core.Path.{◌≡◌, sym, ap, ◌∙◌}
use mathlib.Core.Bool.{Bool, true, false}
use Prim.Native.Nat.{ℕ}
use borrow.Author.Tests.{le-leb, lt-leb}
use Rattle.std.specs.Prelude.{Some}
use Rattle.std.specs.Ordering.{ordering_reverse}
use Rattle.numbers.specs.Double.{point_of}
use Rattle.numbers.specs.Order.{order_of, whole_point}
use Rattle.numbers.proofs.DoubleLaws.{nan-test, no-nan-test}
use Rattle.numbers_laws.proofs.OrderLaws.{nan_right}
use Rattle.numbers_laws.proofs.PointLaws.{nan-point, whole_above, whole_below, whole-unlike}
use Rattle.numbers_order.proofs.whole_double.Goals as goal

-- the sign as the branch showed it
signed-whole : (s t : Bool) (n b : ℕ) → s ≡ t → order_of (whole_point t n) (point_of b) ≡ order_of (whole_point s n) (point_of b)
signed-whole s t n b e = ap (λ (u : Bool). order_of (whole_point u n) (point_of b)) (sym e)

pub returns-then-unsigned-gt-INFINITY_BITS : goal.returns-then-unsigned-gt-INFINITY_BITS
returns-then-unsigned-gt-INFINITY_BITS c =
    sym (ap (order_of (whole_point c.args.whole.below c.args.whole.size)) (nan-point _ (nan-test _ c.if-unsigned-gt-INFINITY_BITS.true)) ∙ nan_right _)

pub returns-in-true-true : goal.returns-in-true-true
returns-in-true-true c =
    ap Some (c.reverse.ensures ∙ ap ordering_reverse c.against.ensures)
    ∙ sym (whole_below _ _ (search rules) (no-nan-test _ c.if-unsigned-gt-INFINITY_BITS.false) (le-leb _ _ c.in-true-true.is-1))
    ∙ signed-whole _ true _ _ c.in-true-true.is-0

pub returns-in-false-false : goal.returns-in-false-false
returns-in-false-false c =
    ap Some c.against-in-false-false.ensures
    ∙ sym (whole_above _ _ (search rules) (no-nan-test _ c.if-unsigned-gt-INFINITY_BITS.false) (lt-leb _ _ c.in-false-false.is-1))
    ∙ signed-whole _ false _ _ c.in-false-false.is-0

pub returns-in-false-true : goal.returns-in-false-true
returns-in-false-true c =
    ap Some c.across_zero-in-false-true.ensures
    ∙ sym (whole-unlike _ _ (search rules) (no-nan-test _ c.if-unsigned-gt-INFINITY_BITS.false) false (le-leb _ _ c.in-false-true.is-1))
    ∙ signed-whole _ false _ _ c.in-false-true.is-0

pub returns-in-true-false : goal.returns-in-true-false
returns-in-true-false c =
    ap Some c.across_zero.ensures
    ∙ sym (whole-unlike _ _ (search rules) (no-nan-test _ c.if-unsigned-gt-INFINITY_BITS.false) true (lt-leb _ _ c.in-true-false.is-1))
    ∙ signed-whole _ true _ _ c.in-true-false.is-0
