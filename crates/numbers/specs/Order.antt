-- The order of numbers of all three kinds: the order of their points on the exact number line, with nothing rounded.
use Rattle.std.specs.Prelude.{Bool, true, false, cond, ℕ, ◌+◌, ◌*◌, ◌^◌, eqb, ℤ, pos, negsuc, nat_abs, Option, None, Some, option_map}
use Rattle.std.specs.declared.cmp.Ordering.{Ordering}
use Rattle.std.specs.declared.cmp.Ordering.TheVariants.{Less, Equal, Greater}
use Rattle.std.specs.Ordering.{nat_cmp, ordering_reverse, is_eq, is_some_and}
use Rattle.numbers.specs.declared.order.Number.{Number}
use Rattle.numbers.specs.declared.order.Number.TheVariants.{Int, Uint, Double}
use Rattle.numbers.specs.Double.{Point, nan, infinite, finite, point_of, bits_of}

-- ---- the point of a number: 1 is 2 ^ 1074 units

-- a whole number, of the sign s
unfoldable pub whole_point : Bool → ℕ → Point
whole_point s n = finite s (n * 2 ^ 1074)

abbrev pub below_zero : ℤ → Bool
below_zero (pos n) = false
below_zero (negsuc n) = true

abbrev pub int_point : ℤ → Point
int_point z = whole_point (below_zero z) (nat_abs z)

abbrev pub uint_point : ℕ → Point
uint_point n = whole_point false n

abbrev pub number_point : Number → Point
number_point (Int z) = int_point z
number_point (Uint n) = uint_point n
number_point (Double d) = point_of (bits_of d)

-- ---- the order of points

unfoldable pub size_order : ℕ → ℕ → Ordering
size_order a b = nat_cmp a b

-- -0 and 0 are one point
unfoldable pub signed_order : Bool → ℕ → Bool → ℕ → Ordering
signed_order false a false b = size_order a b
signed_order false a true b = cond (eqb (a + b) 0) Equal Greater
signed_order true a false b = cond (eqb (a + b) 0) Equal Less
signed_order true a true b = size_order b a

-- none where one of the two is no number
unfoldable pub order_of : Point → Point → Option Ordering
order_of nan y = None
order_of (infinite s) nan = None
order_of (infinite false) (infinite false) = Some Equal
order_of (infinite false) (infinite true) = Some Greater
order_of (infinite true) (infinite false) = Some Less
order_of (infinite true) (infinite true) = Some Equal
order_of (infinite false) (finite t b) = Some Greater
order_of (infinite true) (finite t b) = Some Less
order_of (finite s a) nan = None
order_of (finite s a) (infinite false) = Some Less
order_of (finite s a) (infinite true) = Some Greater
order_of (finite s a) (finite t b) = Some (signed_order s a t b)

abbrev pub is_equal : Option Ordering → Bool
is_equal o = is_some_and is_eq o

abbrev pub flipped : Option Ordering → Option Ordering
flipped o = option_map ordering_reverse o
