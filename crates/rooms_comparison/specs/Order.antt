-- The order of two values, as the code does it.
use Rattle.std.specs.Prelude.{Option, None, Some}
use Rattle.std.specs.declared.cmp.Ordering.{Ordering}
use Rattle.meaning.specs.Errors.{NoOverload}
use Rattle.meaning.specs.Run.{Rule, fail}
use Rattle.meaning.specs.Comparison.{rank, scalar_order, ordered}
use Rattle.rooms_comparison.specs.declared.ordering.Compared.{Compared}
use Rattle.rooms_comparison.specs.Seen.{Seen, seen_scalar, seen_none, seen_other}

abbrev pub order_seen : Seen → Seen → Option (Option Ordering)
order_seen (seen_scalar x) (seen_scalar y) = scalar_order (rank x) (rank y)
order_seen (seen_scalar x) seen_none = None
order_seen (seen_scalar x) seen_other = None
order_seen seen_none y = None
order_seen seen_other y = None

abbrev pub compared_of : Option (Option Ordering) → Compared
compared_of None = Compared.Unlike
compared_of (Some o) = Compared.Is o

-- what a comparison makes of it
abbrev pub order_rule : Compared → Rule Ordering
order_rule (Compared.Is o) = ordered o
order_rule Compared.Unlike = fail NoOverload
