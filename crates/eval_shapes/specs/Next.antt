-- A record of fixed operands: what follows the operand that is begun first, and the outcome of both operands.
use Rattle.std.specs.Prelude.{ℕ, Option, None, Some}
use Rattle.rooms.specs.declared.value.Value.{Value}
use Rattle.rooms.specs.Rooms.{Rooms}
use Rattle.machine.specs.declared.outcome.Used.{Used}
use Rattle.machine.specs.declared.outcome.Outcome.{Outcome}
use Rattle.machine.specs.Outcomes.{Res, with_value}
use Rattle.machine.specs.Views.{optional_in}
use Rattle.machine.specs.Calls.{or_value_out}
use Rattle.machine.specs.Machine.{right_of}
use Rattle.eval_logic.specs.declared.conditions.Asked.{Asked}
use Rattle.eval_shapes.specs.declared.next.Fixed.{Fixed}
use Rattle.eval_shapes.specs.declared.next.Next.{Next}
use Rattle.eval_outcomes.specs.Seen.{binary_seen}

abbrev pub go_next : Option Used → ℕ → Outcome → Next
go_next None q o = Next.Stop o
go_next (Some u) q o = Next.At q u

abbrev pub ask_next : Asked → ℕ → ℕ → Next
ask_next (Asked.Holds u) q s = Next.At q u
ask_next (Asked.Fails u) q s = Next.At s u
ask_next (Asked.Ends o) q s = Next.Stop o

abbrev pub value_next : Outcome → ℕ → Next
value_next (Outcome.Value v u) q = Next.At q u
value_next (Outcome.Error e p u) q = Next.Stop (Outcome.Error e p u)
value_next (Outcome.Exhausted x u) q = Next.Stop (Outcome.Exhausted x u)

-- the default of orValue
abbrev pub with_default : ℕ → Outcome → Value → Used → Rooms → Outcome
with_default p (Outcome.Value d z) v u r = or_value_out p d u r (optional_in v)
with_default p (Outcome.Error e q z) v u r = Outcome.Error e q z
with_default p (Outcome.Exhausted x z) v u r = Outcome.Exhausted x z

-- after both operands
abbrev pub join_of : ℕ → ℕ → Fixed → Outcome → Outcome → Rooms → Res
join_of limit p (Fixed.Unary o) x y r = (y, r)
join_of limit p (Fixed.Binary o) x y r = with_value y r (λ v u q. right_of limit p (binary_seen o) x v u q)
join_of limit p Fixed.Conditional x y r = (y, r)
join_of limit p (Fixed.Select b) x y r = (y, r)
join_of limit p (Fixed.Call f) x y r = (y, r)
join_of limit p Fixed.OrValue x y r = with_value y r (λ v u q. (with_default p x v u q, q))
