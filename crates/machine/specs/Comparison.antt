-- Module 2 on rooms: `==`, `!=` and the order, with a step for each pair.
use Rattle.std.specs.Prelude.{ℕ, Bool, true, false, Option, None, Some}
use Rattle.std.specs.Bool.{beq}
use Rattle.std.specs.declared.cmp.Ordering.{Ordering}
use Rattle.meaning.specs.Expr.{Comparison}
use Rattle.meaning.specs.Comparison.{holds}
use Rattle.rooms.specs.declared.value.Value.{Value}
use Rattle.rooms_comparison.specs.declared.pairs.Pairs.{Pairs}
use Rattle.rooms_comparison.specs.declared.lookup.Found.{Found}
use Rattle.rooms_comparison.specs.declared.ordering.Compared.{Compared}
use Rattle.rooms.specs.Rooms.{Rooms}
use Rattle.rooms_comparison.specs.Seen.{seen_in}
use Rattle.rooms_comparison.specs.Equality.{equal_pairs}
use Rattle.rooms_comparison.specs.Order.{order_seen, compared_of}
use Rattle.machine.specs.declared.outcome.Used.{Used}
use Rattle.machine.specs.declared.outcome.Error.TheVariants as Error
use Rattle.machine.specs.declared.outcome.Limit.TheVariants as Limit
use Rattle.machine.specs.declared.outcome.Outcome.{Outcome}
use Rattle.machine.specs.Outcomes.{with_steps, truth_out, no_overload}

-- the steps are those up to the pair that decided
abbrev pub on_pairs : Pairs → Used → (Bool → Used → Outcome) → Outcome
on_pairs (Pairs.Same k) u f = f true (with_steps u k)
on_pairs (Pairs.Unlike k) u f = f false (with_steps u k)
on_pairs (Pairs.Out k) u f = Outcome.Exhausted Limit.Steps (with_steps u k)

-- found in a cell, or missing
abbrev pub on_found : Found → Used → (ℕ → Used → Outcome) → (Used → Outcome) → Outcome
on_found (Found.At c k) u f g = f c (with_steps u k)
on_found (Found.Missing k) u f g = g (with_steps u k)
on_found (Found.Out k) u f g = Outcome.Exhausted Limit.Steps (with_steps u k)

abbrev pub equal_out : (limit : ℕ) → (wanted : Bool) → Value → Value → Used → Rooms → Outcome
equal_out limit wanted v w u r = on_pairs (equal_pairs limit r v w u.steps) u (λ b z. truth_out (beq wanted b) z)

abbrev pub ordered_out : Comparison → ℕ → Used → Option Ordering → Outcome
ordered_out c p u (Some o) = truth_out (holds c o) u
ordered_out c p u None = Outcome.Error Error.Unordered p u

abbrev pub compared_out : Comparison → ℕ → Used → Compared → Outcome
compared_out c p u (Compared.Is o) = ordered_out c p u o
compared_out c p u Compared.Unlike = no_overload p u

abbrev pub compare_out : Comparison → ℕ → Value → Value → Used → Rooms → Outcome
compare_out c p v w u r = compared_out c p u (compared_of (order_seen (seen_in r v) (seen_in r w)))
