-- Two texts one after the other, as a value: the code's two steps are the machine's one. Assumes nothing.
use Prim.Native.Nat.{ℕ, ◌+◌}
use mathlib.Core.Path.{◌≡◌, refl, ◌∙◌, ap}
use Rattle.std.specs.Prelude.{Option, None, Some}
use Rattle.rooms.specs.declared.value.Value.{Value}
use Rattle.rooms.specs.declared.value.Span.{Span}
use Rattle.rooms.specs.Rooms.{Rooms, with_text}
use Rattle.rooms_taking.specs.Taking.{text_room, taken_of}
use Rattle.machine.specs.declared.outcome.Used.{Used}
use Rattle.machine.specs.declared.outcome.Limit.TheVariants as Limit
use Rattle.machine.specs.declared.outcome.Outcome.{Outcome}
use Rattle.machine.specs.Outcomes.{Res, with_bytes, on_taken}
use Rattle.machine.specs.Numbers.{both_texts, text_sum}
use Rattle.eval_arithmetic.specs.declared.text_sum.Joined.{Joined}
use Rattle.eval_arithmetic.specs.TextSums.{joined_to, joined_of, joined_out}

module _ (make : ℕ → ℕ → Value) (a b : Span) (u : Used) (r : Rooms) where
  by-room : (k : Option ℕ) →
      ◌≡◌ {A = Res} (joined_out (joined_to k a b u r).0 make u, (joined_to k a b u r).1)
      (on_taken k (λ end. (Outcome.Value (make u.bytes (a.length + b.length)) (with_bytes u end), with_text r (both_texts r u.bytes a.space a.first a.length b.space b.first b.length)))
      (Outcome.Exhausted Limit.Text u, r))
  by-room (Some end) = refl
  by-room None = refl

pub text-sum : (make : ℕ → ℕ → Value) (a b : Span) (u : Used) (r : Rooms) {j : Option Joined} {q : Rooms} {o : Outcome} →
    ◌≡◌ {A = Option Joined × Rooms} (j, q) (joined_of a b u r) → o ≡ joined_out j make u →
    ◌≡◌ {A = Res} (o, q) (text_sum make a.space a.first a.length b.space b.first b.length u r)
text-sum make a b u r {j} {q} {o} e h =
    let f : Option Joined × Rooms → Res = λ z. (joined_out z.0 make u, z.1) in
    let g : Outcome → Res = λ y. (y, q) in
    ap g h ∙ ap f e ∙ by-room make a b u r (taken_of (text_room r.text) u.bytes (a.length + b.length))
