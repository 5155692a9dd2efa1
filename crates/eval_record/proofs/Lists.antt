-- The loop over the elements of a List record. Assumes nothing.
use Prim.Native.Nat.{ℕ, ◌+◌, ◌≤◌}
use mathlib.Core.Path.{◌≡◌, refl, ◌∙◌}
use mathlib.Core.List.{List}
use native.Mathlib.Omega.{arith}
use lib.ListN.{get_or}
use Rattle.rooms.specs.declared.scope.Scope.{Scope}
use Rattle.rooms.specs.declared.memory.Lent.{Lent}
use Rattle.rooms.specs.Memory.{rooms_lent}
use Rattle.meaning.specs.Kinds.{list_kind}
use Rattle.table_layout.specs.Layout.{head_bytes, word_at}
use Rattle.table_check.specs.Records.{Sound}
use Rattle.table_check.proofs.Opened.{opened}
use Rattle.machine.specs.declared.outcome.Used.{Used}
use Rattle.eval_outcomes.specs.Gives.{Stays}
use Rattle.eval_containers.specs.declared.Ready.{Ready}
use Rattle.eval_shapes.proofs.Rows.{ElementsLeft, list_at}
use Rattle.eval_shallow.proofs.Stops.{stays-here}
use Rattle.eval_shallow.proofs.ListLaws.{from_element}

-- `left` elements are left of the record at p, from `place` on; `old` was lent before the loop
pub record ListLoop (t x : List ℕ) (limit p base count : ℕ) (c : Scope) (u₀ : Used) (old now : Lent) (place left : ℕ) (u : Used) (g : Ready) : Type 0 where
  pub row : ElementsLeft t x p left place
  pub stays : Stays old now
  pub room : g.count + left ≤ count
  pub same : from_element t x limit base c left place g u (rooms_lent now) ≡
      from_element t x limit base c count (p + 5) (record { count = 0; deep = 0 }) u₀ (rooms_lent old)

pub list-begins : (t x : List ℕ) (limit p base count : ℕ) (c : Scope) (u : Used) (old : Lent) → Sound t x p → get_or t p 0 ≡ 12 → count ≡ word_at t (p + 3) →
    {q : ℕ} → q ≡ p + head_bytes (get_or t p 0) → ListLoop t x limit p base count c u old old q count u (record { count = 0; deep = 0 })
list-begins t x limit p base count c u old s k n e =
    let first = e ∙ (opened t x p list_kind k s).first in
    rw first (record { row = rw n (list_at t x p s k).left; stays = stays-here; room = omega arith; same = refl })
