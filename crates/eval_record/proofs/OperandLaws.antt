-- An operand that is evaluated with its slots if it is a literal or a name, or near those, and by `eval` if not: in each way it gives what the machine
-- gives. Assumes nothing.
use Prim.Native.Nat.{ℕ, ◌<◌}
use mathlib.Core.Path.{◌≡◌, sym, ◌∙◌, ap}
use mathlib.Core.List.{List}
use Rattle.std.specs.Prelude.{Option, Some}
use lib.ListN.{length, get_or}
use Rattle.rooms.specs.declared.scope.Slot.{Slot}
use Rattle.rooms.specs.declared.scope.Scope.{Scope}
use Rattle.rooms.specs.Rooms.{rooms}
use Rattle.table_check.specs.Records.{expr_of, Sound}
use Rattle.machine.specs.declared.outcome.Used.{Used}
use Rattle.machine.specs.declared.outcome.Outcome.{Outcome}
use Rattle.machine.specs.Machine.{machine}
use Rattle.eval_shapes.specs.Leaves.{leaf_kinds, slot_in, leaf_step}
use Rattle.eval_shallow.specs.declared.slots.Pair.{Pair}
use Rattle.eval_shallow.specs.Slots.{IsQuad, QuadBelow, QuadHolds}
use Rattle.eval_shallow.proofs.Stops.{Is}
use Rattle.eval_record.proofs.SlotReads.{beyond, read_in, reads, leaf-does}

-- what the operand at p came to, and the evaluation's memory after it
pub record Came (t x b y : List ℕ) (limit p : ℕ) (c : Scope) (u : Used) (cells₀ text₀ : List ℕ) (o : Outcome) (cells text : List ℕ) : Type 0 where
  pub is : Is o (rooms x b y cells text) (machine t limit (expr_of t x p) c u (rooms x b y cells₀ text₀))
  pub kept : length cells ≡ length cells₀
  pub keptx : length text ≡ length text₀

-- ---- the slots of a record that is evaluated with them alone

-- as the code reads four of them
abbrev pub slots_in : Scope → Pair (Pair ℕ) → Pair (Pair Slot)
slots_in c m =
    record {
      first = record { first = get_or c.slots m.first.first beyond; second = get_or c.slots m.first.second beyond };
      second = record { first = get_or c.slots m.second.first beyond; second = get_or c.slots m.second.second beyond };
    }

module _ {m q : Option (Pair (Pair ℕ))} (e : (m ≡ q) × QuadBelow m) {four : Pair (Pair ℕ)} (is : m ≡ Some four) where
  pub slots-asked : IsQuad q
  slots-asked = rw (sym e.0 ∙ is) tt

  pub slots-below : QuadBelow (Some four)
  slots-below = rw is at e.1

  slots_read : (c : Scope) → length c.slots ≡ 128 → QuadHolds c q (slots_in c four)
  slots_read c long =
      let b = slots-below in
      rw (sym e.0 ∙ is) ((reads c long b.0.0, reads c long b.0.1), (reads c long b.1.0, reads c long b.1.1))

module _ (t x b y : List ℕ) (limit p : ℕ) (c : Scope) (u : Used) (cells₀ text₀ : List ℕ) {o : Outcome} {cells text : List ℕ} where
  -- `eval` did it
  pub came-record : {o₁ : Outcome} {cells₁ text₁ : List ℕ} → Is o₁ (rooms x b y cells₁ text₁) (machine t limit (expr_of t x p) c u (rooms x b y cells₀ text₀)) →
      length cells₁ ≡ length cells₀ → length text₁ ≡ length text₀ → cells ≡ cells₁ → text ≡ text₁ → o ≡ o₁ → Came t x b y limit p c u cells₀ text₀ o cells text
  came-record e f g i j k = record { is = rw (i, j, k) e; kept = rw i f; keptx = rw j g }

  -- the caller did, of a literal or a name
  pub came-leaf : Sound t x p → length c.slots ≡ 128 → get_or t p 0 < leaf_kinds → {n : ℕ} → (n ≡ slot_in (expr_of t x p)) × (n < 128) → {o₀ : Outcome} →
      o₀ ≡ leaf_step t limit (expr_of t x p) (read_in c n) u → cells ≡ cells₀ → text ≡ text₀ → o ≡ o₀ → Came t x b y limit p c u cells₀ text₀ o cells text
  came-leaf sound long h e f i j k =
      record {
        is = rw (i, j, k) (leaf-does t x limit p sound c u long h e f (rooms x b y cells₀ text₀));
        kept = ap (λ (w : List ℕ). length w) i;
        keptx = ap (λ (w : List ℕ). length w) j;
      }

  -- it was evaluated with its slots
  pub came-slots : length c.slots ≡ 128 → {m q : Option (Pair (Pair ℕ))} → (m ≡ q) × QuadBelow m → {four : Pair (Pair ℕ)} → m ≡ Some four →
      {o₁ : Outcome} {cells₁ text₁ : List ℕ} →
      ((s : Scope) → QuadHolds s q (slots_in c four) → Is o₁ (rooms x b y cells₁ text₁) (machine t limit (expr_of t x p) s u (rooms x b y cells₀ text₀))) →
      length cells₁ ≡ length cells₀ → length text₁ ≡ length text₀ → cells ≡ cells₁ → text ≡ text₁ → o ≡ o₁ → Came t x b y limit p c u cells₀ text₀ o cells text
  came-slots long e is does f g i j k = came-record (does c (slots_read e is c long)) f g i j k
