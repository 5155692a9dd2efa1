-- What the code reads in a scope's slots, and what a call gives over the literal text as it was lent first. Assumes nothing.
use Prim.Native.Nat.{ℕ, ◌<◌}
use mathlib.Core.Path.{◌≡◌, sym, ◌∙◌, ap, subst}
use mathlib.Core.List.{List}
use lib.ListN.{length, get_or}
use Rattle.rooms.specs.declared.value.Value.{Value}
use Rattle.rooms.specs.declared.memory.Lent.{Lent}
use Rattle.rooms.specs.declared.scope.Slot.{Slot}
use Rattle.rooms.specs.declared.scope.Scope.{Scope}
use Rattle.rooms.specs.Rooms.{Rooms}
use Rattle.rooms.specs.Memory.{rooms_lent}
use Rattle.rooms.specs.Scope.{slot_of}
use Rattle.rooms.proofs.Scopes.{read-slot}
use Rattle.table_check.specs.Records.{expr_of, Sound}
use Rattle.machine.specs.declared.outcome.Used.{Used}
use Rattle.machine.specs.declared.outcome.Outcome.{Outcome}
use Rattle.machine.specs.Outcomes.{Res}
use Rattle.machine.specs.Machine.{machine}
use Rattle.eval_outcomes.specs.Gives.{Gives}
use Rattle.eval_shapes.specs.Leaves.{leaf_kinds, slot_in, leaf_step}
use Rattle.eval_shallow.proofs.Stops.{Is}
use Rattle.eval_shallow.proofs.SlotLaws as Slots

-- as the code reads a slot that there is not
abbrev pub beyond : Slot
beyond = record { value = Value.Null }

abbrev pub read_in : Scope → ℕ → Value
read_in c n = (get_or c.slots n beyond).value

pub reads : (c : Scope) → length c.slots ≡ 128 → {n : ℕ} → n < 128 → slot_of c n ≡ read_in c n
reads c long h = sym (read-slot c _ beyond long h)

pub leaf-does : (t x : List ℕ) (limit p : ℕ) → Sound t x p → (c : Scope) (u : Used) → length c.slots ≡ 128 → get_or t p 0 < leaf_kinds →
    {n : ℕ} → (n ≡ slot_in (expr_of t x p)) × (n < 128) → {o : Outcome} → o ≡ leaf_step t limit (expr_of t x p) (read_in c n) u → (r : Rooms) →
    Is o r (machine t limit (expr_of t x p) c u r)
leaf-does t x limit p sound c u long h {n} e f r =
    Slots.leaf-does t x limit p sound c u h (ap (λ (n : ℕ). slot_of c n) (sym e.0) ∙ reads c long e.1) f r

pub of-literal : (t : List ℕ) (limit p : ℕ) (c : Scope) (u : Used) {x y : List ℕ} → y ≡ x → {o : Outcome} {old new : Lent} →
    Gives o old new (λ r. machine t limit (expr_of t y p) c u r) → Is o (rooms_lent new) (machine t limit (expr_of t x p) c u (rooms_lent old))
of-literal t limit p c u {x} {y} e {o} {old} {new} h =
    subst (λ z. Is o (rooms_lent new) (machine t limit (expr_of t z p) c u (rooms_lent old))) e h.gives

pub over-literal : (f : List ℕ → Rooms → Res) {x y : List ℕ} → y ≡ x → {o : Outcome} {old new : Lent} → Gives o old new (f y) → Is o (rooms_lent new) (f x (rooms_lent old))
over-literal f e {o} {old} {new} h = subst (λ z. Is o (rooms_lent new) (f z (rooms_lent old))) e h.gives

-- what is known of the literal text as it was lent first holds of it as it is now
pub on-literal : (P : List ℕ → Type 0) {x y : List ℕ} → y ≡ x → P x → P y
on-literal P e h = subst P (sym e) h
