-- The operands of a record whose operands are literals, names and records of those: what is asked of each, and what each gives. Assumes nothing.
use Prim.Native.Nat.{ℕ}
use mathlib.Core.Path.{◌≡◌, sym}
use mathlib.Core.List.{List, [], ◌∷◌}
use types.Run.{OneOf}
use denote.Enum.Declared.{tag_of}
use Rattle.meaning.specs.Expr.{Expr}
use Rattle.rooms.specs.declared.scope.Slot.{Slot}
use Rattle.rooms.specs.declared.scope.Scope.{Scope}
use Rattle.rooms.specs.Rooms.{Rooms}
use Rattle.table_check.specs.Records.{expr_of, Sound}
use Rattle.machine.specs.declared.outcome.Used.{Used}
use Rattle.machine.specs.declared.outcome.Outcome.{Outcome}
use Rattle.machine.specs.Machine.{machine}
use Rattle.eval_shapes.specs.declared.next.Fixed.{Fixed}
use Rattle.eval_shapes.specs.declared.next.Next.{Next}
use Rattle.eval_shapes.specs.declared.Shape.{Shape}
use Rattle.eval_shapes.specs.Shapes.{shape_of, first_at, next_of, NextIn}
use Rattle.eval_shapes.specs.contracts.Shape.{the_type}
use Rattle.eval_shapes.proofs.Operands.{fixed-at}
use Rattle.eval_shallow.specs.declared.slots.Pair.{Pair}
use Rattle.eval_shallow.specs.Slots.{operands_of, small_of, near_of, IsPair, PairHolds, IsQuad, QuadHolds}
use Rattle.eval_shallow.proofs.SideLaws.{none_beside}
use Rattle.eval_shallow.proofs.OperandLaws.{Begins, begins-at, near-small, near-holds}
use Rattle.eval_shallow.proofs.Stops.{Is}
use Rattle.eval_shallow.proofs.FixedOperands.{second_at}
use Rattle.eval_shallow.proofs.OneLevelLaws.{then_at}

-- no other record is asked for
pub near-else : {A : Type 0} (e : Expr) → IsQuad (near_of e) → (r : Shape) → r ≡ shape_of e → OneOf (0 ∷ 1 ∷ 2 ∷ 3 ∷ 4 ∷ []) (tag_of the_type r) → A
near-else e h r i k = let z : ⊥ = rw (sym (none_beside e r i k)) at h in absurd z

module _ (t x : List ℕ) (limit p : ℕ) (sound : Sound t x p) {f : Fixed} (e : shape_of (expr_of t x p) ≡ Shape.Operands f) where
  module _ (quad : IsQuad (near_of (expr_of t x p))) where
    smalls : Begins (λ e. IsPair (small_of e)) (λ e. IsPair (small_of e)) t x p f
    smalls = begins-at (λ e. IsPair (small_of e)) (λ e. IsPair (small_of e)) t x p sound f e (near-small (operands_of (expr_of t x p)) quad)

    pub first_small : {q : ℕ} → q ≡ first_at t p f → Sound t x q × IsPair (small_of (expr_of t x q))
    first_small i = rw i ((fixed-at t x p sound f e).first, smalls.first)

    pub next_small : (o : Outcome) (z : Rooms) {n : Next} {z' : Rooms} → NextIn n z' (next_of t limit p f o z) → {q : ℕ} {w : Used} → n ≡ Next.At q w →
        Sound t x q × IsPair (small_of (expr_of t x q))
    next_small o z next {q} {w} i =
        ((second_at t x limit p (fixed-at t x p sound f e) o z next i).0, smalls.next limit o z q w (then_at t x limit p sound e o z next i))

  module _ (c : Scope) (v : Pair (Pair Slot)) (holds : QuadHolds c (near_of (expr_of t x p)) v) where
    slots : Begins (λ e. PairHolds c (small_of e) v.first) (λ e. PairHolds c (small_of e) v.second) t x p f
    slots = begins-at (λ e. PairHolds c (small_of e) v.first) (λ e. PairHolds c (small_of e) v.second) t x p sound f e (near-holds c v (operands_of (expr_of t x p)) holds)

    pub first-near : {q : ℕ} → q ≡ first_at t p f → (u : Used) (r : Rooms) {o : Outcome} {d : Rooms} →
        ((s : Scope) → PairHolds s (small_of (expr_of t x q)) v.first → Is o d (machine t limit (expr_of t x q) s u r)) → Is o d (machine t limit (expr_of t x (first_at t p f)) c u r)
    first-near i u r h = let k = rw i at h in k c slots.first

    pub next-near : (o : Outcome) (d : Rooms) {n : Next} {d' : Rooms} → NextIn n d' (next_of t limit p f o d) → {q : ℕ} {u : Used} → n ≡ Next.At q u → (r : Rooms) {y : List ℕ} → y ≡ x → {m : Outcome} {b : Rooms} →
        ((s : Scope) → PairHolds s (small_of (expr_of t y q)) v.second → Is m b (machine t limit (expr_of t y q) s u r)) → Is m b (machine t limit (expr_of t x q) c u r)
    next-near o d next {q} {u} i r j h = let k = rw j at h in k c (slots.next limit o d q u (then_at t x limit p sound e o d next i))
