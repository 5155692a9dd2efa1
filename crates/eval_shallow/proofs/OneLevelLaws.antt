-- The operands of a record whose operands are all literals and names: what is asked of each, and what each gives. Assumes nothing.
use Prim.Native.Nat.{ℕ, ◌<◌}
use mathlib.Core.Path.{◌≡◌, refl, sym, ◌∙◌, ap}
use mathlib.Core.Bool.{Bool, true, false}
use mathlib.Core.List.{List, [], ◌∷◌}
use lib.ListN.{get_or}
use types.Run.{OneOf}
use denote.Enum.Declared.{tag_of}
use Rattle.meaning.specs.Expr.{Expr}
use Rattle.rooms.specs.declared.scope.Slot.{Slot}
use Rattle.rooms.specs.declared.scope.Scope.{Scope}
use Rattle.rooms.specs.Rooms.{Rooms}
use Rattle.rooms.specs.Scope.{slot_of}
use Rattle.table_check.specs.Records.{expr_of, Sound}
use Rattle.machine.specs.declared.outcome.Used.{Used}
use Rattle.machine.specs.declared.outcome.Outcome.{Outcome}
use Rattle.machine.specs.Machine.{machine}
use Rattle.eval_shapes.specs.declared.next.Fixed.{Fixed}
use Rattle.eval_shapes.specs.declared.next.Next.{Next}
use Rattle.eval_shapes.specs.declared.Shape.{Shape}
use Rattle.eval_shapes.specs.Shapes.{shape_of, first_at, next_of, NextIn}
use Rattle.eval_shapes.specs.contracts.Shape.{the_type}
use Rattle.eval_shapes.proofs.Operands.{fixed-at}
use Rattle.eval_shapes.specs.Leaves.{leaf_kinds, slot_in, leaf_step}
use Rattle.eval_shallow.specs.declared.slots.Pair.{Pair}
use Rattle.eval_shallow.specs.Slots.{operands_of, is_leaf, flat_of, small_of, IsPair, PairHolds}
use Rattle.eval_shallow.proofs.SideLaws.{none_beside, leaf-kind}
use Rattle.eval_shallow.proofs.OperandLaws.{Begins, begins-at, flat-leaves, flat-holds}
use Rattle.eval_shallow.proofs.Stops.{Is}
use Rattle.eval_shallow.proofs.FixedOperands.{second_at}
use Rattle.eval_shallow.proofs.SlotLaws.{leaf-does}

-- no other record is asked for
pub flat-else : {A : Type 0} (e : Expr) → IsPair (flat_of e) → (r : Shape) → r ≡ shape_of e → OneOf (0 ∷ 1 ∷ 2 ∷ 3 ∷ 4 ∷ []) (tag_of the_type r) → A
flat-else e h r i k = let z : ⊥ = rw (sym (none_beside e r i k)) at h in absurd z

module _ (t x : List ℕ) (limit p : ℕ) (sound : Sound t x p) {f : Fixed} (e : shape_of (expr_of t x p) ≡ Shape.Operands f) where
  -- what follows is an operand too
  pub then_at : (o : Outcome) (z : Rooms) {n : Next} {z' : Rooms} → NextIn n z' (next_of t limit p f o z) → {q : ℕ} {w : Used} → n ≡ Next.At q w → (next_of t limit p f o z).0 ≡ Next.At q w
  then_at o z next i = sym (sym i ∙ ap (λ (y : Next × Rooms). y.0) next)

  module _ (pair : IsPair (flat_of (expr_of t x p))) where
    leaves : Begins (λ e. is_leaf e ≡ true) (λ e. is_leaf e ≡ true) t x p f
    leaves = begins-at (λ e. is_leaf e ≡ true) (λ e. is_leaf e ≡ true) t x p sound f e (flat-leaves (operands_of (expr_of t x p)) pair)

    pub first_leaf : {q : ℕ} → q ≡ first_at t p f → Sound t x q × (get_or t q 0 < leaf_kinds)
    first_leaf i = let s = (fixed-at t x p sound f e).first in rw i (s, leaf-kind t x (first_at t p f) s leaves.first)

    pub next-leaf : (o : Outcome) (z : Rooms) {n : Next} {z' : Rooms} → NextIn n z' (next_of t limit p f o z) → {q : ℕ} {w : Used} → n ≡ Next.At q w →
        Sound t x q × (get_or t q 0 < leaf_kinds)
    next-leaf o z next {q} {w} i =
        let s = (second_at t x limit p (fixed-at t x p sound f e) o z next i).0 in
        (s, leaf-kind t x q s (leaves.next limit o z q w (then_at o z next i)))

    module _ (c : Scope) (v : Pair Slot) (holds : PairHolds c (flat_of (expr_of t x p)) v) where
      slots : Begins (λ e. slot_of c (slot_in e) ≡ v.first.value) (λ e. slot_of c (slot_in e) ≡ v.second.value) t x p f
      slots = begins-at (λ e. slot_of c (slot_in e) ≡ v.first.value) (λ e. slot_of c (slot_in e) ≡ v.second.value) t x p sound f e (flat-holds c v (operands_of (expr_of t x p)) holds)

      pub first_does : {q : ℕ} → q ≡ first_at t p f → (u : Used) {o : Outcome} → o ≡ leaf_step t limit (expr_of t x q) v.first.value u → (r : Rooms) →
          Is o r (machine t limit (expr_of t x (first_at t p f)) c u r)
      first_does i u h r =
          let k = first_leaf {q = first_at t p f} refl in
          leaf-does t x limit (first_at t p f) k.0 c u k.1 slots.first (rw i at h) r

      pub next-does : (o : Outcome) (z : Rooms) {n : Next} {z' : Rooms} → NextIn n z' (next_of t limit p f o z) → {q : ℕ} {y : Used} → n ≡ Next.At q y → {m : Outcome} →
          m ≡ leaf_step t limit (expr_of t x q) v.second.value y → (r : Rooms) → Is m r (machine t limit (expr_of t x q) c y r)
      next-does o z next {q} {y} i h r =
          let k = next-leaf o z next i in
          leaf-does t x limit q k.0 c y k.1 (slots.next limit o z q y (then_at o z next i)) h r

-- a literal or a name, or such a record
module _ (e : Expr) {b : Bool} (i : b ≡ is_leaf e) where
  pub leaf-slot : b ≡ true → (c : Scope) (v : Pair Slot) → PairHolds c (small_of e) v → slot_of c (slot_in e) ≡ v.first.value
  leaf-slot j c v h = let k : (slot_of c (slot_in e) ≡ v.first.value) × (slot_of c 0 ≡ v.second.value) = rw (sym i ∙ j) at h in k.0

  pub flat-pair : b ≡ false → IsPair (small_of e) → IsPair (flat_of e)
  flat-pair j h = rw (sym i ∙ j) at h

  pub flat-shows : b ≡ false → (c : Scope) (v : Pair Slot) → PairHolds c (small_of e) v → PairHolds c (flat_of e) v
  flat-shows j c v h = rw (sym i ∙ j) at h
