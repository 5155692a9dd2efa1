-- The slots of a record within reach, as the code finds them, and what they tell of a literal or a name and of a record that is near.
-- Assumes nothing.
use Prim.Native.Nat.{ℕ}
use mathlib.Core.Path.{◌≡◌, sym, ◌∙◌}
use mathlib.Core.Bool.{Bool, true, false}
use Rattle.meaning.specs.Expr.{Expr}
use Rattle.std.specs.Prelude.{Option, Some}
use Rattle.rooms.specs.declared.scope.Slot.{Slot}
use Rattle.rooms.specs.declared.scope.Scope.{Scope}
use Rattle.rooms.specs.Scope.{slot_of}
use Rattle.eval_shapes.specs.Leaves.{slot_in}
use Rattle.eval_shallow.specs.declared.slots.Pair.{Pair}
use Rattle.eval_shallow.specs.Slots.{is_leaf, pair, near_of, IsQuad, QuadHolds}
use Rattle.eval_shallow.specs.Shallow.{reach_of}

module _ (e : Expr) {b : Bool} (i : b ≡ is_leaf e) where
  pub leaf-slots : b ≡ true → {n : ℕ} → n ≡ slot_in e → Some (record { first = pair n 0; second = pair 0 0 }) ≡ reach_of e
  leaf-slots j k = rw (sym i ∙ j, k)

  pub near-slots : b ≡ false → {m : Option (Pair (Pair ℕ))} → m ≡ near_of e → m ≡ reach_of e
  near-slots j k = rw (sym i ∙ j) k

  pub leaf-slot : b ≡ true → (c : Scope) (v : Pair (Pair Slot)) → QuadHolds c (reach_of e) v → slot_of c (slot_in e) ≡ v.first.first.value
  leaf-slot j c v h =
      let k : QuadHolds c (Some (record { first = pair (slot_in e) 0; second = pair 0 0 })) v = rw (sym i ∙ j) at h in
      k.0.0

  pub near-quad : b ≡ false → IsQuad (reach_of e) → IsQuad (near_of e)
  near-quad j h = rw (sym i ∙ j) at h

  pub near-shows : b ≡ false → (c : Scope) (v : Pair (Pair Slot)) → QuadHolds c (reach_of e) v → QuadHolds c (near_of e) v
  near-shows j c v h = rw (sym i ∙ j) at h
