-- What a literal, a name, optional.none or a Map does after its step, over what the calls for it ensure. Assumes nothing.
use Prim.Native.Nat.{ℕ, ◌+◌, ◌*◌, ◌<◌}
use mathlib.Core.Path.{◌≡◌, sym, ◌∙◌, ap}
use mathlib.Core.List.{List}
use lib.ListN.{length, get_or}
use Rattle.rooms.specs.declared.value.Value.TheVariants as Value
use Rattle.rooms.specs.declared.scope.Scope.{Scope}
use Rattle.std.specs.Prelude.{Option, None, Some}
use Rattle.rooms.specs.declared.memory.Lent.{Lent}
use Rattle.rooms.specs.Rooms.{Rooms}
use Rattle.rooms.specs.Memory.{rooms_lent}
use Rattle.rooms.specs.Scope.{slot_of}
use Rattle.rooms.proofs.Scopes.{read-slot}
use Rattle.table_layout.specs.Layout.{word_at}
use Rattle.table_check.specs.Records.{expr_of, Sound, pairs_of}
use Rattle.machine.specs.declared.outcome.Used.{Used}
use Rattle.machine.specs.declared.outcome.Limit.TheVariants as Limit
use Rattle.machine.specs.declared.outcome.Outcome.{Outcome}
use Rattle.machine.specs.Outcomes.{Res, taking}
use Rattle.machine.specs.Machine.{body, entries}
use Rattle.eval_outcomes.specs.Gives.{Gives}
use Rattle.eval_containers.specs.declared.Begun.{Begun}
use Rattle.eval_containers.specs.Filling.{begun_of}
use Rattle.eval_shapes.specs.declared.Shape.{Shape}
use Rattle.eval_shapes.specs.Leaves.{leaf_kinds, slot_in, leaf_out}
use Rattle.eval_shapes.specs.Shapes.{shape_of}
use Rattle.eval_shapes.proofs.LeafLaws.{leaf-body}
use Rattle.eval_shapes.proofs.Rows.{map_at}
use Rattle.eval_shallow.proofs.Stops.{Is}
use Rattle.eval_shallow.proofs.BeginLaws.{begun-full, begun-at, begun-places}
use Rattle.eval_record.proofs.SlotReads.{beyond}
use Rattle.eval_shapes.proofs.ShapeLaws.{none-body}

module _ (t x : List ℕ) (limit p : ℕ) (sound : Sound t x p) (s : Scope) (u : Used) where
  abbrev pub this : Rooms → Res
  this r = body t limit (expr_of t x p) s u r

  pub leaf-is : length s.slots ≡ 128 → get_or t p 0 < leaf_kinds → {n : ℕ} → (n ≡ slot_in (expr_of t x p)) × (n < 128) → {o : Outcome} →
      o ≡ leaf_out t (expr_of t x p) (get_or s.slots n beyond).value u → (r : Rooms) → Is o r (this r)
  leaf-is long h {n} e f r =
      ap (λ (o : Outcome). (o, r)) (f ∙ (ap (λ v. leaf_out t (expr_of t x p) v u) (read-slot s n beyond long e.1) ∙
      ap (λ (n : ℕ). leaf_out t (expr_of t x p) (slot_of s n) u) e.0)) ∙ sym (leaf-body t x p sound h limit s u r)

  pub none_is : {f : Shape} → f ≡ shape_of (expr_of t x p) → f ≡ Shape.None → (r : Rooms) → Is (Outcome.Value Value.OptionalNone u) r (this r)
  none_is e f r = sym (none-body t limit s u r (expr_of t x p) (sym e ∙ f))

  module _ (k : get_or t p 0 ≡ 13) {n : ℕ} (count : n ≡ word_at t (p + 3)) {b : Option Begun} {old new : Lent} (begun : Gives b old new (λ r. begun_of n (2 * n) u r)) where
    map-does : taking (2 * n) u (rooms_lent old) (λ w o. entries t limit p (pairs_of t x n (p + 5)) s u.cells 0 0 w o) ≡ this (rooms_lent old)
    map-does = rw count (sym ((map_at t x p sound k).does limit s u (rooms_lent old)))

    pub map-full : b ≡ None → {o : Outcome} → o ≡ Outcome.Exhausted Limit.Cells u → Is o (rooms_lent new) (this (rooms_lent old))
    map-full e f = rw f (begun-full n (2 * n) u begun e (λ w o. entries t limit p (pairs_of t x n (p + 5)) s u.cells 0 0 w o) ∙ map-does)

    pub map_is : {g : Begun} → b ≡ Some g → {o : Outcome} {z : Rooms} →
        Is o z (entries t limit p (pairs_of t x g.parts (p + 5)) s g.first 0 0 g.used (rooms_lent new)) → Is o z (this (rooms_lent old))
    map_is e f =
        let q = begun-places n (2 * n) u begun e in
        let g = rw (q.0, q.1) at f in
        g ∙ (begun-at n (2 * n) u begun e (λ w o. entries t limit p (pairs_of t x n (p + 5)) s u.cells 0 0 w o) ∙ map-does)
