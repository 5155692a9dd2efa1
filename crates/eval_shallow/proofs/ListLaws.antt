-- The elements of a List record, one at a time: what follows one, over what the calls for it ensure. Assumes nothing.
use Prim.Native.Nat.{ℕ, ◌+◌, ◌-◌, ◌<◌, ◌≤◌}
use mathlib.Core.Path.{◌≡◌, sym, ◌∙◌, ap}
use mathlib.Core.Bool.{Bool}
use mathlib.Core.List.{List}
use Rattle.std.specs.Prelude.{Option, None, Some}
use native.Mathlib.Omega.{arith}
use lib.Dec.{eqb}
use lib.ListN.{get_or}
use Rattle.rooms.specs.declared.value.Value.{Value}
use Rattle.rooms.specs.declared.scope.Scope.{Scope}
use Rattle.rooms.specs.declared.memory.Lent.{Lent}
use Rattle.rooms.specs.Rooms.{Rooms}
use Rattle.rooms.specs.Memory.{rooms_lent}
use Rattle.table_layout.specs.Layout.{after}
use Rattle.table_check.specs.Records.{SoundPart, expr_of, elements_of}
use Rattle.machine.specs.declared.outcome.Used.{Used}
use Rattle.machine.specs.declared.outcome.Outcome.{Outcome}
use Rattle.machine.specs.Outcomes.{Res}
use Rattle.machine.specs.Views.{part_in}
use Rattle.machine.specs.Containers as Containers
use Rattle.machine.specs.Containers.{Filling, list_done}
use Rattle.machine.specs.Machine.{elements, machine}
use Rattle.eval_outcomes.specs.Gives.{Gives}
use Rattle.eval_containers.specs.declared.Ready.{Ready}
use Rattle.eval_containers.specs.Filling.{added_of}
use Rattle.eval_containers.proofs.FillingLaws.{added}
use Rattle.eval_shapes.specs.Leaves.{unmarked_at}
use Rattle.eval_shapes.proofs.Rows.{elements-next, element-does}
use Rattle.eval_shallow.proofs.Stops.{Is, Stops, stops-there, goes_on}

by_part : (o : Option Value) (base : ℕ) (g : Ready) (r : Rooms) {h : Ready} → h ≡ (added_of base g o r).0 → h.count ≤ g.count + 1
by_part None base g r e = omega (arith, ap (λ (y : Ready). y.count) e)
by_part (Some v) base g r e = omega (arith, ap (λ (y : Ready). y.count) e)

pub added-count : (base : ℕ) (g : Ready) (marked : Bool) (v : Value) {h : Ready} {old new : Lent} → Gives h old new (λ r. added_of base g (part_in r marked v) r) → h.count ≤ g.count + 1
added-count base g marked v {old = old} e = by_part (part_in (rooms_lent old) marked v) base g (rooms_lent old) (ap (λ (y : Ready × Rooms). y.0) e.gives)

module _ (t x : List ℕ) (limit base : ℕ) (c : Scope) where
  -- n elements are left, the next of them at q
  abbrev pub from_element : (n q : ℕ) → Ready → Used → Rooms → Res
  from_element n q g u r = elements t limit (elements_of t x n q) c base g.count g.deep u r

  pub no-element : (n q : ℕ) → n ≡ 0 → (g : Ready) (u : Used) (r : Rooms) → from_element n q g u r ≡ list_done base g.count g.deep u r
  unfolding elements
  no-element n q e g u r = rw e

  module _ (n q : ℕ) (h : 0 < n) (sound : SoundPart t x q) (g : Ready) (u : Used) (r : Rooms) where
    abbrev does : Res
    does = machine t limit (expr_of t x (unmarked_at t q)) c u r

    rest : Filling
    rest m d w o = elements t limit (elements_of t x (n - 1) (after t q)) c base m d w o

    this-element : from_element n q g u r ≡
        Containers.element (eqb (get_or t q 0) 14) (machine t limit (expr_of t x (unmarked_at t q))) c base g.count g.deep u r
        (λ m d w o. elements t limit (elements_of t x (n - 1) (after t q)) c base m d w o)
    this-element = rw (elements-next t x n q h) (element-does t limit c base g.count g.deep u r x q sound (elements_of t x (n - 1) (after t q)))

    pub element-stops : {o : Outcome} {z : Rooms} → Is o z does → Stops o → Is o z (from_element n q g u r)
    element-stops e s = stops-there does e s _ ∙ sym this-element

    pub element-again : {o : Outcome} {old new : Lent} → Is o (rooms_lent old) does → {v : Value} {w : Used} → o ≡ Outcome.Value v w → {b : Bool} →
        b ≡ eqb (get_or t q 0) 14 → {k : Ready} → Gives k old new (λ r. added_of base g (part_in r b v) r) →
        from_element (n - 1) (after t q) k w (rooms_lent new) ≡ from_element n q g u r
    element-again e {v} {w} is {b} m {k} a =
        let f = rw m at a in
        sym (added base w (λ m d w o. elements t limit (elements_of t x (n - 1) (after t q)) c base m d w o) g (eqb (get_or t q 0) 14) v f) ∙
        (goes_on does e is _ ∙ sym this-element)
