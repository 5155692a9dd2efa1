-- A literal or a name gives what the machine gives in any scope that has its value in its slot. Assumes nothing.
use Prim.Native.Nat.{ℕ, ◌<◌}
use mathlib.Core.Path.{◌≡◌, sym, ◌∙◌, ap}
use mathlib.Core.List.{List}
use mathlib.Core.Bool.{Bool, true}
use lib.Dec.{ltb}
use lib.ListN.{get_or}
use borrow.Author.Tests.{ltb-true}
use Rattle.rooms.specs.declared.value.Value.{Value}
use Rattle.rooms.specs.declared.scope.Scope.{Scope}
use Rattle.rooms.specs.Rooms.{Rooms}
use Rattle.rooms.specs.Scope.{slot_of}
use Rattle.table_check.specs.Records.{expr_of, Sound}
use Rattle.machine.specs.declared.outcome.Used.{Used}
use Rattle.machine.specs.declared.outcome.Outcome.{Outcome}
use Rattle.machine.specs.Machine.{machine}
use Rattle.eval_shapes.specs.Leaves.{leaf_kinds, slot_in, leaf_step}
use Rattle.eval_shapes.proofs.LeafLaws.{leaf-machine}
use Rattle.eval_shallow.proofs.Stops.{Is}

pub leaf-here : (t : List ℕ) (p : ℕ) {l : Bool} → l ≡ ltb (get_or t p 0) leaf_kinds → l ≡ true → get_or t p 0 < leaf_kinds
leaf-here t p e f = ltb-true (get_or t p 0) leaf_kinds (sym e ∙ f)

pub leaf-does : (t x : List ℕ) (limit p : ℕ) → Sound t x p → (c : Scope) (u : Used) → get_or t p 0 < leaf_kinds → {v : Value} → slot_of c (slot_in (expr_of t x p)) ≡ v →
    {o : Outcome} → o ≡ leaf_step t limit (expr_of t x p) v u → (r : Rooms) → Is o r (machine t limit (expr_of t x p) c u r)
leaf-does t x limit p sound c u h e f r =
    ap (λ (o : Outcome). (o, r)) (f ∙ ap (λ (v : Value). leaf_step t limit (expr_of t x p) v u) (sym e)) ∙ sym (leaf-machine t x p sound h limit c u r)
