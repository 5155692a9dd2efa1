-- A container takes its cells as it begins; a List record from its cells on. Assumes nothing.
use Prim.Native.Nat.{ℕ, ◌+◌}
use mathlib.Core.Path.{◌≡◌, sym, ◌∙◌, ap}
use mathlib.Core.List.{List}
use lib.ListN.{get_or}
use Rattle.rooms.specs.declared.scope.Scope.{Scope}
use Rattle.std.specs.Prelude.{Option, None, Some}
use Rattle.rooms.specs.declared.memory.Lent.{Lent}
use Rattle.rooms.specs.Rooms.{Rooms}
use Rattle.rooms.specs.Memory.{rooms_lent}
use Rattle.table_layout.specs.Layout.{word_at}
use Rattle.table_check.specs.Records.{expr_of, Sound, elements_of}
use Rattle.machine.specs.declared.outcome.Used.{Used}
use Rattle.machine.specs.declared.outcome.Limit.TheVariants as Limit
use Rattle.machine.specs.declared.outcome.Outcome.{Outcome}
use Rattle.machine.specs.Outcomes.{Res, taking}
use Rattle.machine.specs.Machine.{body, elements}
use Rattle.eval_outcomes.specs.Gives.{Gives}
use Rattle.eval_containers.specs.declared.Begun.{Begun}
use Rattle.eval_containers.specs.Filling.{begun_of}
use Rattle.eval_containers.proofs.FillingLaws.{on_begun, begun, begun-within}
use Rattle.eval_shapes.proofs.Rows.{list_at}
use Rattle.eval_shallow.proofs.Stops.{Is}

-- ---- the cells

module _ (n count : ℕ) (u : Used) {b : Option Begun} {old new : Lent} (taken : Gives b old new (λ r. begun_of n count u r)) where
  begins : (k : Used → Rooms → Res) → on_begun b u (rooms_lent new) k ≡ taking count u (rooms_lent old) k
  begins k = sym (begun n count u k taken)

  pub begun-full : b ≡ None → (k : Used → Rooms → Res) → Is (Outcome.Exhausted Limit.Cells u) (rooms_lent new) (taking count u (rooms_lent old) k)
  begun-full e k = ap (λ b. on_begun b u (rooms_lent new) k) (sym e) ∙ begins k

  module _ {g : Begun} (is : b ≡ Some g) where
    pub begun-at : (k : Used → Rooms → Res) → k g.used (rooms_lent new) ≡ taking count u (rooms_lent old) k
    begun-at k = ap (λ b. on_begun b u (rooms_lent new) k) (sym is) ∙ begins k

    pub begun-places : (g.first ≡ u.cells) × (g.parts ≡ n)
    begun-places = let f = begun-within n count u (rw is at taken) in (f.0, f.1)

-- ---- a List record

module _ (t x : List ℕ) (limit p : ℕ) (sound : Sound t x p) (s : Scope) (u : Used) (k : get_or t p 0 ≡ 12)
    {n : ℕ} (count : n ≡ word_at t (p + 3)) {b : Option Begun} {old new : Lent} (begun : Gives b old new (λ r. begun_of n n u r)) where
  list-does : taking n u (rooms_lent old) (λ w o. elements t limit (elements_of t x n (p + 5)) s u.cells 0 0 w o) ≡ body t limit (expr_of t x p) s u (rooms_lent old)
  list-does = rw count (sym ((list_at t x p sound k).does limit s u (rooms_lent old)))

  pub list_full : b ≡ None → {o : Outcome} → o ≡ Outcome.Exhausted Limit.Cells u → Is o (rooms_lent new) (body t limit (expr_of t x p) s u (rooms_lent old))
  list_full e f = rw f (begun-full n n u begun e (λ w o. elements t limit (elements_of t x n (p + 5)) s u.cells 0 0 w o) ∙ list-does)

  pub list-is : {g : Begun} → b ≡ Some g → {o : Outcome} {z : Rooms} →
      Is o z (elements t limit (elements_of t x g.parts (p + 5)) s g.first 0 0 g.used (rooms_lent new)) → Is o z (body t limit (expr_of t x p) s u (rooms_lent old))
  list-is e f =
      let q = begun-places n n u begun e in
      let g = rw (q.0, q.1) at f in
      g ∙ (begun-at n n u begun e (λ w o. elements t limit (elements_of t x n (p + 5)) s u.cells 0 0 w o) ∙ list-does)
