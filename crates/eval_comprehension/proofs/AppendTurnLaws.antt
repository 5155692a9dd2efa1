-- The append path: what the code gathers is what the machine does. Assumes nothing.
use Prim.Native.Nat.{ℕ}
use mathlib.Core.Path.{◌≡◌, refl, sym, ap, ◌∙◌}
use lib.Dec.{eqb}
use Rattle.std.specs.Prelude.{Option, None, Some, Result}
use Rattle.rooms.specs.declared.value.Value.{Value}
use Rattle.rooms.specs.declared.value.Row.{Row}
use Rattle.rooms.specs.declared.value.Parts.{Parts}
use Rattle.rooms.specs.declared.memory.Lent.{Lent}
use Rattle.rooms.specs.Rooms.{Rooms, with_words}
use Rattle.rooms.specs.Memory.{rooms_lent}
use Rattle.rooms.specs.Value.{parts_of, nesting_of}
use Rattle.rooms_taking.specs.Taking.{cell_room, taken_of, cells_taken, copied}
use Rattle.machine.specs.declared.outcome.Used.{Used}
use Rattle.machine.specs.declared.outcome.Limit.TheVariants as Limit
use Rattle.machine.specs.declared.outcome.Outcome.{Outcome}
use Rattle.machine.specs.Outcomes.{Res, with_cells, with_value, on_taken}
use Rattle.machine.specs.Comprehension as Machine
use Rattle.machine.specs.Comprehension.{Gathered, Gathering, add_run}
use Rattle.eval_outcomes.specs.Gives.{Gives}
use Rattle.eval_comprehension.specs.declared.append_turn.Turn.{Turn}
use Rattle.eval_comprehension.specs.AppendTurn.{gather_to, gather_parts, gather_of, on_gather}

module _ (g : Gathered) (rest : Gathering) where
  abbrev on_both : Result Turn Outcome × Rooms → Res
  on_both y = on_gather y.0 g y.1 rest

  by-taken : (ro : Row) (d : ℕ) (u : Used) (q : Rooms) (k : Option ℕ) →
      on_taken k
      (λ end. rest (add_run (eqb ro.length 0) g u.cells ro.length d) (with_cells u end) (with_words q (copied q.binding_cells ro.space q.cells ro.first u.cells ro.length)))
      (Outcome.Exhausted Limit.Cells u, q) ≡
      on_both (gather_to k ro d u q)
  by-taken ro d u q (Some end) = refl
  by-taken ro d u q None = refl

  by_parts : (v : Value) (u : Used) (r : Rooms) (p : Parts) → Machine.gather_parts v g p u r rest ≡ on_both (gather_parts v p u r)
  by_parts v u r (Parts.Elements ro) =
      by-taken ro (nesting_of v) u (with_words r (cells_taken r.cells u.cells ro.length)) (taken_of (cell_room r.cells) u.cells ro.length)
  by_parts v u r (Parts.Entries ro) = refl
  by_parts v u r (Parts.Present s a) = refl
  by_parts v u r Parts.Nothing = refl

  by-items : (o : Outcome) (r : Rooms) → with_value o r (λ v u q. Machine.gather_parts v g (parts_of v) u q rest) ≡ on_both (gather_of o r)
  by-items (Outcome.Value v u) r = by_parts v u r (parts_of v)
  by-items (Outcome.Error e p u) r = refl
  by-items (Outcome.Exhausted y u) r = refl

  -- what an items list gave, gathered: `r` is what there was before, and `q` after it
  pub items_in : (o : Outcome) (r : Rooms) {a : Result Turn Outcome} {q : Rooms} → ◌≡◌ {A = Result Turn Outcome × Rooms} (a, q) (gather_of o r) →
      with_value o r (λ v u q. Machine.gather_parts v g (parts_of v) u q rest) ≡ on_gather a g q rest
  items_in o r e = by-items o r ∙ ap on_both (sym e)

  -- the same of what is lent: `old` before, and `new` after it
  pub items_as : (o : Outcome) {a : Result Turn Outcome} {old new : Lent} → Gives a old new (λ r. gather_of o r) →
      with_value o (rooms_lent old) (λ v u q. Machine.gather_parts v g (parts_of v) u q rest) ≡ on_gather a g (rooms_lent new) rest
  items_as o {a} {old} e = items_in o (rooms_lent old) e.gives
