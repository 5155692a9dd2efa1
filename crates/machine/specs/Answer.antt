-- A whole run: the root record with nothing charged yet, then both rooms cleared below the counts unless there is a value. And what such an answer
-- says.
use Rattle.std.specs.Prelude.{ℕ, suc, ◌+◌, ◌*◌, ◌≡◌, List, [], ◌∷◌, length, get_or, take, drop, Some}
use Rattle.meaning.specs.Limits.{nothing_yet}
use Rattle.meaning.specs.Expr.{Expr}
use Rattle.meaning.specs.Run.{Trace}
use Rattle.meaning.specs.Limited as Limited
use Rattle.meaning.specs.Limited.{Cell, zero_cell, holding, rooms_after}
use Rattle.rooms.specs.declared.value.Value.{Value}
use Rattle.rooms.specs.declared.value.CellSpace.TheVariants as Cells
use Rattle.rooms.specs.declared.scope.Scope.{Scope}
use Rattle.rooms.specs.Rooms.{Rooms, cell_at}
use Rattle.rooms.specs.Reading.{reading}
use Rattle.rooms_taking.specs.Taking.{cells_cleared, bytes_cleared}
use Rattle.machine.specs.declared.outcome.Outcome.{Outcome}
use Rattle.machine.specs.Outcomes.{Res}
use Rattle.machine.specs.Machine.{machine}
use Rattle.meaning_laws.specs.Charges.{counts_of}
use Rattle.machine.specs.Refines.{used_of, error_of, limit_of}

-- ---- the run

-- a value leaves the rooms unchanged; otherwise what was charged is cleared
abbrev pub cells_left : Outcome → List ℕ → List ℕ
cells_left (Outcome.Value v u) words = words
cells_left (Outcome.Error e p u) words = cells_cleared words u.cells
cells_left (Outcome.Exhausted x u) words = cells_cleared words u.cells

abbrev pub text_left : Outcome → List ℕ → List ℕ
text_left (Outcome.Value v u) bytes = bytes
text_left (Outcome.Error e p u) bytes = bytes_cleared bytes u.bytes
text_left (Outcome.Exhausted x u) bytes = bytes_cleared bytes u.bytes

abbrev pub left : Outcome → Rooms → Rooms
left o r =
    record {
      literal = r.literal;
      binding_text = r.binding_text;
      text = text_left o r.text;
      binding_cells = r.binding_cells;
      cells = cells_left o r.cells;
    }

abbrev pub answered : (table : List ℕ) (limit : ℕ) → Expr → Scope → Rooms → Res
answered table limit e s r =
    let x : Res = machine table limit e s (used_of nothing_yet) r in
    (x.0, left x.0 x.1)

-- ---- what an answer says

-- a value reads as the definition's, an error has its number and place, exhaustion its limit; the counts are the same
abbrev pub Reads : Rooms → Outcome → Limited.Outcome → Type 0
Reads q o (Limited.value v c) = (m : Value) × (o ≡ Outcome.Value m (used_of c)) × (reading q m ≡ Some v)
Reads q o (Limited.error e c) = o ≡ Outcome.Error (error_of e.error) e.place (used_of c)
Reads q o (Limited.exhausted x c) = o ≡ Outcome.Exhausted (limit_of x) (used_of c)

abbrev pub CellHas : Rooms → ℕ → Cell → Type 0
CellHas q i zero_cell = (get_or q.cells (i * 2) 0 ≡ 0) × (get_or q.cells (i * 2 + 1) 0 ≡ 0)
CellHas q i (holding v) = reading q (cell_at q Cells.Evaluation i) ≡ Some v

abbrev pub CellsHave : Rooms → ℕ → List Cell → Type 0
CellsHave q i [] = Unit {0}
CellsHave q i (c ∷ cs) = CellHas q i c × CellsHave q (suc i) cs

-- r are the rooms before, q the rooms after
pub record Answers (r q : Rooms) (o : Outcome) (t : Trace) (end : Limited.Outcome) : Type 0 where
  pub answer : Reads q o end
  pub cells : CellsHave q 0 (rooms_after t end).cells
  pub counted : length (rooms_after t end).cells ≡ (counts_of end).cells
  pub bytes : take (counts_of end).bytes q.text ≡ (rooms_after t end).bytes
  pub cells_above : drop ((counts_of end).cells * 2) q.cells ≡ drop ((counts_of end).cells * 2) r.cells
  pub bytes_above : drop (counts_of end).bytes q.text ≡ drop (counts_of end).bytes r.text
  pub sized : length q.cells ≡ length r.cells
  pub text_sized : length q.text ≡ length r.text
  pub literals : q.literal ≡ r.literal
  pub binding_cells : q.binding_cells ≡ r.binding_cells
  pub binding_texts : q.binding_text ≡ r.binding_text
