-- `copying::copy_cells` meets its contract: what is left of the row is still to be copied. Assumes nothing.
use mathlib.Core.Path.{◌≡◌}
use lib.ListN as Lists
use Rattle.rooms_taking.proofs.CopySteps.{copies}
use Rattle.rooms.specs.Memory.{rooms_lent}
use Rattle.rooms_taking.proofs.copying.copy_cells.Given as goal

abbrev pub invariant-loop-done : goal.invariant-loop-done
invariant-loop-done l = record {
  same_literal : l.lent.literal.now ≡ l.initial.lent.literal.now;
  same_binding_cells : l.lent.binding_cells.now ≡ l.initial.lent.binding_cells.now;
  same_binding_text : l.lent.binding_text.now ≡ l.initial.lent.binding_text.now;
  same_cells : l.lent.cells.ghost_name ≡ l.initial.lent.cells.ghost_name;
  same_text : l.lent.text.ghost_name ≡ l.initial.lent.text.ghost_name;
  cells_long : Lists.length l.lent.cells.now ≡ Lists.length l.initial.lent.cells.now;
  text_long : Lists.length l.lent.text.now ≡ Lists.length l.initial.lent.text.now;
  left : copies l.row l.to l.done (rooms_lent l.lent) ≡ copies l.row l.to 0 (rooms_lent l.initial.lent);
}
