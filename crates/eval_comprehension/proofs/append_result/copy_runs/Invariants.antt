-- `append_result::copy_runs` meets its contract: what is left of the runs is still to be copied. Assumes nothing.
use Prim.Native.Nat.{◌+◌, ◌*◌, ◌-◌, ◌<◌}
use mathlib.Core.Path.{◌≡◌}
use lib.ListN as Lists
use Rattle.rooms.specs.Memory.{rooms_lent}
use Rattle.eval_comprehension.proofs.AppendResultLaws.{copies}
use Rattle.eval_comprehension.proofs.append_result.copy_runs.Given as goal

abbrev pub invariant-loop-index : goal.invariant-loop-index
invariant-loop-index l = record {
  same_literal : l.lent.literal.now ≡ l.initial.lent.literal.now;
  same_binding_cells : l.lent.binding_cells.now ≡ l.initial.lent.binding_cells.now;
  same_binding_text : l.lent.binding_text.now ≡ l.initial.lent.binding_text.now;
  same_cells : l.lent.cells.ghost_name ≡ l.initial.lent.cells.ghost_name;
  same_text : l.lent.text.ghost_name ≡ l.initial.lent.text.ghost_name;
  cells_long : Lists.length l.lent.cells.now ≡ Lists.length l.initial.lent.cells.now;
  text_long : Lists.length l.lent.text.now ≡ Lists.length l.initial.lent.text.now;
  room : l.place + (l.runs - l.index) * 65535 < 281474976710656;
  left : copies l.firsts l.counts l.runs l.index l.place (rooms_lent l.lent) ≡ copies l.firsts l.counts l.runs 0 l.to (rooms_lent l.initial.lent);
}
