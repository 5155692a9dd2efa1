-- `copying::copy_cells` meets its contract. Assumes nothing.
use Prim.Native.Nat.{◌+◌}
use mathlib.Core.Path.{ap, ◌∙◌}
use Rattle.rooms.specs.Cells.{written_in}
use Rattle.rooms.specs.Rooms.{with_words, cell_at}
use Rattle.rooms.specs.Memory.{rooms_lent}
use Rattle.rooms_taking.proofs.CopySteps.{copies, copies-all, copies-on, copies-none}
use Rattle.rooms_taking.proofs.copying.copy_cells.Goals as goal

pub loop-done-preserved : goal.loop-done-preserved
loop-done-preserved c = record {
  same_literal = c.store.ensures.same_literal ∙ c.loop-done.invariant.same_literal;
  same_binding_cells = c.store.ensures.same_binding_cells ∙ c.loop-done.invariant.same_binding_cells;
  same_binding_text = c.store.ensures.same_binding_text ∙ c.loop-done.invariant.same_binding_text;
  same_cells = c.store.ensures.same_cells ∙ c.loop-done.invariant.same_cells;
  same_text = c.store.ensures.same_text ∙ c.loop-done.invariant.same_text;
  cells_long = c.store.ensures.cells_long ∙ c.loop-done.invariant.cells_long;
  text_long = c.store.ensures.text_long ∙ c.loop-done.invariant.text_long;
  left = ap (copies c.args.row c.args.to (c.loop-done.done + 1)) (c.store.ensures.rooms_after
      ∙ ap (λ v. with_words (rooms_lent c.loop-done.lent) (written_in c.loop-done.lent.cells.now (c.args.to + c.loop-done.done) v))
      (c.cell_at-value.ensures ∙ ap (λ r. cell_at r c.args.row.space (c.args.row.first + c.loop-done.done)) c.view.ensures))
      ∙ copies-on c.args.row c.args.to c.loop-done.done (rooms_lent c.loop-done.lent) c.loop-done-test.true ∙ c.loop-done.invariant.left;
}

pub returns : goal.returns
returns c = record {
  same_literal = c.loop-done.invariant.same_literal;
  same_binding_cells = c.loop-done.invariant.same_binding_cells;
  same_binding_text = c.loop-done.invariant.same_binding_text;
  same_cells = c.loop-done.invariant.same_cells;
  same_text = c.loop-done.invariant.same_text;
  cells_long = c.loop-done.invariant.cells_long;
  text_long = c.loop-done.invariant.text_long;
  rooms_after = copies-none c.args.row c.args.to c.loop-done.done (rooms_lent c.loop-done.lent) c.loop-done-test.false
      ∙ c.loop-done.invariant.left ∙ copies-all c.args.row c.args.to (rooms_lent c.args.lent.now);
}
