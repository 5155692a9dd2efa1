-- `append_result::copy_runs` meets its contract. Assumes nothing.
use Prim.Native.Nat.{◌+◌}
use mathlib.Core.Path.{ap, ◌∙◌}
use Rattle.rooms.specs.Memory.{rooms_lent}
use native.Mathlib.Omega.{arith}
use Rattle.eval_comprehension.proofs.AppendResultLaws.{copies, copies-all, copies-on, copies-none}
use Rattle.eval_comprehension.proofs.append_result.copy_runs.Goals as goal

pub loop-index-preserved : goal.loop-index-preserved
loop-index-preserved c = record {
  same_literal = c.copy_cells.ensures.same_literal ∙ c.loop-index.invariant.same_literal;
  same_binding_cells = c.copy_cells.ensures.same_binding_cells ∙ c.loop-index.invariant.same_binding_cells;
  same_binding_text = c.copy_cells.ensures.same_binding_text ∙ c.loop-index.invariant.same_binding_text;
  same_cells = c.copy_cells.ensures.same_cells ∙ c.loop-index.invariant.same_cells;
  same_text = c.copy_cells.ensures.same_text ∙ c.loop-index.invariant.same_text;
  cells_long = c.copy_cells.ensures.cells_long ∙ c.loop-index.invariant.cells_long;
  text_long = c.copy_cells.ensures.text_long ∙ c.loop-index.invariant.text_long;
  room = omega (arith, c.loop-index.invariant.room, c.loop-index-test.true, c.number_at-length.type_inv);
  left = ap (copies c.args.firsts.now c.args.counts.now c.args.runs (c.loop-index.index + 1) (c.loop-index.place + c.number_at-length.result)) c.copy_cells.ensures.rooms_after
      ∙ copies-on c.args.firsts.now c.args.counts.now c.args.runs c.loop-index.index c.loop-index.place (rooms_lent c.loop-index.lent) c.loop-index-test.true c.number_at-first.ensures c.number_at-length.ensures
      ∙ c.loop-index.invariant.left;
}

pub returns : goal.returns
returns c = record {
  same_literal = c.loop-index.invariant.same_literal;
  same_binding_cells = c.loop-index.invariant.same_binding_cells;
  same_binding_text = c.loop-index.invariant.same_binding_text;
  same_cells = c.loop-index.invariant.same_cells;
  same_text = c.loop-index.invariant.same_text;
  cells_long = c.loop-index.invariant.cells_long;
  text_long = c.loop-index.invariant.text_long;
  rooms_after = copies-none c.args.firsts.now c.args.counts.now c.args.runs c.loop-index.index c.loop-index.place (rooms_lent c.loop-index.lent) c.loop-index-test.false
      ∙ c.loop-index.invariant.left ∙ copies-all c.args.firsts.now c.args.counts.now c.args.runs c.args.to (rooms_lent c.args.lent.now);
}
