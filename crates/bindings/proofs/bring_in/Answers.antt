-- `bring_in` meets its contract. Assumes nothing.
use mathlib.Core.Path.{sym, ◌∙◌}
use Rattle.std.proofs.Common.{rules}
use Rattle.bindings.proofs.AcceptedLaws.{brought-refused, brought-asks, brought-done}
use Rattle.bindings.proofs.bring_in.Goals as goal

pub returns-in_err-judge_all : goal.returns-in_err-judge_all
returns-in_err-judge_all c =
    brought-refused c.args.cells.now c.args.text.now c.args.bindings.now c.args.name c.args.table.now c.args.literal.now c.in_err-judge_all.field-0.0
    c.from_residual.result c.from_residual.ensures.1 (sym c.in_err-judge_all.was ∙ c.judge_all.ensures)

pub lay-value-requires : goal.lay-value-requires
lay-value-requires c =
    brought-asks c.args.cells.now c.args.text.now c.args.bindings.now c.args.name c.args.table.now c.args.literal.now (sym c.in_ok-judge_all.was ∙ c.judge_all.ensures)

pub returns : goal.returns
returns c =
    brought-done c.args.cells.now c.args.text.now c.args.bindings.now c.args.name c.args.table.now c.args.literal.now (sym c.in_ok-judge_all.was ∙ c.judge_all.ensures)
    c.lay-value.ensures.laid c.with.ensures (search rules) (search rules)
