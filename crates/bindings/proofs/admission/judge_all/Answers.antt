-- `admission::judge_all` meets its contract. Assumes nothing.
use mathlib.Core.Path.{sym, ap, ◌∙◌}
use Rattle.std.specs.Prelude.{Err}
use Rattle.bindings.proofs.AcceptedLaws.{checked-read, handed_on, all-unsound, all-unnamed, all-bound, all-unread, all_read}
use Rattle.bindings.proofs.admission.judge_all.Goals as goal

pub returns-in-Err : goal.returns-in-Err
returns-in-Err c = ap Err c.at.ensures ∙ all-unsound c.args.cells.now c.args.text.now c.args.bindings c.args.name c.args.table.now c.args.literal.now c.in-Err.place (sym c.sound.ensures ∙ c.in-Err.is)

pub returns-then-name-ge-NAMES : goal.returns-then-name-ge-NAMES
returns-then-name-ge-NAMES c = ap Err c.at-then-name-ge-NAMES.ensures ∙ all-unnamed c.args.cells.now c.args.text.now c.args.bindings c.args.name c.args.table.now c.args.literal.now (sym c.sound.ensures ∙ c.in_default.is) c.if-name-ge-NAMES.true

pub returns-then-not-is_absent : goal.returns-then-not-is_absent
returns-then-not-is_absent c = ap Err c.at-then-not-is_absent.ensures ∙ all-bound c.args.cells.now c.args.text.now c.args.bindings c.args.name c.args.table.now c.args.literal.now (sym c.sound.ensures ∙ c.in_default.is) c.if-name-ge-NAMES.false c.value_of.result c.value_of.ensures (sym c.is_absent.ensures ∙ c.if-not-is_absent.true)

pub returns-in_err-check : goal.returns-in_err-check
returns-in_err-check c =
    handed_on c.from_residual.result c.in_err-check.field-0.0 c.from_residual.ensures.1
    ∙ all-unread c.args.cells.now c.args.text.now c.args.bindings c.args.name c.args.table.now c.args.literal.now (sym c.sound.ensures ∙ c.in_default.is) c.if-name-ge-NAMES.false c.value_of.result c.value_of.ensures (sym c.is_absent.ensures ∙ c.if-not-is_absent.false) c.in_err-check.field-0.0 (sym c.check.ensures ∙ c.in_err-check.was)

pub judge_table-requires : goal.judge_table-requires
judge_table-requires c = let q = checked-read c.args.table.now c.args.literal.now (sym c.check.ensures ∙ c.in_ok-check.was) in (q.root, q.long)

pub returns : goal.returns
returns c = all_read c.args.cells.now c.args.text.now c.args.bindings c.args.name c.args.table.now c.args.literal.now (sym c.sound.ensures ∙ c.in_default.is) c.if-name-ge-NAMES.false c.value_of.result c.value_of.ensures (sym c.is_absent.ensures ∙ c.if-not-is_absent.false) (sym c.check.ensures ∙ c.in_ok-check.was) c.cell_room.result c.text_room.result c.cell_room.ensures c.text_room.ensures c.judge_table.ensures
