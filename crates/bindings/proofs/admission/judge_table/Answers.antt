-- `admission::judge_table` meets its contract. Assumes nothing.
use mathlib.Core.Path.{sym, ap, ◌∙◌}
use Rattle.std.specs.Prelude.{Err}
use native.Mathlib.Omega.{arith}
use Rattle.bindings_literals.proofs.PartLaws.{bare-part}
use Rattle.bindings.proofs.BringSteps.{table-other, table-deep, table-key, table-cells, table-bytes, table_done}
use Rattle.bindings.proofs.admission.judge_table.Goals as goal

pub judge-judged-requires : goal.judge-judged-requires
judge-judged-requires c = ((bare-part c.args.table.now c.args.literal.now 0 c.requires.0).0, c.requires.1)

pub returns-in-Some : goal.returns-in-Some
returns-in-Some c = ap Err c.at.ensures ∙ table-other c.args.table.now c.args.literal.now (λ i. omega (arith, c.shared_slice_known-1.given i)) c.requires.0 c.args.room_cells c.args.room_bytes c.args.cells c.args.bytes c.judge-judged.result c.judge-judged.ensures.0 c.in-Some.place c.in-Some.is

pub returns-then-judged : goal.returns-then-judged
returns-then-judged c = ap Err c.at-then-judged.ensures ∙ table-deep c.args.table.now c.args.literal.now (λ i. omega (arith, c.shared_slice_known-1.given i)) c.requires.0 c.args.room_cells c.args.room_bytes c.args.cells c.args.bytes c.judge-judged.result c.judge-judged.ensures.0 c.in_default.is c.if-judged.true

pub returns-in-Some-key : goal.returns-in-Some-key
returns-in-Some-key c = ap Err c.at-in-Some-key.ensures ∙ table-key c.args.table.now c.args.literal.now (λ i. omega (arith, c.shared_slice_known-1.given i)) c.requires.0 c.args.room_cells c.args.room_bytes c.args.cells c.args.bytes c.judge-judged.result c.judge-judged.ensures.0 c.in_default.is c.if-judged.false c.in-Some-key.place c.in-Some-key.is

pub returns-then-not-has_room : goal.returns-then-not-has_room
returns-then-not-has_room c = ap Err c.at-then-not-has_room.ensures ∙ table-cells c.args.table.now c.args.literal.now (λ i. omega (arith, c.shared_slice_known-1.given i)) c.requires.0 c.args.room_cells c.args.room_bytes c.args.cells c.args.bytes c.judge-judged.result c.judge-judged.ensures.0 c.in_default.is c.if-judged.false c.in_default-key.is (sym c.has_room.ensures ∙ c.if-not-has_room.true)

pub returns-then-not-has_room-2 : goal.returns-then-not-has_room-2
returns-then-not-has_room-2 c = ap Err c.at-then-not-has_room-2.ensures ∙ table-bytes c.args.table.now c.args.literal.now (λ i. omega (arith, c.shared_slice_known-1.given i)) c.requires.0 c.args.room_cells c.args.room_bytes c.args.cells c.args.bytes c.judge-judged.result c.judge-judged.ensures.0 c.in_default.is c.if-judged.false c.in_default-key.is (sym c.has_room.ensures ∙ c.if-not-has_room.false) (sym c.has_room-2.ensures ∙ c.if-not-has_room-2.true)

pub returns : goal.returns
returns c = table_done c.args.table.now c.args.literal.now (λ i. omega (arith, c.shared_slice_known-1.given i)) c.requires.0 c.args.room_cells c.args.room_bytes c.args.cells c.args.bytes c.judge-judged.result c.judge-judged.ensures.0 c.in_default.is c.if-judged.false c.in_default-key.is (sym c.has_room.ensures ∙ c.if-not-has_room.false) (sym c.has_room-2.ensures ∙ c.if-not-has_room-2.false)
