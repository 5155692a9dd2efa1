-- `check` meets its contract: a law of `CheckLaws` for each answer. Assumes nothing.
use mathlib.Core.Path.{sym, ◌∙◌}
use lib.ListN.{length}
use borrow.Author.Tests.{eqb-true, eqb-false}
use Rattle.std.proofs.lemmas.Result.{err_from_is_err_and}
use Rattle.table_check.proofs.CheckLaws.{too_short, too_long, root-refused, root-whole, root-cut}
use Rattle.table_check.proofs.check.Goals.{then-is_empty-via-then-is_empty, then-is_empty-via-else-is_empty+then-table-gt-LONGEST_TABLE}
use Rattle.table_check.proofs.check.Goals as goal

pub returns-then-is_empty : goal.returns-then-is_empty
returns-then-is_empty c =
    rw c.at.ensures
    (elim c.then-is_empty.branch [
      | then-is_empty-via-then-is_empty w ↦
          too_short c.args.table.now c.args.text.now (eqb-true (length c.args.table.now) 0 (sym c.is_empty.ensures ∙ w.if-is_empty.true))
      | then-is_empty-via-else-is_empty+then-table-gt-LONGEST_TABLE w ↦ too_long c.args.table.now c.args.text.now w.if-table-gt-LONGEST_TABLE.true
    ])

pub returns-in_err-end : goal.returns-in_err-end
returns-in_err-end c =
    let p = err_from_is_err_and c.from_residual.result c.from_residual.ensures.1 in
    rw (p.1, p.2)
    (root-refused c.args.table.now c.args.text.now (eqb-false (length c.args.table.now) 0 (sym c.is_empty.ensures ∙ c.if-is_empty.false)) c.if-table-gt-LONGEST_TABLE.false
    c.record_at.ensures c.in_err-end.was)

pub returns-then-end-table : goal.returns-then-end-table
returns-then-end-table c =
    root-whole c.args.table.now c.args.text.now (eqb-false (length c.args.table.now) 0 (sym c.is_empty.ensures ∙ c.if-is_empty.false)) c.if-table-gt-LONGEST_TABLE.false
    c.record_at.ensures c.in_ok-end.was c.if-end-table.true

pub returns-else-end-table : goal.returns-else-end-table
returns-else-end-table c =
    rw c.at-else-end-table.ensures
    (root-cut c.args.table.now c.args.text.now (eqb-false (length c.args.table.now) 0 (sym c.is_empty.ensures ∙ c.if-is_empty.false)) c.if-table-gt-LONGEST_TABLE.false
    c.record_at.ensures c.in_ok-end.was c.if-end-table.false)
