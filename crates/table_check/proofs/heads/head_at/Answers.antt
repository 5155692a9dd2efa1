-- `heads::head_at` meets its contract: a law of `HeadLaws` for each answer. Assumes nothing.
use mathlib.Core.Path.{sym, ◌∙◌, ap}
use lib.ListN.{get_or}
use Rattle.table_layout.specs.Layout.{head_bytes}
use Rattle.table_layout.proofs.KindLaws.{known-kind, unknown-kind}
use Rattle.table_check.proofs.HeadLaws.{head-none, head-unknown, head-short, head-outside, head-unfit, head-whole}
use Rattle.table_check.proofs.heads.head_at.Goals as goal

pub returns-then-table-at : goal.returns-then-table-at
returns-then-table-at c = rw c.at.ensures (head-none c.args.table.now c.args.at c.args.end c.if-table-at.true)

pub returns-in_default : goal.returns-in_default
returns-in_default c =
    let u = unknown-kind (get_or c.args.table.now c.args.at 0) c.in_default.ensures in
    rw c.at-in_default.ensures (head-unknown c.args.table.now c.args.at c.args.end c.if-table-at.false u.0)

pub returns-then-end-at : goal.returns-then-end-at
returns-then-end-at c =
    let k = known-kind (get_or c.args.table.now c.args.at 0) c.in-Ok.ensures in
    rw c.at-then-end-at.ensures
    (head-short c.args.table.now c.args.at c.if-table-at.false k.0 (c.head_bytes-head.ensures.0 ∙ ap head_bytes k.2) c.if-end-at.true)

pub returns-then-end-at-2 : goal.returns-then-end-at-2
returns-then-end-at-2 c =
    let k = known-kind (get_or c.args.table.now c.args.at 0) c.in-Ok.ensures in
    rw c.at-then-end-at-2.ensures
    (head-outside c.args.table.now c.args.at c.if-table-at.false k.0 (c.head_bytes-head.ensures.0 ∙ ap head_bytes k.2) c.if-end-at.false
    c.word_at-extent.ensures.0 c.if-end-at-2.true)

pub returns-then-not-extent_fits : goal.returns-then-not-extent_fits
returns-then-not-extent_fits c =
    let k = known-kind (get_or c.args.table.now c.args.at 0) c.in-Ok.ensures in
    rw c.at-then-not-extent_fits.ensures
    (head-unfit c.args.table.now c.args.at c.if-table-at.false k.0 (c.head_bytes-head.ensures.0 ∙ ap head_bytes k.2) c.if-end-at.false
    c.word_at-extent.ensures.0 c.if-end-at-2.false (rw k.2 at c.operand_count-count.ensures) (sym c.extent_fits.ensures ∙ c.if-not-extent_fits.true))

pub returns : goal.returns
returns c =
    let k = known-kind (get_or c.args.table.now c.args.at 0) c.in-Ok.ensures in
    rw k.1
    (head-whole c.args.table.now c.args.at c.if-table-at.false k.0 (c.head_bytes-head.ensures.0 ∙ ap head_bytes k.2) c.if-end-at.false
    c.word_at-extent.ensures.0 c.if-end-at-2.false (rw k.2 at c.operand_count-count.ensures) (sym c.extent_fits.ensures ∙ c.if-not-extent_fits.false))
