-- `records::record_at` and `records::operands_at` meet their contracts: the proofs of the two, joined. The levels left fall. Assumes nothing.
use mathlib.Core.Path.{◌≡◌, ◌∙◌, sym}
use native.Mathlib.Omega.{arith}
use Prim.Native.Nat.{◌+◌, ◌-◌}
use Rattle.std.proofs.lemmas.Result.{err_from_is_err_and}
use Rattle.table_check.specs.Reading.{read_of}
use Rattle.table_check.proofs.RecordLaws.{operands-stop, operands-again, operands-met, operands-unmet, refused-head, faulty, level-left, leaf-ends, goes_on}
use Rattle.table_check.proofs.HeadLaws.{found}
use Rattle.table_check.proofs.records.+operands_at_record_at.Goals as goal

pub operands_at-loop-read-preserved : goal.operands_at-loop-read-preserved
operands_at-loop-read-preserved t c =
    operands-again (read_of c.args.table.now c.args.text.now c.args.levels) c.args.place c.args.marks c.args.end (c.args.count - c.loop-read.read)
    (c.args.count - (c.loop-read.read + 1)) c.loop-read.at (omega arith) (rw c.may_mark.ensures at (sym c.record_at.ensures ∙ c.in_ok-at.was)) ∙ c.loop-read.invariant

pub operands_at-returns-in_err-at : goal.operands_at-returns-in_err-at
operands_at-returns-in_err-at t c =
    let o = err_from_is_err_and c.from_residual.result c.from_residual.ensures.1 in
    rw (o.1, o.2)
    (operands-stop (read_of c.args.table.now c.args.text.now c.args.levels) c.args.place c.args.marks c.args.end (c.args.count - c.loop-read.read) c.loop-read.at
    (omega arith) (rw c.may_mark.ensures at (sym c.record_at.ensures ∙ c.in_err-at.was)) ∙ c.loop-read.invariant)

pub operands_at-returns-then-at-end : goal.operands_at-returns-then-at-end
operands_at-returns-then-at-end t c =
    let z : c.args.count - c.loop-read.read ≡ 0 = omega arith in
    operands-met (read_of c.args.table.now c.args.text.now c.args.levels) c.args.place c.args.marks c.args.end c.loop-read.at c.if-at-end.true
    ∙ (rw z at c.loop-read.invariant)

pub operands_at-returns-else-at-end : goal.operands_at-returns-else-at-end
operands_at-returns-else-at-end t c =
    let z : c.args.count - c.loop-read.read ≡ 0 = omega arith in
    rw c.at.ensures
    (operands-unmet (read_of c.args.table.now c.args.text.now c.args.levels) c.args.place c.args.marks c.args.end c.loop-read.at c.if-at-end.false
    ∙ (rw z at c.loop-read.invariant))

pub record_at-returns-in_err-head : goal.record_at-returns-in_err-head
record_at-returns-in_err-head t c =
    let p = err_from_is_err_and c.from_residual.result c.from_residual.ensures.1 in
    rw (p.1, p.2) (refused-head c.args.table.now c.args.text.now c.args.at c.args.end c.args.levels c.args.marked c.in_err-head.ensures)

pub record_at-fault-requires : goal.record_at-fault-requires
record_at-fault-requires t c =
    let o = found c.args.table.now c.args.at c.args.end c.in_ok-head.ensures in
    rw o.byte (omega (arith, o.here.room))

pub record_at-returns-in_err-fault : goal.record_at-returns-in_err-fault
record_at-returns-in_err-fault t c =
    let p = err_from_is_err_and c.from_residual-in_err-fault.result c.from_residual-in_err-fault.ensures.1 in
    rw (p.1, p.2)
    (faulty c.args.table.now c.args.text.now c.args.at c.args.end c.in_ok-head.ensures c.args.marked c.args.levels c.in_err-fault.ensures)

pub record_at-returns-then-head-eq0 : goal.record_at-returns-then-head-eq0
record_at-returns-then-head-eq0 t c =
    leaf-ends c.args.table.now c.args.text.now c.args.at c.args.end c.in_ok-head.ensures c.args.marked c.args.levels c.in_ok-fault.ensures c.if-head-eq0.true

pub record_at-overflow_sub-levels : goal.record_at-overflow_sub-levels
record_at-overflow_sub-levels t c =
    let h = level-left c.args.table.now c.args.text.now c.args.at c.args.end c.in_ok-head.ensures c.args.marked c.args.levels c.in_ok-fault.ensures in
    omega arith

pub record_at-operands_at-requires : goal.record_at-operands_at-requires
record_at-operands_at-requires t c =
    let o = found c.args.table.now c.args.at c.args.end c.in_ok-head.ensures in
    let h = level-left c.args.table.now c.args.text.now c.args.at c.args.end c.in_ok-head.ensures c.args.marked c.args.levels c.in_ok-fault.ensures in
    (omega arith, omega (arith, o.after, o.here.inside))

pub record_at-returns : goal.record_at-returns
record_at-returns t c =
    c.operands_at.ensures ∙
    (rw c.marks_of.ensures
    (goes_on c.args.table.now c.args.text.now c.args.at c.args.end c.in_ok-head.ensures c.args.marked c.args.levels c.in_ok-fault.ensures))
