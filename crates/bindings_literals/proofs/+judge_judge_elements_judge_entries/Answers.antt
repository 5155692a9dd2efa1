-- `judge`, `judge_elements` and `judge_entries`, which call each other, meet their contracts. Assumes nothing.
use native.Mathlib.Omega.{arith}
use Rattle.bindings_literals.proofs.Rows.{part-place, sound-place}
use Rattle.bindings_literals.proofs.JudgeSteps.{list-row, list-less, list-whole, map_row, map-less, map_whole, list-body, map-body, leaf-whole}
use Rattle.bindings_literals.proofs.JudgingSteps.{elements-start, elements-here, elements-less, elements-fit, elements-again, elements-done, entries-start, entries-key, entries-value, entries-before, entries-less, entries_fit, entries-fit-value, entries-again, entries-done}
use Rattle.bindings_literals.proofs.PartLaws.{bare-part}
use Rattle.bindings_literals.proofs.+judge_judge_elements_judge_entries.Goals as goal

pub judge-kind_at-kind-requires : goal.judge-kind_at-kind-requires
judge-kind_at-kind-requires t c = let p = part-place c.args.table.now c.args.literal.now c.args.at c.requires.0 in omega (arith, p.three)

pub judge-first_operand-first-requires : goal.judge-first_operand-first-requires
judge-first_operand-first-requires t c = let p = part-place c.args.table.now c.args.literal.now c.args.at c.requires.0 in (omega (arith, p.three), p.known)

pub judge-count_at-requires : goal.judge-count_at-requires
judge-count_at-requires t c = list-body c.args.table.now c.args.literal.now c.args.at c.requires.0 c.kind_at-kind.ensures c.if-kind-eq-LIST.true

pub judge-judge_elements-requires : goal.judge-judge_elements-requires
judge-judge_elements-requires t c = (
  omega (arith, list-less c.args.table.now c.args.literal.now c.args.at c.requires.0 c.requires.1 c.kind_at-kind.ensures c.first_operand-first.ensures c.count_at.ensures.0 c.if-kind-eq-LIST.true),
  list-row c.args.table.now c.args.literal.now c.args.at c.requires.0 c.requires.1 c.kind_at-kind.ensures c.first_operand-first.ensures c.count_at.ensures.0 c.if-kind-eq-LIST.true,
)

pub judge-deepened-requires : goal.judge-deepened-requires
judge-deepened-requires t c =
    let r = list-row c.args.table.now c.args.literal.now c.args.at c.requires.0 c.requires.1 c.kind_at-kind.ensures c.first_operand-first.ensures c.count_at.ensures.0 c.if-kind-eq-LIST.true in
    omega (arith, c.judge_elements.ensures.1.nesting, r.1, r.2)

pub judge-returns-then-kind-eq-LIST : goal.judge-returns-then-kind-eq-LIST
judge-returns-then-kind-eq-LIST t c =
    list-whole c.args.table.now c.args.literal.now c.args.at c.requires.0 c.requires.1 c.kind_at-kind.ensures c.first_operand-first.ensures c.count_at.ensures.0 c.if-kind-eq-LIST.true
    c.judge_elements.ensures c.deepened.ensures

pub judge-first_operand-first-requires-then-kind-eq-MAP : goal.judge-first_operand-first-requires-then-kind-eq-MAP
judge-first_operand-first-requires-then-kind-eq-MAP t c = let p = part-place c.args.table.now c.args.literal.now c.args.at c.requires.0 in (omega (arith, p.three), p.known)

pub judge-count_at-requires-then-kind-eq-MAP : goal.judge-count_at-requires-then-kind-eq-MAP
judge-count_at-requires-then-kind-eq-MAP t c = map-body c.args.table.now c.args.literal.now c.args.at c.requires.0 c.kind_at-kind.ensures c.if-kind-eq-MAP.true

pub judge-judge_entries-requires : goal.judge-judge_entries-requires
judge-judge_entries-requires t c = (
  omega (arith, map-less c.args.table.now c.args.literal.now c.args.at c.requires.0 c.requires.1 c.kind_at-kind.ensures c.first_operand-first-then-kind-eq-MAP.ensures c.count_at-then-kind-eq-MAP.ensures.0 c.if-kind-eq-MAP.true),
  map_row c.args.table.now c.args.literal.now c.args.at c.requires.0 c.requires.1 c.kind_at-kind.ensures c.first_operand-first-then-kind-eq-MAP.ensures c.count_at-then-kind-eq-MAP.ensures.0 c.if-kind-eq-MAP.true,
)

pub judge-deepened-requires-then-kind-eq-MAP : goal.judge-deepened-requires-then-kind-eq-MAP
judge-deepened-requires-then-kind-eq-MAP t c =
    let r = map_row c.args.table.now c.args.literal.now c.args.at c.requires.0 c.requires.1 c.kind_at-kind.ensures c.first_operand-first-then-kind-eq-MAP.ensures c.count_at-then-kind-eq-MAP.ensures.0 c.if-kind-eq-MAP.true in
    omega (arith, c.judge_entries.ensures.1.nesting, r.1, r.2)

pub judge-returns-then-kind-eq-MAP : goal.judge-returns-then-kind-eq-MAP
judge-returns-then-kind-eq-MAP t c =
    map_whole c.args.table.now c.args.literal.now c.args.at c.requires.0 c.requires.1 c.kind_at-kind.ensures c.first_operand-first-then-kind-eq-MAP.ensures c.count_at-then-kind-eq-MAP.ensures.0 c.if-kind-eq-MAP.true
    c.judge_entries.ensures c.deepened-then-kind-eq-MAP.ensures

pub judge-literal_at-requires : goal.judge-literal_at-requires
judge-literal_at-requires t c = let p = part-place c.args.table.now c.args.literal.now c.args.at c.requires.0 in (p.known, p.head)

pub judge-returns : goal.judge-returns
judge-returns t c =
    leaf-whole c.args.table.now c.args.literal.now c.args.at c.requires.0 c.kind_at-kind.ensures (λ i. omega (arith, c.shared_slice_known-1.given i)) c.if-kind-eq-LIST.false c.if-kind-eq-MAP.false
    c.literal_at.ensures c.without_parts.ensures

-- ---- elements

pub judge_elements-loop-init : goal.judge_elements-loop-init
judge_elements-loop-init t c = elements-start c.args.table.now c.args.literal.now c.args.first c.args.count c.requires.0

pub judge_elements-judge-requires : goal.judge_elements-judge-requires
judge_elements-judge-requires t c = (
  omega (arith, elements-less c.loop.invariant (omega arith)),
  (elements-here c.loop.invariant (omega arith), c.requires.2),
)

pub judge_elements-joined-sum-requires : goal.judge_elements-joined-sum-requires
judge_elements-joined-sum-requires t c = elements-fit c.loop.invariant (omega arith) c.requires.1 c.requires.2 c.judge.ensures.1

pub judge_elements-end_at-at-requires : goal.judge_elements-end_at-at-requires
judge_elements-end_at-at-requires t c = (part-place c.args.table.now c.args.literal.now c.loop.at (elements-here c.loop.invariant (omega arith))).three

pub judge_elements-loop-preserved : goal.judge_elements-loop-preserved
judge_elements-loop-preserved t c =
    elements-again c.loop.invariant (omega arith) c.requires.1 c.requires.2 c.judge.ensures.1 (omega arith) c.judge.ensures.0 c.joined-sum.ensures c.end_at-at.ensures

pub judge_elements-returns : goal.judge_elements-returns
judge_elements-returns t c = elements-done c.loop.invariant (omega arith)

-- ---- entries

pub judge_entries-loop-entry-init : goal.judge_entries-loop-entry-init
judge_entries-loop-entry-init t c = entries-start c.args.table.now c.args.literal.now c.args.first c.args.count c.requires.0

pub judge_entries-end_at-value-requires : goal.judge_entries-end_at-value-requires
judge_entries-end_at-value-requires t c = (sound-place c.args.table.now c.args.literal.now c.loop-entry.at (entries-key c.loop-entry.invariant c.loop-entry-test.true)).three

pub judge_entries-key_fault-fault-requires : goal.judge_entries-key_fault-fault-requires
judge_entries-key_fault-fault-requires t c = (entries-before c.loop-entry.invariant c.loop-entry-test.true, entries-key c.loop-entry.invariant c.loop-entry-test.true)

pub judge_entries-judge-requires : goal.judge_entries-judge-requires
judge_entries-judge-requires t c = (
  omega (arith, (entries-less c.loop-entry.invariant c.loop-entry-test.true).0),
  ((bare-part c.args.table.now c.args.literal.now c.loop-entry.at (entries-key c.loop-entry.invariant c.loop-entry-test.true)).0, c.requires.2),
)

pub judge_entries-joined-sum-requires : goal.judge_entries-joined-sum-requires
judge_entries-joined-sum-requires t c = entries_fit c.loop-entry.invariant c.loop-entry-test.true c.requires.1 c.requires.2 _ _ c.with_key.ensures _ c.judge.ensures.1

pub judge_entries-judge-requires-in-loop-entry : goal.judge_entries-judge-requires-in-loop-entry
judge_entries-judge-requires-in-loop-entry t c =
    rw c.end_at-value.ensures
    (omega (arith, (entries-less c.loop-entry.invariant c.loop-entry-test.true).1), (entries-value c.loop-entry.invariant c.loop-entry-test.true, c.requires.2))

pub judge_entries-joined-sum-requires-in-loop-entry : goal.judge_entries-joined-sum-requires-in-loop-entry
judge_entries-joined-sum-requires-in-loop-entry t c =
    entries-fit-value c.loop-entry.invariant c.loop-entry-test.true c.requires.1 c.requires.2 _ _ c.with_key.ensures _ c.judge.ensures.1 _ c.joined-sum.ensures _
    (rw c.end_at-value.ensures at c.judge-in-loop-entry.ensures.1)

pub judge_entries-end_at-at-requires : goal.judge_entries-end_at-at-requires
judge_entries-end_at-at-requires t c =
    let p = part-place c.args.table.now c.args.literal.now _ (entries-value c.loop-entry.invariant c.loop-entry-test.true) in rw c.end_at-value.ensures p.three

pub judge_entries-loop-entry-preserved : goal.judge_entries-loop-entry-preserved
judge_entries-loop-entry-preserved t c =
    entries-again c.loop-entry.invariant c.loop-entry-test.true c.requires.1 c.requires.2 _ _ c.with_key.ensures _ c.judge.ensures.1 _ c.joined-sum.ensures _
    (rw c.end_at-value.ensures at c.judge-in-loop-entry.ensures.1) c.key_fault-fault.ensures c.judge.ensures.0
    (rw c.end_at-value.ensures at c.judge-in-loop-entry.ensures.0) c.joined-sum-in-loop-entry.ensures (rw c.end_at-value.ensures at c.end_at-at.ensures)

pub judge_entries-returns : goal.judge_entries-returns
judge_entries-returns t c = entries-done c.loop-entry.invariant c.loop-entry-test.false
