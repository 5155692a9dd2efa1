-- `laying::lay` and `lay_row`, which call each other, meet their contracts: the record's bytes fall. Assumes nothing.
use Prim.Native.Nat.{ℕ}
use mathlib.Core.Path.{refl, ap, ◌∙◌}
use native.Mathlib.Omega.{arith}
use Rattle.std.proofs.Common.{rules}
use Rattle.bindings_literals.specs.Laying.{Room}
use Rattle.bindings_literals.proofs.Rows.{part-place}
use Rattle.bindings_literals.proofs.JudgeSteps.{list-body, map-body}
use Rattle.bindings.proofs.LaySteps.{leaf-bytes, leaf-laid, list-fits, list-falls, list-laid, map-fits, map-falls, map-laid, row-start, row_done, row_here, row-falls, row_fits, row-again}
use Rattle.bindings.proofs.LayLaws.{count-cells}
use Rattle.bindings.proofs.laying.Laying.+lay_lay_row.Goals as goal

pub lay-kind_at-kind-requires : goal.lay-kind_at-kind-requires
lay-kind_at-kind-requires t c = omega (arith, (part-place c.args.table.now c.args.literal.now c.args.at c.requires.0).three)

pub lay-first_operand-first-requires : goal.lay-first_operand-first-requires
lay-first_operand-first-requires t c = let p = part-place c.args.table.now c.args.literal.now c.args.at c.requires.0 in (omega (arith, p.three), p.known)

pub lay-count_at-count-requires : goal.lay-count_at-count-requires
lay-count_at-count-requires t c = list-body c.args.table.now c.args.literal.now c.args.at c.requires.0 c.kind_at-kind.ensures c.if-kind-eq-LIST.true

pub lay-lay_row-nesting-requires : goal.lay-lay_row-nesting-requires
lay-lay_row-nesting-requires t c = (omega (arith, list-falls c.args.table.now c.args.literal.now c.args.at c.requires.0 c.requires.1 c.args.self.now.used c.args.self.now.bytes c.requires.2 c.requires.3 c.requires.4 c.kind_at-kind.ensures c.first_operand-first.ensures c.count_at-count.ensures.0 c.if-kind-eq-LIST.true), list-fits c.args.table.now c.args.literal.now c.args.at c.requires.0 c.requires.1 c.args.self.now.used c.args.self.now.bytes c.requires.2 c.requires.3 c.requires.4 c.kind_at-kind.ensures c.first_operand-first.ensures c.count_at-count.ensures.0 c.if-kind-eq-LIST.true)

pub lay-overflow_add-result : goal.lay-overflow_add-result
lay-overflow_add-result t c = let f = list-fits c.args.table.now c.args.literal.now c.args.at c.requires.0 c.requires.1 c.args.self.now.used c.args.self.now.bytes c.requires.2 c.requires.3 c.requires.4 c.kind_at-kind.ensures c.first_operand-first.ensures c.count_at-count.ensures.0 c.if-kind-eq-LIST.true in omega (arith, f.3, ap (λ (a : ℕ × Room). a.0) c.lay_row-nesting.ensures.laid)

pub lay-overflow_cast-result : goal.lay-overflow_cast-result
lay-overflow_cast-result t c = omega (arith, c.requires.3)

pub lay-overflow_cast-result-then-kind-eq-LIST : goal.lay-overflow_cast-result-then-kind-eq-LIST
lay-overflow_cast-result-then-kind-eq-LIST t c = omega (arith, c.count_at-count.ensures.1)

pub lay-returns-then-kind-eq-LIST : goal.lay-returns-then-kind-eq-LIST
lay-returns-then-kind-eq-LIST t c = record { cells = c.lay_row-nesting.ensures.cells; text = c.lay_row-nesting.ensures.text; cells_long = c.lay_row-nesting.ensures.cells_long; text_long = c.lay_row-nesting.ensures.text_long; laid = list-laid c.args.table.now c.args.literal.now c.args.at c.requires.0 c.requires.1 c.args.self.now.used c.args.self.now.bytes c.requires.2 c.requires.3 c.requires.4 c.kind_at-kind.ensures c.first_operand-first.ensures c.count_at-count.ensures.0 c.if-kind-eq-LIST.true c.args.self.now.cells.now c.args.self.now.text.now c.lay_row-nesting.ensures.laid }

pub lay-first_operand-first-requires-then-kind-eq-MAP : goal.lay-first_operand-first-requires-then-kind-eq-MAP
lay-first_operand-first-requires-then-kind-eq-MAP t c = let p = part-place c.args.table.now c.args.literal.now c.args.at c.requires.0 in (omega (arith, p.three), p.known)

pub lay-count_at-count-requires-then-kind-eq-MAP : goal.lay-count_at-count-requires-then-kind-eq-MAP
lay-count_at-count-requires-then-kind-eq-MAP t c = map-body c.args.table.now c.args.literal.now c.args.at c.requires.0 c.kind_at-kind.ensures c.if-kind-eq-MAP.true

pub lay-lay_row-nesting-requires-then-kind-eq-MAP : goal.lay-lay_row-nesting-requires-then-kind-eq-MAP
lay-lay_row-nesting-requires-then-kind-eq-MAP t c = (omega (arith, map-falls c.args.table.now c.args.literal.now c.args.at c.requires.0 c.requires.1 c.args.self.now.used c.args.self.now.bytes c.requires.2 c.requires.3 c.requires.4 c.kind_at-kind.ensures c.first_operand-first-then-kind-eq-MAP.ensures c.count_at-count-then-kind-eq-MAP.ensures.0 c.if-kind-eq-MAP.true), map-fits c.args.table.now c.args.literal.now c.args.at c.requires.0 c.requires.1 c.args.self.now.used c.args.self.now.bytes c.requires.2 c.requires.3 c.requires.4 c.kind_at-kind.ensures c.first_operand-first-then-kind-eq-MAP.ensures c.count_at-count-then-kind-eq-MAP.ensures.0 c.if-kind-eq-MAP.true)

pub lay-overflow_add-result-then-kind-eq-MAP : goal.lay-overflow_add-result-then-kind-eq-MAP
lay-overflow_add-result-then-kind-eq-MAP t c = let f = map-fits c.args.table.now c.args.literal.now c.args.at c.requires.0 c.requires.1 c.args.self.now.used c.args.self.now.bytes c.requires.2 c.requires.3 c.requires.4 c.kind_at-kind.ensures c.first_operand-first-then-kind-eq-MAP.ensures c.count_at-count-then-kind-eq-MAP.ensures.0 c.if-kind-eq-MAP.true in omega (arith, f.3, ap (λ (a : ℕ × Room). a.0) c.lay_row-nesting-then-kind-eq-MAP.ensures.laid)

pub lay-overflow_cast-result-then-kind-eq-MAP : goal.lay-overflow_cast-result-then-kind-eq-MAP
lay-overflow_cast-result-then-kind-eq-MAP t c = omega (arith, c.requires.3)

pub lay-overflow_cast-result-then-kind-eq-MAP-2 : goal.lay-overflow_cast-result-then-kind-eq-MAP-2
lay-overflow_cast-result-then-kind-eq-MAP-2 t c = omega (arith, c.count_at-count-then-kind-eq-MAP.ensures.1)

pub lay-returns-then-kind-eq-MAP : goal.lay-returns-then-kind-eq-MAP
lay-returns-then-kind-eq-MAP t c = record { cells = c.lay_row-nesting-then-kind-eq-MAP.ensures.cells; text = c.lay_row-nesting-then-kind-eq-MAP.ensures.text; cells_long = c.lay_row-nesting-then-kind-eq-MAP.ensures.cells_long; text_long = c.lay_row-nesting-then-kind-eq-MAP.ensures.text_long; laid = map-laid c.args.table.now c.args.literal.now c.args.at c.requires.0 c.requires.1 c.args.self.now.used c.args.self.now.bytes c.requires.2 c.requires.3 c.requires.4 c.kind_at-kind.ensures c.first_operand-first-then-kind-eq-MAP.ensures c.count_at-count-then-kind-eq-MAP.ensures.0 c.if-kind-eq-MAP.true c.args.self.now.cells.now c.args.self.now.text.now c.lay_row-nesting-then-kind-eq-MAP.ensures.laid }

pub lay-literal_at-requires : goal.lay-literal_at-requires
lay-literal_at-requires t c = let p = part-place c.args.table.now c.args.literal.now c.args.at c.requires.0 in (p.known, p.head)

pub lay-lay_literal-requires : goal.lay-lay_literal-requires
lay-lay_literal-requires t c = omega (arith, leaf-bytes c.args.table.now c.args.literal.now c.args.at (λ i. omega (arith, c.shared_slice_known-1.given i)) c.requires.0 c.literal_at.ensures c.kind_at-kind.ensures c.if-kind-eq-LIST.false c.if-kind-eq-MAP.false, c.requires.4)

pub lay-returns : goal.lay-returns
lay-returns t c = record { cells = c.lay_literal.ensures.cells; text = c.lay_literal.ensures.text; cells_long = c.lay_literal.ensures.cells_long; text_long = c.lay_literal.ensures.text_long; laid = c.lay_literal.ensures.laid ∙ leaf-laid c.args.table.now c.args.literal.now c.args.at (λ i. omega (arith, c.shared_slice_known-1.given i)) c.requires.0 c.literal_at.ensures c.kind_at-kind.ensures c.if-kind-eq-LIST.false c.if-kind-eq-MAP.false _ }

pub lay_row-overflow_add-to-end : goal.lay_row-overflow_add-to-end
lay_row-overflow_add-to-end t c = omega (arith, c.requires.4, count-cells c.args.table.now c.args.literal.now c.args.count c.args.first)

pub lay_row-loop-to-init : goal.lay_row-loop-to-init
lay_row-loop-to-init t c = record { cells = refl; text = refl; row = row-start c.args.table.now c.args.literal.now c.args.first c.args.count c.args.self.now.used c.args.self.now.bytes c.args.self.now.cells.now c.args.self.now.text.now c.requires.0 c.requires.4 c.requires.5 }

pub lay_row-lay-value-requires : goal.lay_row-lay-value-requires
lay_row-lay-value-requires t c = let f = row_fits c.loop-to.invariant.row (omega arith) c.requires.3 in (omega (arith, row-falls c.loop-to.invariant.row (omega arith)), (row_here c.loop-to.invariant.row (omega arith), c.requires.2, f.0, f.1, f.2))

pub lay_row-end_at-at-requires : goal.lay_row-end_at-at-requires
lay_row-end_at-at-requires t c = (part-place c.args.table.now c.args.literal.now c.loop-to.at (row_here c.loop-to.invariant.row (omega arith))).three

pub lay_row-loop-to-preserved : goal.lay_row-loop-to-preserved
lay_row-loop-to-preserved t c = record { cells = c.lay-value.ensures.cells ∙ c.loop-to.invariant.cells; text = c.lay-value.ensures.text ∙ c.loop-to.invariant.text; row = row-again c.loop-to.invariant.row (omega arith) c.lay-value.ensures.laid c.lay-value.ensures.cells_long c.lay-value.ensures.text_long (omega arith) c.write_cell.ensures c.nesting_of.ensures (search rules) c.end_at-at.ensures }

pub lay_row-returns : goal.lay_row-returns
lay_row-returns t c = record { cells = c.loop-to.invariant.cells; text = c.loop-to.invariant.text; cells_long = c.loop-to.invariant.row.kept; text_long = c.loop-to.invariant.row.kept-text; laid = row_done c.loop-to.invariant.row (omega arith) }

pub lay_row-overflow_add-self : goal.lay_row-overflow_add-self
lay_row-overflow_add-self t c = omega (arith, c.requires.4, count-cells c.args.table.now c.args.literal.now c.args.count c.args.first)
