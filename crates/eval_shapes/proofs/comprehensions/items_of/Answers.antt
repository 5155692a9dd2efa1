-- `comprehensions::items_of` meets its contract. Assumes nothing.
use Prim.Native.Nat.{ℕ, ◌+◌}
use mathlib.Core.Path.{sym, ◌∙◌, ap}
use Rattle.table_layout.specs.Layout.{after}
use Rattle.eval_shapes.proofs.KindLaws.{sound-stands}
use Rattle.eval_shapes.proofs.SeenOfRecords.{binary-at, no-sum-here, other-sum, sum-to-another, items-found, items-missing}
use Rattle.eval_shapes.proofs.comprehensions.items_of.Goals as goal

pub kind_at-requires : goal.kind_at-requires
kind_at-requires c = (sound-stands c.args.table.now c.args.literal.now c.args.at c.requires).here

pub returns-then-kind_at-ne-BINARY : goal.returns-then-kind_at-ne-BINARY
returns-then-kind_at-ne-BINARY c = (λ limit. no-sum-here c.args.table.now c.args.literal.now c.args.at c.requires c.args.accumulator limit (λ k. c.if-kind_at-ne-BINARY.true (c.kind_at.ensures ∙ k)), tt)

pub number_at-requires : goal.number_at-requires
number_at-requires c = (binary-at c.args.table.now c.args.literal.now c.args.at c.requires (sym c.kind_at.ensures ∙ c.if-kind_at-ne-BINARY.false)).body

pub returns-then-number_at-ne-ADD : goal.returns-then-number_at-ne-ADD
returns-then-number_at-ne-ADD c = (λ limit. other-sum c.args.table.now c.args.literal.now c.args.at c.requires c.args.accumulator limit (sym c.kind_at.ensures ∙ c.if-kind_at-ne-BINARY.false) (λ n. c.if-number_at-ne-ADD.true (c.number_at.ensures ∙ n)), tt)

pub first_operand-first-requires : goal.first_operand-first-requires
first_operand-first-requires c = let h = sound-stands c.args.table.now c.args.literal.now c.args.at c.requires in (h.here, h.known)

pub is_name-requires : goal.is_name-requires
is_name-requires c = let o = binary-at c.args.table.now c.args.literal.now c.args.at c.requires (sym c.kind_at.ensures ∙ c.if-kind_at-ne-BINARY.false) in rw (c.first_operand-first.ensures ∙ o.first) o.one

pub returns-then-not-is_name : goal.returns-then-not-is_name
returns-then-not-is_name c = let o = binary-at c.args.table.now c.args.literal.now c.args.at c.requires (sym c.kind_at.ensures ∙ c.if-kind_at-ne-BINARY.false) in (λ limit. sum-to-another c.args.table.now c.args.literal.now c.args.at c.requires c.args.accumulator limit (sym c.kind_at.ensures ∙ c.if-kind_at-ne-BINARY.false) (sym c.number_at.ensures ∙ c.if-number_at-ne-ADD.false) (sym (c.if-not-is_name.true) ∙ (rw (c.first_operand-first.ensures ∙ o.first) at c.is_name.ensures)), tt)

pub end_at-second-requires : goal.end_at-second-requires
end_at-second-requires c = let o = binary-at c.args.table.now c.args.literal.now c.args.at c.requires (sym c.kind_at.ensures ∙ c.if-kind_at-ne-BINARY.false) in rw (c.first_operand-first.ensures ∙ o.first) (sound-stands c.args.table.now c.args.literal.now (c.args.at + 4) o.one).start

pub kind_at-requires-2 : goal.kind_at-requires-2
kind_at-requires-2 c = let o = binary-at c.args.table.now c.args.literal.now c.args.at c.requires (sym c.kind_at.ensures ∙ c.if-kind_at-ne-BINARY.false) in rw (c.end_at-second.ensures ∙ ap (λ (q : ℕ). after c.args.table.now q) (c.first_operand-first.ensures ∙ o.first)) (sound-stands c.args.table.now c.args.literal.now (after c.args.table.now (c.args.at + 4)) o.two).here

pub returns-then-kind_at-eq-LIST : goal.returns-then-kind_at-eq-LIST
returns-then-kind_at-eq-LIST c = items-found c.args.table.now c.args.literal.now c.args.at c.requires (sym c.kind_at.ensures ∙ c.if-kind_at-ne-BINARY.false) c.args.accumulator (sym c.number_at.ensures ∙ c.if-number_at-ne-ADD.false) c.first_operand-first.result c.first_operand-first.ensures c.end_at-second.result c.end_at-second.ensures (sym (c.if-not-is_name.false) ∙ c.is_name.ensures) (sym c.kind_at-2.ensures ∙ c.if-kind_at-eq-LIST.true)

pub returns-else-kind_at-eq-LIST : goal.returns-else-kind_at-eq-LIST
returns-else-kind_at-eq-LIST c = (λ limit. items-missing c.args.table.now c.args.literal.now c.args.at c.requires (sym c.kind_at.ensures ∙ c.if-kind_at-ne-BINARY.false) c.args.accumulator (sym c.number_at.ensures ∙ c.if-number_at-ne-ADD.false) c.first_operand-first.result c.first_operand-first.ensures c.end_at-second.result c.end_at-second.ensures (sym (c.if-not-is_name.false) ∙ c.is_name.ensures) (λ k. c.if-kind_at-eq-LIST.false (c.kind_at-2.ensures ∙ k)) limit, tt)
