-- `comprehensions::folds_at` meets its contract. Assumes nothing.
use Prim.Native.Nat.{ℕ}
use mathlib.Core.Path.{sym, ◌∙◌, ap}
use Rattle.table_check.specs.Records.{binary_of}
use Rattle.eval_shapes.specs.Comprehensions.{fold_in}
use Rattle.eval_shapes.proofs.KindLaws.{sound-stands}
use Rattle.eval_shapes.proofs.SeenOfRecords.{binary-at, fold-unseen, fold-taken, fold-left}
use Rattle.eval_shapes.proofs.comprehensions.folds_at.Goals as goal

pub kind_at-requires : goal.kind_at-requires
kind_at-requires c = (sound-stands c.args.table.now c.args.literal.now c.args.step c.requires).here

pub returns-then-kind_at-ne-BINARY : goal.returns-then-kind_at-ne-BINARY
returns-then-kind_at-ne-BINARY c = fold-unseen c.args.table.now c.args.literal.now c.args.step c.requires (λ k. c.if-kind_at-ne-BINARY.true (c.kind_at.ensures ∙ k)) c.args.accumulator

pub first_operand-requires : goal.first_operand-requires
first_operand-requires c = let h = sound-stands c.args.table.now c.args.literal.now c.args.step c.requires in (h.here, h.known)

pub is_name-requires : goal.is_name-requires
is_name-requires c = let o = binary-at c.args.table.now c.args.literal.now c.args.step c.requires (sym c.kind_at.ensures ∙ c.if-kind_at-ne-BINARY.false) in rw (c.first_operand.ensures ∙ o.first) o.one

pub number_at-requires : goal.number_at-requires
number_at-requires c = (binary-at c.args.table.now c.args.literal.now c.args.step c.requires (sym c.kind_at.ensures ∙ c.if-kind_at-ne-BINARY.false)).body

pub returns-then-is_name : goal.returns-then-is_name
returns-then-is_name c = fold-taken c.args.table.now c.args.literal.now c.args.step c.requires (sym c.kind_at.ensures ∙ c.if-kind_at-ne-BINARY.false) c.args.accumulator c.first_operand.result c.first_operand.ensures (sym c.if-is_name.true ∙ c.is_name.ensures) (c.fold_of.ensures ∙ ap (λ (n : ℕ). fold_in (binary_of n)) c.number_at.ensures)

pub returns-else-is_name : goal.returns-else-is_name
returns-else-is_name c = fold-left c.args.table.now c.args.literal.now c.args.step c.requires (sym c.kind_at.ensures ∙ c.if-kind_at-ne-BINARY.false) c.args.accumulator c.first_operand.result c.first_operand.ensures (sym c.if-is_name.false ∙ c.is_name.ensures)
