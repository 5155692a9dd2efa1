-- `literals::literal_at` meets its contract. Assumes nothing.
use mathlib.Core.Path.{sym, ◌∙◌}
use Prim.Native.Nat.{suc, ◌+◌}
use native.Mathlib.Omega.{arith}
use Rattle.bindings_literals.specs.Literals.{literal_value}
use Rattle.bindings_literals.proofs.Heads.{bool-head, int-head, uint-head, double-head, string-head, bytes-head, word-is}
use lib.ListN.{get_or}
use mir.Syntax.{w64}
use mir.ValLaws.{to_z-of_z}
use borrow.Author.Rules.{sfits_of}
use Rattle.table_layout.proofs.KindLaws.{head-table}
use Rattle.bindings_literals.proofs.LiteralLaws.{no-literal}
use Rattle.bindings_literals.proofs.literals.literal_at.Goals as goal

pub kind_at-requires : goal.kind_at-requires
kind_at-requires c = let h = head-table (get_or c.args.table.now c.args.at 0) c.requires.0 in omega (arith, h.0, h.1)

pub number_at-requires : goal.number_at-requires
number_at-requires c = let h = rw ((sym c.kind_at.ensures ∙ c.in-1.is), bool-head) at c.requires.1 in omega arith

pub int_at-requires : goal.int_at-requires
int_at-requires c = let h = rw ((sym c.kind_at.ensures ∙ c.in-2.is), int-head) at c.requires.1 in omega arith

pub bits_at-requires : goal.bits_at-requires
bits_at-requires c = let h = rw ((sym c.kind_at.ensures ∙ c.in-3.is), uint-head) at c.requires.1 in omega arith

pub bits_at-requires-in-4 : goal.bits_at-requires-in-4
bits_at-requires-in-4 c = let h = rw ((sym c.kind_at.ensures ∙ c.in-4.is), double-head) at c.requires.1 in omega arith

pub span_at-span-requires : goal.span_at-span-requires
span_at-span-requires c = let h = rw ((sym c.kind_at.ensures ∙ c.in-5.is), string-head) at c.requires.1 in omega arith

pub overflow_cast-result : goal.overflow_cast-result
overflow_cast-result c = omega (arith, word-is c.args.table.now (c.args.at + 3), word-is c.args.table.now (c.args.at + 5), c.shared_slice_known-1.given (c.args.at + 3), c.shared_slice_known-1.given (suc (c.args.at + 3)), c.shared_slice_known-1.given (c.args.at + 5), c.shared_slice_known-1.given (suc (c.args.at + 5)))

pub overflow_cast-result-in-5 : goal.overflow_cast-result-in-5
overflow_cast-result-in-5 c = omega (arith, word-is c.args.table.now (c.args.at + 3), word-is c.args.table.now (c.args.at + 5), c.shared_slice_known-1.given (c.args.at + 3), c.shared_slice_known-1.given (suc (c.args.at + 3)), c.shared_slice_known-1.given (c.args.at + 5), c.shared_slice_known-1.given (suc (c.args.at + 5)))

pub span_at-span-requires-in-6 : goal.span_at-span-requires-in-6
span_at-span-requires-in-6 c = let h = rw ((sym c.kind_at.ensures ∙ c.in-6.is), bytes-head) at c.requires.1 in omega arith

pub overflow_cast-result-in-6 : goal.overflow_cast-result-in-6
overflow_cast-result-in-6 c = omega (arith, word-is c.args.table.now (c.args.at + 3), word-is c.args.table.now (c.args.at + 5), c.shared_slice_known-1.given (c.args.at + 3), c.shared_slice_known-1.given (suc (c.args.at + 3)), c.shared_slice_known-1.given (c.args.at + 5), c.shared_slice_known-1.given (suc (c.args.at + 5)))

pub overflow_cast-result-in-6-2 : goal.overflow_cast-result-in-6-2
overflow_cast-result-in-6-2 c = omega (arith, word-is c.args.table.now (c.args.at + 3), word-is c.args.table.now (c.args.at + 5), c.shared_slice_known-1.given (c.args.at + 3), c.shared_slice_known-1.given (suc (c.args.at + 3)), c.shared_slice_known-1.given (c.args.at + 5), c.shared_slice_known-1.given (suc (c.args.at + 5)))

pub returns-in-0 : goal.returns-in-0
unfolding literal_value
returns-in-0 c = rw (sym c.kind_at.ensures ∙ c.in-0.is)

pub returns-in-1 : goal.returns-in-1
unfolding literal_value
returns-in-1 c = rw ((sym c.kind_at.ensures ∙ c.in-1.is), c.number_at.ensures)

pub returns-in-2 : goal.returns-in-2
unfolding literal_value
returns-in-2 c = rw ((sym c.kind_at.ensures ∙ c.in-2.is), to_z-of_z w64 c.int_at.result (sfits_of c.int_at.type_inv), c.int_at.ensures)

pub returns-in-3 : goal.returns-in-3
unfolding literal_value
returns-in-3 c = rw ((sym c.kind_at.ensures ∙ c.in-3.is), c.bits_at.ensures)

pub returns-in-4 : goal.returns-in-4
unfolding literal_value
returns-in-4 c = rw ((sym c.kind_at.ensures ∙ c.in-4.is), c.double_value.ensures, c.bits_at-in-4.ensures)

pub returns-in-5 : goal.returns-in-5
unfolding literal_value
returns-in-5 c = rw ((sym c.kind_at.ensures ∙ c.in-5.is), c.span_at-span.ensures.0, c.span_at-span.ensures.1)

pub returns-in-6 : goal.returns-in-6
unfolding literal_value
returns-in-6 c = rw ((sym c.kind_at.ensures ∙ c.in-6.is), c.span_at-span-in-6.ensures.0, c.span_at-span-in-6.ensures.1)

pub returns-in_default : goal.returns-in_default
unfolding literal_value
returns-in_default c = no-literal c.args.table.now c.args.at c.kind_at.result c.kind_at.ensures c.in_default.in_default-own.rest.0.0.0.0.0.0.1 c.in_default.in_default-own.rest.0.0.0.0.0.1 c.in_default.in_default-own.rest.0.0.0.0.1 c.in_default.in_default-own.rest.0.0.0.1 c.in_default.in_default-own.rest.0.0.1 c.in_default.in_default-own.rest.0.1 c.in_default.in_default-own.rest.1
