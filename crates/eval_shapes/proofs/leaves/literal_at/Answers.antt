-- `leaves::literal_at` meets its contract. Assumes nothing.
use mathlib.Core.Path.{◌≡◌, ◌∙◌}
use mir.Syntax.{w64}
use mir.ValLaws.{to_z-of_z}
use borrow.Author.Rules.{sfits_of}
use Rattle.meaning.specs.Kinds.{null_kind, bool_kind, int_kind, uint_kind, double_kind, string_kind, bytes_kind}
use Rattle.table_check.proofs.Opened.{opened}
use Rattle.eval_shapes.proofs.LeafLaws.{only_null}
use Rattle.eval_shapes.proofs.leaves.literal_at.Goals as goal

pub number_at-requires : goal.number_at-requires
number_at-requires c = (opened c.args.table.now c.args.literal.now c.args.at bool_kind (c.requires.1 ∙ c.in-1.is) c.requires.0).body

pub int_at-requires : goal.int_at-requires
int_at-requires c = (opened c.args.table.now c.args.literal.now c.args.at int_kind (c.requires.1 ∙ c.in-2.is) c.requires.0).body

pub bits_at-requires : goal.bits_at-requires
bits_at-requires c = (opened c.args.table.now c.args.literal.now c.args.at uint_kind (c.requires.1 ∙ c.in-3.is) c.requires.0).body

pub bits_at-requires-in-4 : goal.bits_at-requires-in-4
bits_at-requires-in-4 c = (opened c.args.table.now c.args.literal.now c.args.at double_kind (c.requires.1 ∙ c.in-4.is) c.requires.0).body

pub literal_span-requires : goal.literal_span-requires
literal_span-requires c = (opened c.args.table.now c.args.literal.now c.args.at string_kind (c.requires.1 ∙ c.in-5.is) c.requires.0).body

pub literal_span-requires-in-6 : goal.literal_span-requires-in-6
literal_span-requires-in-6 c = (opened c.args.table.now c.args.literal.now c.args.at bytes_kind (c.requires.1 ∙ c.in-6.is) c.requires.0).body

pub returns-in-1 : goal.returns-in-1
returns-in-1 c = rw ((opened c.args.table.now c.args.literal.now c.args.at bool_kind (c.requires.1 ∙ c.in-1.is) c.requires.0).is, c.number_at.ensures)

pub returns-in-2 : goal.returns-in-2
returns-in-2 c = rw ((opened c.args.table.now c.args.literal.now c.args.at int_kind (c.requires.1 ∙ c.in-2.is) c.requires.0).is, to_z-of_z w64 c.int_at.result (sfits_of c.int_at.type_inv), c.int_at.ensures)

pub returns-in-3 : goal.returns-in-3
returns-in-3 c = rw ((opened c.args.table.now c.args.literal.now c.args.at uint_kind (c.requires.1 ∙ c.in-3.is) c.requires.0).is, c.bits_at.ensures)

pub returns-in-4 : goal.returns-in-4
returns-in-4 c = rw ((opened c.args.table.now c.args.literal.now c.args.at double_kind (c.requires.1 ∙ c.in-4.is) c.requires.0).is, c.double_value.ensures, c.bits_at-in-4.ensures)

pub returns-in-5 : goal.returns-in-5
returns-in-5 c = rw ((opened c.args.table.now c.args.literal.now c.args.at string_kind (c.requires.1 ∙ c.in-5.is) c.requires.0).is, c.literal_span.ensures)

pub returns-in-6 : goal.returns-in-6
returns-in-6 c = rw ((opened c.args.table.now c.args.literal.now c.args.at bytes_kind (c.requires.1 ∙ c.in-6.is) c.requires.0).is, c.literal_span-in-6.ensures)

pub returns-in_default : goal.returns-in_default
returns-in_default c = let z : c.args.kind ≡ 0 = only_null c.args.kind c.requires.2 c.in_default.in_default-own.rest.0.0.0.0.0.1 c.in_default.in_default-own.rest.0.0.0.0.1 c.in_default.in_default-own.rest.0.0.0.1 c.in_default.in_default-own.rest.0.0.1 c.in_default.in_default-own.rest.0.1 c.in_default.in_default-own.rest.1 in rw (opened c.args.table.now c.args.literal.now c.args.at null_kind (c.requires.1 ∙ z) c.requires.0).is
