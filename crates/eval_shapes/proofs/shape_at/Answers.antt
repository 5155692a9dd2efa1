-- `shape_at` meets its contract. Assumes nothing.
use Prim.Native.Nat.{ℕ}
use mathlib.Core.Path.{sym, ◌∙◌, ap}
use native.Mathlib.Omega.{arith}
use Rattle.meaning.specs.Kinds.{unary_kind, binary_kind, conditional_kind, select_kind, list_kind, map_kind, comprehension_kind, function_kind}
use Rattle.table_check.specs.Records.{unary_of, binary_of}
use Rattle.table_check.proofs.Opened.{opened}
use Rattle.eval_shapes.specs.Shapes.{call_shape}
use Rattle.eval_shapes.proofs.KindLaws.{sound-stands, leaf-here}
use Rattle.eval_shapes.proofs.ShapeLaws.{unary-here, binary-here, call-here, leaf-shape-here}
use Rattle.eval_shapes.proofs.shape_at.Goals as goal

pub kind_at-kind-requires : goal.kind_at-kind-requires
kind_at-kind-requires c = (sound-stands c.args.table.now c.args.literal.now c.args.at c.requires).here

pub number_at-requires : goal.number_at-requires
number_at-requires c = (opened c.args.table.now c.args.literal.now c.args.at binary_kind (sym c.kind_at-kind.ensures ∙ c.if-kind-eq-BINARY.true) c.requires).body

pub number_at-requires-in-8 : goal.number_at-requires-in-8
number_at-requires-in-8 c = (opened c.args.table.now c.args.literal.now c.args.at unary_kind (sym c.kind_at-kind.ensures ∙ c.in-8.is) c.requires).body

pub number_at-requires-in-11 : goal.number_at-requires-in-11
number_at-requires-in-11 c = let o = (opened c.args.table.now c.args.literal.now c.args.at select_kind (sym c.kind_at-kind.ensures ∙ c.in-11.is) c.requires).body in omega (arith, o)

pub number_at-requires-in-16 : goal.number_at-requires-in-16
number_at-requires-in-16 c = (opened c.args.table.now c.args.literal.now c.args.at function_kind (sym c.kind_at-kind.ensures ∙ c.in-16.is) c.requires).body

pub returns-then-kind-eq-BINARY : goal.returns-then-kind-eq-BINARY
returns-then-kind-eq-BINARY c = binary-here c.args.table.now c.args.literal.now c.args.at c.requires (sym c.kind_at-kind.ensures ∙ c.if-kind-eq-BINARY.true) c.binary_of.result (c.binary_of.ensures ∙ ap (λ (n : ℕ). binary_of n) c.number_at.ensures)

pub returns-in-8 : goal.returns-in-8
returns-in-8 c = unary-here c.args.table.now c.args.literal.now c.args.at c.requires (sym c.kind_at-kind.ensures ∙ c.in-8.is) c.unary_of.result (c.unary_of.ensures ∙ ap (λ (n : ℕ). unary_of n) c.number_at-in-8.ensures)

pub returns-in-10 : goal.returns-in-10
returns-in-10 c = rw (opened c.args.table.now c.args.literal.now c.args.at conditional_kind (sym c.kind_at-kind.ensures ∙ c.in-10.is) c.requires).is

pub returns-in-11 : goal.returns-in-11
returns-in-11 c = rw ((opened c.args.table.now c.args.literal.now c.args.at select_kind (sym c.kind_at-kind.ensures ∙ c.in-11.is) c.requires).is, c.number_at-in-11.ensures)

pub returns-in-12 : goal.returns-in-12
returns-in-12 c = rw (opened c.args.table.now c.args.literal.now c.args.at list_kind (sym c.kind_at-kind.ensures ∙ c.in-12.is) c.requires).is

pub returns-in-13 : goal.returns-in-13
returns-in-13 c = rw (opened c.args.table.now c.args.literal.now c.args.at map_kind (sym c.kind_at-kind.ensures ∙ c.in-13.is) c.requires).is

pub returns-in-15 : goal.returns-in-15
returns-in-15 c = rw (opened c.args.table.now c.args.literal.now c.args.at comprehension_kind (sym c.kind_at-kind.ensures ∙ c.in-15.is) c.requires).is

pub returns-in-16 : goal.returns-in-16
returns-in-16 c = c.call_shape.ensures ∙ (ap (λ (n : ℕ). call_shape n) c.number_at-in-16.ensures ∙ call-here c.args.table.now c.args.literal.now c.args.at c.requires (sym c.kind_at-kind.ensures ∙ c.in-16.is))

pub returns-in_default : goal.returns-in_default
returns-in_default c = leaf-shape-here c.args.table.now c.args.literal.now c.args.at c.requires (leaf-here c.args.table.now c.args.literal.now c.args.at c.requires (λ i. c.in_default.in_default-own.rest.0.0.0.0.0.0.1 (c.kind_at-kind.ensures ∙ i)) (λ i. c.if-kind-eq-BINARY.false (c.kind_at-kind.ensures ∙ i)) (λ i. c.in_default.in_default-own.rest.0.0.0.0.0.1 (c.kind_at-kind.ensures ∙ i)) (λ i. c.in_default.in_default-own.rest.0.0.0.0.1 (c.kind_at-kind.ensures ∙ i)) (λ i. c.in_default.in_default-own.rest.0.0.0.1 (c.kind_at-kind.ensures ∙ i)) (λ i. c.in_default.in_default-own.rest.0.0.1 (c.kind_at-kind.ensures ∙ i)) (λ i. c.in_default.in_default-own.rest.0.1 (c.kind_at-kind.ensures ∙ i)) (λ i. c.in_default.in_default-own.rest.1 (c.kind_at-kind.ensures ∙ i)))
