-- `single_lists::single_at` meets its contract. Assumes nothing.
use mathlib.Core.Path.{sym, ◌∙◌}
use Rattle.eval_shapes.proofs.KindLaws.{sound-stands}
use Rattle.eval_shapes.proofs.Rows.{list_at}
use Rattle.eval_shallow.proofs.SingleListLaws.{other-kind, other-count, element-stands, marked-one, bare-sound, bare-one}
use Rattle.eval_shallow.proofs.single_lists.single_at.Goals as goal

pub kind_at-requires : goal.kind_at-requires
kind_at-requires c = (sound-stands c.args.table.now c.args.literal.now c.args.at c.requires).here

pub returns-then-kind_at-ne-LIST : goal.returns-then-kind_at-ne-LIST
returns-then-kind_at-ne-LIST c = (other-kind c.args.table.now c.args.literal.now c.args.at c.requires (λ e. c.if-kind_at-ne-LIST.true (c.kind_at.ensures ∙ e)), tt)

pub count_at-requires : goal.count_at-requires
count_at-requires c = (list_at c.args.table.now c.args.literal.now c.args.at c.requires (sym c.kind_at.ensures ∙ c.if-kind_at-ne-LIST.false)).start

pub returns-then-count_at-ne1 : goal.returns-then-count_at-ne1
returns-then-count_at-ne1 c =
    let kind = sym c.kind_at.ensures ∙ c.if-kind_at-ne-LIST.false in
    (other-count c.args.table.now c.args.literal.now c.args.at c.requires kind (λ e. c.if-count_at-ne1.true (c.count_at.ensures.0 ∙ e)), tt)

pub first_operand-element-requires : goal.first_operand-element-requires
first_operand-element-requires c =
    let stands = sound-stands c.args.table.now c.args.literal.now c.args.at c.requires in
    (stands.here, stands.known)

pub is_marked-requires : goal.is_marked-requires
is_marked-requires c =
    let kind = sym c.kind_at.ensures ∙ c.if-kind_at-ne-LIST.false in
    let count = sym c.count_at.ensures.0 ∙ c.if-count_at-ne1.false in
    element-stands c.args.table.now c.args.literal.now c.args.at c.requires kind count c.first_operand-element.ensures

pub returns-then-is_marked : goal.returns-then-is_marked
returns-then-is_marked c =
    let kind = sym c.kind_at.ensures ∙ c.if-kind_at-ne-LIST.false in
    let count = sym c.count_at.ensures.0 ∙ c.if-count_at-ne1.false in
    (marked-one c.args.table.now c.args.literal.now c.args.at c.requires kind count c.first_operand-element.ensures c.is_marked.ensures c.if-is_marked.true, tt)

pub reach_at-requires : goal.reach_at-requires
reach_at-requires c =
    let kind = sym c.kind_at.ensures ∙ c.if-kind_at-ne-LIST.false in
    let count = sym c.count_at.ensures.0 ∙ c.if-count_at-ne1.false in
    bare-sound c.args.table.now c.args.literal.now c.args.at c.requires kind count c.first_operand-element.ensures c.is_marked.ensures c.if-is_marked.false

pub returns : goal.returns
returns c =
    let kind = sym c.kind_at.ensures ∙ c.if-kind_at-ne-LIST.false in
    let count = sym c.count_at.ensures.0 ∙ c.if-count_at-ne1.false in
    (c.reach_at.ensures.0 ∙ bare-one c.args.table.now c.args.literal.now c.args.at c.requires kind count c.first_operand-element.ensures c.is_marked.ensures c.if-is_marked.false, c.reach_at.ensures.1)
