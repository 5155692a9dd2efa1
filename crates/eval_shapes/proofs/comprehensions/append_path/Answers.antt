-- `comprehensions::append_path` meets its contract. Assumes nothing.
use mathlib.Core.Path.{sym, ◌∙◌}
use Rattle.eval_shapes.proofs.SeenOfRecords.{path-not-empty, path-no-literal, path-other-result, path-open}
use Rattle.eval_shapes.proofs.comprehensions.append_path.Goals as goal

pub returns-then-not-is_empty_list : goal.returns-then-not-is_empty_list
returns-then-not-is_empty_list c = (λ limit. path-not-empty c.args.table.now c.args.literal.now limit c.args.places c.args.start (sym c.is_empty_list.ensures ∙ c.if-not-is_empty_list.true), tt)

pub is_literal-requires : goal.is_literal-requires
is_literal-requires c = c.requires.0

pub returns-then-not-is_literal : goal.returns-then-not-is_literal
returns-then-not-is_literal c = (λ limit. path-no-literal c.args.table.now c.args.literal.now limit c.args.places c.args.start (sym c.is_empty_list.ensures ∙ c.if-not-is_empty_list.false) (sym c.is_literal.ensures ∙ c.if-not-is_literal.true), tt)

pub is_name-requires : goal.is_name-requires
is_name-requires c = c.requires.2

pub returns-then-not-is_name : goal.returns-then-not-is_name
returns-then-not-is_name c = (λ limit. path-other-result c.args.table.now c.args.literal.now limit c.args.places c.args.start (sym c.is_empty_list.ensures ∙ c.if-not-is_empty_list.false) (sym c.is_literal.ensures ∙ c.if-not-is_literal.false) (sym c.is_name.ensures ∙ c.if-not-is_name.true), tt)

pub append_step-requires : goal.append_step-requires
append_step-requires c = c.requires.1

pub returns : goal.returns
returns c = (λ limit. c.append_step.ensures.0 limit ∙ path-open c.args.table.now c.args.literal.now limit c.args.places c.args.start (sym c.is_empty_list.ensures ∙ c.if-not-is_empty_list.false) (sym c.is_literal.ensures ∙ c.if-not-is_literal.false) (sym c.is_name.ensures ∙ c.if-not-is_name.false), c.append_step.ensures.1)
