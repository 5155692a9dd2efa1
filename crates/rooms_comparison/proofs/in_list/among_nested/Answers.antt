-- `in_list::among_nested` meets its contract. Assumes nothing.
use mathlib.Core.Path.{ap, ◌∙◌}
use Rattle.rooms.specs.Memory.{rooms_seen}
use Rattle.rooms_comparison.specs.Equality.{equal_pairs}
use Rattle.rooms_comparison.proofs.AmongSteps.{looked-all, among_none, among_same, among-out, among-on}
use Rattle.rooms_comparison.proofs.in_list.among_nested.Goals as goal

pub loop-done-init : goal.loop-done-init
loop-done-init c = looked-all c.args.limit (rooms_seen c.args.view.now) c.args.value c.args.row c.args.steps

pub returns-in-Same : goal.returns-in-Same
returns-in-Same c = among_same c.args.limit (rooms_seen c.args.view.now) c.args.value c.args.row c.loop-done.done c.loop-done.pairs c.in-Same.more c.equal.result c.loop-done-test.true (c.equal.ensures ∙ ap (λ v. equal_pairs c.args.limit (rooms_seen c.args.view.now) c.args.value v c.loop-done.pairs) c.cell_at-element.ensures) c.in-Same.is ∙ c.loop-done.invariant

pub returns-in-Out : goal.returns-in-Out
returns-in-Out c = among-out c.args.limit (rooms_seen c.args.view.now) c.args.value c.args.row c.loop-done.done c.loop-done.pairs c.in-Out.more c.equal.result c.loop-done-test.true (c.equal.ensures ∙ ap (λ v. equal_pairs c.args.limit (rooms_seen c.args.view.now) c.args.value v c.loop-done.pairs) c.cell_at-element.ensures) c.in-Out.is ∙ c.loop-done.invariant

pub loop-done-preserved : goal.loop-done-preserved
loop-done-preserved c = among-on c.args.limit (rooms_seen c.args.view.now) c.args.value c.args.row c.loop-done.done c.loop-done.pairs c.in-Unlike.more c.equal.result c.loop-done-test.true (c.equal.ensures ∙ ap (λ v. equal_pairs c.args.limit (rooms_seen c.args.view.now) c.args.value v c.loop-done.pairs) c.cell_at-element.ensures) c.in-Unlike.is ∙ c.loop-done.invariant

pub returns : goal.returns
returns c = among_none c.args.limit (rooms_seen c.args.view.now) c.args.value c.args.row c.loop-done.done c.loop-done.pairs c.loop-done-test.false ∙ c.loop-done.invariant
