-- `in_list::among_plain` meets its contract: what is left is looked through as the whole. Assumes nothing.
use mathlib.Core.Path.{◌∙◌}
use Rattle.rooms.specs.Memory.{rooms_seen}
use Rattle.rooms_comparison.specs.Seen.{seen_in}
use Rattle.rooms_comparison.proofs.AmongSteps.{looked-all, among_none}
use Rattle.rooms_comparison.proofs.PlainSteps.{plain_out, plain-same, plain-on}
use Rattle.rooms_comparison.proofs.in_list.among_plain.Goals as goal

pub loop-done-init : goal.loop-done-init
loop-done-init c = looked-all c.args.limit (rooms_seen c.args.view.now) c.args.value c.args.row c.args.steps

pub returns-then-limit-pairs : goal.returns-then-limit-pairs
returns-then-limit-pairs c =
    plain_out c.args.limit (rooms_seen c.args.view.now) c.args.value c.requires c.args.row c.loop-done.done c.loop-done.pairs c.loop-done-test.true c.if-limit-pairs.true ∙ c.loop-done.invariant

pub returns-then-plain_equal : goal.returns-then-plain_equal
unfolding seen_in
returns-then-plain_equal c =
    plain-same c.args.limit (rooms_seen c.args.view.now) c.args.value c.requires c.args.row c.loop-done.done c.loop-done.pairs c.loop-done-test.true c.cell_at-element.result c.plain_equal.result c.if-limit-pairs.false c.cell_at-element.ensures c.plain_equal.ensures c.if-plain_equal.true ∙ c.loop-done.invariant

pub loop-done-preserved : goal.loop-done-preserved
unfolding seen_in
loop-done-preserved c =
    plain-on c.args.limit (rooms_seen c.args.view.now) c.args.value c.requires c.args.row c.loop-done.done c.loop-done.pairs c.loop-done-test.true c.cell_at-element.result c.plain_equal.result c.if-limit-pairs.false c.cell_at-element.ensures c.plain_equal.ensures c.if-plain_equal.false ∙ c.loop-done.invariant

pub returns : goal.returns
returns c = among_none c.args.limit (rooms_seen c.args.view.now) c.args.value c.args.row c.loop-done.done c.loop-done.pairs c.loop-done-test.false ∙ c.loop-done.invariant
