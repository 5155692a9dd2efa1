-- `lookup::find` meets its contract. Assumes nothing.
use mathlib.Core.Path.{ap, ◌∙◌}
use Rattle.rooms.specs.Rooms.{cell_at}
use Rattle.rooms.specs.Memory.{rooms_seen}
use Rattle.rooms_comparison.specs.Seen.{seen_in, same_seen}
use Rattle.rooms_comparison.proofs.LookUpSteps.{finds-all, find_none, find-out, find_at, find-on}
use Rattle.rooms_comparison.proofs.lookup.find.Goals as goal

pub loop-done-init : goal.loop-done-init
loop-done-init c = finds-all c.args.limit (rooms_seen c.args.view.now) c.args.probe c.args.row c.args.steps

pub returns-then-limit-pairs : goal.returns-then-limit-pairs
returns-then-limit-pairs c = find-out c.args.limit (rooms_seen c.args.view.now) c.args.probe c.args.row c.loop-done.done c.loop-done.pairs c.loop-done-test.true c.if-limit-pairs.true ∙ c.loop-done.invariant

pub returns-then-key_equal : goal.returns-then-key_equal
unfolding seen_in cell_at
returns-then-key_equal c = find_at c.args.limit (rooms_seen c.args.view.now) c.args.probe c.args.row c.loop-done.done c.loop-done.pairs c.key_equal.result c.loop-done-test.true c.if-limit-pairs.false (c.key_equal.ensures ∙ ap (λ v. same_seen (seen_in (rooms_seen c.args.view.now) c.args.probe) (seen_in (rooms_seen c.args.view.now) v)) c.cell_at-key.ensures) c.if-key_equal.true ∙ c.loop-done.invariant

pub loop-done-preserved : goal.loop-done-preserved
unfolding seen_in cell_at
loop-done-preserved c = find-on c.args.limit (rooms_seen c.args.view.now) c.args.probe c.args.row c.loop-done.done c.loop-done.pairs c.key_equal.result c.loop-done-test.true c.if-limit-pairs.false (c.key_equal.ensures ∙ ap (λ v. same_seen (seen_in (rooms_seen c.args.view.now) c.args.probe) (seen_in (rooms_seen c.args.view.now) v)) c.cell_at-key.ensures) c.if-key_equal.false ∙ c.loop-done.invariant

pub returns : goal.returns
returns c = find_none c.args.limit (rooms_seen c.args.view.now) c.args.probe c.args.row c.loop-done.done c.loop-done.pairs c.loop-done-test.false ∙ c.loop-done.invariant
