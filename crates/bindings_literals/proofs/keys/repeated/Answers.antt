-- `keys::repeated` meets its contract. Assumes nothing.
use mathlib.Core.Path.{sym, ◌∙◌}
use Rattle.bindings_literals.proofs.KeySteps.{keys_start, keys_done, key_here, value_here, key_found, keys_on}
use Rattle.bindings_literals.proofs.keys.repeated.Goals as goal

pub loop-init : goal.loop-init
loop-init c = keys_start c.args.table.now c.args.literal.now c.args.key c.args.first c.args.count c.requires

pub literal_at-requires : goal.literal_at-requires
literal_at-requires c = let p = key_here c.loop.invariant c.loop-test.true in (p.known, p.head)

pub returns-then-key_equal : goal.returns-then-key_equal
returns-then-key_equal c = key_found c.loop.invariant c.loop-test.true c.literal_at.ensures (sym c.key_equal.ensures ∙ c.if-key_equal.true)

pub end_at-requires : goal.end_at-requires
end_at-requires c = (key_here c.loop.invariant c.loop-test.true).three

pub end_at-at-requires : goal.end_at-at-requires
end_at-at-requires c = rw c.end_at.ensures (value_here c.loop.invariant c.loop-test.true).three

pub loop-preserved : goal.loop-preserved
loop-preserved c =
    keys_on c.loop.invariant c.loop-test.true c.literal_at.ensures (sym c.key_equal.ensures ∙ c.if-key_equal.false) c.end_at.ensures c.end_at-at.ensures

pub returns : goal.returns
returns c = keys_done c.loop.invariant c.loop-test.false
