-- `equality::equal` meets its contract. Assumes nothing.
use mathlib.Core.Path.{ap, ◌∙◌}
use native.Mathlib.Numerals.{add-one}
use Rattle.rooms.specs.Memory.{rooms_seen}
use Rattle.rooms_comparison.specs.Equality.{equal_in, equal_pairs}
use Rattle.rooms_comparison.proofs.equality.equal.Goals as goal

pub returns : goal.returns
unfolding equal_pairs
returns c = c.pair.ensures ∙ ap (λ n. equal_in n c.args.limit (rooms_seen c.args.view.now) c.args.left c.args.right c.args.steps) (add-one c.nesting_of-depth.result ∙ ap (λ n. n) (λ i. Prim.Native.Nat.suc (c.nesting_of-depth.ensures i)))
