-- `comprehensions::places_at` meets its contract. Assumes nothing.
use Prim.Native.Nat.{ℕ, ◌+◌}
use mathlib.Core.Path.{◌∙◌, ap}
use native.Mathlib.Omega.{arith}
use Rattle.table_layout.specs.Layout.{after}
use Rattle.eval_shapes.specs.Comprehensions.{places_at}
use Rattle.eval_shapes.proofs.KindLaws.{sound-stands}
use Rattle.eval_shapes.proofs.ComprehensionLaws.{comprehension-at, places-are}
use Rattle.eval_shapes.proofs.comprehensions.places_at.Goals as goal

pub end_at-condition-requires : goal.end_at-condition-requires
end_at-condition-requires c = let o = comprehension-at c.args.table.now c.args.literal.now c.args.at c.requires.0 c.requires.1 in rw c.requires.2 (sound-stands c.args.table.now c.args.literal.now (after c.args.table.now (c.args.at + 5)) o.init).start

pub end_at-step-requires : goal.end_at-step-requires
end_at-step-requires c = let o = comprehension-at c.args.table.now c.args.literal.now c.args.at c.requires.0 c.requires.1 in rw (c.end_at-condition.ensures ∙ ap (λ (q : ℕ). after c.args.table.now q) c.requires.2) (sound-stands c.args.table.now c.args.literal.now (places_at c.args.table.now c.args.at).condition o.condition).start

pub number_at-requires : goal.number_at-requires
number_at-requires c = let o = comprehension-at c.args.table.now c.args.literal.now c.args.at c.requires.0 c.requires.1 in omega (arith, o.start)

pub second_at-requires : goal.second_at-requires
second_at-requires c = (comprehension-at c.args.table.now c.args.literal.now c.args.at c.requires.0 c.requires.1).start

pub end_at-requires : goal.end_at-requires
end_at-requires c = let o = comprehension-at c.args.table.now c.args.literal.now c.args.at c.requires.0 c.requires.1 in rw (c.end_at-step.ensures ∙ ap (λ (q : ℕ). after c.args.table.now q) (c.end_at-condition.ensures ∙ ap (λ (q : ℕ). after c.args.table.now q) c.requires.2)) (sound-stands c.args.table.now c.args.literal.now (places_at c.args.table.now c.args.at).step o.step).start

pub returns : goal.returns
returns c = places-are c.args.table.now c.args.at c.args.init c.requires.2 c.number_at.result c.number_at.ensures c.second_at.result c.second_at.ensures c.end_at-condition.result c.end_at-condition.ensures c.end_at-step.result c.end_at-step.ensures c.end_at.result c.end_at.ensures
