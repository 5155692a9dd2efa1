-- `equality::pair`, `elements` and `entries`, which call one another, meet their contracts: the depth falls. Assumes nothing.
use Prim.Native.Nat.{◌+◌, ℕ, ◌-◌}
use mathlib.Core.Path.{refl, ◌∙◌, sym}
use native.Mathlib.Omega.{arith}
use Rattle.rooms.specs.declared.value.Value.{Value}
use Rattle.rooms.specs.Rooms.{cell_at}
use Rattle.rooms.specs.Memory.{rooms_seen}
use Rattle.rooms_comparison.specs.Equality.{equal_in}
use Rattle.rooms_comparison.proofs.EqualitySteps.{compared-all, matched-all, elements-none, elements-on, elements-unlike, elements-out, entries_none, entries-on, entries-unlike, entries-out, entries-missing, entries-unfound}
use Rattle.rooms_comparison.specs.LookUp.{find_in}
use Rattle.rooms_comparison.specs.Seen.{seen_in}
use Rattle.rooms_comparison.proofs.PairSteps.{pair-bottom, pair-out, lists-unlike, lists-uneven, lists-even, maps-unlike, maps-uneven, maps-even, presents-unlike, presents-parts, plains}
use Rattle.rooms_comparison.proofs.equality.+elements_entries_pair.Goals as goal

pub elements-loop-done-init : goal.elements-loop-done-init
elements-loop-done-init t c = compared-all (λ (v w : Value) (j : ℕ). equal_in c.args.depth c.args.limit (rooms_seen c.args.view.now) v w j) (rooms_seen c.args.view.now) c.args.row c.args.there c.args.steps

pub elements-pair-requires : goal.elements-pair-requires
elements-pair-requires t c = (omega arith, tt)

pub elements-returns-in-Unlike : goal.elements-returns-in-Unlike
unfolding cell_at
elements-returns-in-Unlike t c = elements-unlike (λ (v w : Value) (j : ℕ). equal_in c.args.depth c.args.limit (rooms_seen c.args.view.now) v w j) (rooms_seen c.args.view.now) c.args.row c.args.there c.loop-done.done c.loop-done.pairs c.in-Unlike.more c.pair.result c.loop-done-test.true (c.pair.ensures ∙ (λ i. equal_in c.args.depth c.args.limit (rooms_seen c.args.view.now) (c.cell_at-part.ensures i) (c.cell_at-against.ensures i) c.loop-done.pairs)) c.in-Unlike.is ∙ c.loop-done.invariant

pub elements-returns-in-Out : goal.elements-returns-in-Out
unfolding cell_at
elements-returns-in-Out t c = elements-out (λ (v w : Value) (j : ℕ). equal_in c.args.depth c.args.limit (rooms_seen c.args.view.now) v w j) (rooms_seen c.args.view.now) c.args.row c.args.there c.loop-done.done c.loop-done.pairs c.in-Out.more c.pair.result c.loop-done-test.true (c.pair.ensures ∙ (λ i. equal_in c.args.depth c.args.limit (rooms_seen c.args.view.now) (c.cell_at-part.ensures i) (c.cell_at-against.ensures i) c.loop-done.pairs)) c.in-Out.is ∙ c.loop-done.invariant

pub elements-loop-done-preserved : goal.elements-loop-done-preserved
unfolding cell_at
elements-loop-done-preserved t c = elements-on (λ (v w : Value) (j : ℕ). equal_in c.args.depth c.args.limit (rooms_seen c.args.view.now) v w j) (rooms_seen c.args.view.now) c.args.row c.args.there c.loop-done.done c.loop-done.pairs c.in-Same.more c.pair.result c.loop-done-test.true (c.pair.ensures ∙ (λ i. equal_in c.args.depth c.args.limit (rooms_seen c.args.view.now) (c.cell_at-part.ensures i) (c.cell_at-against.ensures i) c.loop-done.pairs)) c.in-Same.is ∙ c.loop-done.invariant

pub elements-returns : goal.elements-returns
elements-returns t c = elements-none (λ (v w : Value) (j : ℕ). equal_in c.args.depth c.args.limit (rooms_seen c.args.view.now) v w j) (rooms_seen c.args.view.now) c.args.row c.args.there c.loop-done.done c.loop-done.pairs c.loop-done-test.false ∙ c.loop-done.invariant

pub entries-loop-done-init : goal.entries-loop-done-init
entries-loop-done-init t c = matched-all (λ (v w : Value) (j : ℕ). equal_in c.args.depth c.args.limit (rooms_seen c.args.view.now) v w j) c.args.limit (rooms_seen c.args.view.now) c.args.row c.args.there c.args.steps

pub entries-pair-requires : goal.entries-pair-requires
entries-pair-requires t c = (omega arith, tt)

pub entries-returns-in-Unlike : goal.entries-returns-in-Unlike
unfolding cell_at
entries-returns-in-Unlike t c = entries-unlike (λ (v w : Value) (j : ℕ). equal_in c.args.depth c.args.limit (rooms_seen c.args.view.now) v w j) c.args.limit (rooms_seen c.args.view.now) c.args.row c.args.there c.loop-done.done c.loop-done.pairs c.in-At.cell c.in-At.looked c.in-Unlike.more c.find.result c.pair.result c.loop-done-test.true (c.find.ensures ∙ (λ i. find_in c.args.limit (rooms_seen c.args.view.now) (c.cell_at-key.ensures i) c.args.there.space c.args.there.first c.args.there.length c.loop-done.pairs)) c.in-At.is (c.pair.ensures ∙ (λ i. equal_in c.args.depth c.args.limit (rooms_seen c.args.view.now) (c.cell_at-part.ensures i) (c.cell_at-against.ensures i) c.in-At.looked)) c.in-Unlike.is ∙ c.loop-done.invariant

pub entries-returns-in-Out-pair : goal.entries-returns-in-Out-pair
unfolding cell_at
entries-returns-in-Out-pair t c = entries-out (λ (v w : Value) (j : ℕ). equal_in c.args.depth c.args.limit (rooms_seen c.args.view.now) v w j) c.args.limit (rooms_seen c.args.view.now) c.args.row c.args.there c.loop-done.done c.loop-done.pairs c.in-At.cell c.in-At.looked c.in-Out-pair.more c.find.result c.pair.result c.loop-done-test.true (c.find.ensures ∙ (λ i. find_in c.args.limit (rooms_seen c.args.view.now) (c.cell_at-key.ensures i) c.args.there.space c.args.there.first c.args.there.length c.loop-done.pairs)) c.in-At.is (c.pair.ensures ∙ (λ i. equal_in c.args.depth c.args.limit (rooms_seen c.args.view.now) (c.cell_at-part.ensures i) (c.cell_at-against.ensures i) c.in-At.looked)) c.in-Out-pair.is ∙ c.loop-done.invariant

pub entries-returns-in-Missing : goal.entries-returns-in-Missing
unfolding cell_at
entries-returns-in-Missing t c = entries-missing (λ (v w : Value) (j : ℕ). equal_in c.args.depth c.args.limit (rooms_seen c.args.view.now) v w j) c.args.limit (rooms_seen c.args.view.now) c.args.row c.args.there c.loop-done.done c.loop-done.pairs c.in-Missing.looked c.find.result c.loop-done-test.true (c.find.ensures ∙ (λ i. find_in c.args.limit (rooms_seen c.args.view.now) (c.cell_at-key.ensures i) c.args.there.space c.args.there.first c.args.there.length c.loop-done.pairs)) c.in-Missing.is ∙ c.loop-done.invariant

pub entries-returns-in-Out : goal.entries-returns-in-Out
unfolding cell_at
entries-returns-in-Out t c = entries-unfound (λ (v w : Value) (j : ℕ). equal_in c.args.depth c.args.limit (rooms_seen c.args.view.now) v w j) c.args.limit (rooms_seen c.args.view.now) c.args.row c.args.there c.loop-done.done c.loop-done.pairs c.in-Out.looked c.find.result c.loop-done-test.true (c.find.ensures ∙ (λ i. find_in c.args.limit (rooms_seen c.args.view.now) (c.cell_at-key.ensures i) c.args.there.space c.args.there.first c.args.there.length c.loop-done.pairs)) c.in-Out.is ∙ c.loop-done.invariant

pub entries-loop-done-preserved : goal.entries-loop-done-preserved
unfolding cell_at
entries-loop-done-preserved t c = entries-on (λ (v w : Value) (j : ℕ). equal_in c.args.depth c.args.limit (rooms_seen c.args.view.now) v w j) c.args.limit (rooms_seen c.args.view.now) c.args.row c.args.there c.loop-done.done c.loop-done.pairs c.in-At.cell c.in-At.looked c.in-Same.more c.find.result c.pair.result c.loop-done-test.true (c.find.ensures ∙ (λ i. find_in c.args.limit (rooms_seen c.args.view.now) (c.cell_at-key.ensures i) c.args.there.space c.args.there.first c.args.there.length c.loop-done.pairs)) c.in-At.is (c.pair.ensures ∙ (λ i. equal_in c.args.depth c.args.limit (rooms_seen c.args.view.now) (c.cell_at-part.ensures i) (c.cell_at-against.ensures i) c.in-At.looked)) c.in-Same.is ∙ c.loop-done.invariant

pub entries-returns : goal.entries-returns
entries-returns t c = entries_none (λ (v w : Value) (j : ℕ). equal_in c.args.depth c.args.limit (rooms_seen c.args.view.now) v w j) c.args.limit (rooms_seen c.args.view.now) c.args.row c.args.there c.loop-done.done c.loop-done.pairs c.loop-done-test.false ∙ c.loop-done.invariant

-- what each member knows of the functions that it calls

pub pair-returns-then-depth-eq0 : goal.pair-returns-then-depth-eq0
pair-returns-then-depth-eq0 t c = pair-bottom c.args.depth c.args.limit (rooms_seen c.args.view.now) c.args.left c.args.right c.args.steps c.if-depth-eq0.true

pub pair-returns-then-limit-steps : goal.pair-returns-then-limit-steps
pair-returns-then-limit-steps t c = pair-out c.args.depth c.args.limit (rooms_seen c.args.view.now) c.args.left c.args.right c.args.steps c.if-depth-eq0.false c.if-limit-steps.true

pub pair-returns-then-row-there : goal.pair-returns-then-row-there
pair-returns-then-row-there t c = lists-uneven c.args.depth c.args.limit (rooms_seen c.args.view.now) c.args.left c.args.right c.args.steps c.if-depth-eq0.false c.if-limit-steps.false c.in-Elements.row.space c.in-Elements.row.first c.in-Elements.row.length (sym c.parts_of.ensures ∙ c.in-Elements.is) c.in-Elements-parts_of.there.space c.in-Elements-parts_of.there.first c.in-Elements-parts_of.there.length (sym c.parts_of-in-Elements.ensures ∙ c.in-Elements-parts_of.is) c.if-row-there.true

pub pair-elements-requires : goal.pair-elements-requires
pair-elements-requires t c = (omega arith, tt)

pub pair-returns-then-row-there-2 : goal.pair-returns-then-row-there-2
pair-returns-then-row-there-2 t c = maps-uneven c.args.depth c.args.limit (rooms_seen c.args.view.now) c.args.left c.args.right c.args.steps c.if-depth-eq0.false c.if-limit-steps.false c.in-Entries.row.space c.in-Entries.row.first c.in-Entries.row.length (sym c.parts_of.ensures ∙ c.in-Entries.is) c.in-Entries-parts_of-2.there.space c.in-Entries-parts_of-2.there.first c.in-Entries-parts_of-2.there.length (sym c.parts_of-in-Entries.ensures ∙ c.in-Entries-parts_of-2.is) c.if-row-there-2.true

pub pair-entries-requires : goal.pair-entries-requires
pair-entries-requires t c = (omega arith, tt)

pub pair-pair-requires : goal.pair-pair-requires
pair-pair-requires t c = (omega arith, tt)

pub pair-returns-else-row-there : goal.pair-returns-else-row-there
pair-returns-else-row-there t c = lists-even c.args.depth c.args.limit (rooms_seen c.args.view.now) c.args.left c.args.right c.args.steps c.if-depth-eq0.false c.if-limit-steps.false c.in-Elements.row.space c.in-Elements.row.first c.in-Elements.row.length (sym c.parts_of.ensures ∙ c.in-Elements.is) c.in-Elements-parts_of.there.space c.in-Elements-parts_of.there.first c.in-Elements-parts_of.there.length c.elements.result (sym c.parts_of-in-Elements.ensures ∙ c.in-Elements-parts_of.is) c.if-row-there.false c.elements.ensures

pub pair-returns-in-Entries-parts_of : goal.pair-returns-in-Entries-parts_of
pair-returns-in-Entries-parts_of t c = lists-unlike c.args.depth c.args.limit (rooms_seen c.args.view.now) c.args.left c.args.right c.args.steps c.if-depth-eq0.false c.if-limit-steps.false c.in-Elements.row.space c.in-Elements.row.first c.in-Elements.row.length (sym c.parts_of.ensures ∙ c.in-Elements.is) _ (sym c.parts_of-in-Elements.ensures ∙ c.in-Entries-parts_of.is) refl

pub pair-returns-in-Present-parts_of : goal.pair-returns-in-Present-parts_of
pair-returns-in-Present-parts_of t c = lists-unlike c.args.depth c.args.limit (rooms_seen c.args.view.now) c.args.left c.args.right c.args.steps c.if-depth-eq0.false c.if-limit-steps.false c.in-Elements.row.space c.in-Elements.row.first c.in-Elements.row.length (sym c.parts_of.ensures ∙ c.in-Elements.is) _ (sym c.parts_of-in-Elements.ensures ∙ c.in-Present-parts_of.is) refl

pub pair-returns-in-Nothing-parts_of : goal.pair-returns-in-Nothing-parts_of
pair-returns-in-Nothing-parts_of t c = lists-unlike c.args.depth c.args.limit (rooms_seen c.args.view.now) c.args.left c.args.right c.args.steps c.if-depth-eq0.false c.if-limit-steps.false c.in-Elements.row.space c.in-Elements.row.first c.in-Elements.row.length (sym c.parts_of.ensures ∙ c.in-Elements.is) _ (sym c.parts_of-in-Elements.ensures ∙ c.in-Nothing-parts_of.is) refl

pub pair-returns-in-Elements-parts_of-2 : goal.pair-returns-in-Elements-parts_of-2
pair-returns-in-Elements-parts_of-2 t c = maps-unlike c.args.depth c.args.limit (rooms_seen c.args.view.now) c.args.left c.args.right c.args.steps c.if-depth-eq0.false c.if-limit-steps.false c.in-Entries.row.space c.in-Entries.row.first c.in-Entries.row.length (sym c.parts_of.ensures ∙ c.in-Entries.is) _ (sym c.parts_of-in-Entries.ensures ∙ c.in-Elements-parts_of-2.is) refl

pub pair-returns-else-row-there-2 : goal.pair-returns-else-row-there-2
pair-returns-else-row-there-2 t c = maps-even c.args.depth c.args.limit (rooms_seen c.args.view.now) c.args.left c.args.right c.args.steps c.if-depth-eq0.false c.if-limit-steps.false c.in-Entries.row.space c.in-Entries.row.first c.in-Entries.row.length (sym c.parts_of.ensures ∙ c.in-Entries.is) c.in-Entries-parts_of-2.there.space c.in-Entries-parts_of-2.there.first c.in-Entries-parts_of-2.there.length c.entries.result (sym c.parts_of-in-Entries.ensures ∙ c.in-Entries-parts_of-2.is) c.if-row-there-2.false (rw (sym c.if-row-there-2.false) at c.entries.ensures)

pub pair-returns-in-Present-parts_of-2 : goal.pair-returns-in-Present-parts_of-2
pair-returns-in-Present-parts_of-2 t c = maps-unlike c.args.depth c.args.limit (rooms_seen c.args.view.now) c.args.left c.args.right c.args.steps c.if-depth-eq0.false c.if-limit-steps.false c.in-Entries.row.space c.in-Entries.row.first c.in-Entries.row.length (sym c.parts_of.ensures ∙ c.in-Entries.is) _ (sym c.parts_of-in-Entries.ensures ∙ c.in-Present-parts_of-2.is) refl

pub pair-returns-in-Nothing-parts_of-2 : goal.pair-returns-in-Nothing-parts_of-2
pair-returns-in-Nothing-parts_of-2 t c = maps-unlike c.args.depth c.args.limit (rooms_seen c.args.view.now) c.args.left c.args.right c.args.steps c.if-depth-eq0.false c.if-limit-steps.false c.in-Entries.row.space c.in-Entries.row.first c.in-Entries.row.length (sym c.parts_of.ensures ∙ c.in-Entries.is) _ (sym c.parts_of-in-Entries.ensures ∙ c.in-Nothing-parts_of-2.is) refl

pub pair-returns-in-Elements-parts_of-3 : goal.pair-returns-in-Elements-parts_of-3
pair-returns-in-Elements-parts_of-3 t c = presents-unlike c.args.depth c.args.limit (rooms_seen c.args.view.now) c.args.left c.args.right c.args.steps c.if-depth-eq0.false c.if-limit-steps.false c.in-Present.space c.in-Present.cell (sym c.parts_of.ensures ∙ c.in-Present.is) _ (sym c.parts_of-in-Present.ensures ∙ c.in-Elements-parts_of-3.is) refl

pub pair-returns-in-Entries-parts_of-3 : goal.pair-returns-in-Entries-parts_of-3
pair-returns-in-Entries-parts_of-3 t c = presents-unlike c.args.depth c.args.limit (rooms_seen c.args.view.now) c.args.left c.args.right c.args.steps c.if-depth-eq0.false c.if-limit-steps.false c.in-Present.space c.in-Present.cell (sym c.parts_of.ensures ∙ c.in-Present.is) _ (sym c.parts_of-in-Present.ensures ∙ c.in-Entries-parts_of-3.is) refl

pub pair-returns-in-Present-parts_of-3 : goal.pair-returns-in-Present-parts_of-3
unfolding cell_at
pair-returns-in-Present-parts_of-3 t c = presents-parts c.args.depth c.args.limit (rooms_seen c.args.view.now) c.args.left c.args.right c.args.steps c.if-depth-eq0.false c.if-limit-steps.false c.in-Present.space c.in-Present.cell (sym c.parts_of.ensures ∙ c.in-Present.is) c.in-Present-parts_of-3.there c.in-Present-parts_of-3.other c.pair.result (sym c.parts_of-in-Present.ensures ∙ c.in-Present-parts_of-3.is) (c.pair.ensures ∙ (λ i. equal_in (c.args.depth - 1) c.args.limit (rooms_seen c.args.view.now) (c.cell_at-part.ensures i) (c.cell_at-against.ensures i) (c.args.steps + 1)))

pub pair-returns-in-Nothing-parts_of-3 : goal.pair-returns-in-Nothing-parts_of-3
pair-returns-in-Nothing-parts_of-3 t c = presents-unlike c.args.depth c.args.limit (rooms_seen c.args.view.now) c.args.left c.args.right c.args.steps c.if-depth-eq0.false c.if-limit-steps.false c.in-Present.space c.in-Present.cell (sym c.parts_of.ensures ∙ c.in-Present.is) _ (sym c.parts_of-in-Present.ensures ∙ c.in-Nothing-parts_of-3.is) refl

pub pair-returns-in-Nothing : goal.pair-returns-in-Nothing
unfolding seen_in
pair-returns-in-Nothing t c = plains c.args.depth c.args.limit (rooms_seen c.args.view.now) c.args.left c.args.right c.args.steps c.if-depth-eq0.false c.if-limit-steps.false (sym c.parts_of.ensures ∙ c.in-Nothing.is) c.plain_equal.result c.verdict.result c.verdict.ensures c.plain_equal.ensures
