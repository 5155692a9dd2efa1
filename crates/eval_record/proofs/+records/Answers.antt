-- The cycle of `eval`: every member meets its contract. Here is what the check leaves of each, member by member; all answers of a cycle stand in one
-- file, since the check reads no other. Assumes nothing.
use borrow.Enum.Refused.{opened}
use Rattle.std.specs.Prelude.{None}
use Prim.Native.Nat.{ℕ, ◌+◌, ◌*◌}
use mathlib.Core.Path.{◌≡◌, sym, ◌∙◌, ap, subst}
use native.Mathlib.Omega.{arith}
use lib.Dec.{eqb}
use lib.ListN.{get_or}
use Rattle.rooms.specs.Memory.{rooms_lent}
use Rattle.rooms.specs.Rooms.{cell_at}
use Rattle.rooms.specs.Scope.{absent, stored}
use Rattle.table_layout.specs.Layout.{after}
use Rattle.table_check.specs.Records.{expr_of, elements_of, pairs_of, Sound, SoundPart}
use Rattle.machine.specs.Machine.{machine, elements, entries}
use Rattle.machine.specs.Comprehension.{turns, append_turns, nothing_gathered}
use Rattle.eval_comprehension.specs.AppendResult.{gathered_by}
use Rattle.eval_shapes.specs.declared.Shape.TheVariants as Shape
use Rattle.eval_shapes.specs.Leaves.{unmarked_at, leaf_step}
use Rattle.eval_shapes.specs.Comprehensions.{loop_at, append_at, path_of, path_seen}
use Rattle.eval_shapes.proofs.KindLaws.{sound-stands}
use Rattle.eval_shapes.proofs.ShapeLaws.{leaf-byte, shape-byte}
use Rattle.eval_shapes.proofs.Operands.{fixed-at}
use Rattle.eval_shapes.proofs.Rows.{list_at, map_at, element-next, entry_next}
use Rattle.eval_shapes.proofs.ComprehensionLaws.{comprehension-at}
use Rattle.eval_shallow.specs.Shallow.{reach_of}
use Rattle.eval_shallow.specs.SingleLists.{single_of}
use Rattle.eval_shallow.proofs.Stops.{stays-here, stays, stays-on, stays-given}
use Rattle.eval_shallow.proofs.SlotLaws.{leaf-here}
use Rattle.eval_shallow.proofs.FixedOperands.{after-step, stops_first, joins-both, second_at}
use Rattle.eval_shallow.proofs.BeginLaws.{begun-places, list_full, list-is}
use Rattle.eval_shallow.proofs.ListLaws.{added-count, no-element, element-stops, element-again}
use Rattle.eval_record.proofs.SlotReads.{of-literal, over-literal, on-literal, leaf-does}
use Rattle.eval_record.proofs.Evals.{leaf-is, none_is, map-full, map_is}
use Rattle.eval_record.proofs.Lists.{list-begins}
use Rattle.eval_record.proofs.Maps.{map-begins, entered-count, no-entry, key-ends, value-stops, entry-ends, entry-again}
use Rattle.eval_record.proofs.Turns.{held-is, result-is, no-turn, turn-ends, turn-fails, step-ends, step-holds, step-binds, turns-begin, turns-again, turns-over}
use Rattle.eval_record.proofs.Appends.{Guarded, no-append, append-ends, append-fails, guard-ends, guard-fails, list-ends, list-again, literal-does, run-added, appends-begin, appends-again, appends-over, came-unguarded, came-guarded, there-is, there-is-none, guard-within}
use Rattle.eval_record.proofs.Comprehends.{init-stops, range-stops, no-range, turns-are, appends-are, condition-sound, step-sound, result-sound, accumulator-small, item-small, operands-smaller, literal-asked}
use Rattle.eval_record.proofs.+records.Goals as goal
use Rattle.eval_record.proofs.+records.Goals.{appending::appends-Joined-is_some, appending::appends-then-is_some, appending::appends-else-is_some}

-- ---- `part`: a literal or a name with its slot

pub operands::part-is_leaf-requires : goal.operands::part-is_leaf-requires
operands::part-is_leaf-requires t c =
    (sound-stands c.args.table.now c.args.lent.now.literal.now c.args.at c.requires).here

pub operands::part-returns-then-is_leaf : goal.operands::part-returns-then-is_leaf
operands::part-returns-then-is_leaf t c =
    stays-given stays-here (leaf-does c.args.table.now c.args.lent.now.literal.now c.args.limit c.args.at c.requires c.args.scope.now c.args.used (omega arith) (leaf-here c.args.table.now c.args.at c.is_leaf.ensures c.if-is_leaf.true) c.slot_at-slot.ensures c.leaf.ensures (rooms_lent c.args.lent.now))

-- ---- `eval`: what a record does after its step, and what its operands came to

pub eval::eval-leaf_value-requires : goal.eval::eval-leaf_value-requires
eval::eval-leaf_value-requires t c =
    (c.requires, leaf-byte c.args.table.now c.args.lent.now.literal.now c.args.at c.requires (sym c.shape_at.ensures ∙ c.in-Leaf.is))

pub eval::eval-returns-in-Leaf : goal.eval::eval-returns-in-Leaf
eval::eval-returns-in-Leaf t c =
    stays-given stays-here (after-step c.args.table.now c.args.lent.now.literal.now c.args.limit c.args.at c.args.scope c.args.used (rooms_lent c.args.lent.now) c.if-limit-used.false c.stepped-stepped.ensures (leaf-is c.args.table.now c.args.lent.now.literal.now c.args.limit c.args.at c.requires c.args.scope c.stepped-stepped.result (omega arith) (leaf-byte c.args.table.now c.args.lent.now.literal.now c.args.at c.requires (sym c.shape_at.ensures ∙ c.in-Leaf.is)) c.slot_at-slot.ensures c.leaf_value.ensures (rooms_lent c.args.lent.now)))

pub eval::eval-returns-in-None : goal.eval::eval-returns-in-None
eval::eval-returns-in-None t c =
    stays-given stays-here (after-step c.args.table.now c.args.lent.now.literal.now c.args.limit c.args.at c.args.scope c.args.used (rooms_lent c.args.lent.now) c.if-limit-used.false c.stepped-stepped.ensures (none_is c.args.table.now c.args.lent.now.literal.now c.args.limit c.args.at c.requires c.args.scope c.stepped-stepped.result c.shape_at.ensures c.in-None.is (rooms_lent c.args.lent.now)))

pub eval::eval-count_at-count-requires : goal.eval::eval-count_at-count-requires
eval::eval-count_at-count-requires t c =
    (list_at c.args.table.now c.args.lent.now.literal.now c.args.at c.requires (shape-byte c.args.table.now c.args.lent.now.literal.now c.args.at c.requires Shape.List (sym c.shape_at.ensures ∙ c.in-List.is) (omega arith))).start

pub eval::eval-returns-in_default : goal.eval::eval-returns-in_default
eval::eval-returns-in_default t c =
    stays-given (stays c.begin.ensures) (after-step c.args.table.now c.args.lent.now.literal.now c.args.limit c.args.at c.args.scope c.args.used (rooms_lent c.args.lent.now) c.if-limit-used.false c.stepped-stepped.ensures (list_full c.args.table.now c.args.lent.now.literal.now c.args.limit c.args.at c.requires c.args.scope c.stepped-stepped.result (shape-byte c.args.table.now c.args.lent.now.literal.now c.args.at c.requires Shape.List (sym c.shape_at.ensures ∙ c.in-List.is) (omega arith)) c.count_at-count.ensures.0 c.begin.ensures c.in_default.is c.out_of_cells.ensures))

pub eval::eval-list_parts-requires : goal.eval::eval-list_parts-requires
eval::eval-list_parts-requires t c =
    let places = begun-places c.count_at-count.result c.count_at-count.result c.stepped-stepped.result c.begin.ensures c.in-Some.is in
    (omega arith, (on-literal (λ z. Sound c.args.table.now z c.args.at) c.begin.ensures.same_literal c.requires, (shape-byte c.args.table.now c.args.lent.now.literal.now c.args.at c.requires Shape.List (sym c.shape_at.ensures ∙ c.in-List.is) (omega arith)), places.1 ∙ c.count_at-count.ensures.0))

pub eval::eval-returns-in-Some : goal.eval::eval-returns-in-Some
eval::eval-returns-in-Some t c =
    let parts = over-literal (λ z r. elements c.args.table.now c.args.limit (elements_of c.args.table.now z c.in-Some.begun.parts (c.args.at + 5)) c.args.scope c.in-Some.begun.first 0 0 c.in-Some.begun.used r) c.begin.ensures.same_literal c.list_parts.ensures in
    stays-given (stays-on (stays c.begin.ensures) (stays c.list_parts.ensures)) (after-step c.args.table.now c.args.lent.now.literal.now c.args.limit c.args.at c.args.scope c.args.used (rooms_lent c.args.lent.now) c.if-limit-used.false c.stepped-stepped.ensures (list-is c.args.table.now c.args.lent.now.literal.now c.args.limit c.args.at c.requires c.args.scope c.stepped-stepped.result (shape-byte c.args.table.now c.args.lent.now.literal.now c.args.at c.requires Shape.List (sym c.shape_at.ensures ∙ c.in-List.is) (omega arith)) c.count_at-count.ensures.0 c.begin.ensures c.in-Some.is parts))

pub eval::eval-count_at-count-requires-in-Map : goal.eval::eval-count_at-count-requires-in-Map
eval::eval-count_at-count-requires-in-Map t c =
    (map_at c.args.table.now c.args.lent.now.literal.now c.args.at c.requires (shape-byte c.args.table.now c.args.lent.now.literal.now c.args.at c.requires Shape.Map (sym c.shape_at.ensures ∙ c.in-Map.is) (omega arith))).start

pub eval::eval-returns-in_default-begin : goal.eval::eval-returns-in_default-begin
eval::eval-returns-in_default-begin t c =
    stays-given (stays c.begin-in-Map.ensures) (after-step c.args.table.now c.args.lent.now.literal.now c.args.limit c.args.at c.args.scope c.args.used (rooms_lent c.args.lent.now) c.if-limit-used.false c.stepped-stepped.ensures (map-full c.args.table.now c.args.lent.now.literal.now c.args.limit c.args.at c.requires c.args.scope c.stepped-stepped.result (shape-byte c.args.table.now c.args.lent.now.literal.now c.args.at c.requires Shape.Map (sym c.shape_at.ensures ∙ c.in-Map.is) (omega arith)) c.count_at-count-in-Map.ensures.0 c.begin-in-Map.ensures c.in_default-begin.is c.out_of_cells-in_default-begin.ensures))

pub eval::eval-map_parts-requires : goal.eval::eval-map_parts-requires
eval::eval-map_parts-requires t c =
    let places = begun-places c.count_at-count-in-Map.result (2 * c.count_at-count-in-Map.result) c.stepped-stepped.result c.begin-in-Map.ensures c.in-Some-begin.is in
    (omega arith, (on-literal (λ z. Sound c.args.table.now z c.args.at) c.begin-in-Map.ensures.same_literal c.requires, (shape-byte c.args.table.now c.args.lent.now.literal.now c.args.at c.requires Shape.Map (sym c.shape_at.ensures ∙ c.in-Map.is) (omega arith)), places.1 ∙ c.count_at-count-in-Map.ensures.0))

pub eval::eval-returns-in-Some-begin : goal.eval::eval-returns-in-Some-begin
eval::eval-returns-in-Some-begin t c =
    let parts = over-literal (λ z r. entries c.args.table.now c.args.limit c.args.at (pairs_of c.args.table.now z c.in-Some-begin.begun.parts (c.args.at + 5)) c.args.scope c.in-Some-begin.begun.first 0 0 c.in-Some-begin.begun.used r) c.begin-in-Map.ensures.same_literal c.map_parts.ensures in
    stays-given (stays-on (stays c.begin-in-Map.ensures) (stays c.map_parts.ensures)) (after-step c.args.table.now c.args.lent.now.literal.now c.args.limit c.args.at c.args.scope c.args.used (rooms_lent c.args.lent.now) c.if-limit-used.false c.stepped-stepped.ensures (map_is c.args.table.now c.args.lent.now.literal.now c.args.limit c.args.at c.requires c.args.scope c.stepped-stepped.result (shape-byte c.args.table.now c.args.lent.now.literal.now c.args.at c.requires Shape.Map (sym c.shape_at.ensures ∙ c.in-Map.is) (omega arith)) c.count_at-count-in-Map.ensures.0 c.begin-in-Map.ensures c.in-Some-begin.is parts))

pub eval::eval-comprehend-requires : goal.eval::eval-comprehend-requires
eval::eval-comprehend-requires t c =
    (omega arith, (c.requires, shape-byte c.args.table.now c.args.lent.now.literal.now c.args.at c.requires Shape.Comprehension (sym c.shape_at.ensures ∙ c.in-Comprehension.is) (omega arith)))

pub eval::eval-reach_at-slots-requires : goal.eval::eval-reach_at-slots-requires
eval::eval-reach_at-slots-requires t c =
    let x = fixed-at c.args.table.now c.args.lent.now.literal.now c.args.at c.requires c.in-Operands.fixed (sym c.shape_at.ensures ∙ c.in-Operands.is) in
    rw c.begun_first-one.ensures x.first

pub eval::eval-operand-left-requires : goal.eval::eval-operand-left-requires
eval::eval-operand-left-requires t c =
    let x = fixed-at c.args.table.now c.args.lent.now.literal.now c.args.at c.requires c.in-Operands.fixed (sym c.shape_at.ensures ∙ c.in-Operands.is) in
    let s : Sound c.args.table.now c.args.lent.now.literal.now c.begun_first-one.result = rw c.begun_first-one.ensures x.first in
    let q = rw (sym c.begun_first-one.ensures) at x.smaller in
    (omega (arith, q), (s, c.reach_at-slots.ensures.0, c.reach_at-slots.ensures.1))

pub eval::eval-reach_at-slots-requires-in-At : goal.eval::eval-reach_at-slots-requires-in-At
eval::eval-reach_at-slots-requires-in-At t c =
    let x = fixed-at c.args.table.now c.args.lent.now.literal.now c.args.at c.requires c.in-Operands.fixed (sym c.shape_at.ensures ∙ c.in-Operands.is) in
    let q = second_at c.args.table.now c.args.lent.now.literal.now c.args.limit c.args.at x c.operand-left.result (rooms_lent c.operand-left.new.lent) c.next_after.ensures.gives c.in-At.is in
    let between = stays-on (stays c.operand-left.ensures) (stays c.next_after.ensures) in
    on-literal (λ z. Sound c.args.table.now z c.in-At.two) between.same_literal q.0

pub eval::eval-operand-right-requires : goal.eval::eval-operand-right-requires
eval::eval-operand-right-requires t c =
    let x = fixed-at c.args.table.now c.args.lent.now.literal.now c.args.at c.requires c.in-Operands.fixed (sym c.shape_at.ensures ∙ c.in-Operands.is) in
    let q = second_at c.args.table.now c.args.lent.now.literal.now c.args.limit c.args.at x c.operand-left.result (rooms_lent c.operand-left.new.lent) c.next_after.ensures.gives c.in-At.is in
    let between = stays-on (stays c.operand-left.ensures) (stays c.next_after.ensures) in
    (omega (arith, q.1), (on-literal (λ z. Sound c.args.table.now z c.in-At.two) between.same_literal q.0, c.reach_at-slots-in-At.ensures.0, c.reach_at-slots-in-At.ensures.1))

pub eval::eval-returns-in-Stop : goal.eval::eval-returns-in-Stop
eval::eval-returns-in-Stop t c =
    let x = fixed-at c.args.table.now c.args.lent.now.literal.now c.args.at c.requires c.in-Operands.fixed (sym c.shape_at.ensures ∙ c.in-Operands.is) in
    let left = c.operand-left.ensures.gives ∙ ap (λ (n : ℕ). machine c.args.table.now c.args.limit (expr_of c.args.table.now c.args.lent.now.literal.now n) c.args.scope c.stepped-stepped.result (rooms_lent c.args.lent.now)) c.begun_first-one.ensures in
    let between = stays-on (stays c.operand-left.ensures) (stays c.next_after.ensures) in
    stays-given between (after-step c.args.table.now c.args.lent.now.literal.now c.args.limit c.args.at c.args.scope c.args.used (rooms_lent c.args.lent.now) c.if-limit-used.false c.stepped-stepped.ensures (stops_first c.args.table.now c.args.lent.now.literal.now c.args.limit c.args.at c.args.scope c.stepped-stepped.result (rooms_lent c.args.lent.now) x left c.next_after.ensures.gives c.in-Stop.is))

pub eval::eval-returns-in-At : goal.eval::eval-returns-in-At
eval::eval-returns-in-At t c =
    let x = fixed-at c.args.table.now c.args.lent.now.literal.now c.args.at c.requires c.in-Operands.fixed (sym c.shape_at.ensures ∙ c.in-Operands.is) in
    let left = c.operand-left.ensures.gives ∙ ap (λ (n : ℕ). machine c.args.table.now c.args.limit (expr_of c.args.table.now c.args.lent.now.literal.now n) c.args.scope c.stepped-stepped.result (rooms_lent c.args.lent.now)) c.begun_first-one.ensures in
    let between = stays-on (stays c.operand-left.ensures) (stays c.next_after.ensures) in
    let right = of-literal c.args.table.now c.args.limit c.in-At.two c.args.scope c.in-At.more between.same_literal c.operand-right.ensures in
    stays-given (stays-on between (stays-on (stays c.operand-right.ensures) (stays c.after_both.ensures))) (after-step c.args.table.now c.args.lent.now.literal.now c.args.limit c.args.at c.args.scope c.args.used (rooms_lent c.args.lent.now) c.if-limit-used.false c.stepped-stepped.ensures (joins-both c.args.table.now c.args.lent.now.literal.now c.args.limit c.args.at c.args.scope c.stepped-stepped.result (rooms_lent c.args.lent.now) x left c.next_after.ensures.gives c.in-At.is right c.after_both.ensures.gives))

-- ---- `list_parts`: the elements of a List, one after the other

pub list_records::list_parts-loop-left-init : goal.list_records::list_parts-loop-left-init
list_records::list_parts-loop-left-init t c =
    list-begins c.args.table.now c.args.lent.now.literal.now c.args.limit c.args.at c.args.begun.first c.args.begun.parts c.args.scope c.args.begun.used c.args.lent.now c.requires.0 c.requires.1 c.requires.2 c.first_operand-place.ensures

pub list_records::list_parts-is_marked-marked-requires : goal.list_records::list_parts-is_marked-marked-requires
list_records::list_parts-is_marked-marked-requires t c =
    let f = element-next c.args.table.now c.args.lent.now.literal.now c.args.at c.loop-left.left c.loop-left.place c.loop-left-test.true c.loop-left.invariant.row in
    omega (arith, f.part.start)

pub list_records::list_parts-part-outcome-requires : goal.list_records::list_parts-part-outcome-requires
list_records::list_parts-part-outcome-requires t c =
    let f = element-next c.args.table.now c.args.lent.now.literal.now c.args.at c.loop-left.left c.loop-left.place c.loop-left-test.true c.loop-left.invariant.row in
    let s : Sound c.args.table.now c.args.lent.now.literal.now c.unmarked-element.result = rw c.unmarked-element.ensures f.part.sound in
    let q = rw (sym c.unmarked-element.ensures) at f.smaller in
    (omega (arith, q), on-literal (λ z. Sound c.args.table.now z c.unmarked-element.result) c.loop-left.invariant.stays.same_literal s)

pub list_records::list_parts-returns-in_default : goal.list_records::list_parts-returns-in_default
list_records::list_parts-returns-in_default t c =
    let f = element-next c.args.table.now c.args.lent.now.literal.now c.args.at c.loop-left.left c.loop-left.place c.loop-left-test.true c.loop-left.invariant.row in
    let element = of-literal c.args.table.now c.args.limit c.unmarked-element.result c.args.scope c.loop-left.spent c.loop-left.invariant.stays.same_literal c.part-outcome.ensures ∙ ap (λ (n : ℕ). machine c.args.table.now c.args.limit (expr_of c.args.table.now c.args.lent.now.literal.now n) c.args.scope c.loop-left.spent (rooms_lent c.loop-left.lent)) c.unmarked-element.ensures in
    stays-given (stays-on c.loop-left.invariant.stays (stays c.part-outcome.ensures)) (element-stops c.args.table.now c.args.lent.now.literal.now c.args.limit c.args.begun.first c.args.scope c.loop-left.left c.loop-left.place c.loop-left-test.true f.sound c.loop-left.ready c.loop-left.spent (rooms_lent c.loop-left.lent) element (opened c.in_default.in_default-own.keys2) ∙ c.loop-left.invariant.same)

pub list_records::list_parts-end_at-place-requires : goal.list_records::list_parts-end_at-place-requires
list_records::list_parts-end_at-place-requires t c =
    let f = element-next c.args.table.now c.args.lent.now.literal.now c.args.at c.loop-left.left c.loop-left.place c.loop-left-test.true c.loop-left.invariant.row in
    f.part.start

pub list_records::list_parts-loop-left-preserved : goal.list_records::list_parts-loop-left-preserved
list_records::list_parts-loop-left-preserved t c =
    let f = element-next c.args.table.now c.args.lent.now.literal.now c.args.at c.loop-left.left c.loop-left.place c.loop-left-test.true c.loop-left.invariant.row in
    let element = of-literal c.args.table.now c.args.limit c.unmarked-element.result c.args.scope c.loop-left.spent c.loop-left.invariant.stays.same_literal c.part-outcome.ensures ∙ ap (λ (n : ℕ). machine c.args.table.now c.args.limit (expr_of c.args.table.now c.args.lent.now.literal.now n) c.args.scope c.loop-left.spent (rooms_lent c.loop-left.lent)) c.unmarked-element.ensures in
    let n = added-count c.args.begun.first c.loop-left.ready c.is_marked-marked.result c.in-Value.v c.add_element-ready.ensures in
    rw c.end_at-place.ensures (record {
      row = f.rest;
      stays = stays-on c.loop-left.invariant.stays (stays-on (stays c.part-outcome.ensures) (stays c.add_element-ready.ensures));
      room = omega (arith, n, c.loop-left.invariant.room, c.loop-left-test.true);
      same = element-again c.args.table.now c.args.lent.now.literal.now c.args.limit c.args.begun.first c.args.scope c.loop-left.left c.loop-left.place c.loop-left-test.true f.sound c.loop-left.ready c.loop-left.spent (rooms_lent c.loop-left.lent) element c.in-Value.is c.is_marked-marked.ensures c.add_element-ready.ensures ∙ c.loop-left.invariant.same;
    })

pub list_records::list_parts-returns : goal.list_records::list_parts-returns
list_records::list_parts-returns t c =
    stays-given c.loop-left.invariant.stays (ap (λ o. (o, rooms_lent c.loop-left.lent)) c.whole_of.ensures ∙ (sym (no-element c.args.table.now c.args.lent.now.literal.now c.args.limit c.args.begun.first c.args.scope c.loop-left.left c.loop-left.place (omega arith) c.loop-left.ready c.loop-left.spent (rooms_lent c.loop-left.lent)) ∙ c.loop-left.invariant.same))

-- ---- `map_parts`: the entries of a Map, one after the other

pub map_records::map_parts-loop-left-init : goal.map_records::map_parts-loop-left-init
map_records::map_parts-loop-left-init t c =
    map-begins c.args.table.now c.args.lent.now.literal.now c.args.limit c.args.at c.args.begun.first c.args.begun.parts c.args.scope c.args.begun.used c.args.lent.now c.requires.0 c.requires.1 c.requires.2 c.first_operand-place.ensures

pub map_records::map_parts-part-one-requires : goal.map_records::map_parts-part-one-requires
map_records::map_parts-part-one-requires t c =
    let f = entry_next c.args.table.now c.args.lent.now.literal.now c.args.at c.loop-left.left c.loop-left.place c.loop-left-test.true c.loop-left.invariant.row in
    (omega (arith, f.key-smaller), on-literal (λ z. Sound c.args.table.now z c.loop-left.place) c.loop-left.invariant.stays.same_literal f.key)

pub map_records::map_parts-returns-in-Err : goal.map_records::map_parts-returns-in-Err
map_records::map_parts-returns-in-Err t c =
    let f = entry_next c.args.table.now c.args.lent.now.literal.now c.args.at c.loop-left.left c.loop-left.place c.loop-left-test.true c.loop-left.invariant.row in
    let keyed = of-literal c.args.table.now c.args.limit c.loop-left.place c.args.scope c.loop-left.spent c.loop-left.invariant.stays.same_literal c.part-one.ensures in
    stays-given (stays-on c.loop-left.invariant.stays (stays c.part-one.ensures)) (key-ends c.args.table.now c.args.lent.now.literal.now c.args.limit c.args.at c.args.begun.first c.args.scope c.loop-left.left c.loop-left.place c.loop-left-test.true f.sound c.loop-left.ready c.loop-left.spent (rooms_lent c.loop-left.lent) keyed c.key_of.ensures c.in-Err.is ∙ c.loop-left.invariant.same)

pub map_records::map_parts-end_at-second-requires : goal.map_records::map_parts-end_at-second-requires
map_records::map_parts-end_at-second-requires t c =
    let f = entry_next c.args.table.now c.args.lent.now.literal.now c.args.at c.loop-left.left c.loop-left.place c.loop-left-test.true c.loop-left.invariant.row in
    f.key-start

pub map_records::map_parts-is_marked-marked-requires : goal.map_records::map_parts-is_marked-marked-requires
map_records::map_parts-is_marked-marked-requires t c =
    let f = entry_next c.args.table.now c.args.lent.now.literal.now c.args.at c.loop-left.left c.loop-left.place c.loop-left-test.true c.loop-left.invariant.row in
    rw c.end_at-second.ensures (omega (arith, f.part.start))

pub map_records::map_parts-unmarked-element-requires : goal.map_records::map_parts-unmarked-element-requires
map_records::map_parts-unmarked-element-requires t c =
    let f = entry_next c.args.table.now c.args.lent.now.literal.now c.args.at c.loop-left.left c.loop-left.place c.loop-left-test.true c.loop-left.invariant.row in
    let between = stays-on c.loop-left.invariant.stays (stays c.part-one.ensures) in
    let s : SoundPart c.args.table.now c.args.lent.now.literal.now c.end_at-second.result = rw c.end_at-second.ensures f.sound in
    on-literal (λ z. SoundPart c.args.table.now z c.end_at-second.result) between.same_literal s

pub map_records::map_parts-part-two-requires : goal.map_records::map_parts-part-two-requires
map_records::map_parts-part-two-requires t c =
    let f = entry_next c.args.table.now c.args.lent.now.literal.now c.args.at c.loop-left.left c.loop-left.place c.loop-left-test.true c.loop-left.invariant.row in
    let u2 : c.unmarked-element.result ≡ unmarked_at c.args.table.now (after c.args.table.now c.loop-left.place) = c.unmarked-element.ensures ∙ ap (λ (n : ℕ). unmarked_at c.args.table.now n) c.end_at-second.ensures in
    let between = stays-on c.loop-left.invariant.stays (stays c.part-one.ensures) in
    let s : Sound c.args.table.now c.args.lent.now.literal.now c.unmarked-element.result = rw u2 f.part.sound in
    let q = rw (sym u2) at f.smaller in
    (omega (arith, q), on-literal (λ z. Sound c.args.table.now z c.unmarked-element.result) between.same_literal s)

pub map_records::map_parts-returns-in_default : goal.map_records::map_parts-returns-in_default
map_records::map_parts-returns-in_default t c =
    let f = entry_next c.args.table.now c.args.lent.now.literal.now c.args.at c.loop-left.left c.loop-left.place c.loop-left-test.true c.loop-left.invariant.row in
    let keyed = of-literal c.args.table.now c.args.limit c.loop-left.place c.args.scope c.loop-left.spent c.loop-left.invariant.stays.same_literal c.part-one.ensures in
    let u2 : c.unmarked-element.result ≡ unmarked_at c.args.table.now (after c.args.table.now c.loop-left.place) = c.unmarked-element.ensures ∙ ap (λ (n : ℕ). unmarked_at c.args.table.now n) c.end_at-second.ensures in
    let between = stays-on c.loop-left.invariant.stays (stays c.part-one.ensures) in
    let valued = of-literal c.args.table.now c.args.limit c.unmarked-element.result c.args.scope c.in-Ok.key.used between.same_literal c.part-two.ensures ∙ ap (λ (n : ℕ). machine c.args.table.now c.args.limit (expr_of c.args.table.now c.args.lent.now.literal.now n) c.args.scope c.in-Ok.key.used (rooms_lent c.part-one.new.lent)) u2 in
    stays-given (stays-on between (stays c.part-two.ensures)) (value-stops c.args.table.now c.args.lent.now.literal.now c.args.limit c.args.at c.args.begun.first c.args.scope c.loop-left.left c.loop-left.place c.loop-left-test.true f.sound c.loop-left.ready c.loop-left.spent (rooms_lent c.loop-left.lent) keyed c.key_of.ensures c.in-Ok.is valued (opened c.in_default.in_default-own.keys2) ∙ c.loop-left.invariant.same)

pub map_records::map_parts-returns-in-Err-enter : goal.map_records::map_parts-returns-in-Err-enter
map_records::map_parts-returns-in-Err-enter t c =
    let f = entry_next c.args.table.now c.args.lent.now.literal.now c.args.at c.loop-left.left c.loop-left.place c.loop-left-test.true c.loop-left.invariant.row in
    let keyed = of-literal c.args.table.now c.args.limit c.loop-left.place c.args.scope c.loop-left.spent c.loop-left.invariant.stays.same_literal c.part-one.ensures in
    let u2 : c.unmarked-element.result ≡ unmarked_at c.args.table.now (after c.args.table.now c.loop-left.place) = c.unmarked-element.ensures ∙ ap (λ (n : ℕ). unmarked_at c.args.table.now n) c.end_at-second.ensures in
    let between = stays-on c.loop-left.invariant.stays (stays c.part-one.ensures) in
    let valued = of-literal c.args.table.now c.args.limit c.unmarked-element.result c.args.scope c.in-Ok.key.used between.same_literal c.part-two.ensures ∙ ap (λ (n : ℕ). machine c.args.table.now c.args.limit (expr_of c.args.table.now c.args.lent.now.literal.now n) c.args.scope c.in-Ok.key.used (rooms_lent c.part-one.new.lent)) u2 in
    stays-given (stays-on between (stays-on (stays c.part-two.ensures) (stays c.enter.ensures))) (entry-ends c.args.table.now c.args.lent.now.literal.now c.args.limit c.args.at c.args.begun.first c.args.scope c.loop-left.left c.loop-left.place c.loop-left-test.true f.sound c.loop-left.ready c.loop-left.spent (rooms_lent c.loop-left.lent) keyed c.key_of.ensures c.in-Ok.is valued c.in-Value.is (c.is_marked-marked.ensures ∙ ap (λ (n : ℕ). eqb (get_or c.args.table.now n 0) 14) c.end_at-second.ensures) c.enter.ensures c.in-Err-enter.is ∙ c.loop-left.invariant.same)

pub map_records::map_parts-end_at-place-requires : goal.map_records::map_parts-end_at-place-requires
map_records::map_parts-end_at-place-requires t c =
    let f = entry_next c.args.table.now c.args.lent.now.literal.now c.args.at c.loop-left.left c.loop-left.place c.loop-left-test.true c.loop-left.invariant.row in
    rw c.end_at-second.ensures f.part.start

pub map_records::map_parts-loop-left-preserved : goal.map_records::map_parts-loop-left-preserved
map_records::map_parts-loop-left-preserved t c =
    let f = entry_next c.args.table.now c.args.lent.now.literal.now c.args.at c.loop-left.left c.loop-left.place c.loop-left-test.true c.loop-left.invariant.row in
    let keyed = of-literal c.args.table.now c.args.limit c.loop-left.place c.args.scope c.loop-left.spent c.loop-left.invariant.stays.same_literal c.part-one.ensures in
    let u2 : c.unmarked-element.result ≡ unmarked_at c.args.table.now (after c.args.table.now c.loop-left.place) = c.unmarked-element.ensures ∙ ap (λ (n : ℕ). unmarked_at c.args.table.now n) c.end_at-second.ensures in
    let between = stays-on c.loop-left.invariant.stays (stays c.part-one.ensures) in
    let valued = of-literal c.args.table.now c.args.limit c.unmarked-element.result c.args.scope c.in-Ok.key.used between.same_literal c.part-two.ensures ∙ ap (λ (n : ℕ). machine c.args.table.now c.args.limit (expr_of c.args.table.now c.args.lent.now.literal.now n) c.args.scope c.in-Ok.key.used (rooms_lent c.part-one.new.lent)) u2 in
    let n = entered-count c.args.limit c.args.at c.args.begun.first c.loop-left.ready c.in-Ok.key.value c.is_marked-marked.result c.in-Value.v c.in-Value.more c.enter.ensures c.in-Ok-enter.is in
    rw (c.end_at-place.ensures, c.end_at-second.ensures) (record {
      row = f.rest;
      stays = stays-on between (stays-on (stays c.part-two.ensures) (stays c.enter.ensures));
      room = omega (arith, n, c.loop-left.invariant.room, c.loop-left-test.true);
      same = entry-again c.args.table.now c.args.lent.now.literal.now c.args.limit c.args.at c.args.begun.first c.args.scope c.loop-left.left c.loop-left.place c.loop-left-test.true f.sound c.loop-left.ready c.loop-left.spent (rooms_lent c.loop-left.lent) keyed c.key_of.ensures c.in-Ok.is valued c.in-Value.is (c.is_marked-marked.ensures ∙ ap (λ (n : ℕ). eqb (get_or c.args.table.now n 0) 14) c.end_at-second.ensures) c.enter.ensures c.in-Ok-enter.is ∙ c.loop-left.invariant.same;
    })

pub map_records::map_parts-returns : goal.map_records::map_parts-returns
map_records::map_parts-returns t c =
    stays-given c.loop-left.invariant.stays (ap (λ o. (o, rooms_lent c.loop-left.lent)) c.whole_of.ensures ∙ (sym (no-entry c.args.table.now c.args.lent.now.literal.now c.args.limit c.args.at c.args.begun.first c.args.scope c.loop-left.left c.loop-left.place (omega arith) c.loop-left.ready c.loop-left.spent (rooms_lent c.loop-left.lent)) ∙ c.loop-left.invariant.same))

-- ---- `comprehend`: where a comprehension begins, its range, and which path it takes

pub comprehension::comprehend-end_at-init-requires : goal.comprehension::comprehend-end_at-init-requires
comprehension::comprehend-end_at-init-requires t c =
    let z = comprehension-at c.args.table.now c.args.lent.now.literal.now c.args.at c.requires.0 c.requires.1 in
    let f : c.first_operand-over.result ≡ c.args.at + 5 = c.first_operand-over.ensures ∙ z.first in
    rw f (sound-stands c.args.table.now c.args.lent.now.literal.now (c.args.at + 5) z.range).start

pub comprehension::comprehend-eval-one-requires : goal.comprehension::comprehend-eval-one-requires
comprehension::comprehend-eval-one-requires t c =
    let z = comprehension-at c.args.table.now c.args.lent.now.literal.now c.args.at c.requires.0 c.requires.1 in
    let f : c.first_operand-over.result ≡ c.args.at + 5 = c.first_operand-over.ensures ∙ z.first in
    let g : c.end_at-init.result ≡ after c.args.table.now (c.args.at + 5) = c.end_at-init.ensures ∙ ap (λ (n : ℕ). after c.args.table.now n) f in
    rw g (omega (arith, z.extents), z.init)

pub comprehension::comprehend-returns-in_default : goal.comprehension::comprehend-returns-in_default
comprehension::comprehend-returns-in_default t c =
    let z = comprehension-at c.args.table.now c.args.lent.now.literal.now c.args.at c.requires.0 c.requires.1 in
    stays-given (stays c.eval-one.ensures) (init-stops c.args.table.now c.args.lent.now.literal.now c.args.limit c.args.at z c.first_operand-over.ensures c.end_at-init.ensures c.args.scope c.args.used (rooms_lent c.args.lent.now) c.eval-one.ensures.gives (opened c.in_default.in_default-own.keys2))

pub comprehension::comprehend-eval-two-requires : goal.comprehension::comprehend-eval-two-requires
comprehension::comprehend-eval-two-requires t c =
    let z = comprehension-at c.args.table.now c.args.lent.now.literal.now c.args.at c.requires.0 c.requires.1 in
    let f : c.first_operand-over.result ≡ c.args.at + 5 = c.first_operand-over.ensures ∙ z.first in
    let s : Sound c.args.table.now c.args.lent.now.literal.now c.first_operand-over.result = rw f z.range in
    (rw f (omega (arith, z.extents)), on-literal (λ z. Sound c.args.table.now z c.first_operand-over.result) c.eval-one.ensures.same_literal s)

pub comprehension::comprehend-returns-in_default-two : goal.comprehension::comprehend-returns-in_default-two
comprehension::comprehend-returns-in_default-two t c =
    let z = comprehension-at c.args.table.now c.args.lent.now.literal.now c.args.at c.requires.0 c.requires.1 in
    let two = of-literal c.args.table.now c.args.limit c.first_operand-over.result c.args.scope c.in-Value.more c.eval-one.ensures.same_literal c.eval-two.ensures in
    let between = stays-on (stays c.eval-one.ensures) (stays c.eval-two.ensures) in
    stays-given between (range-stops c.args.table.now c.args.lent.now.literal.now c.args.limit c.args.at z c.first_operand-over.ensures c.end_at-init.ensures c.args.scope c.args.used (rooms_lent c.args.lent.now) c.eval-one.ensures.gives c.in-Value.is two (opened c.in_default-two.in_default-two-own.keys2))

pub comprehension::comprehend-returns-in_default-range_of : goal.comprehension::comprehend-returns-in_default-range_of
comprehension::comprehend-returns-in_default-range_of t c =
    let z = comprehension-at c.args.table.now c.args.lent.now.literal.now c.args.at c.requires.0 c.requires.1 in
    let two = of-literal c.args.table.now c.args.limit c.first_operand-over.result c.args.scope c.in-Value.more c.eval-one.ensures.same_literal c.eval-two.ensures in
    let between = stays-on (stays c.eval-one.ensures) (stays c.eval-two.ensures) in
    stays-given between (no-range c.args.table.now c.args.lent.now.literal.now c.args.limit c.args.at z c.first_operand-over.ensures c.end_at-init.ensures c.args.scope c.args.used (rooms_lent c.args.lent.now) c.eval-one.ensures.gives c.in-Value.is two c.in-Value-two.is c.range_of.ensures c.in_default-range_of.is)

pub comprehension::comprehend-places_at-places-requires : goal.comprehension::comprehend-places_at-places-requires
comprehension::comprehend-places_at-places-requires t c =
    let z = comprehension-at c.args.table.now c.args.lent.now.literal.now c.args.at c.requires.0 c.requires.1 in
    let f : c.first_operand-over.result ≡ c.args.at + 5 = c.first_operand-over.ensures ∙ z.first in
    let g : c.end_at-init.result ≡ after c.args.table.now (c.args.at + 5) = c.end_at-init.ensures ∙ ap (λ (n : ℕ). after c.args.table.now n) f in
    let between = stays-on (stays c.eval-one.ensures) (stays c.eval-two.ensures) in
    let s = on-literal (λ z. Sound c.args.table.now z c.args.at) between.same_literal c.requires.0 in
    (s, c.requires.1, g)

pub comprehension::comprehend-append_path-requires : goal.comprehension::comprehend-append_path-requires
comprehension::comprehend-append_path-requires t c =
    let between = stays-on (stays c.eval-one.ensures) (stays c.eval-two.ensures) in
    let s = on-literal (λ z. Sound c.args.table.now z c.args.at) between.same_literal c.requires.0 in
    let z = comprehension-at c.args.table.now c.eval-two.new.lent.literal.now c.args.at s c.requires.1 in
    (condition-sound c.args.table.now c.eval-two.new.lent.literal.now c.args.at z c.places_at-places.ensures, step-sound c.args.table.now c.eval-two.new.lent.literal.now c.args.at z c.places_at-places.ensures, result-sound c.args.table.now c.eval-two.new.lent.literal.now c.args.at z c.places_at-places.ensures)

pub comprehension::comprehend-turns-requires : goal.comprehension::comprehend-turns-requires
comprehension::comprehend-turns-requires t c =
    let between = stays-on (stays c.eval-one.ensures) (stays c.eval-two.ensures) in
    let s = on-literal (λ z. Sound c.args.table.now z c.args.at) between.same_literal c.requires.0 in
    let z = comprehension-at c.args.table.now c.eval-two.new.lent.literal.now c.args.at s c.requires.1 in
    let q = operands-smaller c.args.table.now c.eval-two.new.lent.literal.now c.args.at z c.places_at-places.ensures in
    (omega (arith, q), (condition-sound c.args.table.now c.eval-two.new.lent.literal.now c.args.at z c.places_at-places.ensures, step-sound c.args.table.now c.eval-two.new.lent.literal.now c.args.at z c.places_at-places.ensures, result-sound c.args.table.now c.eval-two.new.lent.literal.now c.args.at z c.places_at-places.ensures, accumulator-small c.args.table.now c.eval-two.new.lent.literal.now c.args.at z c.places_at-places.ensures, item-small c.args.table.now c.eval-two.new.lent.literal.now c.args.at z c.places_at-places.ensures))

pub comprehension::comprehend-appends-requires : goal.comprehension::comprehend-appends-requires
comprehension::comprehend-appends-requires t c =
    let between = stays-on (stays c.eval-one.ensures) (stays c.eval-two.ensures) in
    let s = on-literal (λ z. Sound c.args.table.now z c.args.at) between.same_literal c.requires.0 in
    let z = comprehension-at c.args.table.now c.eval-two.new.lent.literal.now c.args.at s c.requires.1 in
    let q = operands-smaller c.args.table.now c.eval-two.new.lent.literal.now c.args.at z c.places_at-places.ensures in
    let asked = literal-asked c.args.table.now c.eval-two.new.lent.literal.now c.args.at z c.places_at-places.ensures c.in-Value.start c.append_path.result c.append_path.ensures.0 c.in-Some-append_path.is in
    let inside = rw c.in-Some-append_path.is at c.append_path.ensures.1 in
    (omega arith, (condition-sound c.args.table.now c.eval-two.new.lent.literal.now c.args.at z c.places_at-places.ensures, asked, inside, omega (arith, q), item-small c.args.table.now c.eval-two.new.lent.literal.now c.args.at z c.places_at-places.ensures))

pub comprehension::comprehend-returns-in-None : goal.comprehension::comprehend-returns-in-None
comprehension::comprehend-returns-in-None t c =
    let z = comprehension-at c.args.table.now c.args.lent.now.literal.now c.args.at c.requires.0 c.requires.1 in
    let two = of-literal c.args.table.now c.args.limit c.first_operand-over.result c.args.scope c.in-Value.more c.eval-one.ensures.same_literal c.eval-two.ensures in
    let between = stays-on (stays c.eval-one.ensures) (stays c.eval-two.ensures) in
    let path-is = subst (λ y. (limit : ℕ) → path_seen c.args.table.now y limit c.append_path.result ≡ path_of c.args.table.now y limit c.places_at-places.result c.in-Value.start) between.same_literal c.append_path.ensures.0 in
    let run = over-literal (λ y r. turns (loop_at c.args.table.now y c.args.limit c.args.at c.places_at-places.result) c.in-Some.items.space c.in-Some.items.stride c.in-Some.items.count c.in-Some.items.first None (stored c.args.scope c.places_at-places.result.accumulator c.in-Value.start) c.in-Value-two.spent r) between.same_literal c.turns.ensures in
    stays-given (stays-on between (stays c.turns.ensures)) (turns-are c.args.table.now c.args.lent.now.literal.now c.args.limit c.args.at z c.first_operand-over.ensures c.end_at-init.ensures c.args.scope c.args.used (rooms_lent c.args.lent.now) c.eval-one.ensures.gives c.in-Value.is two c.in-Value-two.is c.range_of.ensures c.in-Some.is c.places_at-places.ensures c.append_path.result path-is c.in-None.is run)

pub comprehension::comprehend-returns-in-Some-append_path : goal.comprehension::comprehend-returns-in-Some-append_path
comprehension::comprehend-returns-in-Some-append_path t c =
    let z = comprehension-at c.args.table.now c.args.lent.now.literal.now c.args.at c.requires.0 c.requires.1 in
    let two = of-literal c.args.table.now c.args.limit c.first_operand-over.result c.args.scope c.in-Value.more c.eval-one.ensures.same_literal c.eval-two.ensures in
    let between = stays-on (stays c.eval-one.ensures) (stays c.eval-two.ensures) in
    let path-is = subst (λ y. (limit : ℕ) → path_seen c.args.table.now y limit c.append_path.result ≡ path_of c.args.table.now y limit c.places_at-places.result c.in-Value.start) between.same_literal c.append_path.ensures.0 in
    let run = over-literal (λ y r. append_turns (loop_at c.args.table.now y c.args.limit c.args.at c.places_at-places.result) (append_at c.args.table.now y c.args.limit c.in-Some-append_path.path) c.in-Some.items.space c.in-Some.items.stride c.in-Some.items.count c.in-Some.items.first nothing_gathered c.args.scope c.in-Value-two.spent r) between.same_literal c.appends.ensures in
    stays-given (stays-on between (stays c.appends.ensures)) (appends-are c.args.table.now c.args.lent.now.literal.now c.args.limit c.args.at z c.first_operand-over.ensures c.end_at-init.ensures c.args.scope c.args.used (rooms_lent c.args.lent.now) c.eval-one.ensures.gives c.in-Value.is two c.in-Value-two.is c.range_of.ensures c.in-Some.is c.places_at-places.ensures c.append_path.result path-is c.in-Some-append_path.is run)

-- ---- `turns`: the turns of a comprehension

pub comprehension::turns-loop-left-init : goal.comprehension::turns-loop-left-init
comprehension::turns-loop-left-init t c =
    turns-begin c.args.table.now c.args.lent.now.literal.now c.args.limit c.args.at c.args.items c.args.places (stored c.args.scope c.args.places.accumulator c.args.start) c.args.used c.args.lent.now (omega arith) (omega arith)

pub comprehension::turns-returns-in-Ends : goal.comprehension::turns-returns-in-Ends
comprehension::turns-returns-in-Ends t c =
    let test = of-literal c.args.table.now c.args.limit c.args.places.condition c.loop-left.inner c.loop-left.spent c.loop-left.invariant.stays.same_literal c.operand-test.ensures in
    stays-given (stays-on c.loop-left.invariant.stays (stays c.operand-test.ensures)) (turn-ends (loop_at c.args.table.now c.args.lent.now.literal.now c.args.limit c.args.at c.args.places) c.args.items.space c.args.items.stride c.loop-left.left c.loop-left.cell c.loop-left-test.true c.loop-left.held c.loop-left.inner c.loop-left.spent (rooms_lent c.loop-left.lent) test c.asks.ensures c.in-Ends.is ∙ c.loop-left.invariant.same)

pub comprehension::turns-loop-left-preserved-in-Fails : goal.comprehension::turns-loop-left-preserved-in-Fails
comprehension::turns-loop-left-preserved-in-Fails t c =
    let test = of-literal c.args.table.now c.args.limit c.args.places.condition c.loop-left.inner c.loop-left.spent c.loop-left.invariant.stays.same_literal c.operand-test.ensures in
    turns-over c.args.table.now c.args.lent.now.literal.now c.args.limit c.args.at c.args.items c.args.places (stored c.args.scope c.args.places.accumulator c.args.start) c.args.used c.args.lent.now c.loop-left.invariant (stays c.operand-test.ensures) (turn-fails (loop_at c.args.table.now c.args.lent.now.literal.now c.args.limit c.args.at c.args.places) c.args.items.space c.args.items.stride c.loop-left.left c.loop-left.cell c.loop-left-test.true c.loop-left.held c.loop-left.inner c.loop-left.spent (rooms_lent c.loop-left.lent) test c.asks.ensures c.in-Fails.is)

pub comprehension::turns-returns-in-Ends-step_of : goal.comprehension::turns-returns-in-Ends-step_of
comprehension::turns-returns-in-Ends-step_of t c =
    let test = of-literal c.args.table.now c.args.limit c.args.places.condition c.loop-left.inner c.loop-left.spent c.loop-left.invariant.stays.same_literal c.operand-test.ensures in
    let between = stays-on c.loop-left.invariant.stays (stays c.operand-test.ensures) in
    let step = of-literal c.args.table.now c.args.limit c.args.places.step (stored c.loop-left.inner c.args.places.item c.cell_at.result) c.in-Holds.more between.same_literal c.operand-gives.ensures in
    stays-given (stays-on between (stays c.operand-gives.ensures)) (step-ends (loop_at c.args.table.now c.args.lent.now.literal.now c.args.limit c.args.at c.args.places) c.args.items.space c.args.items.stride c.loop-left.left c.loop-left.cell c.loop-left-test.true c.loop-left.held c.loop-left.inner c.loop-left.spent (rooms_lent c.loop-left.lent) test c.asks.ensures c.in-Holds.is (c.cell_at.ensures ∙ ap (λ r. cell_at r c.args.items.space c.loop-left.cell) c.view.ensures) step c.folds_at-folds.ensures c.step_of.ensures c.in-Ends-step_of.is ∙ c.loop-left.invariant.same)

pub comprehension::turns-loop-left-preserved-in-Hold : goal.comprehension::turns-loop-left-preserved-in-Hold
comprehension::turns-loop-left-preserved-in-Hold t c =
    let test = of-literal c.args.table.now c.args.limit c.args.places.condition c.loop-left.inner c.loop-left.spent c.loop-left.invariant.stays.same_literal c.operand-test.ensures in
    let between = stays-on c.loop-left.invariant.stays (stays c.operand-test.ensures) in
    let step = of-literal c.args.table.now c.args.limit c.args.places.step (stored c.loop-left.inner c.args.places.item c.cell_at.result) c.in-Holds.more between.same_literal c.operand-gives.ensures in
    turns-again c.args.table.now c.args.lent.now.literal.now c.args.limit c.args.at c.args.items c.args.places (stored c.args.scope c.args.places.accumulator c.args.start) c.args.used c.args.lent.now c.loop-left.invariant (stays-on (stays c.operand-test.ensures) (stays c.operand-gives.ensures)) c.loop-left-test.true (omega arith) (step-holds (loop_at c.args.table.now c.args.lent.now.literal.now c.args.limit c.args.at c.args.places) c.args.items.space c.args.items.stride c.loop-left.left c.loop-left.cell c.loop-left-test.true c.loop-left.held c.loop-left.inner c.loop-left.spent (rooms_lent c.loop-left.lent) test c.asks.ensures c.in-Holds.is (c.cell_at.ensures ∙ ap (λ r. cell_at r c.args.items.space c.loop-left.cell) c.view.ensures) step c.folds_at-folds.ensures c.step_of.ensures c.in-Hold.is)

pub comprehension::turns-loop-left-preserved : goal.comprehension::turns-loop-left-preserved
comprehension::turns-loop-left-preserved t c =
    let test = of-literal c.args.table.now c.args.limit c.args.places.condition c.loop-left.inner c.loop-left.spent c.loop-left.invariant.stays.same_literal c.operand-test.ensures in
    let between = stays-on c.loop-left.invariant.stays (stays c.operand-test.ensures) in
    let step = of-literal c.args.table.now c.args.limit c.args.places.step (stored c.loop-left.inner c.args.places.item c.cell_at.result) c.in-Holds.more between.same_literal c.operand-gives.ensures in
    turns-again c.args.table.now c.args.lent.now.literal.now c.args.limit c.args.at c.args.items c.args.places (stored c.args.scope c.args.places.accumulator c.args.start) c.args.used c.args.lent.now c.loop-left.invariant (stays-on (stays c.operand-test.ensures) (stays c.operand-gives.ensures)) c.loop-left-test.true (omega arith) (step-binds (loop_at c.args.table.now c.args.lent.now.literal.now c.args.limit c.args.at c.args.places) c.args.items.space c.args.items.stride c.loop-left.left c.loop-left.cell c.loop-left-test.true c.loop-left.held c.loop-left.inner c.loop-left.spent (rooms_lent c.loop-left.lent) test c.asks.ensures c.in-Holds.is (c.cell_at.ensures ∙ ap (λ r. cell_at r c.args.items.space c.loop-left.cell) c.view.ensures) step c.folds_at-folds.ensures c.step_of.ensures c.in-Bind.is)

pub comprehension::turns-returns-in-Some : goal.comprehension::turns-returns-in-Some
comprehension::turns-returns-in-Some t c =
    stays-given c.loop-left.invariant.stays (no-turn (loop_at c.args.table.now c.args.lent.now.literal.now c.args.limit c.args.at c.args.places) c.args.items.space c.args.items.stride c.loop-left.left c.loop-left.cell (omega (arith, c.loop-left-test.false)) c.loop-left.held c.loop-left.inner c.loop-left.spent (rooms_lent c.loop-left.lent) (held-is (machine c.args.table.now c.args.limit (expr_of c.args.table.now c.args.lent.now.literal.now c.args.places.result)) c.in-Some.is c.loop-left.inner c.loop-left.spent (rooms_lent c.loop-left.lent)) ∙ c.loop-left.invariant.same)

pub comprehension::turns-returns-in-None : goal.comprehension::turns-returns-in-None
comprehension::turns-returns-in-None t c =
    let last = of-literal c.args.table.now c.args.limit c.args.places.result c.loop-left.inner c.loop-left.spent c.loop-left.invariant.stays.same_literal c.part.ensures in
    stays-given (stays-on c.loop-left.invariant.stays (stays c.part.ensures)) (no-turn (loop_at c.args.table.now c.args.lent.now.literal.now c.args.limit c.args.at c.args.places) c.args.items.space c.args.items.stride c.loop-left.left c.loop-left.cell (omega (arith, c.loop-left-test.false)) c.loop-left.held c.loop-left.inner c.loop-left.spent (rooms_lent c.loop-left.lent) (result-is (machine c.args.table.now c.args.limit (expr_of c.args.table.now c.args.lent.now.literal.now c.args.places.result)) c.in-None.is c.loop-left.inner c.loop-left.spent (rooms_lent c.loop-left.lent) last) ∙ c.loop-left.invariant.same)

-- ---- `appends`: the turns of the append path

pub guard-came : (t : ℕ) (c : appending::appends-Joined-is_some t) → Guarded c.args.table.now c.args.lent.now.literal.now c.args.limit c.args.at c.args.path.guard (stored c.loop-left.inner c.args.places.item c.cell_at.result) c.in-Holds.more c.loop-left.lent c.if-is_some.passes c.if-is_some.lent
guard-came t c =
    let same = c.loop-left.invariant.stays.same_literal in
    elim c.if-is_some.branch [
      | appending::appends-then-is_some w ↦
          let some = there-is c.args.path.guard c.args.path.list c.is_some.ensures w.if-is_some.true c.unwrap_or-guard.ensures in
          came-guarded c.args.table.now c.args.lent.now.literal.now c.args.limit c.args.at c.args.path.guard (stored c.loop-left.inner c.args.places.item c.cell_at.result) c.in-Holds.more c.loop-left.lent some (stays w.operand-test.ensures)
          (of-literal c.args.table.now c.args.limit c.unwrap_or-guard.result (stored c.loop-left.inner c.args.places.item c.cell_at.result) c.in-Holds.more same w.operand-test.ensures) w.asks-passes.ensures w.lent-is w.passes-is
      | appending::appends-else-is_some w ↦
          came-unguarded c.args.table.now c.args.lent.now.literal.now c.args.limit c.args.at c.args.path.guard (stored c.loop-left.inner c.args.places.item c.cell_at.result) c.in-Holds.more c.loop-left.lent (there-is-none c.args.path.guard c.is_some.ensures w.if-is_some.false) w.lent-is w.passes-is
    ]

pub appending::appends-operand-test-requires : goal.appending::appends-operand-test-requires
appending::appends-operand-test-requires t c =
    let same = c.loop-left.invariant.stays.same_literal in
    let within = guard-within c.args.table.now c.args.lent.now.literal.now c.args.places.step c.args.path.guard c.args.path.list c.requires.2 c.unwrap_or-guard.ensures in
    let slots = on-literal (λ z. c.reach_at-guard_slots.result ≡ reach_of (expr_of c.args.table.now z c.unwrap_or-guard.result)) same c.reach_at-guard_slots.ensures.0 in
    (omega (arith, within.2, c.requires.3), (on-literal (λ z. Sound c.args.table.now z c.unwrap_or-guard.result) same within.0, slots, c.reach_at-guard_slots.ensures.1))

pub appending::appends-items_list-gathers-requires : goal.appending::appends-items_list-gathers-requires
appending::appends-items_list-gathers-requires t c =
    let guard = guard-came t (goal.at.appending::appends-items_list-gathers-requires t c).Joined-is_some in
    let same = (stays-on c.loop-left.invariant.stays guard.stays).same_literal in
    let within = guard-within c.args.table.now c.args.lent.now.literal.now c.args.places.step c.args.path.guard c.args.path.list c.requires.2 c.unwrap_or-guard.ensures in
    let slots = on-literal (λ z. c.single_at-list_slots.result ≡ single_of (expr_of c.args.table.now z c.args.path.list)) same c.single_at-list_slots.ensures.0 in
    (omega (arith, within.3, c.requires.3), (on-literal (λ z. Sound c.args.table.now z c.args.path.list) same within.1, slots, c.single_at-list_slots.ensures.1))

pub appending::appends-loop-left-init : goal.appending::appends-loop-left-init
appending::appends-loop-left-init t c =
    appends-begin c.args.table.now c.args.lent.now.literal.now c.args.limit c.args.at c.args.path c.args.items c.args.places c.args.scope c.args.used c.args.lent.now (omega arith) (omega arith) c.nothing-collected.result c.nothing-collected.ensures

pub appending::appends-returns-in-Ends : goal.appending::appends-returns-in-Ends
appending::appends-returns-in-Ends t c =
    let test = literal-does c.args.table.now c.args.lent.now.literal.now c.args.limit c.args.places.condition c.requires.0 c.requires.1 absent.value c.loop-left.spent (c.leaf-test.ensures ∙ ap (λ y. leaf_step c.args.table.now c.args.limit (expr_of c.args.table.now y c.args.places.condition) absent.value c.loop-left.spent) c.loop-left.invariant.stays.same_literal) c.loop-left.inner (rooms_lent c.loop-left.lent) in
    stays-given c.loop-left.invariant.stays (append-ends (loop_at c.args.table.now c.args.lent.now.literal.now c.args.limit c.args.at c.args.places) (append_at c.args.table.now c.args.lent.now.literal.now c.args.limit c.args.path) c.args.items.space c.args.items.stride c.loop-left.left c.loop-left.cell c.loop-left-test.true (gathered_by c.loop-left.collected) c.loop-left.inner c.loop-left.spent (rooms_lent c.loop-left.lent) test c.asks.ensures c.in-Ends.is ∙ c.loop-left.invariant.same)

pub appending::appends-loop-left-preserved-in-Fails : goal.appending::appends-loop-left-preserved-in-Fails
appending::appends-loop-left-preserved-in-Fails t c =
    let test = literal-does c.args.table.now c.args.lent.now.literal.now c.args.limit c.args.places.condition c.requires.0 c.requires.1 absent.value c.loop-left.spent (c.leaf-test.ensures ∙ ap (λ y. leaf_step c.args.table.now c.args.limit (expr_of c.args.table.now y c.args.places.condition) absent.value c.loop-left.spent) c.loop-left.invariant.stays.same_literal) c.loop-left.inner (rooms_lent c.loop-left.lent) in
    appends-over c.args.table.now c.args.lent.now.literal.now c.args.limit c.args.at c.args.path c.args.items c.args.places c.args.scope c.args.used c.args.lent.now c.loop-left.invariant stays-here (append-fails (loop_at c.args.table.now c.args.lent.now.literal.now c.args.limit c.args.at c.args.places) (append_at c.args.table.now c.args.lent.now.literal.now c.args.limit c.args.path) c.args.items.space c.args.items.stride c.loop-left.left c.loop-left.cell c.loop-left-test.true (gathered_by c.loop-left.collected) c.loop-left.inner c.loop-left.spent (rooms_lent c.loop-left.lent) test c.asks.ensures c.in-Fails.is)

pub appending::appends-returns-in-Ends-passes : goal.appending::appends-returns-in-Ends-passes
appending::appends-returns-in-Ends-passes t c =
    let test = literal-does c.args.table.now c.args.lent.now.literal.now c.args.limit c.args.places.condition c.requires.0 c.requires.1 absent.value c.loop-left.spent (c.leaf-test.ensures ∙ ap (λ y. leaf_step c.args.table.now c.args.limit (expr_of c.args.table.now y c.args.places.condition) absent.value c.loop-left.spent) c.loop-left.invariant.stays.same_literal) c.loop-left.inner (rooms_lent c.loop-left.lent) in
    let guard = guard-came t (goal.at.appending::appends-returns-in-Ends-passes t c).Joined-is_some in
    stays-given (stays-on c.loop-left.invariant.stays guard.stays) (guard-ends (loop_at c.args.table.now c.args.lent.now.literal.now c.args.limit c.args.at c.args.places) (append_at c.args.table.now c.args.lent.now.literal.now c.args.limit c.args.path) c.args.items.space c.args.items.stride c.loop-left.left c.loop-left.cell c.loop-left-test.true (gathered_by c.loop-left.collected) c.loop-left.inner c.loop-left.spent (rooms_lent c.loop-left.lent) test c.asks.ensures c.in-Holds.is (c.cell_at.ensures ∙ ap (λ r. cell_at r c.args.items.space c.loop-left.cell) c.view.ensures) guard.passed c.in-Ends-passes.is ∙ c.loop-left.invariant.same)

pub appending::appends-loop-left-preserved-in-Fails-passes : goal.appending::appends-loop-left-preserved-in-Fails-passes
appending::appends-loop-left-preserved-in-Fails-passes t c =
    let test = literal-does c.args.table.now c.args.lent.now.literal.now c.args.limit c.args.places.condition c.requires.0 c.requires.1 absent.value c.loop-left.spent (c.leaf-test.ensures ∙ ap (λ y. leaf_step c.args.table.now c.args.limit (expr_of c.args.table.now y c.args.places.condition) absent.value c.loop-left.spent) c.loop-left.invariant.stays.same_literal) c.loop-left.inner (rooms_lent c.loop-left.lent) in
    let guard = guard-came t (goal.at.appending::appends-loop-left-preserved-in-Fails-passes t c).Joined-is_some in
    appends-again c.args.table.now c.args.lent.now.literal.now c.args.limit c.args.at c.args.path c.args.items c.args.places c.args.scope c.args.used c.args.lent.now c.loop-left.invariant guard.stays c.loop-left-test.true (omega arith) c.loop-left.collected (omega arith, omega arith) (guard-fails (loop_at c.args.table.now c.args.lent.now.literal.now c.args.limit c.args.at c.args.places) (append_at c.args.table.now c.args.lent.now.literal.now c.args.limit c.args.path) c.args.items.space c.args.items.stride c.loop-left.left c.loop-left.cell c.loop-left-test.true (gathered_by c.loop-left.collected) c.loop-left.inner c.loop-left.spent (rooms_lent c.loop-left.lent) test c.asks.ensures c.in-Holds.is (c.cell_at.ensures ∙ ap (λ r. cell_at r c.args.items.space c.loop-left.cell) c.view.ensures) guard.passed c.in-Fails-passes.is)

pub appending::appends-returns-in-Err : goal.appending::appends-returns-in-Err
appending::appends-returns-in-Err t c =
    let test = literal-does c.args.table.now c.args.lent.now.literal.now c.args.limit c.args.places.condition c.requires.0 c.requires.1 absent.value c.loop-left.spent (c.leaf-test.ensures ∙ ap (λ y. leaf_step c.args.table.now c.args.limit (expr_of c.args.table.now y c.args.places.condition) absent.value c.loop-left.spent) c.loop-left.invariant.stays.same_literal) c.loop-left.inner (rooms_lent c.loop-left.lent) in
    let guard = guard-came t (goal.at.appending::appends-returns-in-Err t c).Joined-is_some in
    let listed = of-literal c.args.table.now c.args.limit c.args.path.list (stored c.loop-left.inner c.args.places.item c.cell_at.result) c.in-Holds-passes.after (stays-on c.loop-left.invariant.stays guard.stays).same_literal c.items_list-gathers.ensures in
    stays-given (stays-on (stays-on c.loop-left.invariant.stays guard.stays) (stays-on (stays c.items_list-gathers.ensures) (stays c.gather_items.ensures))) (list-ends (loop_at c.args.table.now c.args.lent.now.literal.now c.args.limit c.args.at c.args.places) (append_at c.args.table.now c.args.lent.now.literal.now c.args.limit c.args.path) c.args.items.space c.args.items.stride c.loop-left.left c.loop-left.cell c.loop-left-test.true (gathered_by c.loop-left.collected) c.loop-left.inner c.loop-left.spent (rooms_lent c.loop-left.lent) test c.asks.ensures c.in-Holds.is (c.cell_at.ensures ∙ ap (λ r. cell_at r c.args.items.space c.loop-left.cell) c.view.ensures) guard.passed c.in-Holds-passes.is listed c.gather_items.ensures c.in-Err.is ∙ c.loop-left.invariant.same)

pub appending::appends-loop-left-preserved : goal.appending::appends-loop-left-preserved
appending::appends-loop-left-preserved t c =
    let test = literal-does c.args.table.now c.args.lent.now.literal.now c.args.limit c.args.places.condition c.requires.0 c.requires.1 absent.value c.loop-left.spent (c.leaf-test.ensures ∙ ap (λ y. leaf_step c.args.table.now c.args.limit (expr_of c.args.table.now y c.args.places.condition) absent.value c.loop-left.spent) c.loop-left.invariant.stays.same_literal) c.loop-left.inner (rooms_lent c.loop-left.lent) in
    let guard = guard-came t (goal.at.appending::appends-loop-left-preserved t c).Joined-is_some in
    let listed = of-literal c.args.table.now c.args.limit c.args.path.list (stored c.loop-left.inner c.args.places.item c.cell_at.result) c.in-Holds-passes.after (stays-on c.loop-left.invariant.stays guard.stays).same_literal c.items_list-gathers.ensures in
    let added = run-added c.loop-left.collected c.add.new.self _ c.in-Ok.turn.run.length _ c.add.ensures (omega arith) in
    appends-again c.args.table.now c.args.lent.now.literal.now c.args.limit c.args.at c.args.path c.args.items c.args.places c.args.scope c.args.used c.args.lent.now c.loop-left.invariant (stays-on guard.stays (stays-on (stays c.items_list-gathers.ensures) (stays c.gather_items.ensures))) c.loop-left-test.true (omega arith) c.add.new.self added
    (list-again (loop_at c.args.table.now c.args.lent.now.literal.now c.args.limit c.args.at c.args.places) (append_at c.args.table.now c.args.lent.now.literal.now c.args.limit c.args.path) c.args.items.space c.args.items.stride c.loop-left.left c.loop-left.cell c.loop-left-test.true (gathered_by c.loop-left.collected) c.loop-left.inner c.loop-left.spent (rooms_lent c.loop-left.lent) test c.asks.ensures c.in-Holds.is (c.cell_at.ensures ∙ ap (λ r. cell_at r c.args.items.space c.loop-left.cell) c.view.ensures) guard.passed c.in-Holds-passes.is listed c.gather_items.ensures c.in-Ok.is c.add.ensures)

pub appending::appends-returns : goal.appending::appends-returns
appending::appends-returns t c =
    stays-given (stays-on c.loop-left.invariant.stays (stays c.list.ensures)) (c.list.ensures.gives ∙ (sym (no-append (loop_at c.args.table.now c.args.lent.now.literal.now c.args.limit c.args.at c.args.places) (append_at c.args.table.now c.args.lent.now.literal.now c.args.limit c.args.path) c.args.items.space c.args.items.stride c.loop-left.left c.loop-left.cell (omega (arith, c.loop-left-test.false)) (gathered_by c.loop-left.collected) c.loop-left.inner c.loop-left.spent (rooms_lent c.loop-left.lent)) ∙ c.loop-left.invariant.same))
