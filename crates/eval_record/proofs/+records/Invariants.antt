-- The cycle of `eval`: what its loops keep, and what falls from call to call. Assumes nothing.
use Prim.Native.Nat.{◌+◌, ◌*◌}
use Rattle.table_layout.specs.Layout.{word_at}
use Rattle.eval_record.proofs.Appends.{AppendsLoop}
use Rattle.eval_record.proofs.Turns.{TurnsLoop}
use Rattle.eval_record.proofs.Lists.{ListLoop}
use Rattle.eval_record.proofs.Maps.{MapLoop}
use Rattle.eval_record.proofs.+records.Given as goal

-- ---- between the members

abbrev pub decreases-operands::operand : goal.decreases-operands::operand
decreases-operands::operand l = 4 * word_at l.table.now (l.at + 1) + 4

abbrev pub decreases-operands::items_list : goal.decreases-operands::items_list
decreases-operands::items_list l = 4 * word_at l.table.now (l.at + 1) + 4

abbrev pub decreases-operands::part : goal.decreases-operands::part
decreases-operands::part l = 4 * word_at l.table.now (l.at + 1) + 4

abbrev pub decreases-eval::eval : goal.decreases-eval::eval
decreases-eval::eval l = 4 * word_at l.table.now (l.at + 1) + 3

abbrev pub decreases-list_records::list_parts : goal.decreases-list_records::list_parts
decreases-list_records::list_parts l = 4 * word_at l.table.now (l.at + 1) + 2

abbrev pub decreases-map_records::map_parts : goal.decreases-map_records::map_parts
decreases-map_records::map_parts l = 4 * word_at l.table.now (l.at + 1) + 2

abbrev pub decreases-comprehension::comprehend : goal.decreases-comprehension::comprehend
decreases-comprehension::comprehend l = 4 * word_at l.table.now (l.at + 1) + 2

abbrev pub decreases-comprehension::turns : goal.decreases-comprehension::turns
decreases-comprehension::turns l = 4 * (word_at l.table.now (l.places.condition + 1) + word_at l.table.now (l.places.step + 1) + word_at l.table.now (l.places.result + 1)) + 5

abbrev pub decreases-appending::appends : goal.decreases-appending::appends
decreases-appending::appends l = 4 * word_at l.table.now (l.at + 1) + 1

-- ---- the loops

abbrev pub invariant-list_records::list_parts-loop-left : goal.invariant-list_records::list_parts-loop-left
invariant-list_records::list_parts-loop-left l = ListLoop l.table l.initial.lent.literal.now l.limit l.at l.begun.first l.begun.parts l.scope l.begun.used l.initial.lent l.lent l.place l.left l.spent l.ready

abbrev pub decreases-list_records::list_parts-loop-left : goal.decreases-list_records::list_parts-loop-left
decreases-list_records::list_parts-loop-left l = l.left

abbrev pub invariant-map_records::map_parts-loop-left : goal.invariant-map_records::map_parts-loop-left
invariant-map_records::map_parts-loop-left l = MapLoop l.table l.initial.lent.literal.now l.limit l.at l.begun.first l.begun.parts l.scope l.begun.used l.initial.lent l.lent l.place l.left l.spent l.ready

abbrev pub decreases-map_records::map_parts-loop-left : goal.decreases-map_records::map_parts-loop-left
decreases-map_records::map_parts-loop-left l = l.left

abbrev pub invariant-comprehension::turns-loop-left : goal.invariant-comprehension::turns-loop-left
invariant-comprehension::turns-loop-left l = TurnsLoop l.table l.initial.lent.literal.now l.limit l.at l.items l.places l.initial.inner l.initial.spent l.initial.lent l.lent l.inner l.held l.spent l.cell l.left

abbrev pub decreases-comprehension::turns-loop-left : goal.decreases-comprehension::turns-loop-left
decreases-comprehension::turns-loop-left l = l.left

abbrev pub invariant-appending::appends-loop-left : goal.invariant-appending::appends-loop-left
invariant-appending::appends-loop-left l = AppendsLoop l.table l.initial.lent.literal.now l.limit l.at l.path l.items l.places l.initial.inner l.initial.spent l.initial.lent l.lent l.inner l.collected l.spent l.cell l.left

abbrev pub decreases-appending::appends-loop-left : goal.decreases-appending::appends-loop-left
decreases-appending::appends-loop-left l = l.left
