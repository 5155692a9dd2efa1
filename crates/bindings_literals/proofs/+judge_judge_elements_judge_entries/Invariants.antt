-- What is judged and what is left; the record's bytes fall. Assumes nothing.
use Rattle.std.proofs.Common.{◌+◌, ◌-◌, ◌*◌}
use Rattle.bindings_literals.proofs.JudgingSteps.{ElementsLeft, EntriesLeft}
use Rattle.table_layout.specs.Layout.{word_at}
use Rattle.bindings_literals.specs.Literals.{row_bytes, entry_bytes}
use Rattle.bindings_literals.proofs.+judge_judge_elements_judge_entries.Given as goal

abbrev pub invariant-judge_elements-loop : goal.invariant-judge_elements-loop
invariant-judge_elements-loop l = ElementsLeft l.table l.literal l.first l.count l.sum l.at (l.count - l.counter)

abbrev pub invariant-judge_entries-loop-entry : goal.invariant-judge_entries-loop-entry
invariant-judge_entries-loop-entry l = EntriesLeft l.table l.literal l.first l.count l.sum l.at l.entry

abbrev pub decreases-judge : goal.decreases-judge
decreases-judge l = 2 * word_at l.table.now (l.at + 1)

abbrev pub decreases-judge_elements : goal.decreases-judge_elements
decreases-judge_elements l = 2 * row_bytes l.table.now l.count l.first + 1

abbrev pub decreases-judge_entries : goal.decreases-judge_entries
decreases-judge_entries l = 2 * entry_bytes l.table.now l.count l.first + 1
