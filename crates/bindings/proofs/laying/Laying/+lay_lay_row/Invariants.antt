-- What is laid down and what is left, in the same lent memory; the record's bytes fall. Assumes nothing.
use Rattle.std.proofs.Common.{◌≡◌, ◌+◌, ◌-◌, ◌*◌}
use Rattle.table_layout.specs.Layout.{word_at}
use Rattle.bindings_literals.specs.Literals.{row_bytes}
use Rattle.bindings.proofs.LaySteps.{RowLeft}
use Rattle.bindings.proofs.laying.Laying.+lay_lay_row.Given as goal

abbrev pub decreases-lay : goal.decreases-lay
decreases-lay l = 2 * word_at l.table.now (l.at + 1)

abbrev pub decreases-lay_row : goal.decreases-lay_row
decreases-lay_row l = 2 * row_bytes l.table.now l.count l.first + 1

abbrev pub invariant-lay_row-loop-to : goal.invariant-lay_row-loop-to
invariant-lay_row-loop-to l =
    record {
      cells : l.self.cells.ghost_name ≡ l.initial.self.cells.ghost_name;
      text : l.self.text.ghost_name ≡ l.initial.self.text.ghost_name;
      row :
          RowLeft l.table l.literal l.first l.count l.from l.initial.self.bytes l.initial.self.cells.now l.initial.self.text.now l.self.cells.now l.self.text.now l.nesting l.self.used
          l.self.bytes l.at (l.from + l.count - l.to) l.to;
    }
