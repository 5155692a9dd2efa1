-- `cell_at` meets its contract. Assumes nothing.
use Rattle.rooms.specs.Rooms.{cell_at}
use Rattle.rooms_cells.proofs.cell_at.Goals as goal

pub returns-in-Binding : goal.returns-in-Binding
unfolding cell_at
returns-in-Binding c = simp (c.in-Binding.is, ← c.read_cell.ensures)

pub returns-in-Evaluation : goal.returns-in-Evaluation
unfolding cell_at
returns-in-Evaluation c = simp (c.in-Evaluation.is, ← c.read_cell-in-Evaluation.ensures)
