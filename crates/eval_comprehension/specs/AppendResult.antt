-- What is collected on the append path, as the code has it.
use Rattle.std.specs.Prelude.{ℕ, List}
use Rattle.rooms.specs.Rooms.{Rooms, with_words}
use Rattle.machine.specs.Comprehension.{Gathered, runs_copied}
use Rattle.eval_comprehension.specs.declared.append_result.Collected.{Collected}
use Rattle.eval_comprehension.specs.declared.append_result.Runs.{Runs}

-- where each run stands, and how many cells it has
abbrev pub gathered_in : (firsts counts : List ℕ) → Collected → Gathered
gathered_in f k g = record { firsts = f; counts = k; runs = g.runs; count = g.count; nesting = g.nesting }

abbrev pub gathered_by : Runs → Gathered
gathered_by g = gathered_in g.firsts g.counts g.collected

-- n runs from the i-th on, one after the other to cell `to`
abbrev pub copies_of : (firsts counts : List ℕ) → (n i to : ℕ) → Rooms → Rooms
copies_of f k n i to r = with_words r (runs_copied r.binding_cells f k n i to r.cells)
