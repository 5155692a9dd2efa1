-- A turn's elements on the append path, as the code has them.
use Rattle.std.specs.Prelude.{ℕ, eqb, Option, None, Some, Result, Ok, Err}
use Rattle.rooms.specs.declared.value.Value.{Value}
use Rattle.rooms.specs.declared.value.Row.{Row}
use Rattle.rooms.specs.declared.value.Parts.{Parts}
use Rattle.rooms.specs.Rooms.{Rooms, with_words}
use Rattle.rooms.specs.Value.{parts_of, nesting_of}
use Rattle.rooms_taking.specs.Taking.{cell_room, taken_of, cells_taken, copied}
use Rattle.machine.specs.declared.outcome.Used.{Used}
use Rattle.machine.specs.declared.outcome.Limit.TheVariants as Limit
use Rattle.machine.specs.declared.outcome.Outcome.{Outcome}
use Rattle.machine.specs.Outcomes.{Res, with_cells}
use Rattle.machine.specs.Comprehension as Machine
use Rattle.machine.specs.Comprehension.{Gathered}
use Rattle.eval_comprehension.specs.declared.append_turn.Turn.{Turn}

-- into cells that were taken
abbrev pub gather_to : Option ℕ → Row → (nesting : ℕ) → Used → Rooms → Result Turn Outcome × Rooms
gather_to (Some end) ro d u r = (
  Ok (record { run = record { first = u.cells; length = ro.length }; nesting = d; used = with_cells u end }),
  with_words r (copied r.binding_cells ro.space r.cells ro.first u.cells ro.length),
)
gather_to None ro d u r = (Err (Outcome.Exhausted Limit.Cells u), r)

-- the elements of a list that nests d deep
abbrev pub gather_elements : Row → (nesting : ℕ) → Used → Rooms → Result Turn Outcome × Rooms
gather_elements ro d u r = gather_to (taken_of (cell_room r.cells) u.cells ro.length) ro d u (with_words r (cells_taken r.cells u.cells ro.length))

abbrev pub gather_parts : Value → Parts → Used → Rooms → Result Turn Outcome × Rooms
gather_parts v (Parts.Elements ro) u r = gather_elements ro (nesting_of v) u r
gather_parts v (Parts.Entries ro) u r = (Err (Outcome.Value v u), r)
gather_parts v (Parts.Present s a) u r = (Err (Outcome.Value v u), r)
gather_parts v Parts.Nothing u r = (Err (Outcome.Value v u), r)

-- the elements of an items list, copied to cells of their own
abbrev pub gather_of : Outcome → Rooms → Result Turn Outcome × Rooms
gather_of (Outcome.Value v u) r = gather_parts v (parts_of v) u r
gather_of (Outcome.Error e p u) r = (Err (Outcome.Error e p u), r)
gather_of (Outcome.Exhausted x u) r = (Err (Outcome.Exhausted x u), r)

-- a turn's elements are one run more
abbrev pub on_gather : Result Turn Outcome → Gathered → Rooms → Machine.Gathering → Res
on_gather (Ok t) g r rest = rest (Machine.add_run (eqb t.run.length 0) g t.run.first t.run.length t.nesting) t.used r
on_gather (Err o) g r rest = (o, r)
