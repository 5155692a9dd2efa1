-- A List or a Map record in the making, a step at a time: its cells, an element, a key, an entry, the whole.
use Rattle.std.specs.Prelude.{ℕ, ◌+◌, ◌*◌, max, Bool, true, false, Option, None, Some, Result, Ok, Err}
use Rattle.rooms.specs.declared.value.Value.{Value}
use Rattle.rooms.specs.declared.value.Row.{Row}
use Rattle.rooms.specs.declared.value.CellSpace.TheVariants as Cells
use Rattle.rooms_comparison.specs.declared.lookup.Found.{Found}
use Rattle.rooms.specs.Value.{nesting_of, is_key}
use Rattle.rooms.specs.Rooms.{Rooms, with_words}
use Rattle.rooms_taking.specs.Taking.{cell_room, taken_of, cells_taken}
use Rattle.rooms_comparison.specs.LookUp.{find_in}
use Rattle.machine.specs.declared.outcome.Used.{Used}
use Rattle.machine.specs.declared.outcome.Error.TheVariants as Error
use Rattle.machine.specs.declared.outcome.Limit.TheVariants as Limit
use Rattle.machine.specs.declared.outcome.Outcome.{Outcome}
use Rattle.machine.specs.Outcomes.{Res, with_steps, with_cells, written}
use Rattle.machine.specs.Containers as Machine
use Rattle.eval_containers.specs.declared.Begun.{Begun}
use Rattle.eval_containers.specs.declared.Ready.{Ready}
use Rattle.eval_containers.specs.declared.Container.{Container}
use Rattle.eval_containers.specs.declared.Key.{Key}
use Rattle.eval_containers.specs.declared.entries.Entered.{Entered}

-- ---- the cells

abbrev pub begun_to : Option ℕ → ℕ → Used → Option Begun
begun_to (Some end) n u = Some (record { first = u.cells; parts = n; used = with_cells u end })
begun_to None n u = None

-- `count` cells for n parts
abbrev pub begun_of : (n count : ℕ) → Used → Rooms → Option Begun × Rooms
begun_of n count u r = (begun_to (taken_of (cell_room r.cells) u.cells count) n u, with_words r (cells_taken r.cells u.cells count))

-- ---- an element

abbrev pub grown : Ready → Value → Ready
grown g v = record { count = g.count + 1; deep = max g.deep (nesting_of v) }

abbrev pub added_of : ℕ → Ready → Option Value → Rooms → Ready × Rooms
added_of base g None r = (g, r)
added_of base g (Some v) r = (grown g v, written r (base + g.count) v)

-- ---- an entry

abbrev pub keyed_if : Bool → ℕ → Value → Used → Result Key Outcome
keyed_if true p v u = Ok (record { value = v; used = u })
keyed_if false p v u = Err (Outcome.Error Error.UnsupportedKeyType p u)

abbrev pub keyed_of : ℕ → Outcome → Result Key Outcome
keyed_of p (Outcome.Value v u) = keyed_if (is_key v) p v u
keyed_of p (Outcome.Error e q u) = Err (Outcome.Error e q u)
keyed_of p (Outcome.Exhausted x u) = Err (Outcome.Exhausted x u)

abbrev pub on_key : Result Key Outcome → Rooms → (Value → Used → Rooms → Res) → Res
on_key (Ok key) r k = k key.value key.used r
on_key (Err o) r k = (o, r)

abbrev pub inserted_if : Found → ℕ → ℕ → Ready → Value → Value → Used → Rooms → Result Entered Outcome × Rooms
inserted_if (Found.At c k) p base g key v u r = (Err (Outcome.Error Error.DuplicateKey p (with_steps u k)), r)
inserted_if (Found.Missing k) p base g key v u r =
    (Ok (record { ready = grown g v; used = with_steps u k }), written (written r (base + g.count * 2) key) (base + g.count * 2 + 1) v)
inserted_if (Found.Out k) p base g key v u r = (Err (Outcome.Exhausted Limit.Steps (with_steps u k)), r)

abbrev pub inserted_of : ℕ → ℕ → ℕ → Ready → Value → Value → Used → Rooms → Result Entered Outcome × Rooms
inserted_of limit p base g key v u r = inserted_if (find_in limit r key Cells.Evaluation base g.count u.steps) p base g key v u r

abbrev pub entered_of : ℕ → ℕ → ℕ → Ready → Value → Option Value → Used → Rooms → Result Entered Outcome × Rooms
entered_of limit p base g key None u r = (Ok (record { ready = g; used = u }), r)
entered_of limit p base g key (Some v) u r = inserted_of limit p base g key v u r

abbrev pub on_entry : Result Entered Outcome → Rooms → Machine.Filling → Res
on_entry (Ok e) r next = next e.ready.count e.ready.deep e.used r
on_entry (Err o) r next = (o, r)

-- ---- the whole

abbrev pub made_of : Container → ℕ → Row → Value
made_of Container.List d ro = Value.List d ro
made_of Container.Map d ro = Value.Map d ro
