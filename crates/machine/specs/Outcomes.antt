-- The outcome of a record on rooms, and the charges: a step, cells, a value that is whole. Many rules share this.
-- `Res` is an outcome with the rooms after it; what operands do is handed to a rule as a function.
use Rattle.std.specs.Prelude.{ℕ, ◌+◌, Bool, true, false, cond, ltb}
use Rattle.meaning.specs.Limits.{deepest_value}
use Rattle.rooms.specs.declared.value.Value.{Value}
use Rattle.rooms.specs.declared.value.CellSpace.TheVariants as Cells
use Rattle.rooms.specs.declared.scope.Scope.{Scope}
use Rattle.rooms.specs.Value.{nesting_of}
use Rattle.rooms.specs.Cells.{written_in}
use Rattle.rooms.specs.Rooms.{Rooms}
-- the rooms with other cells or another text, passed on to the rules
pub use Rattle.rooms.specs.Rooms.{with_words, with_text}
use Rattle.rooms_taking.specs.Taking.{cell_room, taken_of, cells_taken}
use Rattle.machine.specs.declared.outcome.Used.{Used}
use Rattle.machine.specs.declared.outcome.Error.TheVariants as Error
use Rattle.machine.specs.declared.outcome.Limit.TheVariants as Limit
use Rattle.machine.specs.declared.outcome.Outcome.{Outcome}
use Rattle.std.specs.Prelude.{Option, None, Some}

abbrev pub Res : Type 0
Res = Outcome × Rooms

-- what a record does, or its rule
abbrev pub Does : Type 0
Does = Scope → Used → Rooms → Res

-- ---- counts and rooms

abbrev pub stepped : Used → Used
stepped u = record { steps = u.steps + 1; cells = u.cells; bytes = u.bytes }

abbrev pub with_steps : Used → ℕ → Used
with_steps u n = record { steps = n; cells = u.cells; bytes = u.bytes }

abbrev pub with_cells : Used → ℕ → Used
with_cells u n = record { steps = u.steps; cells = n; bytes = u.bytes }

abbrev pub with_bytes : Used → ℕ → Used
with_bytes u n = record { steps = u.steps; cells = u.cells; bytes = n }

-- a value is stored in a cell of the evaluation
abbrev pub written : Rooms → ℕ → Value → Rooms
written r i v = with_words r (written_in r.cells i v)

-- ---- outcomes

abbrev pub truth_out : Bool → Used → Outcome
truth_out b u = Outcome.Value (Value.Bool b) u

abbrev pub no_overload : ℕ → Used → Outcome
no_overload p u = Outcome.Error Error.NoOverload p u

-- goes on with a value; any other outcome is the answer
abbrev pub on_value : Outcome → (Value → Used → Outcome) → Outcome
on_value (Outcome.Value v u) k = k v u
on_value (Outcome.Error e p u) k = Outcome.Error e p u
on_value (Outcome.Exhausted x u) k = Outcome.Exhausted x u

abbrev pub with_value : Outcome → Rooms → (Value → Used → Rooms → Res) → Res
with_value (Outcome.Value v u) r k = k v u r
with_value (Outcome.Error e p u) r k = (Outcome.Error e p u, r)
with_value (Outcome.Exhausted x u) r k = (Outcome.Exhausted x u, r)

-- ---- charges

abbrev pub after_step : Bool → Used → Rooms → (Used → Res) → Res
after_step true u r k = k (stepped u)
after_step false u r k = (Outcome.Exhausted Limit.Steps u, r)

-- a record: its step, then what it does
abbrev pub recorded : (limit : ℕ) → Does → Does
recorded limit body s u r = after_step (ltb u.steps limit) u r (λ w. body s w r)

abbrev pub on_taken : Option ℕ → (ℕ → Res) → Res → Res
on_taken (Some end) k full = k end
on_taken None k full = full

-- n cells, which are Null from then on
abbrev pub taking : ℕ → Used → Rooms → (Used → Rooms → Res) → Res
taking n u r k =
    let q : Rooms = with_words r (cells_taken r.cells u.cells n) in
    on_taken (taken_of (cell_room r.cells) u.cells n) (λ end. k (with_cells u end) q) (Outcome.Exhausted Limit.Cells u, q)

-- a new value, with the nesting of its deepest part
abbrev pub whole : (deepest : ℕ) → (ℕ → Value) → Used → Outcome
whole d make u = cond (ltb d deepest_value) (Outcome.Value (make (d + 1)) u) (Outcome.Exhausted Limit.Nesting u)

-- a present Optional
abbrev pub present : Value → Used → Rooms → Res
present v u r = taking 1 u r (λ w q. (whole (nesting_of v) (λ d. Value.OptionalOf d Cells.Evaluation u.cells) w, written q u.cells v))
