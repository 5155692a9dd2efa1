-- That the machine refines the meaning: read out of the rooms, what a record does is what it means, from any counts and under any limits.
-- In order: outcomes of both; what is held; what a run keeps; what it built; where a record begins; the relation.
use Rattle.std.specs.Prelude.{ℕ, ◌+◌, ◌*◌, ◌≤◌, ◌<◌, ◌≡◌, ◌⊎◌, List, length, take, drop}
use Rattle.meaning.specs.Limits.{Counts}
use Rattle.meaning.specs.Errors as Errors
use Rattle.meaning.specs.Value as Meaning
use Rattle.meaning.specs.Value.{count}
use Rattle.meaning.specs.Run.{Trace, Eval}
use Rattle.meaning.specs.Comprehension as Comprehension
use Rattle.meaning.specs.Limited as Limited
use Rattle.meaning.specs.Limited.{spend, outcome, cells_built, text_built}
use Rattle.meaning_laws.specs.Charges.{counts_of}
use Rattle.rooms.specs.declared.value.Value.{Value}
use Rattle.rooms.specs.declared.value.CellSpace.{CellSpace}
use Rattle.rooms.specs.declared.value.CellSpace.TheVariants as Cells
use Rattle.rooms.specs.declared.scope.Scope.{Scope}
use Rattle.rooms.specs.Cells.{Fits}
use Rattle.rooms.specs.Rooms.{Rooms, cell_at, part}
use Rattle.rooms.specs.Scope.{StandsScope}
use Rattle.rooms.specs.Stands.{Alive, StandsCells, Holds}
use Rattle.rooms_taking.specs.Taking.{cell_room, text_room}
use Rattle.machine.specs.declared.outcome.Used.{Used}
use Rattle.machine.specs.declared.outcome.Error.{Error}
use Rattle.machine.specs.declared.outcome.Limit.{Limit}
use Rattle.machine.specs.declared.outcome.Outcome.{Outcome}
use Rattle.machine.specs.Outcomes.{Res, Does}

-- ---- outcomes

abbrev pub used_of : Counts → Used
used_of c = record { steps = c.steps; cells = c.cells; bytes = c.bytes }

abbrev pub error_of : Errors.Error → Error
error_of Errors.UndeclaredReference = Error.UndeclaredReference
error_of (Errors.UnexpectedType Errors.a_bool) = Error.BoolWanted
error_of (Errors.UnexpectedType Errors.an_iterable) = Error.IterableWanted
error_of Errors.NoOverload = Error.NoOverload
error_of Errors.FunctionError = Error.FunctionError
error_of Errors.NoSuchKey = Error.NoSuchKey
error_of (Errors.Arithmetic e) = Error.Arithmetic e
error_of Errors.DuplicateKey = Error.DuplicateKey
error_of Errors.IndexOutOfBounds = Error.IndexOutOfBounds
error_of Errors.UnsupportedKeyType = Error.UnsupportedKeyType
error_of Errors.Unordered = Error.Unordered

abbrev pub limit_of : Errors.Exhausted → Limit
limit_of Errors.Steps = Limit.Steps
limit_of Errors.Cells = Limit.Cells
limit_of Errors.Text = Limit.Text
limit_of Errors.Nesting = Limit.Nesting

-- the outcome of a run from given counts, under limits; `limited` is this with no counts yet
abbrev pub from : Counts → Eval Meaning.Value → Counts → Limited.Outcome
from limits e c = outcome e.1 (spend limits e.0 c)

-- ---- values

-- every cell holds a value that words can hold
abbrev pub FitCells : Rooms → Type 0
FitCells r = (space : CellSpace) (i : ℕ) → Fits (cell_at r space i)

-- ---- what a run keeps

-- what is alive, with the evaluation's cells taken since `since` and the bytes up to `now`
abbrev pub Live : Alive → (since now : Counts) → Alive
Live L u c = record { cells = λ space i. L.cells space i ⊎ ((space ≡ Cells.Evaluation) × (u.cells ≤ i) × (i < c.cells)); bytes = c.bytes }

pub record Upto (u c : Counts) : Type 0 where
  pub cells : u.cells ≤ c.cells
  pub bytes : u.bytes ≤ c.bytes

pub record Roomy (u : Counts) (r : Rooms) : Type 0 where
  pub cells : u.cells ≤ cell_room r.cells
  pub bytes : u.bytes ≤ text_room r.text

-- from rooms r to rooms q: words and bytes below lo and from hi on are unchanged, and so is everything else that is lent
pub record Keeps (lo hi : Counts) (r q : Rooms) : Type 0 where
  pub literals : q.literal ≡ r.literal
  pub binding_cells : q.binding_cells ≡ r.binding_cells
  pub binding_texts : q.binding_text ≡ r.binding_text
  pub sized : length q.cells ≡ length r.cells
  pub low : take (lo.cells * 2) q.cells ≡ take (lo.cells * 2) r.cells
  pub high : drop (hi.cells * 2) q.cells ≡ drop (hi.cells * 2) r.cells
  pub text_sized : length q.text ≡ length r.text
  pub text_low : take lo.bytes q.text ≡ take lo.bytes r.text
  pub text_high : drop hi.bytes q.text ≡ drop hi.bytes r.text
  pub grows : Upto lo hi
  pub fits : Roomy hi r
  pub fitting : FitCells r → FitCells q

-- ---- what a run built

-- from lo to hi the rooms hold what the trace built, in order
pub record Logged (t : Trace) (L : Alive) (lo hi : Counts) (q : Rooms) : Type 0 where
  pub cells : StandsCells (cells_built t) (Live L lo hi) q Cells.Evaluation lo.cells
  pub counted : lo.cells + count (cells_built t) ≡ hi.cells
  pub bytes : part q.text lo.bytes (length (text_built t)) ≡ text_built t
  pub bytes_counted : lo.bytes + length (text_built t) ≡ hi.bytes

-- ---- the relation

-- an outcome is the run's; the rooms hold what the run built
abbrev pub Good : Alive → Counts → Rooms → Outcome → Trace → Limited.Outcome → Type 0
Good L lo q o t (Limited.value v c) = (m : Value) × (o ≡ Outcome.Value m (used_of c)) × Holds v (Live L lo c) q m × Logged t L lo c q
Good L lo q o t (Limited.error e c) = (o ≡ Outcome.Error (error_of e.error) e.place (used_of c)) × Logged t L lo c q
Good L lo q o t (Limited.exhausted x c) = o ≡ Outcome.Exhausted (limit_of x) (used_of c)

pub record Matches (L : Alive) (lo : Counts) (r : Rooms) (x : Res) (end : Limited.Outcome) (t : Trace) : Type 0 where
  pub good : Good L lo x.1 x.0 t end
  pub keeps : Keeps lo (counts_of end) r x.1

-- what is alive is below the counts
pub record Below (L : Alive) (u : Counts) : Type 0 where
  pub cells : (i : ℕ) → L.cells Cells.Evaluation i → i < u.cells
  pub bytes : L.bytes ≤ u.bytes

module _ (limits : Counts) (literal : List ℕ) where
  -- where a record begins, with any cells alive
  pub record Start (L : Alive) (u : Counts) (r : Rooms) (s : Scope) (t : Comprehension.Scope) : Type 0 where
    pub below : Below L u
    pub cell_limit : cell_room r.cells ≡ limits.cells
    pub text_limit : text_room r.text ≡ limits.bytes
    pub literals : r.literal ≡ literal
    pub roomy : Roomy u r
    pub fitting : FitCells r
    pub scope : StandsScope t L r s

  -- what a record does is what it means
  abbrev pub Meets : Alive → Counts → Rooms → Res → Eval Meaning.Value → Type 0
  Meets L u r x e = Matches L u r x (from limits e u) e.0

  abbrev pub Refines : Does → (Comprehension.Scope → Eval Meaning.Value) → Type 1
  Refines m f = (L : Alive) (s : Scope) (t : Comprehension.Scope) (u : Counts) (r : Rooms) → Start L u r s t → Meets L u r (m s (used_of u) r) (f t)
