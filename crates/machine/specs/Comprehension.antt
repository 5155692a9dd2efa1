-- Module 9 on rooms: the loop with its pending error, and the append path. What a part of a comprehension does is a function here.
use Rattle.std.specs.Prelude.{ℕ, zero, suc, ◌+◌, max, List, Bool, true, false, eqb, get_or, set, replicate, Option, None, Some}
use Rattle.meaning.specs.Expr.{LogicalFold}
use Rattle.meaning.specs.Logic.{absorbs}
use Rattle.rooms.specs.declared.value.Value.{Value}
use Rattle.rooms.specs.declared.value.CellSpace.{CellSpace}
use Rattle.rooms.specs.declared.value.CellSpace.TheVariants as Cells
use Rattle.rooms.specs.declared.value.Parts.{Parts}
use Rattle.rooms.specs.declared.scope.Scope.{Scope}
use Rattle.rooms.specs.Value.{parts_of, nesting_of}
use Rattle.rooms.specs.Rooms.{Rooms, cell_at}
use Rattle.rooms.specs.Scope.{stored}
use Rattle.rooms_taking.specs.Taking.{copied}
-- space, first, count and stride, passed on to the laws
pub use Rattle.machine.specs.declared.items.Items.{Items}
use Rattle.machine.specs.declared.outcome.Used.{Used}
use Rattle.machine.specs.declared.outcome.Error.{Error}
use Rattle.machine.specs.declared.outcome.Outcome.{Outcome}
use Rattle.machine.specs.Outcomes.{Res, Does, with_words, with_value, taking}
use Rattle.machine.specs.Views.{bool_in}
use Rattle.machine.specs.Logic.{branch}
use Rattle.rooms.specs.Spans.{row}

-- ---- what is iterated over

abbrev pub items_parts : Parts → Option Items
items_parts (Parts.Elements ro) = Some (record { space = ro.space; first = ro.first; count = ro.length; stride = 1 })
items_parts (Parts.Entries ro) = Some (record { space = ro.space; first = ro.first; count = ro.length; stride = 2 })
items_parts (Parts.Present s a) = None
items_parts Parts.Nothing = None

abbrev pub on_items : ℕ → Used → Rooms → Option Items → (Items → Res) → Res
on_items p u r None k = (Outcome.Error Error.IterableWanted p u, r)
on_items p u r (Some items) k = k items

-- ---- the parts of a comprehension

-- an error that a later item may still clear, with its place
abbrev pub Pending : Type 0
Pending = Option (Error × ℕ)

pub record Loop : Type 0 where
  pub place : ℕ
  pub accumulator : ℕ
  pub item : ℕ
  pub fold : Option LogicalFold
  pub condition : Does
  pub step : Does
  pub result : Does

-- a condition or a guard: it holds, it does not hold, or the outcome that is the answer instead
abbrev pub asks : ℕ → Res → (Used → Rooms → Res) → (Used → Rooms → Res) → Res
asks p x holds fails = with_value x.0 x.1 (λ v u r. branch p u r (bool_in v) holds fails)

-- ---- the loop

-- the pending error, or the result
abbrev pub finish : (result : Does) → Pending → Does
finish result None s u r = result s u r
finish result (Some e) s u r = (Outcome.Error e.0 e.1 u, r)

-- the accumulator is bound, or an error is held
abbrev pub Binds : Type 0
Binds = Value → Used → Rooms → Res

abbrev pub Holds : Type 0
Holds = Pending → Used → Rooms → Res

abbrev pub unless_cleared : Bool → Pending → Value → Used → Rooms → Binds → Holds → Res
unless_cleared true held v u r binds holds = binds v u r
unless_cleared false held v u r binds holds = holds held u r

abbrev pub fold_value : LogicalFold → Pending → Value → Used → Rooms → Binds → Holds → Res
fold_value fold None v u r binds holds = binds v u r
fold_value fold (Some e) v u r binds holds = unless_cleared (absorbs fold (bool_in v)) (Some e) v u r binds holds

abbrev pub step_value : Option LogicalFold → Pending → Value → Used → Rooms → Binds → Holds → Res
step_value None held v u r binds holds = binds v u r
step_value (Some fold) held v u r binds holds = fold_value fold held v u r binds holds

-- only a fold holds an error of its step pending
abbrev pub step_error : Option LogicalFold → Error → ℕ → Used → Rooms → Holds → Res
step_error None e p u r holds = (Outcome.Error e p u, r)
step_error (Some fold) e p u r holds = holds (Some (e, p)) u r

abbrev pub after_step : Option LogicalFold → Pending → Outcome → Rooms → Binds → Holds → Res
after_step fold held (Outcome.Value v u) r binds holds = step_value fold held v u r binds holds
after_step fold held (Outcome.Error e p u) r binds holds = step_error fold e p u r holds
after_step fold held (Outcome.Exhausted x u) r binds holds = (Outcome.Exhausted x u, r)

-- one item, whose condition held; then the rest of the loop
abbrev pub turn : Loop → Value → Pending → (Pending → Does) → Does
turn c v held rest s u r =
    let t : Scope = stored s c.item v in
    let y : Res = c.step t u r in
    after_step c.fold held y.0 y.1 (λ w z q. rest None (stored t c.accumulator w) z q) (λ e z q. rest e t z q)

-- n items are left, the next of them in cell `at`; its condition sees the item before it
unfoldable pub turns : Loop → CellSpace → (stride n at : ℕ) → Pending → Does
turns c space stride zero at held s u r = finish c.result held s u r
turns c space stride (suc n) at held s u r =
    asks c.place (c.condition s u r)
    (λ w q. turn c (cell_at q space at) held (λ e t z o. turns c space stride n (at + stride) e t z o) s w q)
    (λ w q. finish c.result held s w q)

-- ---- the append path

pub record AppendStep : Type 0 where
  pub guard : Option Does
  pub items : Does

-- the elements gathered so far: where each turn's stand and how many, in how many turns; how many in all, and their list's nesting
pub record Gathered : Type 0 where
  pub firsts : List ℕ
  pub counts : List ℕ
  pub runs : ℕ
  pub count : ℕ
  pub nesting : ℕ

-- a turn that gathers takes at least two cells
abbrev pub most_runs : ℕ
most_runs = 2048

abbrev pub nothing_gathered : Gathered
nothing_gathered = record { firsts = replicate most_runs 0; counts = replicate most_runs 0; runs = 0; count = 0; nesting = 1 }

abbrev pub add_run : Bool → Gathered → (first n d : ℕ) → Gathered
add_run true g first n d = record { firsts = g.firsts; counts = g.counts; runs = g.runs; count = g.count; nesting = max g.nesting d }
add_run false g first n d =
    record { firsts = set g.firsts g.runs first; counts = set g.counts g.runs n; runs = g.runs + 1; count = g.count + n; nesting = max g.nesting d }

-- the rest of the append path
abbrev pub Gathering : Type 0
Gathering = Gathered → Used → Rooms → Res

-- a cell for each element that the item adds, and at once a copy of the element. What is added is the value of a List record, so the other arms
-- are never taken
abbrev pub gather_parts : Value → Gathered → Parts → Used → Rooms → Gathering → Res
gather_parts v g (Parts.Elements ro) u r k =
    taking ro.length u r (λ w q. k (add_run (eqb ro.length 0) g u.cells ro.length (nesting_of v)) w (with_words q (copied q.binding_cells ro.space q.cells ro.first u.cells ro.length)))
gather_parts v g (Parts.Entries ro) u r k = (Outcome.Value v u, r)
gather_parts v g (Parts.Present s a) u r k = (Outcome.Value v u, r)
gather_parts v g Parts.Nothing u r k = (Outcome.Value v u, r)

-- n runs from the i-th on, one after the other to cell `to`
unfoldable pub runs_copied : List ℕ → List ℕ → List ℕ → (n i to : ℕ) → List ℕ → List ℕ
runs_copied binding firsts counts zero i to w = w
runs_copied binding firsts counts (suc n) i to w =
    runs_copied binding firsts counts n (suc i) (to + get_or counts i 0) (copied binding Cells.Evaluation w (get_or firsts i 0) to (get_or counts i 0))

abbrev pub gathered : Gathered → Used → Rooms → Res
gathered g u r =
    taking g.count u r
    (λ w q. (
      Outcome.Value (Value.List g.nesting (row Cells.Evaluation u.cells g.count)) w,
      with_words q (runs_copied q.binding_cells g.firsts g.counts g.runs 0 u.cells q.cells),
    ))

abbrev pub guarded : ℕ → Option Does → Scope → Used → Rooms → (Used → Rooms → Res) → (Used → Rooms → Res) → Res
guarded p None s u r holds fails = holds u r
guarded p (Some guard) s u r holds fails = asks p (guard s u r) holds fails

-- what one item adds; then the rest
abbrev pub append_items : AppendStep → Gathered → Scope → Used → Rooms → Gathering → Res
append_items path g s u r rest =
    let y : Res = path.items s u r in
    with_value y.0 y.1 (λ v w q. gather_parts v g (parts_of v) w q rest)

-- the accumulator is never stored, and the step and the result are not begun
unfoldable pub append_turns : Loop → AppendStep → CellSpace → (stride n at : ℕ) → Gathered → Does
append_turns c path space stride zero at g s u r = gathered g u r
append_turns c path space stride (suc n) at g s u r =
    asks c.place (c.condition s u r)
    (λ w q. let t : Scope = stored s c.item (cell_at q space at) in
    guarded c.place path.guard t w q
    (λ z o. append_items path g t z o (λ h z' o'. append_turns c path space stride n (at + stride) h t z' o'))
    (λ z o. append_turns c path space stride n (at + stride) g t z o))
    (λ w q. gathered g w q)

-- ---- the record

abbrev pub empty_parts : Parts → Bool
empty_parts (Parts.Elements ro) = eqb ro.length 0
empty_parts (Parts.Entries ro) = false
empty_parts (Parts.Present s a) = false
empty_parts Parts.Nothing = false

abbrev pub appends : Bool → Loop → AppendStep → Value → Items → Does
appends true c path init items s u r = append_turns c path items.space items.stride items.count items.first nothing_gathered s u r
appends false c path init items s u r = turns c items.space items.stride items.count items.first None (stored s c.accumulator init) u r

-- the append path is taken only from an empty list
abbrev pub loop_from : Loop → Option AppendStep → Value → Items → Does
loop_from c None init items s u r = turns c items.space items.stride items.count items.first None (stored s c.accumulator init) u r
loop_from c (Some path) init items s u r = appends (empty_parts (parts_of init)) c path init items s u r

-- init, then range
abbrev pub comprehends : Loop → Option AppendStep → (init range : Does) → Does
comprehends c path init range s u r =
    let x : Res = init s u r in
    with_value x.0 x.1 (λ a w q.
    let y : Res = range s w q in
    with_value y.0 y.1 (λ v z o. on_items c.place z o (items_parts (parts_of v)) (λ items. loop_from c path a items s z o)))
