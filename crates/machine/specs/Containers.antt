-- Module 8 on rooms: a List and a Map record in the making. Their cells are taken as they begin; each part is stored as it is ready.
-- In both, m parts are stored from cell `base` on, and the deepest of them nests d deep; `next` goes on with the parts that are left.
use Rattle.std.specs.Prelude.{ℕ, ◌+◌, ◌*◌, max, Bool, true, false, Option, None, Some}
use Rattle.rooms.specs.declared.value.Value.{Value}
use Rattle.rooms.specs.declared.value.CellSpace.TheVariants as Cells
use Rattle.rooms_comparison.specs.declared.lookup.Found.{Found}
use Rattle.rooms.specs.declared.scope.Scope.{Scope}
use Rattle.rooms.specs.Value.{nesting_of, is_key}
use Rattle.rooms.specs.Rooms.{Rooms}
use Rattle.rooms_comparison.specs.LookUp.{find_in}
use Rattle.machine.specs.declared.outcome.Used.{Used}
use Rattle.machine.specs.declared.outcome.Error.TheVariants as Error
use Rattle.machine.specs.declared.outcome.Limit.TheVariants as Limit
use Rattle.machine.specs.declared.outcome.Outcome.TheVariants as Outcome
use Rattle.machine.specs.Outcomes.{Res, Does, with_steps, written, with_value, whole}
use Rattle.machine.specs.Views.{part_in}
use Rattle.rooms.specs.Spans.{row}

-- what is left to do, from the parts stored
abbrev pub Filling : Type 0
Filling = (m d : ℕ) → Used → Rooms → Res

-- ---- elements

abbrev pub add_element : (base m d : ℕ) → Option Value → Used → Rooms → Filling → Res
add_element base m d None u r next = next m d u r
add_element base m d (Some v) u r next = next (m + 1) (max d (nesting_of v)) u (written r (base + m) v)

abbrev pub element : (marked : Bool) → Does → Scope → (base m d : ℕ) → Used → Rooms → Filling → Res
element marked does s base m d u r next =
    let x : Res = does s u r in
    with_value x.0 x.1 (λ v w q. add_element base m d (part_in q marked v) w q next)

abbrev pub list_done : (base m d : ℕ) → Used → Rooms → Res
list_done base m d u r = (whole d (λ k. Value.List k (row Cells.Evaluation base m)) u, r)

-- ---- entries

abbrev pub if_key : Bool → ℕ → Used → Rooms → (Used → Rooms → Res) → Res
if_key true p u r k = k u r
if_key false p u r k = (Outcome.Error Error.UnsupportedKeyType p u, r)

-- the duplicate test
abbrev pub if_new : Found → ℕ → Used → Rooms → (Used → Res) → Res
if_new (Found.At c k) p u r next = (Outcome.Error Error.DuplicateKey p (with_steps u k), r)
if_new (Found.Missing k) p u r next = next (with_steps u k)
if_new (Found.Out k) p u r next = (Outcome.Exhausted Limit.Steps (with_steps u k), r)

-- a key's cell, then its value's
abbrev pub add_entry : (limit : ℕ) → ℕ → (base m d : ℕ) → Value → Option Value → Used → Rooms → Filling → Res
add_entry limit p base m d key None u r next = next m d u r
add_entry limit p base m d key (Some v) u r next =
    if_new (find_in limit r key Cells.Evaluation base m u.steps) p u r
    (λ w. next (m + 1) (max d (nesting_of v)) w (written (written r (base + m * 2) key) (base + m * 2 + 1) v))

-- key, its kind, value, the duplicate test
abbrev pub entry : (limit : ℕ) → ℕ → (marked : Bool) → Does → Does → Scope → (base m d : ℕ) → Used → Rooms → Filling → Res
entry limit p marked key_does value_does s base m d u r next =
    let x : Res = key_does s u r in
    with_value x.0 x.1 (λ key w q. if_key (is_key key) p w q (λ w' q'.
    let y : Res = value_does s w' q' in
    with_value y.0 y.1 (λ v z o. add_entry limit p base m d key (part_in o marked v) z o next)))

abbrev pub map_done : (base m d : ℕ) → Used → Rooms → Res
map_done base m d u r = (whole d (λ k. Value.Map k (row Cells.Evaluation base m)) u, r)
