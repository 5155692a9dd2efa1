-- List and Map records in the making: what the code does a step at a time is what the machine does. Assumes nothing.
-- A step that writes has two laws: one for any rooms before it and after it (`begun-any` and its like), and one for what is lent, `old` before it and
-- `new` after it.
use Prim.Native.Nat.{ℕ, ◌+◌, ◌*◌, ◌≤◌, max}
use mathlib.Core.Path.{◌≡◌, refl, sym, ap, ◌∙◌}
use mathlib.Core.Bool.{Bool, true, false}
use Rattle.std.specs.Prelude.{Option, None, Some, Result}
use native.Mathlib.Omega.{arith}
use Rattle.rooms.specs.declared.value.Value.{Value}
use Rattle.rooms.specs.declared.memory.Lent.{Lent}
use Rattle.rooms_comparison.specs.declared.lookup.Found.{Found}
use Rattle.rooms.specs.Rooms.{Rooms, with_words}
use Rattle.rooms.specs.Memory.{rooms_lent}
use Rattle.rooms.specs.Value.{nesting_of, is_key}
use Rattle.rooms_taking.specs.Taking.{cell_room, taken_of, cells_taken}
use Rattle.rooms_comparison.specs.LookUp.{find_in}
use Rattle.rooms.specs.declared.value.CellSpace.TheVariants as Cells
use Rattle.machine.specs.declared.outcome.Used.{Used}
use Rattle.machine.specs.declared.outcome.Limit.TheVariants as Limit
use Rattle.machine.specs.declared.outcome.Outcome.{Outcome}
use Rattle.machine.specs.Outcomes.{Res, with_cells, written, with_value, on_taken, taking}
use Rattle.machine.specs.Views.{part_in}
use Rattle.machine.specs.Containers.{Filling, add_element, if_key, if_new, add_entry}
use Rattle.eval_outcomes.proofs.Taking.{cells-within}
use Rattle.eval_outcomes.specs.Gives.{Gives}
use Rattle.eval_containers.specs.declared.Begun.{Begun}
use Rattle.eval_containers.specs.declared.Ready.{Ready}
use Rattle.eval_containers.specs.declared.Key.{Key}
use Rattle.eval_containers.specs.declared.entries.Entered.{Entered}
use Rattle.eval_containers.specs.Filling.{begun_to, begun_of, added_of, keyed_if, keyed_of, on_key, inserted_if, entered_of, on_entry}

-- ---- the cells

-- goes on with the cells; without room it is exhaustion
abbrev pub on_begun : Option Begun → Used → Rooms → (Used → Rooms → Res) → Res
on_begun (Some g) u r k = k g.used r
on_begun None u r k = (Outcome.Exhausted Limit.Cells u, r)

module _ (n : ℕ) (u : Used) (q : Rooms) (k : Used → Rooms → Res) where
  by-taken : (t : Option ℕ) → on_taken t (λ end. k (with_cells u end) q) (Outcome.Exhausted Limit.Cells u, q) ≡ on_begun (begun_to t n u) u q k
  by-taken (Some end) = refl
  by-taken None = refl

pub begun-any : (n count : ℕ) (u : Used) (r : Rooms) (k : Used → Rooms → Res) {g : Option Begun} {q : Rooms} →
    ◌≡◌ {A = Option Begun × Rooms} (g, q) (begun_of n count u r) → taking count u r k ≡ on_begun g u q k
begun-any n count u r k e =
    let f : Option Begun × Rooms → Res = λ y. on_begun y.0 u y.1 k in
    by-taken n u (with_words r (cells_taken r.cells u.cells count)) k (taken_of (cell_room r.cells) u.cells count) ∙ ap f (sym e)

pub begun : (n count : ℕ) (u : Used) (k : Used → Rooms → Res) {old new : Lent} {g : Option Begun} → Gives g old new (λ r. begun_of n count u r) →
    taking count u (rooms_lent old) k ≡ on_begun g u (rooms_lent new) k
begun n count u k {old} e = begun-any n count u (rooms_lent old) k e.gives

-- which cells they are, and that the room has them
abbrev pub Within : (n count : ℕ) → Used → Begun → Type 0
Within n count u g = (g.first ≡ u.cells) × (g.parts ≡ n) × (u.cells + count ≤ 4096)

by-begun : (n count : ℕ) (u : Used) (r : Rooms) (g : Begun) (t : Option ℕ) → t ≡ taken_of (cell_room r.cells) u.cells count →
    Some g ≡ begun_to t n u → Within n count u g
by-begun n count u r g (Some end) h e = (cc, cc, cells-within r.cells u.cells count end h)
by-begun n count u r g None h e = let a : ◌≡◌ {A = ℕ} 0 1 = cc in absurd (omega arith)

pub begun-within-any : (n count : ℕ) (u : Used) (r : Rooms) {g : Begun} {q : Rooms} → ◌≡◌ {A = Option Begun × Rooms} (Some g, q) (begun_of n count u r) →
    Within n count u g
begun-within-any n count u r {g} e = by-begun n count u r g (taken_of (cell_room r.cells) u.cells count) refl (ap (λ y. y.0) e)

pub begun-within : (n count : ℕ) (u : Used) {g : Begun} {old new : Lent} → Gives (Some g) old new (λ r. begun_of n count u r) → Within n count u g
begun-within n count u {g} {old} e = begun-within-any n count u (rooms_lent old) e.gives

-- ---- an element

module _ (base : ℕ) (u : Used) (r : Rooms) (next : Filling) where
  by_part : (g : Ready) (o : Option Value) →
      add_element base g.count g.deep o u r next ≡ next (added_of base g o r).0.count (added_of base g o r).0.deep u (added_of base g o r).1
  by_part g None = refl
  by_part g (Some v) = refl

pub added-any : (base : ℕ) (u : Used) (r : Rooms) (next : Filling) (g : Ready) (o : Option Value) {h : Ready} {q : Rooms} →
    ◌≡◌ {A = Ready × Rooms} (h, q) (added_of base g o r) → add_element base g.count g.deep o u r next ≡ next h.count h.deep u q
added-any base u r next g o e =
    let f : Ready × Rooms → Res = λ y. next y.0.count y.0.deep u y.1 in
    by_part base u r next g o ∙ ap f (sym e)

pub added : (base : ℕ) (u : Used) (next : Filling) (g : Ready) (marked : Bool) (v : Value) {h : Ready} {old new : Lent} →
    Gives h old new (λ r. added_of base g (part_in r marked v) r) →
    add_element base g.count g.deep (part_in (rooms_lent old) marked v) u (rooms_lent old) next ≡ next h.count h.deep u (rooms_lent new)
added base u next g marked v {h} {old} e = added-any base u (rooms_lent old) next g (part_in (rooms_lent old) marked v) e.gives

-- ---- an entry

module _ (p : ℕ) (k : Value → Used → Rooms → Res) where
  by_kind : (c : Bool) (v : Value) (u : Used) (r : Rooms) → if_key c p u r (λ w q. k v w q) ≡ on_key (keyed_if c p v u) r k
  by_kind true v u r = refl
  by_kind false v u r = refl

  by-outcome : (o : Outcome) (r : Rooms) → with_value o r (λ v w q. if_key (is_key v) p w q (λ z d. k v z d)) ≡ on_key (keyed_of p o) r k
  by-outcome (Outcome.Value v u) r = by_kind (is_key v) v u r
  by-outcome (Outcome.Error e q u) r = refl
  by-outcome (Outcome.Exhausted x u) r = refl

  pub keyed : (o : Outcome) (r : Rooms) (a : Result Key Outcome) → a ≡ keyed_of p o → with_value o r (λ v w q. if_key (is_key v) p w q (λ z d. k v z d)) ≡ on_key a r k
  keyed o r a e = by-outcome o r ∙ ap (λ y. on_key y r k) (sym e)

module _ (p base : ℕ) (key : Value) (v : Value) (u : Used) (r : Rooms) (next : Filling) (g : Ready) where
  by-found : (f : Found) → if_new f p u r
      (λ y. next (g.count + 1) (max g.deep (nesting_of v)) y (written (written r (base + g.count * 2) key) (base + g.count * 2 + 1) v)) ≡
      on_entry (inserted_if f p base g key v u r).0 (inserted_if f p base g key v u r).1 next
  by-found (Found.At c m) = refl
  by-found (Found.Missing m) = refl
  by-found (Found.Out m) = refl

module _ (limit p base : ℕ) (key : Value) (u : Used) (next : Filling) (g : Ready) where
  by_value : (r : Rooms) (o : Option Value) → add_entry limit p base g.count g.deep key o u r next ≡
      on_entry (entered_of limit p base g key o u r).0 (entered_of limit p base g key o u r).1 next
  by_value r None = refl
  by_value r (Some v) = by-found p base key v u r next g (find_in limit r key Cells.Evaluation base g.count u.steps)

  pub entered-any : (r : Rooms) (o : Option Value) {e : Result Entered Outcome} {q : Rooms} →
      ◌≡◌ {A = Result Entered Outcome × Rooms} (e, q) (entered_of limit p base g key o u r) → add_entry limit p base g.count g.deep key o u r next ≡ on_entry e q next
  entered-any r o h =
      let f : Result Entered Outcome × Rooms → Res = λ y. on_entry y.0 y.1 next in
      by_value r o ∙ ap f (sym h)

  pub entered : (marked : Bool) (v : Value) {e : Result Entered Outcome} {old new : Lent} →
      Gives e old new (λ r. entered_of limit p base g key (part_in r marked v) u r) →
      add_entry limit p base g.count g.deep key (part_in (rooms_lent old) marked v) u (rooms_lent old) next ≡ on_entry e (rooms_lent new) next
  entered marked v {e} {old} h = entered-any (rooms_lent old) (part_in (rooms_lent old) marked v) h.gives
