-- One turn of a comprehension, where some are left, and none: what follows its condition and its step, over what the calls for them ensure.
-- Assumes nothing.
use Prim.Native.Nat.{ℕ, zero, suc, ◌+◌, ◌-◌, ◌*◌, ◌<◌, ◌≤◌}
use mathlib.Core.Path.{◌≡◌, refl, sym, ◌∙◌, ap}
use mathlib.Core.List.{List}
use Rattle.std.specs.Prelude.{Option, None, Some}
use native.Mathlib.Numerals.{sub-one}
use native.Mathlib.Omega.{arith}
use lib.ListN.{get_or}
use Rattle.table_layout.specs.Layout.{word_at}
use Rattle.table_layout.proofs.KindLaws.{head-table}
use Rattle.table_check.specs.Records.{Sound}
use Rattle.table_check.proofs.AcceptedRecordLaws.{sound-here}
use Rattle.meaning.specs.Expr.{LogicalFold}
use Rattle.rooms.specs.declared.value.Value.{Value}
use Rattle.rooms.specs.declared.value.CellSpace.{CellSpace}
use Rattle.rooms.specs.declared.scope.Scope.{Scope}
use Rattle.rooms.specs.declared.memory.Lent.{Lent}
use Rattle.rooms.specs.Rooms.{Rooms, words_of, cell_at}
use Rattle.rooms.specs.Cells.{cell_in}
use Rattle.rooms.specs.Memory.{rooms_lent}
use Rattle.rooms.specs.Scope.{stored}
use Rattle.machine.specs.declared.outcome.Used.{Used}
use Rattle.machine.specs.declared.outcome.Error.{Error}
use Rattle.machine.specs.declared.outcome.Outcome.{Outcome}
use Rattle.machine.specs.Outcomes.{Res, Does}
use Rattle.machine.specs.declared.items.Items.{Items}
use Rattle.machine.specs.Comprehension.{Loop, Pending, Binds, Holds, asks, finish, after_step, turn, turns}
use Rattle.eval_outcomes.specs.Gives.{Stays}
use Rattle.eval_logic.specs.declared.conditions.Asked.{Asked}
use Rattle.eval_logic.specs.Conditions.{asked_of, on_asked}
use Rattle.eval_logic.proofs.ConditionLaws.{asked-as}
use Rattle.eval_comprehension.specs.declared.steps.Step.{Step}
use Rattle.eval_comprehension.specs.Steps.{step_of, on_step}
use Rattle.eval_comprehension.proofs.StepLaws.{step-as}
use Rattle.eval_shapes.specs.declared.comprehensions.Places.{Places}
use Rattle.eval_shapes.specs.Comprehensions.{loop_at}
use Rattle.eval_shallow.proofs.Stops.{Is, stays-here, stays-on}

-- ---- a condition

pub asked : (m : Res) (p : ℕ) {o : Outcome} {z : Rooms} → Is o z m → {a : Asked} → a ≡ asked_of p o → (holds fails : Used → Rooms → Res) →
    on_asked a z holds fails ≡ asks p m holds fails
asked m p {o} {z} e {a} f holds fails = sym (asked-as p holds fails (o, z) a f) ∙ ap (λ (m : Res). asks p m holds fails) e

-- ---- an item

-- what the code read from its cell
pub item-is : (r : Rooms) (space : CellSpace) (at : ℕ) {v : Value} → v ≡ cell_in (words_of r.binding_cells r.cells space) at → v ≡ cell_at r space at
unfolding cell_at
item-is r space at e = e

-- ---- the end

-- a pending error, or what the result came to
pub held-is : (m : Does) {held : Pending} {e : Error × ℕ} → held ≡ Some e → (s : Scope) (u : Used) (r : Rooms) → Is (Outcome.Error e.0 e.1 u) r (finish m held s u r)
held-is m is s u r = rw is refl

pub result-is : (m : Does) {held : Pending} → held ≡ None → (s : Scope) (u : Used) (r : Rooms) {o : Outcome} {z : Rooms} → Is o z (m s u r) → Is o z (finish m held s u r)
result-is m is s u r f = rw is f

module _ (c : Loop) (space : CellSpace) (stride : ℕ) where
  -- n items are left, the next of them in cell `at`
  abbrev pub from_turn : (n at : ℕ) → Pending → Does
  from_turn n at held s u r = turns c space stride n at held s u r

  pub no-turn : (n at : ℕ) → n ≡ 0 → (held : Pending) (s : Scope) (u : Used) (r : Rooms) {o : Outcome} {z : Rooms} →
      Is o z (finish c.result held s u r) → Is o z (from_turn n at held s u r)
  unfolding turns
  no-turn n at e held s u r f = rw e f

  turns-done : (at : ℕ) (held : Pending) (s : Scope) (u : Used) (r : Rooms) → from_turn 0 at held s u r ≡ finish c.result held s u r
  unfolding turns
  turns-done at held s u r = refl

  module _ (n at : ℕ) (h : 0 < n) (held : Pending) (s : Scope) (u : Used) (r : Rooms) where
    abbrev in_turn : Used → Rooms → Res
    in_turn w q = turn c (cell_at q space at) held (λ e t z o. turns c space stride (n - 1) (at + stride) e t z o) s w q

    abbrev at_end : Used → Rooms → Res
    at_end w q = finish c.result held s w q

    some_turn : (n : ℕ) → 0 < n → from_turn n at held s u r ≡
        asks c.place (c.condition s u r) (λ w q. turn c (cell_at q space at) held (λ e t z o. turns c space stride (n - 1) (at + stride) e t z o) s w q)
        (λ w q. finish c.result held s w q)
    unfolding turns
    some_turn zero h = absurd (omega arith)
    some_turn (suc n) h = rw sub-one

    module _ {o : Outcome} {z : Rooms} (test : Is o z (c.condition s u r)) {a : Asked} (asking : a ≡ asked_of c.place o) where
      this-turn : on_asked a z in_turn at_end ≡ from_turn n at held s u r
      this-turn = asked (c.condition s u r) c.place test asking in_turn at_end ∙ sym (some_turn n h)

      pub turn-ends : {e : Outcome} → a ≡ Asked.Ends e → Is e z (from_turn n at held s u r)
      turn-ends is = ap (λ a. on_asked a z in_turn at_end) (sym is) ∙ this-turn

      -- no turn is left then
      pub turn-fails : {w : Used} → a ≡ Asked.Fails w → from_turn 0 at held s w z ≡ from_turn n at held s u r
      turn-fails {w} is = turns-done at held s w z ∙ (ap (λ a. on_asked a z in_turn at_end) (sym is) ∙ this-turn)

      module _ {w : Used} (is : a ≡ Asked.Holds w) {v : Value} (cell : v ≡ cell_at z space at)
          {o' : Outcome} {z' : Rooms} (step : Is o' z' (c.step (stored s c.item v) w z))
          {fold : Option LogicalFold} (folds : fold ≡ c.fold) {k : Step} (taken : k ≡ step_of fold held o') where
        abbrev binds : Binds
        binds b y q = turns c space stride (n - 1) (at + stride) None (stored (stored s c.item v) c.accumulator b) y q

        abbrev holds : Holds
        holds e y q = turns c space stride (n - 1) (at + stride) e (stored s c.item v) y q

        this-step : on_step k z' binds holds ≡ from_turn n at held s u r
        this-step =
            sym (step-as z' binds holds c.fold held o' k (taken ∙ ap (λ f. step_of f held o') folds)) ∙
            (ap (λ (y : Res). after_step c.fold held y.0 y.1 binds holds) step ∙
            (ap (λ (v : Value). turn c v held (λ e t z o. turns c space stride (n - 1) (at + stride) e t z o) s w z) cell ∙
            (ap (λ a. on_asked a z in_turn at_end) (sym is) ∙ this-turn)))

        pub step-ends : {e : Outcome} → k ≡ Step.Ends e → Is e z' (from_turn n at held s u r)
        step-ends way = ap (λ k. on_step k z' binds holds) (sym way) ∙ this-step

        pub step-holds : {p : Pending} {y : Used} → k ≡ Step.Hold p y → from_turn (n - 1) (at + stride) p (stored s c.item v) y z' ≡ from_turn n at held s u r
        step-holds way = ap (λ k. on_step k z' binds holds) (sym way) ∙ this-step

        pub step-binds : {b : Value} {y : Used} → k ≡ Step.Bind b y →
            from_turn (n - 1) (at + stride) None (stored (stored s c.item v) c.accumulator b) y z' ≡ from_turn n at held s u r
        step-binds way = ap (λ k. on_step k z' binds holds) (sym way) ∙ this-step

-- the loop over them: `left` items are left, the next of them in cell `cell`; `old` was lent before the loop
pub record TurnsLoop (t x : List ℕ) (limit p : ℕ) (items : Items) (places : Places) (s₀ : Scope) (u₀ : Used) (old now : Lent) (s : Scope) (held : Pending) (u : Used)
    (cell left : ℕ) : Type 0 where
  pub stays : Stays old now
  -- the place of an item is a number of the code
  pub below : cell + left * 65536 ≤ 65536 * 65536
  pub same : from_turn (loop_at t x limit p places) items.space items.stride left cell held s u (rooms_lent now) ≡
      from_turn (loop_at t x limit p places) items.space items.stride items.count items.first None s₀ u₀ (rooms_lent old)

-- a record has an extent
pub extent-least : (t x : List ℕ) (q : ℕ) → Sound t x q → 3 ≤ word_at t (q + 1)
extent-least t x q s = let h = sound-here t x q s in let f = head-table (get_or t q 0) h.known in omega (arith, f.0, f.1, h.least)

module _ (t x : List ℕ) (limit p : ℕ) (items : Items) (places : Places) (s₀ : Scope) (u₀ : Used) (old : Lent) where
  pub turns-begin : items.first < 65536 → items.count < 65536 →
      TurnsLoop t x limit p items places s₀ u₀ old old s₀ None u₀ items.first items.count
  turns-begin f g = record { stays = stays-here; below = omega (arith, f, g); same = refl }

  module _ {now : Lent} {s : Scope} {held : Pending} {u : Used} {cell left : ℕ} (v : TurnsLoop t x limit p items places s₀ u₀ old now s held u cell left)
      {next : Lent} (stays : Stays now next) {u₁ : Used} where
    -- after a turn that goes on
    pub turns-again : 0 < left → items.stride < 65536 → {s₁ : Scope} {held₁ : Pending} →
        from_turn (loop_at t x limit p places) items.space items.stride (left - 1) (cell + items.stride) held₁ s₁ u₁ (rooms_lent next) ≡
        from_turn (loop_at t x limit p places) items.space items.stride left cell held s u (rooms_lent now) →
        TurnsLoop t x limit p items places s₀ u₀ old next s₁ held₁ u₁ (cell + items.stride) (left - 1)
    turns-again h w e = record { stays = stays-on v.stays stays; below = omega (arith, v.below, h, w); same = e ∙ v.same }

    -- after a condition that fails
    pub turns-over : from_turn (loop_at t x limit p places) items.space items.stride 0 cell held s u₁ (rooms_lent next) ≡
        from_turn (loop_at t x limit p places) items.space items.stride left cell held s u (rooms_lent now) →
        TurnsLoop t x limit p items places s₀ u₀ old next s held u₁ cell 0
    turns-over e = record { stays = stays-on v.stays stays; below = omega (arith, v.below); same = e ∙ v.same }
