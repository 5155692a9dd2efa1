-- One turn on the append path: what follows its condition, its guard and its items list, over what the calls for them ensure. Assumes nothing.
use Prim.Native.Nat.{ℕ, zero, suc, ◌+◌, ◌-◌, ◌*◌, ◌<◌, ◌≤◌}
use mathlib.Core.Path.{◌≡◌, refl, sym, ◌∙◌, ap}
use mathlib.Core.Bool.{Bool, true, false, cond}
use mathlib.Core.List.{List}
use Rattle.std.specs.Prelude.{Option, None, Some, Result, Ok, Err, is_some, unwrap_or}
use native.Mathlib.Numerals.{sub-one}
use native.Mathlib.Omega.{arith}
use lib.Dec.{eqb, ltb}
use lib.ListN.{get_or}
use Rattle.rooms.specs.declared.value.Value.{Value}
use Rattle.rooms.specs.declared.value.CellSpace.{CellSpace}
use Rattle.rooms.specs.declared.scope.Scope.{Scope}
use Rattle.rooms.specs.declared.memory.Lent.{Lent}
use Rattle.rooms.specs.Rooms.{Rooms, words_of, cell_at}
use Rattle.rooms.specs.Cells.{cell_in}
use Rattle.rooms.specs.Memory.{rooms_lent}
use Rattle.rooms.specs.Scope.{stored, slot_of}
use Rattle.table_layout.specs.Layout.{word_at}
use Rattle.table_check.specs.Records.{expr_of, Sound}
use Rattle.machine.specs.declared.outcome.Used.{Used}
use Rattle.machine.specs.declared.outcome.Limit.TheVariants as Limit
use Rattle.machine.specs.declared.outcome.Outcome.{Outcome}
use Rattle.machine.specs.Outcomes.{Res, Does, stepped}
use Rattle.machine.specs.Machine.{machine}
use Rattle.eval_shapes.specs.Leaves.{slot_in, leaf_step}
use Rattle.eval_shapes.proofs.LeafLaws.{literal-gives, leaf-machine}
use Rattle.machine.specs.declared.items.Items.{Items}
use Rattle.machine.specs.Comprehension as Machine
use Rattle.machine.specs.Comprehension.{Loop, AppendStep, Gathered, asks, add_run, gathered, guarded, append_items, append_turns, nothing_gathered}
use Rattle.eval_logic.specs.declared.conditions.Asked.{Asked}
use Rattle.eval_logic.specs.Conditions.{asked_of, on_asked}
use Rattle.eval_comprehension.specs.declared.append_result.Runs.{Runs}
use Rattle.eval_outcomes.specs.Gives.{Gives, Stays}
use Rattle.eval_comprehension.specs.declared.append_turn.Turn.{Turn}
use Rattle.eval_comprehension.specs.AppendResult.{gathered_by}
use Rattle.eval_comprehension.specs.AppendTurn.{gather_of, on_gather}
use Rattle.eval_comprehension.proofs.AppendTurnLaws.{items_in}
use Rattle.eval_shapes.specs.declared.comprehensions.Places.{Places}
use Rattle.eval_shapes.specs.declared.comprehensions.Appending.{Appending}
use Rattle.eval_shapes.specs.Comprehensions.{GuardIn, loop_at, items_seen, append_at}
use Rattle.eval_shallow.proofs.Stops.{Is, stays-here, stays-on, after-operand}
use Rattle.eval_record.proofs.Turns.{asked, item-is}

-- ---- a guard

-- what it decided: nothing was asked without one
pub record Passed (p : ℕ) (guard : Option Does) (s : Scope) (u : Used) (r : Rooms) (a : Asked) (z : Rooms) : Type 0 where
  pub is : (holds fails : Used → Rooms → Res) → on_asked a z holds fails ≡ guarded p guard s u r holds fails

unguarded : (p : ℕ) (s : Scope) (u : Used) (r : Rooms) {guard : Option Does} → guard ≡ None → {a : Asked} → a ≡ Asked.Holds u → Passed p guard s u r a r
unguarded p s u r e f = rw (e, f) (record { is = λ holds fails. refl })

guard-asked : (p : ℕ) (s : Scope) (u : Used) (r : Rooms) {guard : Option Does} (does : Does) → guard ≡ Some does → {o : Outcome} {z : Rooms} →
    Is o z (does s u r) → {a : Asked} → a ≡ asked_of p o → Passed p guard s u r a z
guard-asked p s u r does e test f = rw e (record { is = λ holds fails. asked (does s u r) p test f holds fails })

-- that, and what is lent after it
pub record Guarded (t x : List ℕ) (limit p : ℕ) (guard : Option ℕ) (s : Scope) (u : Used) (old : Lent) (a : Asked) (now : Lent) : Type 0 where
  pub passed : Passed p (items_seen t x limit guard) s u (rooms_lent old) a (rooms_lent now)
  pub stays : Stays old now

module _ (t x : List ℕ) (limit p : ℕ) (guard : Option ℕ) (s : Scope) (u : Used) (old : Lent) {a : Asked} {now : Lent} where
  pub came-unguarded : guard ≡ None → now ≡ old → a ≡ Asked.Holds u → Guarded t x limit p guard s u old a now
  came-unguarded e i k =
      rw i (record { passed = unguarded p s u (rooms_lent old) (ap (λ g. items_seen t x limit g) e) k; stays = stays-here })

  pub came-guarded : {g : ℕ} → guard ≡ Some g → {o : Outcome} {next : Lent} → Stays old next → Is o (rooms_lent next) (machine t limit (expr_of t x g) s u (rooms_lent old)) →
      {a₁ : Asked} → a₁ ≡ asked_of p o → now ≡ next → a ≡ a₁ → Guarded t x limit p guard s u old a now
  came-guarded {g} e kept test h i k =
      rw i (record {
        passed = guard-asked p s u (rooms_lent old) (machine t limit (expr_of t x g)) (ap (λ g. items_seen t x limit g) e) test (k ∙ h);
        stays = kept;
      })

-- whether there is a guard, and where
pub there-is : (guard : Option ℕ) (list : ℕ) {b : Bool} → b ≡ is_some guard → b ≡ true → {g : ℕ} → g ≡ unwrap_or guard list → guard ≡ Some g
there-is None list e f h = let z : ◌≡◌ {A = ℕ} 0 1 = cc in absurd (omega arith)
there-is (Some q) list e f h = ap (λ q. Some q) (sym h)

pub there-is-none : (guard : Option ℕ) {b : Bool} → b ≡ is_some guard → b ≡ false → guard ≡ None
there-is-none None e f = refl
there-is-none (Some q) e f = let z : ◌≡◌ {A = ℕ} 0 1 = cc in absurd (omega arith)

-- where the loop looks for a guard, and the list, are records within the step's
pub guard-within : (t x : List ℕ) (p : ℕ) (guard : Option ℕ) (list : ℕ) → GuardIn t x p guard list → {g : ℕ} → g ≡ unwrap_or guard list →
    Sound t x g × Sound t x list × (word_at t (g + 1) < word_at t (p + 1)) × (word_at t (list + 1) < word_at t (p + 1))
guard-within t x p None list h e = rw e (h.0, h.0, h.1, h.1)
guard-within t x p (Some q) list h e = rw e (h.0, h.1, omega (arith, h.2), omega (arith, h.2))

-- ---- a condition that is a literal reads no slot

pub literal-does : (t x : List ℕ) (limit p : ℕ) → Sound t x p → get_or t p 0 < 7 → (v : Value) (u : Used) {o : Outcome} → o ≡ leaf_step t limit (expr_of t x p) v u →
    (s : Scope) (r : Rooms) → Is o r (machine t limit (expr_of t x p) s u r)
literal-does t x limit p sound h v u e s r =
    ap (λ (o : Outcome). (o, r)) (e ∙ ap (λ (o : Outcome). cond (ltb u.steps limit) o (Outcome.Exhausted Limit.Steps u))
    (literal-gives t x p sound h v (stepped u) ∙ sym (literal-gives t x p sound h (slot_of s (slot_in (expr_of t x p))) (stepped u)))) ∙
    sym (leaf-machine t x p sound (omega (arith, h)) limit s u r)

module _ (c : Loop) (path : AppendStep) (space : CellSpace) (stride : ℕ) where
  pub no-append : (n at : ℕ) → n ≡ 0 → (g : Gathered) (s : Scope) (u : Used) (r : Rooms) → append_turns c path space stride n at g s u r ≡ gathered g u r
  unfolding append_turns
  no-append n at e g s u r = rw e

  module _ (n at : ℕ) (h : 0 < n) (g : Gathered) (s : Scope) (u : Used) (r : Rooms) where
    abbrev all : Res
    all = append_turns c path space stride n at g s u r

    abbrev onward : Scope → Gathered → Used → Rooms → Res
    onward t k w q = append_turns c path space stride (n - 1) (at + stride) k t w q

    abbrev in_turn : Scope → Used → Rooms → Res
    in_turn t w q = guarded c.place path.guard t w q (λ z o. append_items path g t z o (λ k z' o'. onward t k z' o')) (λ z o. onward t g z o)

    abbrev in_item : Used → Rooms → Res
    in_item w q = in_turn (stored s c.item (cell_at q space at)) w q

    some-append : (n : ℕ) → 0 < n → append_turns c path space stride n at g s u r ≡
        asks c.place (c.condition s u r)
        (λ w q. let t : Scope = stored s c.item (cell_at q space at) in
        guarded c.place path.guard t w q
        (λ z o. append_items path g t z o (λ k z' o'. append_turns c path space stride (n - 1) (at + stride) k t z' o'))
        (λ z o. append_turns c path space stride (n - 1) (at + stride) g t z o))
        (λ w q. gathered g w q)
    unfolding append_turns
    some-append zero h = absurd (omega arith)
    some-append (suc n) h = rw sub-one

    module _ {o : Outcome} {z : Rooms} (test : Is o z (c.condition s u r)) {a : Asked} (asking : a ≡ asked_of c.place o) where
      this-turn : on_asked a z in_item (λ w q. gathered g w q) ≡ all
      this-turn = asked (c.condition s u r) c.place test asking in_item (λ w q. gathered g w q) ∙ sym (some-append n h)

      pub append-ends : {e : Outcome} → a ≡ Asked.Ends e → Is e z all
      append-ends is = ap (λ a. on_asked a z in_item (λ w q. gathered g w q)) (sym is) ∙ this-turn

      -- no turn is left then
      pub append-fails : {w : Used} → a ≡ Asked.Fails w → append_turns c path space stride 0 at g s w z ≡ all
      append-fails {w} is = no-append 0 at refl g s w z ∙ (ap (λ a. on_asked a z in_item (λ w q. gathered g w q)) (sym is) ∙ this-turn)

      module _ {w : Used} (is : a ≡ Asked.Holds w) {v : Value} (cell : v ≡ cell_at z space at)
          {b : Asked} {z' : Rooms} (passed : Passed c.place path.guard (stored s c.item v) w z b z') where
        abbrev scope : Scope
        scope = stored s c.item v

        this-guard : on_asked b z' (λ y q. append_items path g scope y q (λ k y' q'. onward scope k y' q')) (λ y q. onward scope g y q) ≡ all
        this-guard =
            passed.is _ _ ∙ (ap (λ (v : Value). in_turn (stored s c.item v) w z) cell ∙ (ap (λ a. on_asked a z in_item (λ w q. gathered g w q)) (sym is) ∙ this-turn))

        pub guard-ends : {e : Outcome} → b ≡ Asked.Ends e → Is e z' all
        guard-ends way = ap (λ b. on_asked b z' (λ y q. append_items path g scope y q (λ k y' q'. onward scope k y' q')) (λ y q. onward scope g y q)) (sym way) ∙ this-guard

        pub guard-fails : {y : Used} → b ≡ Asked.Fails y → onward scope g y z' ≡ all
        guard-fails way = ap (λ b. on_asked b z' (λ y q. append_items path g scope y q (λ k y' q'. onward scope k y' q')) (λ y q. onward scope g y q)) (sym way) ∙ this-guard

        -- in any rooms
        module _ {y : Used} (way : b ≡ Asked.Holds y) {o'' : Outcome} {z'' : Rooms} (items : Is o'' z'' (path.items scope y z'))
            {k : Result Turn Outcome} {q'' : Rooms} (made : ◌≡◌ {A = Result Turn Outcome × Rooms} (k, q'') (gather_of o'' z'')) where
          this-list : on_gather k g q'' (λ k y' q'. onward scope k y' q') ≡ all
          this-list =
              sym (items_in g (λ k y' q'. onward scope k y' q') o'' z'' made) ∙
              (sym (after-operand (path.items scope y z') items _) ∙
              (ap (λ b. on_asked b z' (λ y q. append_items path g scope y q (λ k y' q'. onward scope k y' q')) (λ y q. onward scope g y q)) (sym way) ∙ this-guard))

          pub list-ends-any : {e : Outcome} → k ≡ Err e → Is e q'' all
          list-ends-any last = ap (λ k. on_gather k g q'' (λ k y' q'. onward scope k y' q')) (sym last) ∙ this-list

          pub list-again-any : {turn : Turn} → k ≡ Ok turn → {g' : Gathered} → g' ≡ add_run (eqb turn.run.length 0) g turn.run.first turn.run.length turn.nesting →
              onward scope g' turn.used q'' ≡ all
          list-again-any {turn} last run =
              ap (λ g'. onward scope g' turn.used q'') run ∙ (ap (λ k. on_gather k g q'' (λ k y' q'. onward scope k y' q')) (sym last) ∙ this-list)

        -- in what is lent
        module _ {y : Used} (way : b ≡ Asked.Holds y) {o'' : Outcome} {old : Lent} (items : Is o'' (rooms_lent old) (path.items scope y z'))
            {k : Result Turn Outcome} {new : Lent} (made : Gives k old new (λ r. gather_of o'' r)) where
          pub list-ends : {e : Outcome} → k ≡ Err e → Is e (rooms_lent new) all
          list-ends last = list-ends-any way items made.gives last

          pub list-again : {turn : Turn} → k ≡ Ok turn → {g' : Gathered} → g' ≡ add_run (eqb turn.run.length 0) g turn.run.first turn.run.length turn.nesting →
              onward scope g' turn.used (rooms_lent new) ≡ all
          list-again last run = list-again-any way items made.gives last run

-- ---- turns that go on, wherever the operands stand that this path does not use

module _ (t x : List ℕ) (limit p : ℕ) (run : Appending) (space : CellSpace) (stride item condition : ℕ) where
  abbrev path : AppendStep
  path = append_at t x limit run

  -- the turns from here do what those from there do
  abbrev pub Same : (n at : ℕ) → Gathered → Scope → Used → Rooms → (n at : ℕ) → Gathered → Scope → Used → Rooms → Type 0
  Same n at g s u r m q k e w z =
      (places : Places) → places.item ≡ item → places.condition ≡ condition →
      append_turns (loop_at t x limit p places) (append_at t x limit run) space stride n at g s u r ≡
      append_turns (loop_at t x limit p places) (append_at t x limit run) space stride m q k e w z

  pub none-again : (n at : ℕ) → 0 < n → (g : Gathered) (s : Scope) (u : Used) (r : Rooms) {o : Outcome} {z : Rooms} →
      Is o z (machine t limit (expr_of t x condition) s u r) → {a : Asked} → a ≡ asked_of p o → {w : Used} → a ≡ Asked.Fails w → Same 0 at g s w z n at g s u r
  none-again n at h g s u r test asking is places e f =
      let k = rw (sym f) at test in
      append-fails (loop_at t x limit p places) path space stride n at h g s u r k asking is

  module _ (n at : ℕ) (h : 0 < n) (g : Gathered) (s : Scope) (u : Used) (r : Rooms) {o : Outcome} {z : Rooms}
      (test : Is o z (machine t limit (expr_of t x condition) s u r)) {a : Asked} (asking : a ≡ asked_of p o) {w : Used} (is : a ≡ Asked.Holds w)
      {v : Value} (cell : v ≡ cell_in (words_of z.binding_cells z.cells space) at)
      {b : Asked} {z' : Rooms} (passed : Passed p (items_seen t x limit run.guard) (stored s item v) w z b z') where
    pub fails-again : {y : Used} → b ≡ Asked.Fails y → Same (n - 1) (at + stride) g (stored s item v) y z' n at g s u r
    fails-again way places e f =
        let k = rw (sym f) at test in
        let l = rw (sym e) at passed in
        rw (sym e) (guard-fails (loop_at t x limit p places) path space stride n at h g s u r k asking is (item-is z space at cell) l way)

    pub gathers-again : {y : Used} → b ≡ Asked.Holds y → {o'' : Outcome} {z'' : Rooms} → Is o'' z'' (machine t limit (expr_of t x run.list) (stored s item v) y z') →
        {k : Result Turn Outcome} {q'' : Rooms} → ◌≡◌ {A = Result Turn Outcome × Rooms} (k, q'') (gather_of o'' z'') →
        {turn : Turn} → k ≡ Ok turn → {g' : Gathered} → g' ≡ add_run (eqb turn.run.length 0) g turn.run.first turn.run.length turn.nesting →
        Same (n - 1) (at + stride) g' (stored s item v) turn.used q'' n at g s u r
    gathers-again way items made last added places e f =
        let k = rw (sym f) at test in
        let l = rw (sym e) at passed in
        let i = rw (sym e) at items in
        rw (sym e) (list-again-any (loop_at t x limit p places) path space stride n at h g s u r k asking is (item-is z space at cell) l way i made last added)

-- a run adds at most itself and its elements
run-adds : (b : Bool) (g : Gathered) (a n d : ℕ) → ((add_run b g a n d).runs ≤ g.runs + 1) × ((add_run b g a n d).count ≤ g.count + n)
run-adds true g a n d = (omega arith, omega arith)
run-adds false g a n d = (omega arith, omega arith)

pub run-added : (g g₁ : Runs) (a n d : ℕ) → gathered_by g₁ ≡ add_run (eqb n 0) (gathered_by g) a n d → n < 65536 →
    (g₁.collected.runs ≤ g.collected.runs + 1) × (g₁.collected.count ≤ g.collected.count + 65535)
run-added g g₁ a n d e h =
    let m = run-adds (eqb n 0) (gathered_by g) a n d in
    (omega (arith, m.0, ap (λ (x : Gathered). x.runs) e), omega (arith, h, m.1, ap (λ (x : Gathered). x.count) e))

-- the loop over them: `left` items are left, the next of them in cell `cell`; `old` was lent before the loop
pub record AppendsLoop (t x : List ℕ) (limit p : ℕ) (path : Appending) (items : Items) (places : Places) (s₀ : Scope) (u₀ : Used) (old now : Lent) (s : Scope) (g : Runs)
    (u : Used) (cell left : ℕ) : Type 0 where
  pub stays : Stays old now
  -- places and counts are numbers of the code
  pub below : cell + left * 65536 ≤ 65536 * 65536
  pub runs : g.collected.runs + left ≤ 65535
  pub elements : g.collected.count + left * 65535 ≤ 65535 * 65535
  pub same : append_turns (loop_at t x limit p places) (append_at t x limit path) items.space items.stride left cell (gathered_by g) s u (rooms_lent now) ≡
      append_turns (loop_at t x limit p places) (append_at t x limit path) items.space items.stride items.count items.first nothing_gathered s₀ u₀ (rooms_lent old)

module _ (t x : List ℕ) (limit p : ℕ) (path : Appending) (items : Items) (places : Places) (s₀ : Scope) (u₀ : Used) (old : Lent) where
  pub appends-begin : items.first < 65536 → items.count < 65536 → (g : Runs) → gathered_by g ≡ nothing_gathered →
      AppendsLoop t x limit p path items places s₀ u₀ old old s₀ g u₀ items.first items.count
  appends-begin f h g k =
      record {
        stays = stays-here;
        below = omega (arith, f, h);
        runs = omega (arith, h, ap (λ (y : Gathered). y.runs) k);
        elements = omega (arith, h, ap (λ (y : Gathered). y.count) k);
        same = ap (λ y. append_turns (loop_at t x limit p places) (append_at t x limit path) items.space items.stride items.count items.first y s₀ u₀ (rooms_lent old)) k;
      }

  module _ {now : Lent} {s : Scope} {g : Runs} {u : Used} {cell left : ℕ} (v : AppendsLoop t x limit p path items places s₀ u₀ old now s g u cell left)
      {next : Lent} (stays : Stays now next) {u₁ : Used} where
    -- after an item
    pub appends-again : 0 < left → items.stride < 65536 → {s₁ : Scope} → (g₁ : Runs) → (g₁.collected.runs ≤ g.collected.runs + 1) × (g₁.collected.count ≤ g.collected.count + 65535) →
        append_turns (loop_at t x limit p places) (append_at t x limit path) items.space items.stride (left - 1) (cell + items.stride) (gathered_by g₁) s₁ u₁ (rooms_lent next) ≡
        append_turns (loop_at t x limit p places) (append_at t x limit path) items.space items.stride left cell (gathered_by g) s u (rooms_lent now) →
        AppendsLoop t x limit p path items places s₀ u₀ old next s₁ g₁ u₁ (cell + items.stride) (left - 1)
    appends-again h w g₁ m e =
        record {
          stays = stays-on v.stays stays;
          below = omega (arith, v.below, h, w);
          runs = omega (arith, v.runs, h, m.0);
          elements = omega (arith, v.elements, h, m.1);
          same = e ∙ v.same;
        }

    -- after a condition that fails
    pub appends-over : append_turns (loop_at t x limit p places) (append_at t x limit path) items.space items.stride 0 cell (gathered_by g) s u₁ (rooms_lent next) ≡
        append_turns (loop_at t x limit p places) (append_at t x limit path) items.space items.stride left cell (gathered_by g) s u (rooms_lent now) →
        AppendsLoop t x limit p path items places s₀ u₀ old next s g u₁ cell 0
    appends-over e =
        record {
          stays = stays-on v.stays stays;
          below = omega (arith, v.below);
          runs = omega (arith, v.runs);
          elements = omega (arith, v.elements);
          same = e ∙ v.same;
        }
