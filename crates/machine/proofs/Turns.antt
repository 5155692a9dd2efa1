-- The loop of a comprehension refines its rule: each turn with a scope that changes, and an error that may be pending. Rests on Operands.
-- Assumes nothing.
use Prim.Native.Nat.{ℕ, suc, ◌+◌, ◌≤◌, ◌<◌}
use mathlib.Core.Path.{◌≡◌, refl, sym, subst}
use mathlib.Core.List.{List, [], ◌∷◌, ◌++◌}
use Rattle.std.specs.Prelude.{Option, None, Some}
use mathlib.Core.Bool.{Bool, true, false}
use native.Mathlib.Omega.{arith}
use lib.ListN.{length}
use Rattle.meaning.specs.Limits.{Counts, deepest_value, names}
use Rattle.meaning.specs.Errors.{ErrorAt, UnexpectedType, a_bool}
use Rattle.meaning.specs.Value as Meaning
use Rattle.meaning.specs.Value.{Values, nil, cons, Entries, empty, entry, nesting, nesting_in, value_list, bool_of}
use Rattle.meaning.specs.Expr.{LogicalFold}
use Rattle.meaning.specs.Run.{Result, value, error, Raised, by_rule, by_operand, Eval, Rule, charged, after, on_value, ◌>>=◌, from_operand, operand, choose}
use Rattle.meaning.specs.Logic.{absorbs, raised_error}
use Rattle.meaning.specs.Comprehension as Rules
use Rattle.meaning.specs.Comprehension.{Scope, store, key_list, items_of, Comprehension, Onward, finish, fold_step, after_step, turn, loop}
use Rattle.rooms.specs.declared.value.Value.{Value}
use Rattle.rooms.specs.declared.value.CellSpace.{CellSpace}
use Rattle.rooms.specs.declared.scope.Scope as Code
use Rattle.rooms.specs.Rooms.{Rooms, cell_at}
use Rattle.rooms.specs.Scope.{stored}
use Rattle.rooms.specs.Stands.{Alive, Stands, StandsCells, StandsEntries, Holds, Agrees}
use Rattle.rooms.proofs.Frame.{frame}
use Rattle.rooms.proofs.Scopes.{scope-stored}
use Rattle.machine.specs.declared.outcome.Outcome.TheVariants as Outcome
use Rattle.machine.specs.Outcomes.{Res, Does}
use Rattle.machine.specs.Views.{bool_in}
use Rattle.machine.specs.Logic.{branch}
use Rattle.machine.specs.Comprehension as Machine
use Rattle.machine.specs.Comprehension.{Loop, asks, turns}
use Rattle.machine.specs.Refines.{used_of, error_of, Start, Refines}
use Rattle.machine.proofs.Match.{raised_place, Says, raises, HandsOut, then}
use Rattle.machine.proofs.Operands.{bool-view, operand-says, try-bool}

-- ---- what is iterated over

-- the items in cells from `at` on, a stride apart
abbrev pub ItemsAt : List Meaning.Value → Alive → Rooms → CellSpace → ℕ → ℕ → Type 0
ItemsAt [] L r space stride at = Unit {0}
ItemsAt (v ∷ vs) L r space stride at = L.cells space at × Stands v L r (cell_at r space at) × (nesting v ≤ deepest_value) × ItemsAt vs L r space stride (at + stride)

pub items-frame : (L M : Alive) (r q : Rooms) → Agrees L M r q → (vs : List Meaning.Value) (space : CellSpace) (stride at : ℕ) → ItemsAt vs L r space stride at → ItemsAt vs M q space stride at
items-frame L M r q g [] space stride at h = tt
items-frame L M r q g (v ∷ vs) space stride at h = (g.sub space at h.0, subst (λ x. Stands v M q x) (sym (g.same space at h.0)) (frame L M r q g v (cell_at r space at) h.1), h.2, items-frame L M r q g vs space stride (at + stride) h.3)

pub list-items : (L : Alive) (r : Rooms) (vs : Values) (space : CellSpace) (a : ℕ) → nesting_in vs ≤ deepest_value → StandsCells vs L r space a → ItemsAt (value_list vs) L r space 1 a
unfolding value_list Stands nesting_in
list-items L r nil space a d h = tt
list-items L r (cons v vs) space a d h = (h.0, h.1, omega arith, subst (λ i. ItemsAt (value_list vs) L r space 1 i) (shift a) (list-items L r vs space (suc a) (omega arith) h.2))
  where
    shift : (a : ℕ) → suc a ≡ a + 1
    shift a = omega arith

pub map-items : (L : Alive) (r : Rooms) (es : Entries) (space : CellSpace) (a : ℕ) → StandsEntries es L r space a → ItemsAt (key_list es) L r space 2 a
unfolding key_list Stands nesting
map-items L r empty space a h = tt
map-items L r (entry k v es) space a h = (h.0, h.1, omega arith, subst (λ i. ItemsAt (key_list es) L r space 2 i) (shift a) (map-items L r es space (suc (suc a)) h.4))
  where
    shift : (a : ℕ) → suc (suc a) ≡ a + 2
    shift a = omega arith

-- an error that is pending, in both
abbrev pub pending_of : Rules.Pending → Machine.Pending
pending_of None = None
pending_of (Some e) = Some (error_of e.error, e.place)

-- ---- a run that is no rule yet

-- an error of a rule at p as an error at p
abbrev lifted : {A : Type 0} → ℕ → (Result ErrorAt Meaning.Value → A) → Result Raised Meaning.Value → A
lifted p k (value v) = k (value v)
lifted p k (error (by_rule e)) = k (error (record { error = e; place = p }))
lifted p k (error (by_operand e)) = k (error e)

lifted-operand : (p : ℕ) (e : Eval Meaning.Value) (k : Result ErrorAt Meaning.Value → Rule Meaning.Value) → after e k ≡ after (operand e) (lifted p k)
unfolding after charged operand from_operand
lifted-operand p e k = go e.1
  where
    go : (y : Result ErrorAt Meaning.Value) → ◌≡◌ {A = Rule Meaning.Value} (e.0 ++ (k y).0, (k y).1) (e.0 ++ (lifted p k (from_operand y)).0, (lifted p k (from_operand y)).1)
    go (value v) = refl
    go (error x) = refl

module _ (l : Counts) (src : List ℕ) where
  -- a name is bound
  pub stores : {L : Alive} {u : Counts} {r : Rooms} {s : Code.Scope} {t : Scope} → Start l src L u r s t → (n : ℕ) → n < names → (m : Value) (v : Meaning.Value) → Holds v L r m → Start l src L u r (stored s n m) (store t n v)
  stores {L} {u} {r} {s} {t} a n b m v h =
      record { below = a.below; cell_limit = a.cell_limit; text_limit = a.text_limit; literals = a.literals; roomy = a.roomy; fitting = a.fitting; scope = scope-stored t L r s n v m b h a.scope }

  eval-then : {L : Alive} {u : Counts} {r : Rooms} {s : Code.Scope} {t : Scope} → Start l src L u r s t → (p : ℕ) (m : Does) (f : Scope → Eval Meaning.Value) → Refines l src m f → (K : Res → Res) (k : Result ErrorAt Meaning.Value → Rule Meaning.Value)
      → ((M : Alive) (c : Counts) (q : Rooms) → Start l src M c q s t → Agrees L M r q → (y : Value) (v : Meaning.Value) → Holds v M q y → Says l src p M c q (K (Outcome.Value y (used_of c), q)) (k (value v)))
      → ((M : Alive) (c : Counts) (q : Rooms) → Start l src M c q s t → Agrees L M r q → (e : ErrorAt) → Says l src p M c q (K (Outcome.Error (error_of e.error) e.place (used_of c), q)) (k (error e)))
      → HandsOut l src K → Says l src p L u r (K (m s (used_of u) r)) (after (f t) k)
  eval-then {L} {u} {r} {s} {t} a p m f h K k g e w =
      subst (λ ρ. Says l src p L u r (K (m s (used_of u) r)) ρ) (sym (lifted-operand p (f t) k))
      (then l src a p (operand (f t)) (m s (used_of u) r) (operand-says l src p L u r (m s (used_of u) r) (f t) (h L s t u r a)) K (lifted p k) g (λ M c q b j x. errors M c q b j x) w)
    where
      errors : (M : Alive) (c : Counts) (q : Rooms) → Start l src M c q s t → Agrees L M r q → (x : Raised) → Says l src p M c q (K (Outcome.Error (error_of (raised_error x)) (raised_place p x) (used_of c), q)) (lifted p k (error x))
      errors M c q b j (by_rule x) = unfold raised_error in e M c q b j (record { error = x; place = p })
      errors M c q b j (by_operand x) = unfold raised_error in e M c q b j x

  -- ---- the loop

  module _ (p a i : ℕ) (ia : a < names) (ii : i < names) (fold : Option LogicalFold) (mt mn mr : Does) (ft fn fr : Scope → Eval Meaning.Value) (ht : Refines l src mt ft) (hn : Refines l src mn fn) (hr : Refines l src mr fr) where
    abbrev pub looping : Loop
    looping = record { place = p; accumulator = a; item = i; fold = fold; condition = mt; step = mn; result = mr }

    finish-says : {L : Alive} {u : Counts} {r : Rooms} {s : Code.Scope} {t : Scope} → Start l src L u r s t → (e : Rules.Pending) → Says l src p L u r (Machine.finish mr (pending_of e) s (used_of u) r) (finish fr t e)
    unfolding finish raised_error
    finish-says {L} {u} {r} {s} {t} st None = operand-says l src p L u r (mr s (used_of u) r) (fr t) (hr L s t u r st)
    finish-says {L} {u} {r} {s} {t} st (Some e) = raises l src st p (by_operand e)

    module _ (space : CellSpace) (stride : ℕ) where
      -- the rest of a loop, over these items
      abbrev LoopOk : List Meaning.Value → (Machine.Pending → ℕ → Does) → Onward → Type 1
      LoopOk xs R κ = (e : Rules.Pending) (L : Alive) (s : Code.Scope) (t : Scope) (u : Counts) (r : Rooms) (at : ℕ) → Start l src L u r s t → ItemsAt xs L r space stride at → Says l src p L u r (R (pending_of e) at s (used_of u) r) (κ t e)

      module _ (xs : List Meaning.Value) (R : Machine.Pending → ℕ → Does) (κ : Onward) (ih : LoopOk xs R κ) where
        module _ {L : Alive} {u : Counts} {r : Rooms} {s : Code.Scope} {t : Scope} (st : Start l src L u r s t) (at : ℕ) (h : ItemsAt xs L r space stride at) where
          abbrev binds : Machine.Binds
          binds w z q = R None at (stored s a w) z q

          abbrev holds : Machine.Holds
          holds e z q = R e at s z q

          -- the accumulator is bound
          bound-ok : (m : Value) (v : Meaning.Value) → Holds v L r m → Says l src p L u r (R None at (stored s a m) (used_of u) r) (κ (store t a v) None)
          bound-ok m v k = ih None L (stored s a m) (store t a v) u r at (stores st a ia m v k) h

          clear-ok : (m : Value) (v : Meaning.Value) → Holds v L r m → (e : ErrorAt) (b : Bool) → Says l src p L u r (Machine.unless_cleared b (pending_of (Some e)) m (used_of u) r binds holds) (choose (κ (store t a v) None) (κ t (Some e)) b)
          unfolding choose
          clear-ok m v k e true = bound-ok m v k
          clear-ok m v k e false = ih (Some e) L s t u r at st h

          fold_ok : (f : LogicalFold) (e : Rules.Pending) (m : Value) (v : Meaning.Value) → Holds v L r m → Says l src p L u r (Machine.fold_value f (pending_of e) m (used_of u) r binds holds) (fold_step a f κ t e v)
          unfolding fold_step
          fold_ok f None m v k = bound-ok m v k
          fold_ok f (Some e) m v k = subst (λ o. Says l src p L u r (Machine.unless_cleared (absorbs f o) (pending_of (Some e)) m (used_of u) r binds holds) (choose (κ (store t a v) None) (κ t (Some e)) (absorbs f (bool_of v)))) (sym (bool-view L r v m k.stands)) (clear-ok m v k e (absorbs f (bool_of v)))

          step_value : (o : Option LogicalFold) (e : Rules.Pending) (m : Value) (v : Meaning.Value) → Holds v L r m → Says l src p L u r (Machine.step_value o (pending_of e) m (used_of u) r binds holds) (after_step a o κ t e (value v))
          unfolding after_step
          step_value None e m v k = bound-ok m v k
          step_value (Some f) e m v k = fold_ok f e m v k

          step-error : (o : Option LogicalFold) (e : Rules.Pending) (x : ErrorAt) → Says l src p L u r (Machine.step_error o (error_of x.error) x.place (used_of u) r holds) (after_step a o κ t e (error x))
          unfolding after_step raised_error
          step-error None e x = raises l src st p (by_operand x)
          step-error (Some f) e x = ih (Some x) L s t u r at st h

        -- one item, its condition known to hold
        turn-ok : {L : Alive} {u : Counts} {r : Rooms} {s : Code.Scope} {t : Scope} → Start l src L u r s t → (e : Rules.Pending) (at : ℕ) (v : Meaning.Value) → ItemsAt (v ∷ xs) L r space stride at → Says l src p L u r (Machine.turn looping (cell_at r space at) (pending_of e) (λ o t' z q. R o (at + stride) t' z q) s (used_of u) r) (after (fn (store t i v)) (after_step a fold κ (store t i v) e))
        turn-ok {L} {u} {r} {s} {t} st e at v h =
            eval-then (stores st i ii (cell_at r space at) v (record { stands = h.1; fits = st.fitting space at; nests = h.2 })) p mn fn hn
            (λ y. Machine.after_step fold (pending_of e) y.0 y.1 (λ w z q. R None (at + stride) (stored (stored s i (cell_at r space at)) a w) z q) (λ o z q. R o (at + stride) (stored s i (cell_at r space at)) z q)) (after_step a fold κ (store t i v) e)
            (λ M c q b j y w k. step_value b (at + stride) (items-frame L M r q j xs space stride (at + stride) h.3) fold e y w k)
            (λ M c q b j x. step-error b (at + stride) (items-frame L M r q j xs space stride (at + stride) h.3) fold e x)
            (λ x y q. refl)

      module _ (append : Option Rules.AppendStep) (range init : Scope → Eval Meaning.Value) where
        -- the definition's comprehension of the same parts
        abbrev pub meant : Comprehension Meaning.Value
        meant = record { items_in = items_of; enter = λ v t. store t i v; accumulator = a; fold = fold; append = append; range = range; init = init; condition = ft; step = fn; result = fr }

        pub turns-ok : (xs : List Meaning.Value) → LoopOk xs (λ e at. turns looping space stride (length xs) at e) (λ t e. loop meant xs t e)
        unfolding turns loop turn ◌>>=◌ on_value
        turns-ok [] e L s t u r at st h = finish-says st e
        turns-ok (x ∷ xs) e L s t u r at st h =
            try-bool l src st p mt ft ht (λ y. asks p y (λ w q. Machine.turn looping (cell_at q space at) (pending_of e) (λ o t' z d. turns looping space stride (length xs) (at + stride) o t' z d) s w q) (λ w q. Machine.finish mr (pending_of e) s w q))
            (on_value (choose (after (fn (store t i x)) (after_step a fold (λ t' e'. loop meant xs t' e') (store t i x) e)) (finish fr t e)))
            (λ M c q b j m y k. chosen (turns-ok xs) M c q b (items-frame L M r q j (x ∷ xs) space stride at h) m y k)
            (λ M c q b j m k. subst (λ o. Says l src p M c q (branch p (used_of c) q o (λ w d. Machine.turn looping (cell_at d space at) (pending_of e) (λ o' t' z d'. turns looping space stride (length xs) (at + stride) o' t' z d') s w d) (λ w d. Machine.finish mr (pending_of e) s w d)) ([], error (by_rule (UnexpectedType a_bool)))) (sym k) (wanted b))
            (λ M c q b j y. raises l src b p y)
            (λ y z q. refl)
          where
            wanted : {M : Alive} {c : Counts} {q : Rooms} → Start l src M c q s t → Says l src p M c q (Outcome.Error (error_of (UnexpectedType a_bool)) p (used_of c), q) ([], error (by_rule (UnexpectedType a_bool)))
            wanted b = unfold raised_error in raises l src b p (by_rule (UnexpectedType a_bool))

            chosen : LoopOk xs (λ e' at'. turns looping space stride (length xs) at' e') (λ t' e'. loop meant xs t' e') → (M : Alive) (c : Counts) (q : Rooms) → Start l src M c q s t → ItemsAt (x ∷ xs) M q space stride at → (m : Value) (y : Bool) → bool_in m ≡ Some y → Says l src p M c q (branch p (used_of c) q (bool_in m) (λ w d. Machine.turn looping (cell_at d space at) (pending_of e) (λ o' t' z d'. turns looping space stride (length xs) (at + stride) o' t' z d') s w d) (λ w d. Machine.finish mr (pending_of e) s w d)) (choose (after (fn (store t i x)) (after_step a fold (λ t' e'. loop meant xs t' e') (store t i x) e)) (finish fr t e) y)
            chosen ih M c q b g m true k = subst (λ o. Says l src p M c q (branch p (used_of c) q o (λ w d. Machine.turn looping (cell_at d space at) (pending_of e) (λ o' t' z d'. turns looping space stride (length xs) (at + stride) o' t' z d') s w d) (λ w d. Machine.finish mr (pending_of e) s w d)) (choose (after (fn (store t i x)) (after_step a fold (λ t' e'. loop meant xs t' e') (store t i x) e)) (finish fr t e) true)) (sym k) (unfold choose in turn-ok xs (λ o at' t' z d. turns looping space stride (length xs) at' o t' z d) (λ t' e'. loop meant xs t' e') ih b e at x g)
            chosen ih M c q b g m false k = subst (λ o. Says l src p M c q (branch p (used_of c) q o (λ w d. Machine.turn looping (cell_at d space at) (pending_of e) (λ o' t' z d'. turns looping space stride (length xs) (at + stride) o' t' z d') s w d) (λ w d. Machine.finish mr (pending_of e) s w d)) (choose (after (fn (store t i x)) (after_step a fold (λ t' e'. loop meant xs t' e') (store t i x) e)) (finish fr t e) false)) (sym k) (unfold choose in finish-says b e)
