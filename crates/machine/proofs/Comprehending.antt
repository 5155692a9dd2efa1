-- A comprehension refines its rule, from its parts. Rests on Turns, Appending. Assumes nothing.
use Prim.Native.Nat.{ℕ, suc, ◌<◌}
use mathlib.Core.Path.{◌≡◌, refl, sym, ap, ◌∙◌, subst}
use mathlib.Core.List.{List}
use Rattle.std.specs.Prelude.{Option, None, Some}
use mathlib.Core.Bool.{Bool, true, false}
use native.Mathlib.Omega.{arith}
use lib.Dec.{eqb-suc-zero}
use lib.ListN.{length}
use Rattle.meaning.specs.Limits.{Counts, names}
use Rattle.meaning.specs.Errors.{UnexpectedType, an_iterable}
use Rattle.meaning.specs.Value as Meaning
use Rattle.meaning.specs.Value.{nil, cons, Entries, empty, entry, scalar, list, map, optional_none, optional_of, nesting, count, count_entries}
use Rattle.meaning.specs.Expr.{LogicalFold}
use Rattle.meaning.specs.Run.{Eval, pure, charged, after, on_value, ◌>>=◌, fail, or_fail, choose}
use Rattle.meaning.specs.Comprehension as Rules
use Rattle.meaning.specs.Comprehension.{Scope, store, key_list, items_of, Comprehension, is_empty_list, loop, append_loop, loop_from, comprehension_rule}
use Rattle.rooms.specs.declared.value.Value.{Value}
use Rattle.rooms.specs.declared.value.CellSpace.{CellSpace}
use Rattle.rooms.specs.declared.scope.Scope as Code
use Rattle.rooms.specs.Value.{parts_of}
use Rattle.rooms.specs.Rooms.{Rooms}
use Rattle.rooms.specs.Scope.{stored}
use Rattle.rooms.specs.Stands.{Alive, Stands, Holds}
use Rattle.rooms.proofs.Frame.{holds_frame}
use Rattle.machine.specs.Outcomes.{Does}
use Rattle.machine.specs.Comprehension as Machine
use Rattle.machine.specs.Comprehension.{Loop, Items, items_parts, on_items, empty_parts, appends, turns, nothing_gathered, comprehends}
use Rattle.machine.specs.Refines.{used_of, Start, Refines}
use Rattle.machine.proofs.Match.{Says, error-now}
use Rattle.machine.proofs.Operands.{value_of}
use Rattle.meaning_laws.proofs.Filled.{length-values}
use Rattle.rooms_comparison.proofs.SeenMeaning.{scalar-parts}
use Rattle.machine.proofs.Turns.{ItemsAt, list-items, map-items, stores, turns-ok}
use Rattle.machine.proofs.Gathering.{ItemsOk, gathers-nothing}
use Rattle.machine.proofs.Appending.{GuardOk, append-ok}

-- ---- what is iterated over

keys_length : (es : Entries) → length (key_list es) ≡ count_entries es
unfolding key_list count_entries
keys_length empty = refl
keys_length (entry k v es) = ap suc (keys_length es)

-- where the items lie, or that there are none to go over
abbrev ItemsView : Alive → Rooms → Option (List Meaning.Value) → Value → Type 0
ItemsView L r None m = items_parts (parts_of m) ≡ None
ItemsView L r (Some xs) m = (space : CellSpace) × (a : ℕ) × (stride : ℕ) × (items_parts (parts_of m) ≡ Some (record { space = space; first = a; count = length xs; stride = stride })) × ItemsAt xs L r space stride a

items-view : (L : Alive) (r : Rooms) (w : Meaning.Value) (m : Value) → Holds w L r m → ItemsView L r (items_of w) m
unfolding items_of Stands nesting
items-view L r (scalar x) m h = ap items_parts (scalar-parts L r x m h.stands)
items-view L r (list vs) m h =
    (h.stands.0, h.stands.1, 1, ap (λ x. items_parts (parts_of x)) h.stands.2 ∙ ap (λ n. Some (record { space = h.stands.0; first = h.stands.1; count = n; stride = 1 })) (sym (length-values vs)), list-items L r vs h.stands.0 h.stands.1 (omega (arith, h.nests)) h.stands.3)
items-view L r (map es) m h =
    (h.stands.0, h.stands.1, 2, ap (λ x. items_parts (parts_of x)) h.stands.2 ∙ ap (λ n. Some (record { space = h.stands.0; first = h.stands.1; count = n; stride = 2 })) (sym (keys_length es)), map-items L r es h.stands.0 h.stands.1 h.stands.3)
items-view L r optional_none m h = ap (λ x. items_parts (parts_of x)) h.stands
items-view L r (optional_of v) m h = ap (λ x. items_parts (parts_of x)) h.stands.2

empty-view : (L : Alive) (r : Rooms) (v : Meaning.Value) (m : Value) → Stands v L r m → empty_parts (parts_of m) ≡ is_empty_list v
unfolding is_empty_list Stands count
empty-view L r (scalar x) m h = ap empty_parts (scalar-parts L r x m h)
empty-view L r (list nil) m h = ap (λ x. empty_parts (parts_of x)) h.2
empty-view L r (list (cons v vs)) m h = ap (λ x. empty_parts (parts_of x)) h.2 ∙ eqb-suc-zero (count vs)
empty-view L r (map es) m h = ap (λ x. empty_parts (parts_of x)) h.2
empty-view L r optional_none m h = ap (λ x. empty_parts (parts_of x)) h
empty-view L r (optional_of v) m h = ap (λ x. empty_parts (parts_of x)) h.2

module _ (l : Counts) (src : List ℕ) where
  -- an append path, or none, in both
  abbrev pub PathOk : Option Machine.AppendStep → Option Rules.AppendStep → Type 1
  PathOk None None = Unit {1}
  PathOk None (Some step) = (P : Type 0) → P
  PathOk (Some path) None = (P : Type 0) → P
  PathOk (Some path) (Some step) = GuardOk l src path.guard step.guard × ItemsOk l src path.items step.items

  module _ (p a i : ℕ) (ia : a < names) (ii : i < names) (fold : Option LogicalFold) (mt mn mr : Does) (ft fn fr : Scope → Eval Meaning.Value) (ht : Refines l src mt ft) (hn : Refines l src mn fn) (hr : Refines l src mr fr) (mg mi : Does) (fg fi : Scope → Eval Meaning.Value) (hg : Refines l src mg fg) (hi : Refines l src mi fi) where
    abbrev loops : Loop
    loops = record { place = p; accumulator = a; item = i; fold = fold; condition = mt; step = mn; result = mr }

    abbrev means : Option Rules.AppendStep → Comprehension Meaning.Value
    means append = record { items_in = items_of; enter = λ v t. store t i v; accumulator = a; fold = fold; append = append; range = fg; init = fi; condition = ft; step = fn; result = fr }

    module _ (append : Option Rules.AppendStep) {L : Alive} {u : Counts} {r : Rooms} {s : Code.Scope} {t : Scope} (st : Start l src L u r s t) (m : Value) (v : Meaning.Value) (h : Holds v L r m) (xs : List Meaning.Value) (space : CellSpace) (first stride : ℕ) (k : ItemsAt xs L r space stride first) where
      abbrev items : Items
      items = record { space = space; first = first; count = length xs; stride = stride }

      -- the ordinary loop
      loop-ok : Says l src p L u r (turns loops space stride (length xs) first None (stored s a m) (used_of u) r) (loop (means append) xs (store t a v) None)
      loop-ok = turns-ok l src p a i ia ii fold mt mn mr ft fn fr ht hn hr space stride append fg fi xs None L (stored s a m) (store t a v) u r first (stores l src st a ia m v h) k

      from_empty : (path : Machine.AppendStep) (step : Rules.AppendStep) → PathOk (Some path) (Some step) → (b : Bool) → Says l src p L u r (appends b loops path m items s (used_of u) r) (choose (append_loop (means append) step xs t nil) (loop (means append) xs (store t a v) None) b)
      unfolding choose
      from_empty path step j true = append-ok l src p a i ia ii fold mt mn mr ft fn fr ht hn hr space stride append fg fi path step j.0 j.1 xs nothing_gathered nil L s t u r first st (gathers-nothing L u r) k
      from_empty path step j false = loop-ok

      from-ok : (o : Option Machine.AppendStep) (w : Option Rules.AppendStep) → PathOk o w → Says l src p L u r (Machine.loop_from loops o m items s (used_of u) r) (loop_from (means append) w v xs t)
      unfolding loop_from
      from-ok None None j = loop-ok
      from-ok None (Some step) j = j _
      from-ok (Some path) None j = j _
      from-ok (Some path) (Some step) j = subst (λ b. Says l src p L u r (appends b loops path m items s (used_of u) r) (choose (append_loop (means append) step xs t nil) (loop (means append) xs (store t a v) None) (is_empty_list v))) (sym (empty-view L r v m h.stands)) (from_empty path step j (is_empty_list v))

    pub comprehends-says : (path : Option Machine.AppendStep) (append : Option Rules.AppendStep) → PathOk path append → {L : Alive} {u : Counts} {r : Rooms} {s : Code.Scope} {t : Scope} → Start l src L u r s t → Says l src p L u r (comprehends loops path mi mg s (used_of u) r) (comprehension_rule (means append) t)
    unfolding comprehension_rule
    comprehends-says path append j {L} {u} {r} {s} {t} st =
        value_of l src st p mi fi hi _ _ (λ M c q b e m v h.
        value_of l src b p mg fg hg (λ n z o. on_items p z o (items_parts (parts_of n)) (λ items'. Machine.loop_from loops path m items' s z o)) (λ w. ◌>>=◌ (or_fail (UnexpectedType an_iterable) (items_of w)) (λ xs. loop_from (means append) append v xs t))
        (λ N d o b' e' n w k. over b' m v (holds_frame M N q o e' v m h) (items_of w) n (items-view N o w n k)))
      where
        over : {N : Alive} {d : Counts} {o : Rooms} → Start l src N d o s t → (m : Value) (v : Meaning.Value) → Holds v N o m → (x : Option (List Meaning.Value)) (n : Value) → ItemsView N o x n → Says l src p N d o (on_items p (used_of d) o (items_parts (parts_of n)) (λ items'. Machine.loop_from loops path m items' s (used_of d) o)) (◌>>=◌ (or_fail (UnexpectedType an_iterable) x) (λ xs. loop_from (means append) append v xs t))
        over {N} {d} {o} b m v h None n g = subst (λ y. Says l src p N d o (on_items p (used_of d) o y (λ items'. Machine.loop_from loops path m items' s (used_of d) o)) (◌>>=◌ (or_fail (UnexpectedType an_iterable) None) (λ xs. loop_from (means append) append v xs t))) (sym g) (unfold ◌>>=◌ after charged on_value or_fail fail in error-now l src b p (UnexpectedType an_iterable))
        over {N} {d} {o} b m v h (Some xs) n g = subst (λ y. Says l src p N d o (on_items p (used_of d) o y (λ items'. Machine.loop_from loops path m items' s (used_of d) o)) (◌>>=◌ (or_fail (UnexpectedType an_iterable) (Some xs)) (λ ys. loop_from (means append) append v ys t))) (sym g.3) (unfold ◌>>=◌ after charged on_value or_fail pure in from-ok append b m v h xs g.0 g.1 g.2 g.4 path append j)
