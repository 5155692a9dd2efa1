-- A Map record refines its rule. Rests on Makings, Steps. Assumes nothing.
use Prim.Native.Nat.{ℕ, suc, ◌+◌, ◌*◌, ◌≤◌, ◌<◌, max}
use mathlib.Core.Path.{◌≡◌, refl, sym, ap, ◌∙◌, subst}
use mathlib.Core.List.{List, [], ◌∷◌, ◌++◌, append_assoc, append-nil}
use Rattle.std.specs.Prelude.{Option, None, Some}
use mathlib.Core.Bool.{Bool, true, false}
use native.Mathlib.Omega.{arith}
use native.Mathlib.Numerals.{add-one}
use lib.ListN.{replicate}
use Rattle.meaning.specs.Limits.{Counts, deepest_value}
use Rattle.meaning.specs.Errors.{DuplicateKey, UnsupportedKeyType}
use Rattle.meaning.specs.Value as Meaning
use Rattle.meaning.specs.Value.{Values, nil, cons, Entries, empty, entry, scalar, map, nesting, nesting_over, count, count_entries, join, add_entry, key_scalar, key_of}
use Rattle.meaning.specs.Run.{Charge, step, cells, nest, Trace, Result, value, error, Raised, by_rule, Eval, Rule, pure, charged, after, on_value, ◌>>=◌, fail, or_fail, operand, placed}
use Rattle.meaning.specs.Comparison.{Tally, find, compared}
use Rattle.meaning.specs.Containers.{Making, keeping, having, ready_in, unmarked, kept, add_new, insert, entry_rule, pair_rule, pad, cells_an_entry, entry_cells, finished, map_rule, into}
use Rattle.meaning.specs.Optionals.{Unwrapped, NotOptional, PresentOptional, NoneOptional, unwrap_optional}
use Rattle.meaning.specs.Comprehension as Comprehension
use Rattle.meaning.specs.Logic.{raised_error}
use Rattle.meaning.specs.Limited.{spend, outcome}
use Rattle.rooms.specs.declared.value.Value.{Value}
use Rattle.rooms.specs.declared.value.CellSpace.{CellSpace}
use Rattle.rooms.specs.declared.value.CellSpace.TheVariants as Cells
use Rattle.rooms_comparison.specs.declared.lookup.Found.{Found}
use Rattle.rooms.specs.declared.scope.Scope.{Scope}
use Rattle.rooms.specs.Value.{nesting_of, is_key}
use Rattle.rooms.specs.Rooms.{Rooms, cell_at}
use Rattle.rooms.specs.Stands.{Alive, Stands, StandsCells, StandsEntries, Holds}
use Rattle.rooms_comparison.specs.LookUp.{find_in}
use Rattle.meaning_laws.proofs.Fine.{pad-count}
use Rattle.meaning_laws.proofs.Spelled.{add-nesting}
use Rattle.rooms.proofs.Frame.{frame-entries, scalar-frame, holds_frame}
use Rattle.rooms.proofs.CellLaws.{written-length}
use Rattle.rooms_comparison.specs.Finds.{FoundIs, Finds}
use Rattle.rooms_comparison.proofs.EqualMeaning.{find-ok}
use Rattle.machine.specs.declared.outcome.Used.{Used}
use Rattle.machine.specs.declared.outcome.Error.TheVariants as Error
use Rattle.machine.specs.declared.outcome.Outcome.TheVariants as Outcome
use Rattle.machine.specs.Outcomes.{Res, Does, written, with_value, taking}
use Rattle.machine.specs.Views.{part_in, unmarked_in, optional_in}
use Rattle.machine.specs.Containers as Machine
use Rattle.machine.specs.Containers.{if_key, if_new, map_done}
use Rattle.meaning_laws.specs.Charges.{counts_of}
use Rattle.machine.specs.Refines.{used_of, error_of, Live, Upto, Roomy, Keeps, Matches, Start, Refines}
use Rattle.machine.proofs.Keeping.{keeps_same, keeps-both, keeps-higher, keeps-back, agrees-sub, roomy-same}
use Rattle.machine.proofs.Taking.{took, taken, taken-keeps}
use Rattle.machine.proofs.Traces.{from-grows}
use Rattle.machine.proofs.Match.{raised_place, Says}
use Rattle.machine.proofs.Charges.{walked, takes}
use Rattle.machine.proofs.Steps.{found_in, steps_then}
use Rattle.machine.proofs.Operands.{after-assoc}
use Rattle.machine.proofs.Seen.{KeyView, key-view}
use Rattle.machine.proofs.Selecting.{UnwrapView, unwrap-view}
use Rattle.machine.proofs.Filling.{Filling, since, stored-agrees, stored-keeps, fill-store, fill-walked, Stored, empty-filling}
use Rattle.machine.proofs.Makings.{closing, FillsTo, fills-error, fills-done, fills-then}
use Rattle.machine.proofs.Lists.{longer}
use Rattle.rooms.specs.Cells.{Fits}
use Rattle.rooms.proofs.Depths.{stands-nesting}
use Rattle.rooms.specs.Spans.{row}

-- ---- entries and their cells

pub cells_count : (es : Entries) → count (entry_cells es) ≡ count_entries es * 2
unfolding entry_cells count count_entries
cells_count empty = refl
cells_count (entry k v es) = ap (λ n. suc (suc n)) (cells_count es) ∙ two (count_entries es)
  where
    two : (n : ℕ) → suc (suc (n * 2)) ≡ suc n * 2
    two n = omega arith

pub cells-entries : (es : Entries) (L : Alive) (r : Rooms) (space : CellSpace) (a : ℕ) → StandsCells (entry_cells es) L r space a → StandsEntries es L r space a
unfolding entry_cells Stands
cells-entries empty L r space a h = tt
cells-entries (entry k v es) L r space a h = (h.0, h.1, h.2.0, h.2.1, cells-entries es L r space (suc (suc a)) h.2.2)

add-cells : (es : Entries) (k : Meaning.Key) (v : Meaning.Value) → join (join (entry_cells es) (cons (scalar (key_scalar k)) nil)) (cons v nil) ≡ entry_cells (add_entry es k v)
unfolding entry_cells add_entry join
add-cells empty k v = refl
add-cells (entry j w es) k v = ap (λ vs. cons (scalar (key_scalar j)) (cons w vs)) (add-cells es k v)

add-count : (es : Entries) (k : Meaning.Key) (v : Meaning.Value) → count_entries (add_entry es k v) ≡ count_entries es + 1
unfolding add_entry count_entries
add-count empty k v = refl
add-count (entry j w es) k v = ap suc (add-count es k v) ∙ shift (count_entries es)
  where
    shift : (n : ℕ) → suc (n + 1) ≡ suc n + 1
    shift n = omega arith

-- ---- the making of one entry, step by step

module _ (es : Entries) (rest : Entries → Making Entries) where
  -- an entry's rule, then the rest
  abbrev making : Rule Entries → Making Entries
  making ρ = after (having es ρ) (on_value rest)

  making-after : (ρ : Rule Meaning.Value) (g : Result Raised Meaning.Value → Rule Entries) → making (after ρ g) ≡ after ρ (λ y. making (g y))
  unfolding having
  making-after ρ g = unfold after charged in after-assoc ρ (λ y. having es (g y)) (on_value rest)

  making-error : (x : Raised) → making ([], error x) ≡ ([], error (es, x))
  unfolding having keeping after charged on_value
  making-error x = refl

  making-value : (fs : Entries) → making (pure fs) ≡ rest fs
  unfolding having keeping after charged on_value pure
  making-value fs = refl

  making-raised : {A : Type 0} (κ : A → Rule Entries) (x : Raised) → making (on_value κ (error x)) ≡ ([], error (es, x))
  unfolding having keeping after charged on_value
  making-raised κ x = refl

  making-bind : (ρ : Rule Meaning.Value) (κ : Meaning.Value → Rule Entries) → making (◌>>=◌ ρ κ) ≡ after ρ (λ y. making (on_value κ y))
  unfolding ◌>>=◌
  making-bind ρ κ = making-after ρ (on_value κ)

  making-fail : making (fail DuplicateKey) ≡ ([], error (es, by_rule DuplicateKey))
  unfolding having keeping after charged on_value fail
  making-fail = refl

  making-no-key : (κ : Meaning.Key → Rule Entries) → making (◌>>=◌ (or_fail UnsupportedKeyType None) κ) ≡ ([], error (es, by_rule UnsupportedKeyType))
  unfolding having keeping ◌>>=◌ after charged on_value or_fail fail
  making-no-key κ = refl

  making-key : (k : Meaning.Key) (κ : Meaning.Key → Rule Entries) → making (◌>>=◌ (or_fail UnsupportedKeyType (Some k)) κ) ≡ making (κ k)
  unfolding ◌>>=◌ after charged on_value or_fail pure
  making-key k κ = refl

  -- pairs first
  making-steps : (t : Tally (Option Meaning.Value)) (κ : Option Meaning.Value → Rule Entries) → making (◌>>=◌ (compared t) κ) ≡ (replicate t.0 step ++ (making (κ t.1)).0, (making (κ t.1)).1)
  unfolding having keeping ◌>>=◌ compared after on_value charged pure
  making-steps t κ = go (κ t.1)
    where
      go : (ρ : Rule Entries) → ◌≡◌ {A = Making Entries} (making ((replicate t.0 step ++ []) ++ ρ.0, ρ.1)) (replicate t.0 step ++ (making ρ).0, (making ρ).1)
      go ρ = λ i. ((ap (λ x. (x ++ ρ.0) ++ (on_value rest (keeping es ρ.1)).0) (append-nil (replicate t.0 step)) ∙ append_assoc (replicate t.0 step) ρ.0 (on_value rest (keeping es ρ.1)).0) i, (making ρ).1)

module _ (l : Counts) (src : List ℕ) (p : ℕ) where
  -- what is left of the pairs, z of them, refines the rest of their making
  abbrev pub MapFills : (Scope → (base m d : ℕ) → Used → Rooms → Res) → (Comprehension.Scope → Entries → Making Entries) → ℕ → Type 1
  MapFills F M z =
      (B L : Alive) (o : Counts) (n : ℕ) (es : Entries) (tr : Trace) (u : Counts) (r : Rooms) (s : Scope) (t : Comprehension.Scope) → Filling l src B L o n (entry_cells es) tr u r s t → count_entries es * 2 + z * 2 ≤ n
      → FillsTo l src p entry_cells map B o n tr u r (F s o.cells (count_entries es) (nesting_over es) (used_of u) r) (M t es)

  pub map-done : MapFills (λ s base m d u r. map_done base m d u r) (λ t es. pure es) 0
  unfolding nesting
  map-done B L o n es tr u r s t st i =
      fills-done l src p entry_cells map st es refl (nesting_over es) (λ k. Value.Map k (row Cells.Evaluation o.cells (count_entries es))) refl
      (λ deep. unfold Stands in ((Cells.Evaluation, o.cells, ap (λ k. Value.Map k (row Cells.Evaluation o.cells (count_entries es))) (add-one (nesting_over es)), frame-entries L (Live B o u) r r (agrees-sub L (Live B o u) r st.sub st.begun.below.bytes) es Cells.Evaluation o.cells (cells-entries es L r Cells.Evaluation o.cells st.filled)), small deep))
    where
      small : nesting (map es) ≤ deepest_value → Fits (Value.Map (nesting_over es + 1) (row Cells.Evaluation o.cells (count_entries es)))
      small deep = (omega arith, omega (arith, st.taken, st.begun.roomy.cells), omega (arith, st.taken, st.begun.roomy.cells, st.inside, cells_count es))

  module _ (F : Scope → (base m d : ℕ) → Used → Rooms → Res) (M : Comprehension.Scope → Entries → Making Entries) (z : ℕ) (ih : MapFills F M z) where
    -- ---- both cells are stored

    module _ {B L : Alive} {o : Counts} {n : ℕ} (es : Entries) {tr : Trace} {u : Counts} {r : Rooms} {s : Scope} {t : Comprehension.Scope} (st : Filling l src B L o n (entry_cells es) tr u r s t) (i : count_entries es * 2 + suc z * 2 ≤ n) (k : Meaning.Key) (key : Value) (hk : Holds (scalar (key_scalar k)) L r key) (v : Meaning.Value) (m : Value) (hv : Holds v L r m) where
      abbrev first : ℕ
      first = o.cells + count (entry_cells es)

      abbrev one : Values
      one = join (entry_cells es) (cons (scalar (key_scalar k)) nil)

      abbrev q : Rooms
      q = written r first key

      abbrev second : ℕ
      second = o.cells + count one

      abbrev w : Rooms
      w = written q second m

      free : count (entry_cells es) < n
      free = omega (arith, cells_count es)

      keyed : Filling l src B (Stored L first) o n one tr u q s t
      keyed = fill-store l src st key (scalar (key_scalar k)) hk.stands hk.fits free

      free-too : count one < n
      free-too = omega (arith, cells_count es, longer (entry_cells es) (scalar (key_scalar k)))

      held_then : Holds v (Stored L first) q m
      held_then = holds_frame L (Stored L first) r q (stored-agrees l src st key (scalar (key_scalar k)) hk.stands hk.fits free) v m hv

      valued : Filling l src B (Stored (Stored L first) second) o n (entry_cells (add_entry es k v)) tr u w s t
      valued = subst (λ rc. Filling l src B (Stored (Stored L first) second) o n rc tr u w s t) (add-cells es k v) (fill-store l src keyed m v held_then.stands held_then.fits free-too)

      at_first : first ≡ o.cells + count_entries es * 2
      at_first = ap (λ c. o.cells + c) (cells_count es)

      at_second : second ≡ o.cells + count_entries es * 2 + 1
      at_second = omega (arith, cells_count es, longer (entry_cells es) (scalar (key_scalar k)))

      abbrev next : Rooms → Res
      next x = F s o.cells (count_entries es + 1) (max (nesting_over es) (nesting_of m)) (used_of u) x

      abbrev To : Rooms → Res → Type 0
      To y x = FillsTo l src p entry_cells map B o n tr u y x (M t (add_entry es k v))

      stored_next : To w (next w)
      stored_next =
          subst (λ c. To w (F s o.cells c (max (nesting_over es) (nesting_of m)) (used_of u) w)) (add-count es k v)
          (subst (λ d. To w (F s o.cells (count_entries (add_entry es k v)) d (used_of u) w)) (add-nesting es k v ∙ ap (max (nesting_over es)) (sym (stands-nesting L r v m hv.stands)))
          (ih B (Stored (Stored L first) second) o n (add_entry es k v) tr u w s t valued (omega (arith, add-count es k v))))

      abbrev hi : Counts
      hi = counts_of (outcome (placed p (after (M t (add_entry es k v)) (closing l src p entry_cells map)).1) (spend l (after (M t (add_entry es k v)) (closing l src p entry_cells map)).0 u))

      fits-r : Roomy hi r
      fits-r = roomy-same hi w r (sym (written-length q.cells second m ∙ written-length r.cells first key)) refl stored_next.keeps.fits

      fits-q : Roomy hi q
      fits-q = roomy-same hi r q (written-length r.cells first key) refl fits-r

      grown : Upto u hi
      grown = from-grows l ((after (M t (add_entry es k v)) (closing l src p entry_cells map)).0, placed p (after (M t (add_entry es k v)) (closing l src p entry_cells map)).1) u

      -- seen from the rooms before the stores
      pub entry-stored : To r (next (written (written r (o.cells + count_entries es * 2) key) (o.cells + count_entries es * 2 + 1) m))
      entry-stored =
          subst (λ x. To r (next (written (written r x key) (o.cells + count_entries es * 2 + 1) m))) at_first
          (subst (λ x. To r (next (written q x m))) at_second
          (record { good = stored_next.good; keeps = keeps-both o hi r q _ (stored-keeps l src st key (scalar (key_scalar k)) hk.stands hk.fits free hi grown fits-r) (keeps-both o hi q w _ (stored-keeps l src keyed m v held_then.stands held_then.fits free-too hi grown fits-q) stored_next.keeps) }))

    -- ---- the duplicate test

    module _ {B L : Alive} {o : Counts} {n : ℕ} (es : Entries) {tr : Trace} {u : Counts} {r : Rooms} {s : Scope} {t : Comprehension.Scope} (st : Filling l src B L o n (entry_cells es) tr u r s t) (i : count_entries es * 2 + suc z * 2 ≤ n) (k : Meaning.Key) (key : Value) (hk : Holds (scalar (key_scalar k)) L r key) where
      abbrev rest : Entries → Making Entries
      rest fs = M t fs

      abbrev Comes : Counts → Res → Making Entries → Type 0
      Comes c x m = FillsTo l src p entry_cells map B o n tr c r x m

      abbrev adds : Option Value → Res
      adds x = Machine.add_entry l.steps p o.cells (count_entries es) (nesting_over es) key x (used_of u) r (λ m d y q. F s o.cells m d y q)

      module _ (v : Meaning.Value) (m : Value) (hv : Holds v L r m) where
        abbrev new : Found → Res
        new f = if_new f p (used_of u) r (λ y. F s o.cells (count_entries es + 1) (max (nesting_over es) (nesting_of m)) y (written (written r (o.cells + count_entries es * 2) key) (o.cells + count_entries es * 2 + 1) m))

        -- after the look-up, by what it found
        tested : (j : ℕ) (x : Option Meaning.Value) (f : ℕ → Found) → FoundIs L r Cells.Evaluation x f → Comes (walked u j) (new (f j)) (making es rest (add_new es k v x))
        unfolding add_new raised_error
        tested j None f h = subst (λ (g : ℕ → Found). Comes (walked u j) (new (g j)) (making es rest (pure (add_entry es k v)))) (sym h) (subst (λ y. Comes (walked u j) (new (Found.Missing j)) y) (sym (making-value es rest (add_entry es k v))) (entry-stored es (fill-walked l src st j) i k key hk v m hv))
        tested j (Some x) f h = subst (λ (g : ℕ → Found). Comes (walked u j) (new (g j)) (making es rest (fail DuplicateKey))) (sym h.1) (subst (λ y. Comes (walked u j) (new (Found.At h.0 j)) y) (sym (making-fail es rest)) (fills-error l src p entry_cells map (fill-walked l src st j) es refl (by_rule DuplicateKey)))

        found : Finds L r Cells.Evaluation l.steps u.steps (find (key_scalar k) es) (find_in l.steps r key Cells.Evaluation o.cells (count_entries es) u.steps)
        unfolding Stands
        found = find-ok L r l.steps (key_scalar k) key es Cells.Evaluation o.cells u.steps hk.stands (cells-entries es L r Cells.Evaluation o.cells st.filled)

        abbrev left : Making Entries
        left = making es rest (add_new es k v (find (key_scalar k) es).1)

        abbrev closed : Rule Meaning.Value
        closed = after left (closing l src p entry_cells map)

        abbrev steps : ℕ
        steps = (find (key_scalar k) es).0

        abbrev log : Trace
        log = cells (pad n (entry_cells (ready_in left.1))) ∷ tr

        tested-pays : Matches B o r (new (find_in l.steps r key Cells.Evaluation o.cells (count_entries es) u.steps)) (outcome (placed p closed.1) (spend l (replicate steps step ++ closed.0) u)) (log ++ (replicate steps step ++ closed.0))
        tested-pays =
            subst (λ f. Matches B o r (new f) (outcome (placed p closed.1) (spend l (replicate steps step ++ closed.0) u)) (log ++ (replicate steps step ++ closed.0))) (sym (found.2 ∙ found_in l.steps u.steps steps found.0))
            (steps_then l (λ j. Found.Out j) new B o u r p (λ j. refl) (λ j. keeps_same o (walked u j) r (record { cells = (since l src st).cells; bytes = (since l src st).bytes }) (record { cells = st.begun.roomy.cells; bytes = st.begun.roomy.bytes })) log found.0 closed steps u.steps (tested (u.steps + steps) (find (key_scalar k) es).1 found.0 found.1))

        new_ok : Comes u (adds (Some m)) (making es rest (◌>>=◌ (compared (find (key_scalar k) es)) (add_new es k v)))
        new_ok =
            subst (λ y. Comes u (adds (Some m)) y) (sym (making-steps es rest (find (key_scalar k) es) (add_new es k v)))
            (subst (λ (y : Rule Meaning.Value). Matches B o r (adds (Some m)) (outcome (placed p y.1) (spend l y.0 u)) (log ++ y.0)) (sym (steps-closed (replicate steps step) left)) tested-pays)
          where
            steps-closed : (T : Trace) (y : Making Entries) → ◌≡◌ {A = Rule Meaning.Value} (after (T ++ y.0, y.1) (closing l src p entry_cells map)) (T ++ (after y (closing l src p entry_cells map)).0, (after y (closing l src p entry_cells map)).1)
            steps-closed T y = unfold after charged in λ j. (append_assoc T y.0 (closing l src p entry_cells map y.1).0 j, (closing l src p entry_cells map y.1).1)

      -- what an entry adds, in the rooms and in the definition
      abbrev Inserted : Option Meaning.Value → Option Value → Type 0
      Inserted None y = y ≡ None
      Inserted (Some v) y = (m : Value) × (y ≡ Some m) × Holds v L r m

      insert-ok : (x : Option Meaning.Value) (y : Option Value) → Inserted x y → Comes u (adds y) (making es rest (insert es k x))
      unfolding insert
      insert-ok None y h = subst (λ a. Comes u (adds a) (making es rest (pure es))) (sym h) (subst (λ a. Comes u (adds None) a) (sym (making-value es rest es)) (ih B L o n es tr u r s t st (omega arith)))
      insert-ok (Some v) y h = subst (λ a. Comes u (adds a) (making es rest (◌>>=◌ (compared (find (key_scalar k) es)) (add_new es k v)))) (sym h.1) (new_ok v h.0 h.2)

      unmarked-view : (m : Value) (x : Unwrapped) → UnwrapView l src L r x m → Inserted (unmarked x) (unmarked_in r m (optional_in m))
      unfolding unmarked
      unmarked-view m (NotOptional v) h = (m, ap (unmarked_in r m) h.0, h.1)
      unmarked-view m (PresentOptional v) h = (cell_at r h.0 h.1, ap (unmarked_in r m) h.2, h.3)
      unmarked-view m NoneOptional h = ap (λ y. unmarked_in r y (optional_in y)) h

      kept-view : (marked : Bool) (m : Value) (v : Meaning.Value) → Holds v L r m → Inserted (kept marked v) (part_in r marked m)
      unfolding kept
      kept-view true m v h = unmarked-view m (unwrap_optional v) (unwrap-view l src st.begun v m h)
      kept-view false m v h = (m, refl, h)

      pub value-ok : (marked : Bool) (m : Value) (v : Meaning.Value) → Holds v L r m → Comes u (adds (part_in r marked m)) (making es rest (insert es k (kept marked v)))
      value-ok marked m v h = insert-ok (kept marked v) (part_in r marked m) (kept-view marked m v h)

    -- ---- a pair

    module _ (marked : Bool) (key_does value_does : Does) (f g : Comprehension.Scope → Eval Meaning.Value) (hf : Refines l src key_does f) (hg : Refines l src value_does g) where
      -- after the key
      abbrev value_rule : Comprehension.Scope → Entries → Meaning.Key → Rule Entries
      value_rule t es k = ◌>>=◌ (operand (g t)) (λ w. insert es k (kept marked w))

      abbrev key_rule : Comprehension.Scope → Entries → Meaning.Value → Rule Entries
      key_rule t es v = ◌>>=◌ (or_fail UnsupportedKeyType (key_of v)) (λ k. value_rule t es k)

      module _ {B L : Alive} {o : Counts} {n : ℕ} (es : Entries) {tr : Trace} {u : Counts} {r : Rooms} {s : Scope} {t : Comprehension.Scope} (st : Filling l src B L o n (entry_cells es) tr u r s t) (i : count_entries es * 2 + suc z * 2 ≤ n) where
        abbrev ends : Value → Res → Res
        ends key x = with_value x.0 x.1 (λ v y q. Machine.add_entry l.steps p o.cells (count_entries es) (nesting_over es) key (part_in q marked v) y q (λ m d y' q'. F s o.cells m d y' q'))

        after-key : (key : Value) (o' : Option Meaning.Key) → KeyView L r o' key → Fits key → FillsTo l src p entry_cells map B o n tr u r (if_key (is_key key) p (used_of u) r (λ y q. ends key (value_does s y q))) (making es (λ fs. M t fs) (◌>>=◌ (or_fail UnsupportedKeyType o') (λ k. value_rule t es k)))
        unfolding raised_error
        after-key key None h x = rw h (subst (λ y. FillsTo l src p entry_cells map B o n tr u r (Outcome.Error Error.UnsupportedKeyType p (used_of u), r) y) (sym (making-no-key es (λ fs. M t fs) (λ k. value_rule t es k))) (fills-error l src p entry_cells map st es refl (by_rule UnsupportedKeyType)))
        after-key key (Some k) h x =
            rw h.0
            (subst (λ y. FillsTo l src p entry_cells map B o n tr u r (ends key (value_does s (used_of u) r)) y) (sym (making-key es (λ fs. M t fs) k (λ j. value_rule t es j) ∙ making-bind es (λ fs. M t fs) (operand (g t)) (λ j. insert es k (kept marked j))))
            (fills-then l src p entry_cells map st value_does g hg (ends key) (λ y. making es (λ fs. M t fs) (on_value (λ j. insert es k (kept marked j)) y))
            (λ N c q e st' j m v hv. unfold on_value in value-ok es st' i k key (record { stands = unfold Stands in scalar-frame L N r q j (key_scalar k) key h.1; fits = x; nests = unfold nesting in omega arith }) marked m v hv)
            (λ N c q e st' y. subst (λ a. FillsTo l src p entry_cells map B o n (tr ++ e) c q (Outcome.Error (error_of (raised_error y)) (raised_place p y) (used_of c), q) a) (sym (making-raised es (λ fs. M t fs) (λ j. insert es k (kept marked j)) y)) (fills-error l src p entry_cells map st' es refl y))
            (λ y c q. refl)))

      pub map_more : MapFills (λ s base m d u r. Machine.entry l.steps p marked key_does value_does s base m d u r (λ m' d' y q. F s base m' d' y q)) (λ t es. pair_rule marked (f t) (g t) (λ fs. M t fs) es) (suc z)
      unfolding pair_rule entry_rule ◌>>=◌ on_value
      map_more B L o n es tr u r s t st i =
          subst (λ y. FillsTo l src p entry_cells map B o n tr u r (Machine.entry l.steps p marked key_does value_does s o.cells (count_entries es) (nesting_over es) (used_of u) r (λ m' d' y' q. F s o.cells m' d' y' q)) y) (sym (making-bind es (λ fs. M t fs) (operand (f t)) (λ v. key_rule t es v)))
          (fills-then l src p entry_cells map st key_does f hf
          (λ x. with_value x.0 x.1 (λ key y q. if_key (is_key key) p y q (λ y' q'. with_value (value_does s y' q').0 (value_does s y' q').1 (λ v c d. Machine.add_entry l.steps p o.cells (count_entries es) (nesting_over es) key (part_in d marked v) c d (λ m e c' d'. F s o.cells m e c' d')))))
          (λ y. making es (λ fs. M t fs) (on_value (λ v. key_rule t es v) y))
          (λ N c q e st' j m v h. after-key es st' i m (key_of v) (key-view N q v m h.stands) h.fits)
          (λ N c q e st' x. subst (λ y. FillsTo l src p entry_cells map B o n (tr ++ e) c q (Outcome.Error (error_of (raised_error x)) (raised_place p x) (used_of c), q) y) (sym (making-raised es (λ fs. M t fs) (λ v. key_rule t es v) x)) (fills-error l src p entry_cells map st' es refl x))
          (λ x y q. refl))

  -- ---- the record

  pub map-rule : (n : ℕ) (m : Making Entries) → ◌≡◌ {A = Rule Meaning.Value} (into map (map_rule n m)) (charged (cells (pad (cells_an_entry * n) (entry_cells (ready_in m.1))) ∷ []) (after m (closing l src p entry_cells map)))
  unfolding into map_rule ◌>>=◌ after charged on_value finished pure
  map-rule n m = go m.0 m.1
    where
      C : Charge
      C = cells (pad (cells_an_entry * n) (entry_cells (ready_in m.1)))

      go : (x : Trace) (y : Result (Entries × Raised) Entries) → ◌≡◌ {A = Rule Meaning.Value} (◌>>=◌ (charged (C ∷ []) (after (x, y) (finished map))) (λ a. pure (map a))) (charged (C ∷ []) (after (x, y) (closing l src p entry_cells map)))
      go x (value a) = ap (λ z. (C ∷ z, value (map a))) (append-nil (x ++ (nest (nesting (map a)) ∷ [])))
      go x (error e) = ap (λ z. (C ∷ z, error e.1)) (append-nil (x ++ []))

  pub map-says : (F : Scope → (base m d : ℕ) → Used → Rooms → Res) (M : Comprehension.Scope → Entries → Making Entries) (n : ℕ) → MapFills F M n → {L : Alive} {u : Counts} {r : Rooms} {s : Scope} {t : Comprehension.Scope} → Start l src L u r s t → Says l src p L u r (taking (cells_an_entry * n) (used_of u) r (λ w q. F s u.cells 0 0 w q)) (into map (map_rule n (M t empty)))
  map-says F M n ih {L} {u} {r} {s} {t} a =
      subst (λ ρ. Says l src p L u r (taking c (used_of u) r (λ w q. F s u.cells 0 0 w q)) ρ) (sym (map-rule n (M t empty)))
      (takes l src a p c (pad c (entry_cells (ready_in (M t empty).1))) (sym (pad-count c _)) (λ w q. F s u.cells 0 0 w q) (after (M t empty) (closing l src p entry_cells map)) (λ f. begin-ok f))
    where
      c : ℕ
      c = cells_an_entry * n

      ρ : Rule Meaning.Value
      ρ = after (M t empty) (closing l src p entry_cells map)

      begin-ok : (f : Roomy (took u c) r) → Matches L u r (F s u.cells 0 0 (used_of (took u c)) (taken u c r f)) (outcome (placed p ρ.1) (spend l ρ.0 (took u c))) (cells (pad c (entry_cells (ready_in (M t empty).1))) ∷ ρ.0)
      begin-ok f =
          let q : Rooms = taken u c r f in
          let k : Keeps u (took u c) r q = taken-keeps u c r f in
          let first : FillsTo l src p entry_cells map L u c [] (took u c) q (F s u.cells (count_entries empty) (nesting_over empty) (used_of (took u c)) q) (M t empty) = ih L L u c empty [] (took u c) q s t (unfold entry_cells in empty-filling l src a c f) (unfold count_entries in omega arith) in
          let first' : Matches L u q (F s u.cells 0 0 (used_of (took u c)) q) (outcome (placed p ρ.1) (spend l ρ.0 (took u c))) (cells (pad c (entry_cells (ready_in (M t empty).1))) ∷ ρ.0) = unfold count_entries nesting_over in first in
          let hi : Counts = counts_of (outcome (placed p ρ.1) (spend l ρ.0 (took u c))) in
          record { good = first'.good; keeps = keeps-both u hi r q _ (keeps-higher u (took u c) hi r q (from-grows l (ρ.0, placed p ρ.1) (took u c)) (keeps-back u (took u c) r q k hi first'.keeps.fits) k) first'.keeps }
