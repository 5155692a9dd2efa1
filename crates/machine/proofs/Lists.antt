-- A List record refines its rule. Rests on Makings. Assumes nothing.
use Prim.Native.Nat.{ℕ, suc, ◌+◌, ◌≤◌, ◌<◌, max}
use mathlib.Core.Path.{◌≡◌, refl, sym, ap, ◌∙◌, subst}
use mathlib.Core.List.{List, [], ◌∷◌, ◌++◌, append-nil}
use Rattle.std.specs.Prelude.{Option, None, Some}
use mathlib.Core.Bool.{Bool, true, false}
use native.Mathlib.Omega.{arith}
use native.Mathlib.Numerals.{add-one}
use Rattle.meaning.specs.Limits.{Counts, deepest_value}
use Rattle.meaning.specs.Value as Meaning
use Rattle.meaning.specs.Value.{Values, nil, cons, list, nesting, nesting_in, count, join}
use Rattle.meaning.specs.Run.{Charge, cells, nest, Trace, Result, value, error, Raised, Eval, Rule, pure, charged, after, on_value, ◌>>=◌, placed}
use Rattle.meaning.specs.Containers.{Making, keeping, having, ready_in, unmarked, kept, append, element_rule, pad, finished, list_rule, into}
use Rattle.meaning.specs.Optionals.{Unwrapped, NotOptional, PresentOptional, NoneOptional, unwrap_optional}
use Rattle.meaning.specs.Comprehension as Comprehension
use Rattle.meaning.specs.Limited.{spend, outcome}
use Rattle.rooms.specs.declared.value.Value.{Value}
use Rattle.rooms.specs.declared.value.CellSpace.TheVariants as Cells
use Rattle.rooms.specs.declared.scope.Scope.{Scope}
use Rattle.rooms.specs.Value.{nesting_of}
use Rattle.rooms.specs.Rooms.{Rooms, cell_at}
use Rattle.rooms.specs.Stands.{Alive, Stands, Holds}
use Rattle.meaning_laws.proofs.Fine.{pad-count, join-count}
use Rattle.rooms.proofs.Frame.{frame-cells}
use Rattle.rooms.proofs.CellLaws.{written-length}
use Rattle.machine.specs.declared.outcome.Used.{Used}
use Rattle.machine.specs.Outcomes.{Res, Does, written, with_value, taking}
use Rattle.machine.specs.Views.{part_in, unmarked_in, optional_in}
use Rattle.machine.specs.Containers.{add_element, element, list_done}
use Rattle.meaning_laws.specs.Charges.{counts_of}
use Rattle.machine.specs.Refines.{used_of, Live, Roomy, Keeps, Matches, Start, Refines}
use Rattle.machine.proofs.Keeping.{keeps-both, keeps-higher, keeps-back, agrees-sub, roomy-same}
use Rattle.machine.proofs.Taking.{took, taken, taken-keeps}
use Rattle.machine.proofs.Traces.{nesting-join, from-grows}
use Rattle.machine.proofs.Match.{Says}
use Rattle.machine.proofs.Charges.{takes}
use Rattle.machine.proofs.Selecting.{UnwrapView, unwrap-view}
use Rattle.machine.proofs.Filling.{Filling, stored-keeps, fill-store, Stored, empty-filling}
use Rattle.machine.proofs.Makings.{closing, FillsTo, fills-error, fills-done, fills-then}
use Rattle.rooms.specs.Cells.{Fits}
use Rattle.rooms.proofs.Depths.{stands-nesting}
use Rattle.rooms.specs.Spans.{row}

-- one element more
pub longer : (vs : Values) (v : Meaning.Value) → count (join vs (cons v nil)) ≡ count vs + 1
longer vs v = join-count vs (cons v nil) ∙ unfold count in refl

pub deeper : (vs : Values) (v : Meaning.Value) → nesting_in (join vs (cons v nil)) ≡ max (nesting_in vs) (nesting v)
deeper vs v = nesting-join vs (cons v nil) ∙ unfold nesting_in in ap (max (nesting_in vs)) (alone (nesting v))
  where
    alone : (a : ℕ) → max a 0 ≡ a
    alone a = omega arith

-- cells are their own shape
abbrev pub itself : Values → Values
itself vs = vs

module _ (l : Counts) (src : List ℕ) (p : ℕ) where
  -- what is left of the elements, z of them, refines the rest of their making
  abbrev pub ListFills : (Scope → (base m d : ℕ) → Used → Rooms → Res) → (Comprehension.Scope → Values → Making Values) → ℕ → Type 1
  ListFills F M z =
      (B L : Alive) (o : Counts) (n : ℕ) (dn : Values) (tr : Trace) (u : Counts) (r : Rooms) (s : Scope) (t : Comprehension.Scope) → Filling l src B L o n dn tr u r s t → count dn + z ≤ n
      → FillsTo l src p itself list B o n tr u r (F s o.cells (count dn) (nesting_in dn) (used_of u) r) (M t dn)

  pub list_done_lem : ListFills (λ s base m d u r. list_done base m d u r) (λ t vs. pure vs) 0
  unfolding nesting
  list_done_lem B L o n dn tr u r s t st i =
      fills-done l src p itself list st dn refl (nesting_in dn) (λ k. Value.List k (row Cells.Evaluation o.cells (count dn))) (unfold nesting in refl)
      (λ deep. unfold Stands nesting in ((Cells.Evaluation, o.cells, ap (λ k. Value.List k (row Cells.Evaluation o.cells (count dn))) (add-one (nesting_in dn)), frame-cells L (Live B o u) r r (agrees-sub L (Live B o u) r st.sub st.begun.below.bytes) dn Cells.Evaluation o.cells st.filled), small deep))
    where
      small : nesting (list dn) ≤ deepest_value → Fits (Value.List (nesting_in dn + 1) (row Cells.Evaluation o.cells (count dn)))
      small deep = (omega arith, omega (arith, st.taken, st.begun.roomy.cells), omega (arith, st.inside, st.taken, st.begun.roomy.cells))

  module _ (F : Scope → (base m d : ℕ) → Used → Rooms → Res) (M : Comprehension.Scope → Values → Making Values) (z : ℕ) (ih : ListFills F M z) where
    module _ {B L : Alive} {o : Counts} {n : ℕ} {dn : Values} {tr : Trace} {u : Counts} {r : Rooms} {s : Scope} {t : Comprehension.Scope} (st : Filling l src B L o n dn tr u r s t) (i : count dn + suc z ≤ n) where
      abbrev added : Option Value → Res
      added x = add_element o.cells (count dn) (nesting_in dn) x (used_of u) r (λ m d w q. F s o.cells m d w q)

      -- a value is stored
      store_ok : (m : Value) (v : Meaning.Value) → Holds v L r m → FillsTo l src p itself list B o n tr u r (added (Some m)) (M t (join dn (cons v nil)))
      store_ok m v h =
          let free : count dn < n = omega arith in
          let q : Rooms = written r (o.cells + count dn) m in
          let next : FillsTo l src p itself list B o n tr u q (F s o.cells (count (join dn (cons v nil))) (nesting_in (join dn (cons v nil))) (used_of u) q) (M t (join dn (cons v nil))) =
          ih B (Stored L (o.cells + count dn)) o n (join dn (cons v nil)) tr u q s t (fill-store l src st m v h.stands h.fits free) (omega (arith, longer dn v)) in
          let said : FillsTo l src p itself list B o n tr u q (F s o.cells (count dn + 1) (max (nesting_in dn) (nesting_of m)) (used_of u) q) (M t (join dn (cons v nil))) =
          subst (λ k. FillsTo l src p itself list B o n tr u q (F s o.cells k (max (nesting_in dn) (nesting_of m)) (used_of u) q) (M t (join dn (cons v nil)))) (longer dn v)
          (subst (λ k. FillsTo l src p itself list B o n tr u q (F s o.cells (count (join dn (cons v nil))) k (used_of u) q) (M t (join dn (cons v nil)))) (deeper dn v ∙ ap (max (nesting_in dn)) (sym (stands-nesting L r v m h.stands))) next) in
          let hi : Counts = counts_of (outcome (placed p (after (M t (join dn (cons v nil))) (closing l src p itself list)).1) (spend l (after (M t (join dn (cons v nil))) (closing l src p itself list)).0 u)) in
          record {
            good = said.good;
            keeps = keeps-both o hi r q _ (stored-keeps l src st m v h.stands h.fits free hi (from-grows l _ u) (roomy-same hi q r (sym (written-length r.cells (o.cells + count dn) m)) refl said.keeps.fits)) said.keeps;
          }

      -- nothing is
      skip-ok : FillsTo l src p itself list B o n tr u r (added None) (M t dn)
      skip-ok = ih B L o n dn tr u r s t st (omega arith)

      -- by the mark
      unmarked-ok : (m : Value) (x : Unwrapped) → UnwrapView l src L r x m → FillsTo l src p itself list B o n tr u r (added (unmarked_in r m (optional_in m))) (M t (append dn (unmarked x)))
      unfolding unmarked append
      unmarked-ok m (NotOptional v) h = subst (λ y. FillsTo l src p itself list B o n tr u r (added (unmarked_in r m y)) (M t (join dn (cons v nil)))) (sym h.0) (store_ok m v h.1)
      unmarked-ok m (PresentOptional v) h = subst (λ y. FillsTo l src p itself list B o n tr u r (added (unmarked_in r m y)) (M t (join dn (cons v nil)))) (sym h.2) (store_ok (cell_at r h.0 h.1) v h.3)
      unmarked-ok m NoneOptional h = subst (λ y. FillsTo l src p itself list B o n tr u r (added (unmarked_in r y (optional_in y))) (M t dn)) (sym h) skip-ok

      part-ok : (marked : Bool) (m : Value) (v : Meaning.Value) → Holds v L r m → FillsTo l src p itself list B o n tr u r (added (part_in r marked m)) (M t (append dn (kept marked v)))
      unfolding kept append
      part-ok true m v h = unmarked-ok m (unwrap_optional v) (unwrap-view l src st.begun v m h)
      part-ok false m v h = store_ok m v h

    pub list-more : (marked : Bool) (does : Does) (f : Comprehension.Scope → Eval Meaning.Value) → Refines l src does f → ListFills (λ s base m d u r. element marked does s base m d u r (λ m' d' w q. F s base m' d' w q)) (λ t vs. element_rule marked (f t) (λ ws. M t ws) vs) (suc z)
    unfolding element_rule having keeping ◌>>=◌ on_value after
    list-more marked does f h B L o n dn tr u r s t st i =
        fills-then l src p itself list st does f h (λ x. with_value x.0 x.1 (λ v w q. add_element o.cells (count dn) (nesting_in dn) (part_in q marked v) w q (λ m d w' q'. F s o.cells m d w' q'))) (λ y. on_value (λ v. M t (append dn (kept marked v))) (keeping dn y))
        (λ N c q e st' j m v k. part-ok st' i marked m v k)
        (λ N c q e st' x. fills-error l src p itself list st' dn refl x)
        (λ x w q. refl)

  -- ---- the record

  -- as the rule of one value
  pub list-rule : (n : ℕ) (making : Making Values) → ◌≡◌ {A = Rule Meaning.Value} (into list (list_rule n making)) (charged (cells (pad n (ready_in making.1)) ∷ []) (after making (closing l src p itself list)))
  unfolding into list_rule ◌>>=◌ after charged on_value finished pure
  list-rule n making = go making.0 making.1
    where
      C : Charge
      C = cells (pad n (ready_in making.1))

      go : (x : Trace) (y : Result (Values × Raised) Values) → ◌≡◌ {A = Rule Meaning.Value} (◌>>=◌ (charged (C ∷ []) (after (x, y) (finished list))) (λ a. pure (list a))) (charged (C ∷ []) (after (x, y) (closing l src p itself list)))
      go x (value a) = ap (λ z. (C ∷ z, value (list a))) (append-nil (x ++ (nest (nesting (list a)) ∷ [])))
      go x (error e) = ap (λ z. (C ∷ z, error e.1)) (append-nil (x ++ []))

  pub list-says : (F : Scope → (base m d : ℕ) → Used → Rooms → Res) (M : Comprehension.Scope → Values → Making Values) (n : ℕ) → ListFills F M n → {L : Alive} {u : Counts} {r : Rooms} {s : Scope} {t : Comprehension.Scope} → Start l src L u r s t → Says l src p L u r (taking n (used_of u) r (λ w q. F s u.cells 0 0 w q)) (into list (list_rule n (M t nil)))
  list-says F M n ih {L} {u} {r} {s} {t} a =
      subst (λ ρ. Says l src p L u r (taking n (used_of u) r (λ w q. F s u.cells 0 0 w q)) ρ) (sym (list-rule n (M t nil)))
      (takes l src a p n (pad n (ready_in (M t nil).1)) (sym (pad-count n _)) (λ w q. F s u.cells 0 0 w q) (after (M t nil) (closing l src p itself list)) (λ f. begin-ok f))
    where
      ρ : Rule Meaning.Value
      ρ = after (M t nil) (closing l src p itself list)

      begin-ok : (f : Roomy (took u n) r) → Matches L u r (F s u.cells 0 0 (used_of (took u n)) (taken u n r f)) (outcome (placed p ρ.1) (spend l ρ.0 (took u n))) (cells (pad n (ready_in (M t nil).1)) ∷ ρ.0)
      begin-ok f =
          let q : Rooms = taken u n r f in
          let k : Keeps u (took u n) r q = taken-keeps u n r f in
          let first : FillsTo l src p itself list L u n [] (took u n) q (F s u.cells (count nil) (nesting_in nil) (used_of (took u n)) q) (M t nil) = ih L L u n nil [] (took u n) q s t (empty-filling l src a n f) (unfold count in omega arith) in
          let first' : Matches L u q (F s u.cells 0 0 (used_of (took u n)) q) (outcome (placed p ρ.1) (spend l ρ.0 (took u n))) (cells (pad n (ready_in (M t nil).1)) ∷ ρ.0) = unfold count nesting_in in first in
          let hi : Counts = counts_of (outcome (placed p ρ.1) (spend l ρ.0 (took u n))) in
          record { good = first'.good; keeps = keeps-both u hi r q _ (keeps-higher u (took u n) hi r q (from-grows l (ρ.0, placed p ρ.1) (took u n)) (keeps-back u (took u n) r q k hi first'.keeps.fits) k) first'.keeps }
