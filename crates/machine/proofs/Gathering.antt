-- The append path of a comprehension refines its rule. Rests on Runs and Building. Assumes nothing.
use Prim.Native.Nat.{ℕ, suc, ◌+◌, ◌*◌, ◌≤◌, ◌<◌, max}
use mathlib.Core.Path.{◌≡◌, refl, sym, ap, ◌∙◌, subst}
use mathlib.Core.List.{List, [], ◌∷◌, ◌++◌}
use mathlib.Core.Bool.{Bool, true, false}
use native.Mathlib.Omega.{arith}
use lib.Dec.{eqb}
use lib.ListN.{length, set, length-append, length-set, length-replicate}
use borrow.Author.Tests.{eqb-true, eqb-false}
use Rattle.meaning.specs.Limits.{Counts, deepest_value}
use Rattle.meaning.specs.Value as Meaning
use Rattle.meaning.specs.Value.{Values, nil, cons, scalar, list, map, optional_none, optional_of, nesting, nesting_in, count, join}
use Rattle.meaning.specs.Run.{cells, nest, Result, value, error, Eval, Rule, pure, charged, on_value, ◌>>=◌, from_operand, operand, placed, built}
use Rattle.meaning.specs.Comprehension.{Scope}
use Rattle.meaning.specs.Limited.{spend, outcome, cells_built, text_built}
use Rattle.rooms.specs.declared.value.Value.{Value}
use Rattle.rooms.specs.declared.value.CellSpace.{CellSpace}
use Rattle.rooms.specs.declared.value.CellSpace.TheVariants as Cells
use Rattle.rooms.specs.declared.scope.Scope as Code
use Rattle.rooms.specs.Value.{parts_of}
use Rattle.rooms.specs.Rooms.{Rooms}
use Rattle.rooms.specs.Stands.{Alive, Stands, StandsCells, Holds, Agrees}
use Rattle.meaning_laws.proofs.Fine.{join-count}
use Rattle.rooms.proofs.Frame.{frame-cells}
use Rattle.machine.specs.declared.outcome.Used.{Used}
use Rattle.machine.specs.declared.outcome.Outcome.TheVariants as Outcome
use Rattle.machine.specs.Outcomes.{Res, Does, with_value}
use Rattle.machine.specs.Comprehension as Machine
use Rattle.machine.specs.Comprehension.{Gathered, nothing_gathered, add_run, gather_parts, gathered, most_runs}
use Rattle.machine.specs.Refines.{used_of, Live, Roomy, Keeps, Logged, Matches, Start, Refines}
use Rattle.machine.proofs.Keeping.{keeps-both, keeps-agrees, agrees-narrow, roomy-same}
use Rattle.machine.proofs.Taking.{took, taken, taken-keeps, copied_to, copy-keeps, copy-stands}
use Rattle.machine.proofs.Traces.{join-nil, nesting-join}
use Rattle.machine.proofs.Match.{Says, weaken, move, raises, then-built}
use Rattle.machine.proofs.Charges.{takes}
use Rattle.machine.proofs.Operands.{operand-says}
use Rattle.machine.proofs.Building.{list-end}
use Rattle.machine.proofs.Runs.{flat, flat-snoc, RunsAt, runs-frame, runs-snoc, runs_to, RunsDone, runs_done}
use Rattle.rooms.specs.Spans.{row}

-- what was gathered so far
pub record Gathers (g : Gathered) (out : Values) (L : Alive) (u : Counts) (r : Rooms) : Type 0 where
  pub lists : List Values
  pub joined : flat lists ≡ out
  pub runs : g.runs ≡ length lists
  pub total : g.count ≡ count out
  pub deep : g.nesting ≡ suc (nesting_in out)
  pub shallow : g.nesting ≤ deepest_value
  pub stands : RunsAt g.firsts g.counts lists 0 L r
  pub firsts_long : length g.firsts ≡ most_runs
  pub counts_long : length g.counts ≡ most_runs
  -- a turn that gathers takes two cells or more
  pub few : g.runs * 2 ≤ u.cells

pub gathers-frame : (g : Gathered) (out : Values) (L M : Alive) (u c : Counts) (r q : Rooms) → Agrees L M r q → u.cells ≤ c.cells → Gathers g out L u r → Gathers g out M c q
gathers-frame g out L M u c r q a i h =
    record { lists = h.lists; joined = h.joined; runs = h.runs; total = h.total; deep = h.deep; shallow = h.shallow; stands = runs-frame g.firsts g.counts L M r q a h.lists 0 h.stands; firsts_long = h.firsts_long; counts_long = h.counts_long; few = omega (arith, h.few) }

pub gathers-nothing : (L : Alive) (u : Counts) (r : Rooms) → Gathers nothing_gathered nil L u r
unfolding count nesting_in
gathers-nothing L u r = record { lists = []; joined = refl; runs = refl; total = refl; deep = refl; shallow = omega arith; stands = tt; firsts_long = length-replicate {A = ℕ} most_runs 0; counts_long = length-replicate {A = ℕ} most_runs 0; few = omega arith }

-- the elements of a list
abbrev pub elements_in : Meaning.Value → Values
elements_in (scalar x) = nil
elements_in (list vs) = vs
elements_in (map es) = nil
elements_in optional_none = nil
elements_in (optional_of v) = nil

no-elements : (vs : Values) → count vs ≡ 0 → vs ≡ nil
unfolding count
no-elements nil e = refl
no-elements (cons v vs) e = absurd (omega arith)

module _ (l : Counts) (src : List ℕ) where
  -- what a List record's items mean, and what the record does
  pub record ItemsOk (m : Does) (f : Scope → Eval Values) : Type 1 where
    pub listed : Scope → Eval Meaning.Value
    pub refines : Refines l src m listed
    pub same : (t : Scope) (k : Values → Rule Meaning.Value) → ◌>>=◌ (operand (f t)) k ≡ ◌>>=◌ (operand (listed t)) (λ v. k (elements_in v))
    pub lists : (t : Scope) (v : Meaning.Value) → (listed t).1 ≡ value v → (vs : Values) × (v ≡ list vs) × (count vs ≤ count (cells_built (listed t).0))

  from-value : (y : Result _ Meaning.Value) (v : Meaning.Value) → from_operand y ≡ value v → y ≡ value v
  unfolding from_operand
  from-value (value w) v e = cc
  from-value (error x) v e = cc

  pub items-then : {L : Alive} {u : Counts} {r : Rooms} {s : Code.Scope} {t : Scope} → Start l src L u r s t → (p : ℕ) (m : Does) (f : Scope → Eval Values) → ItemsOk m f → (K : Value → Used → Rooms → Res) (k : Values → Rule Meaning.Value)
      → ((M : Alive) (c : Counts) (q : Rooms) → Start l src M c q s t → Agrees L M r q → (y : Value) (vs : Values) → Holds (list vs) M q y → u.cells + count vs ≤ c.cells → Says l src p M c q (K y (used_of c) q) (k vs))
      → Says l src p L u r (with_value (m s (used_of u) r).0 (m s (used_of u) r).1 K) (◌>>=◌ (operand (f t)) k)
  unfolding ◌>>=◌ on_value operand
  items-then {L} {u} {r} {s} {t} st p m f h K k g =
      subst (λ ρ. Says l src p L u r (with_value (m s (used_of u) r).0 (m s (used_of u) r).1 K) ρ) (sym (h.same t k))
      (then-built l src st p (operand (h.listed t)) (m s (used_of u) r) (operand-says l src p L u r (m s (used_of u) r) (h.listed t) (h.refines L s t u r st)) (λ x. with_value x.0 x.1 K) (on_value (λ v. k (elements_in v)))
      (λ M c q b j y v i e n. on_list M c q b j y v i (h.lists t v (from-value (h.listed t).1 v e)) n)
      (λ M c q b j e. raises l src b p e)
      (λ x z q. refl))
    where
      on_list : (M : Alive) (c : Counts) (q : Rooms) → Start l src M c q s t → Agrees L M r q → (y : Value) (v : Meaning.Value) → Holds v M q y → (vs : Values) × (v ≡ list vs) × (count vs ≤ count (cells_built (h.listed t).0)) → u.cells + count (cells_built (h.listed t).0) ≡ c.cells → Says l src p M c q (K y (used_of c) q) (k (elements_in v))
      on_list M c q b j y v i (vs, e, d) n = subst (λ w. Says l src p M c q (K y (used_of c) q) (k (elements_in w))) (sym e) (g M c q b j y vs (subst (λ w. Holds w M q y) e i) (omega arith))

  -- ---- the end: the list of all that was gathered

  pub gathered-says : {L : Alive} {u : Counts} {r : Rooms} {s : Code.Scope} {t : Scope} → Start l src L u r s t → (p : ℕ) (g : Gathered) (out : Values) → Gathers g out L u r → Says l src p L u r (gathered g (used_of u) r) (built out (list out))
  unfolding built charged pure
  gathered-says {L} {u} {r} {s} {t} st p g out h =
      takes l src st p g.count out h.total (λ w q. (Outcome.Value (Value.List g.nesting (row Cells.Evaluation u.cells g.count)) w, runs_to q g.firsts g.counts g.runs 0 u.cells)) (nest (nesting (list out)) ∷ [], value (list out))
      (λ f. list-end l src st p g.count g.nesting out (runs_to (taken u g.count r f) g.firsts g.counts g.runs 0 u.cells) h.total h.deep h.shallow f (kept f) (there f))
    where
      top : Counts
      top = took u g.count

      z : Roomy top r → Rooms
      z f = taken u g.count r f

      kept-z : (f : Roomy top r) → Keeps u top r (z f)
      kept-z f = taken-keeps u g.count r f

      same : count (flat h.lists) ≡ g.count
      same = ap count h.joined ∙ sym h.total

      done : (f : Roomy top r) → RunsDone h.lists L u (z f) (runs_to (z f) g.firsts g.counts (length h.lists) 0 u.cells)
      done f =
          runs_done g.firsts g.counts h.lists 0 L u (z f) st.below ((kept-z f).fitting st.fitting) (roomy-same (took u (count (flat h.lists))) r (z f) (kept-z f).sized (kept-z f).text_sized (subst (λ n. Roomy (took u n) r) (sym same) f))
          (runs-frame g.firsts g.counts L L r (z f) (agrees-narrow L (Live L u top) r (z f) (keeps-agrees L u top r (z f) st.below (kept-z f))) h.lists 0 h.stands)

      copied : (f : Roomy top r) → RunsDone h.lists L u (z f) (runs_to (z f) g.firsts g.counts g.runs 0 u.cells)
      copied f = subst (λ n. RunsDone h.lists L u (z f) (runs_to (z f) g.firsts g.counts n 0 u.cells)) (sym h.runs) (done f)

      kept : (f : Roomy top r) → Keeps u top r (runs_to (z f) g.firsts g.counts g.runs 0 u.cells)
      kept f = keeps-both u top r (z f) (runs_to (z f) g.firsts g.counts g.runs 0 u.cells) (kept-z f) (subst (λ n. Keeps u (took u n) (z f) (runs_to (z f) g.firsts g.counts g.runs 0 u.cells)) same (copied f).kept)

      there : (f : Roomy top r) → StandsCells out (Live L u top) (runs_to (z f) g.firsts g.counts g.runs 0 u.cells) Cells.Evaluation u.cells
      there f =
          subst (λ vs. StandsCells vs (Live L u top) (runs_to (z f) g.firsts g.counts g.runs 0 u.cells) Cells.Evaluation u.cells) h.joined
          (subst (λ n. StandsCells (flat h.lists) (Live L u (took u n)) (runs_to (z f) g.firsts g.counts g.runs 0 u.cells) Cells.Evaluation u.cells) same (copied f).there)

  -- ---- a turn's elements

  module _ {L : Alive} {u : Counts} {r : Rooms} {s : Code.Scope} {t : Scope} (st : Start l src L u r s t) (g : Gathered) (out : Values) (h : Gathers g out L u r) (vs : Values) (space : CellSpace) (a : ℕ) (hv : StandsCells vs L r space a) (deep : suc (nesting_in vs) ≤ deepest_value) (few : g.runs * 2 + count vs ≤ u.cells) (f : Roomy (took u (count vs)) r) where
    abbrev top : Counts
    top = took u (count vs)

    abbrev z : Rooms
    z = taken u (count vs) r f

    abbrev q : Rooms
    q = copied_to z space a u.cells (count vs)

    kept-z : Keeps u top r z
    kept-z = taken-keeps u (count vs) r f

    room-z : Roomy top z
    room-z = roomy-same top r z kept-z.sized kept-z.text_sized f

    pub turn-kept : Keeps u top r q
    turn-kept = keeps-both u top r z q kept-z (copy-keeps (count vs) space a u z (kept-z.fitting st.fitting) room-z)

    turn-there : StandsCells vs (Live L u top) q Cells.Evaluation u.cells
    turn-there = copy-stands vs L space a u z st.below (kept-z.fitting st.fitting) room-z (frame-cells L L r z (agrees-narrow L (Live L u top) r z (keeps-agrees L u top r z st.below kept-z)) vs space a hv)

    pub turn-logged : Logged (cells vs ∷ []) L u top q
    unfolding cells_built text_built
    turn-logged = record { cells = subst (λ ws. StandsCells ws (Live L u top) q Cells.Evaluation u.cells) (sym (join-nil vs)) turn-there; counted = ap (λ ws. u.cells + count ws) (join-nil vs); bytes = refl; bytes_counted = omega arith }

    pub turn-agrees : Agrees L (Live L u top) r q
    turn-agrees = keeps-agrees L u top r q st.below turn-kept

    deeper : max g.nesting (suc (nesting_in vs)) ≡ suc (nesting_in (join out vs))
    deeper = ap (λ n. max n (suc (nesting_in vs))) h.deep ∙ ups (nesting_in out) (nesting_in vs) ∙ ap suc (sym (nesting-join out vs))
      where
        ups : (i j : ℕ) → max (suc i) (suc j) ≡ suc (max i j)
        ups i j = omega arith

    pub turn-gathers : (b : Bool) → eqb (count vs) 0 ≡ b → Gathers (add_run b g u.cells (count vs) (suc (nesting_in vs))) (join out vs) (Live L u top) top q
    turn-gathers true e =
        record {
          lists = h.lists;
          joined = h.joined ∙ none;
          runs = h.runs;
          total = h.total ∙ ap count none;
          deep = deeper;
          shallow = omega (arith, h.shallow);
          stands = runs-frame g.firsts g.counts L (Live L u top) r q turn-agrees h.lists 0 h.stands;
          firsts_long = h.firsts_long;
          counts_long = h.counts_long;
          few = omega (arith, h.few);
        }
      where
        none : out ≡ join out vs
        none = sym (join-nil out) ∙ ap (join out) (sym (no-elements vs (eqb-true (count vs) 0 e)))
    turn-gathers false e =
        record {
          lists = h.lists ++ (vs ∷ []);
          joined = flat-snoc h.lists vs ∙ ap (λ ws. join ws vs) h.joined;
          runs = omega (arith, h.runs, length-append h.lists (vs ∷ []));
          total = ap (λ n. n + count vs) h.total ∙ sym (join-count out vs);
          deep = deeper;
          shallow = omega (arith, h.shallow);
          stands = subst (λ n. RunsAt (set g.firsts n u.cells) (set g.counts n (count vs)) (h.lists ++ (vs ∷ [])) 0 (Live L u top) q) (sym place)
              (runs-snoc g.firsts g.counts (Live L u top) q u.cells vs h.lists 0 (omega (arith, fewer, h.firsts_long, h.runs)) (omega (arith, fewer, h.counts_long, h.runs)) (runs-frame g.firsts g.counts L (Live L u top) r q turn-agrees h.lists 0 h.stands) turn-there);
          firsts_long = length-set g.firsts g.runs u.cells ∙ h.firsts_long;
          counts_long = length-set g.counts g.runs (count vs) ∙ h.counts_long;
          few = omega (arith, some-there);
        }
      where
        place : g.runs ≡ 0 + length h.lists
        place = omega (arith, h.runs)

        some-there : 0 < count vs
        some-there = positive (count vs) (eqb-false (count vs) 0 e)
          where
            positive : (n : ℕ) → (n ≡ 0 → ⊥) → 0 < n
            positive n d = omega arith

        fewer : g.runs < most_runs
        fewer = omega (arith, some-there, f.cells)

  pub gather-says : {L : Alive} {u : Counts} {r : Rooms} {s : Code.Scope} {t : Scope} → Start l src L u r s t → (p : ℕ) (g : Gathered) (out : Values) → Gathers g out L u r → (y : Value) (vs : Values) → Holds (list vs) L r y → g.runs * 2 + count vs ≤ u.cells → (R : Machine.Gathering) (κ : Rule Meaning.Value)
      → ((g' : Gathered) (M : Alive) (c : Counts) (q : Rooms) → Start l src M c q s t → Agrees L M r q → Gathers g' (join out vs) M c q → Says l src p M c q (R g' (used_of c) q) κ)
      → Says l src p L u r (gather_parts y g (parts_of y) (used_of u) r R) (charged (cells vs ∷ []) κ)
  unfolding Stands nesting
  gather-says {L} {u} {r} {s} {t} st p g out h y vs k few R κ on =
      subst (λ x. Says l src p L u r (gather_parts x g (parts_of x) (used_of u) r R) (charged (cells vs ∷ []) κ)) (sym k.stands.2)
      (takes l src st p (count vs) vs refl (λ w q. R (add_run (eqb (count vs) 0) g u.cells (count vs) (suc (nesting_in vs))) w (copied_to q k.stands.0 k.stands.1 u.cells (count vs))) κ (λ f. turned f))
    where
      turned : (f : Roomy (took u (count vs)) r) → Matches L u r (R (add_run (eqb (count vs) 0) g u.cells (count vs) (suc (nesting_in vs))) (used_of (took u (count vs))) (copied_to (taken u (count vs) r f) k.stands.0 k.stands.1 u.cells (count vs))) (outcome (placed p κ.1) (spend l κ.0 (took u (count vs)))) (cells vs ∷ κ.0)
      turned f =
          let q' : Rooms = copied_to (taken u (count vs) r f) k.stands.0 k.stands.1 u.cells (count vs) in
          let c' : Counts = took u (count vs) in
          let kept : Keeps u c' r q' = turn-kept st g out h vs k.stands.0 k.stands.1 k.stands.3 k.nests few f in
          weaken L u c' r q' (R (add_run (eqb (count vs) 0) g u.cells (count vs) (suc (nesting_in vs))) (used_of c') q') (outcome (placed p κ.1) (spend l κ.0 c')) (cells vs ∷ []) κ.0 st.below kept (turn-logged st g out h vs k.stands.0 k.stands.1 k.stands.3 k.nests few f)
          (on (add_run (eqb (count vs) 0) g u.cells (count vs) (suc (nesting_in vs))) (Live L u c') c' q' (move l src st kept) (turn-agrees st g out h vs k.stands.0 k.stands.1 k.stands.3 k.nests few f) (turn-gathers st g out h vs k.stands.0 k.stands.1 k.stands.3 k.nests few f (eqb (count vs) 0) refl))
