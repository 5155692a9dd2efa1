-- The runs of cells that the append path remembers: they stand for what was gathered, and are copied one after the other to its list.
-- Rests on Taking. Assumes nothing.
use Prim.Native.Nat.{ℕ, suc, ◌+◌, ◌<◌}
use mathlib.Core.Path.{◌≡◌, refl, sym, ap, ◌∙◌, subst}
use mathlib.Core.List.{List, [], ◌∷◌, ◌++◌}
use native.Mathlib.Omega.{arith}
use lib.ListN.{length, get_or, set}
use lib.Seq.{get_or-set_same, get_or-set_other}
use Rattle.meaning.specs.Limits.{Counts}
use Rattle.meaning.specs.Value.{Values, nil, count, join}
use Rattle.rooms.specs.declared.value.CellSpace.TheVariants as Cells
use Rattle.rooms.specs.Rooms.{Rooms}
use Rattle.rooms.specs.Stands.{Alive, Stands, StandsCells, Agrees}
use Rattle.meaning_laws.proofs.Fine.{join-count}
use Rattle.rooms.proofs.Frame.{frame-cells}
use Rattle.machine.specs.Outcomes.{with_words}
use Rattle.machine.specs.Comprehension.{runs_copied}
use Rattle.machine.specs.Refines.{FitCells, Live, Roomy, Keeps, Below}
use Rattle.machine.proofs.Keeping.{keeps_same, keeps_then, keeps-agrees, roomy-same, agrees-sub, live_below, live-sub}
use Rattle.machine.proofs.Taking.{took, upto-took, copied_to, copy-keeps, copy-stands}
use Rattle.machine.proofs.Traces.{join-nil, join-assoc, stands-join}

abbrev pub flat : List Values → Values
flat [] = nil
flat (vs ∷ css) = join vs (flat css)

pub flat-snoc : (css : List Values) (vs : Values) → flat (css ++ (vs ∷ [])) ≡ join (flat css) vs
flat-snoc [] vs = unfold join in join-nil vs
flat-snoc (ws ∷ css) vs = ap (join ws) (flat-snoc css vs) ∙ sym (join-assoc ws (flat css) vs)

-- the runs from the i-th on stand for these lists
abbrev pub RunsAt : List ℕ → List ℕ → List Values → ℕ → Alive → Rooms → Type 0
RunsAt firsts counts [] i L r = Unit {0}
RunsAt firsts counts (vs ∷ css) i L r = (get_or counts i 0 ≡ count vs) × StandsCells vs L r Cells.Evaluation (get_or firsts i 0) × RunsAt firsts counts css (suc i) L r

pub runs-frame : (firsts counts : List ℕ) (L M : Alive) (r q : Rooms) → Agrees L M r q → (css : List Values) (i : ℕ) → RunsAt firsts counts css i L r → RunsAt firsts counts css i M q
runs-frame firsts counts L M r q g [] i h = tt
runs-frame firsts counts L M r q g (vs ∷ css) i h = (h.0, frame-cells L M r q g vs Cells.Evaluation (get_or firsts i 0) h.1, runs-frame firsts counts L M r q g css (suc i) h.2)

-- one run more, behind the others
pub runs-snoc : (firsts counts : List ℕ) (L : Alive) (r : Rooms) (first : ℕ) (vs : Values) (css : List Values) (i : ℕ) → i + length css < length firsts → i + length css < length counts → RunsAt firsts counts css i L r → StandsCells vs L r Cells.Evaluation first → RunsAt (set firsts (i + length css) first) (set counts (i + length css) (count vs)) (css ++ (vs ∷ [])) i L r
runs-snoc firsts counts L r first vs [] i f c h k = (
  subst (λ j. get_or (set counts (i + 0) (count vs)) j 0 ≡ count vs) (plus-zero i) (get_or-set_same counts (i + 0) (count vs) 0 c),
  subst (λ j. StandsCells vs L r Cells.Evaluation j) (sym (subst (λ j. get_or (set firsts (i + 0) first) j 0 ≡ first) (plus-zero i) (get_or-set_same firsts (i + 0) first 0 f))) k,
  tt,
)
  where
    plus-zero : (a : ℕ) → a + 0 ≡ a
    plus-zero a = omega arith
runs-snoc firsts counts L r first vs (ws ∷ css) i f c h k = (
  get_or-set_other counts (i + suc (length css)) i (count vs) 0 (apart i (length css)) ∙ h.0,
  subst (λ j. StandsCells ws L r Cells.Evaluation j) (sym (get_or-set_other firsts (i + suc (length css)) i first 0 (apart i (length css)))) h.1,
  subst (λ j. RunsAt (set firsts j first) (set counts j (count vs)) (css ++ (vs ∷ [])) (suc i) L r) (shift i (length css)) (runs-snoc firsts counts L r first vs css (suc i) (omega arith) (omega arith) h.2 k),
)
  where
    apart : (i n : ℕ) → i ≡ i + suc n → ⊥
    apart i n e = omega arith

    shift : (a b : ℕ) → suc a + b ≡ a + suc b
    shift a b = omega arith

-- ---- the copies

abbrev pub runs_to : Rooms → List ℕ → List ℕ → (n i to : ℕ) → Rooms
runs_to r firsts counts n i to = with_words r (runs_copied r.binding_cells firsts counts n i to r.cells)

runs_on : (r : Rooms) (firsts counts : List ℕ) (n i to : ℕ) → runs_to r firsts counts (suc n) i to ≡ runs_to (copied_to r Cells.Evaluation (get_or firsts i 0) to (get_or counts i 0)) firsts counts n (suc i) (to + get_or counts i 0)
unfolding runs_copied
runs_on r firsts counts n i to = refl

runs_none : (r : Rooms) (firsts counts : List ℕ) (i to : ℕ) → runs_to r firsts counts 0 i to ≡ r
unfolding runs_copied
runs_none r firsts counts i to = refl

pub record RunsDone (css : List Values) (L : Alive) (u : Counts) (r q : Rooms) : Type 0 where
  pub kept : Keeps u (took u (count (flat css))) r q
  pub there : StandsCells (flat css) (Live L u (took u (count (flat css)))) q Cells.Evaluation u.cells

module _ (firsts counts : List ℕ) where
  -- the first run, then the others
  module _ (vs : Values) (css : List Values) (i : ℕ) (L : Alive) (u : Counts) (r : Rooms) (b : Below L u) (w : FitCells r) (f : Roomy (took u (count (join vs (flat css)))) r) (e : get_or counts i 0 ≡ count vs) (h : StandsCells vs L r Cells.Evaluation (get_or firsts i 0)) where
    abbrev one : Counts
    one = took u (count vs)

    abbrev more : ℕ
    more = count (flat css)

    abbrev q : Rooms
    q = copied_to r Cells.Evaluation (get_or firsts i 0) u.cells (count vs)

    same-top : took one more ≡ took u (count (join vs (flat css)))
    same-top = ap (λ k. record { steps = u.steps; cells = k; bytes = u.bytes }) (assoc u.cells (count vs) more ∙ ap (λ k. u.cells + k) (sym (join-count vs (flat css))))
      where
        assoc : (x y z : ℕ) → x + y + z ≡ x + (y + z)
        assoc x y z = omega arith

    room-one : Roomy one r
    room-one = record { cells = omega (arith, f.cells, join-count vs (flat css)); bytes = f.bytes }

    pub first-kept : Keeps u one r q
    first-kept = copy-keeps (count vs) Cells.Evaluation (get_or firsts i 0) u r w room-one

    pub below_one : Below (Live L u one) one
    below_one = live_below L u one b first-kept.grows

    pub room-left : Roomy (took one more) q
    room-left = roomy-same (took one more) r q first-kept.sized first-kept.text_sized (subst (λ c. Roomy c r) (sym same-top) f)

    abbrev o : Rooms
    o = runs_to q firsts counts (length css) (suc i) one.cells

    done-step : RunsDone css (Live L u one) one q o → RunsDone (vs ∷ css) L u r (runs_to r firsts counts (suc (length css)) i u.cells)
    done-step d =
        subst (λ y. RunsDone (vs ∷ css) L u r y) (sym (runs_on r firsts counts (length css) i u.cells ∙ ap (λ n. runs_to (copied_to r Cells.Evaluation (get_or firsts i 0) u.cells n) firsts counts (length css) (suc i) (u.cells + n)) e))
        (record {
          kept = subst (λ c. Keeps u c r o) same-top (keeps_then u one (took one more) r q o first-kept d.kept);
          there = subst (λ c. StandsCells (join vs (flat css)) (Live L u c) o Cells.Evaluation u.cells) same-top
              (frame-cells both (Live L u (took one more)) o o (agrees-sub both (Live L u (took one more)) o (live-sub L u one (took one more) first-kept.grows d.kept.grows) (omega arith)) (join vs (flat css)) Cells.Evaluation u.cells
              (stands-join both o vs (flat css) Cells.Evaluation u.cells
              (frame-cells (Live L u one) both q o (keeps-agrees (Live L u one) one (took one more) q o below_one d.kept) vs Cells.Evaluation u.cells (copy-stands vs L Cells.Evaluation (get_or firsts i 0) u r b w room-one h))
              d.there));
        })
      where
        both : Alive
        both = Live (Live L u one) one (took one more)

  pub runs_done : (css : List Values) (i : ℕ) (L : Alive) (u : Counts) (r : Rooms) → Below L u → FitCells r → Roomy (took u (count (flat css))) r → RunsAt firsts counts css i L r → RunsDone css L u r (runs_to r firsts counts (length css) i u.cells)
  runs_done [] i L u r b w f h =
      subst (λ y. RunsDone [] L u r y) (sym (runs_none r firsts counts i u.cells))
      (record { kept = keeps_same u (took u (count nil)) r (upto-took u (count nil)) f; there = unfold Stands in tt })
  runs_done (vs ∷ css) i L u r b w f h =
      done-step vs css i L u r b w f h.0 h.1
      (runs_done css (suc i) (Live L u (took u (count vs))) (took u (count vs)) (copied_to r Cells.Evaluation (get_or firsts i 0) u.cells (count vs)) (below_one vs css i L u r b w f h.0 h.1) ((first-kept vs css i L u r b w f h.0 h.1).fitting w) (room-left vs css i L u r b w f h.0 h.1)
      (runs-frame firsts counts L (Live L u (took u (count vs))) r (copied_to r Cells.Evaluation (get_or firsts i 0) u.cells (count vs)) (keeps-agrees L u (took u (count vs)) r (copied_to r Cells.Evaluation (get_or firsts i 0) u.cells (count vs)) b (first-kept vs css i L u r b w f h.0 h.1)) css (suc i) h.2))
