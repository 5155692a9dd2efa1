-- Cells that are taken are Null, cells that are copied stand for the same; no other word changes. Rests on Words, Keeping. Assumes nothing.
use Prim.Native.Nat.{ℕ, zero, suc, ◌+◌, ◌*◌, ◌≤◌, ◌<◌}
use mathlib.Core.Path.{◌≡◌, refl, sym, ap, ◌∙◌, subst}
use mathlib.Core.Logic.{inr}
use mathlib.Core.Bool.{Bool, true, false}
use mathlib.Core.List.{List}
use native.Mathlib.Omega.{arith}
use lib.Dec.{ltb, leb}
use lib.ListN.{length, set, take, drop}
use lib.Seq.{take-set-le, drop-set-lt}
use borrow.Author.Tests.{ltb-true, ltb-false, le-leb, leb-true, leb-false}
use Rattle.meaning.specs.Limits.{Counts}
use Rattle.meaning.specs.Value as Meaning
use Rattle.meaning.specs.Value.{Values, nil, cons, count}
use Rattle.rooms.specs.declared.value.Value.TheVariants as Value
use Rattle.rooms.specs.declared.value.CellSpace.{CellSpace}
use Rattle.rooms.specs.declared.value.CellSpace.TheVariants as Cells
use Rattle.rooms.specs.Cells.{settled, Fits}
use Rattle.rooms.specs.Rooms.{Rooms, cell_at}
use Rattle.rooms.specs.Stands.{Alive, Stands, StandsCells, Agrees}
use Rattle.rooms_taking.specs.Taking.{cell_room, zeroed, cells_taken, copied}
use Rattle.rooms.proofs.Frame.{frame, frame-cells}
use Rattle.rooms_taking.proofs.Zeroed.{zeroed-length}
use Rattle.rooms_taking.proofs.Built.{settled-stands, taken-null as null-taken}
use Rattle.machine.specs.Outcomes.{with_words, written}
use Rattle.machine.specs.Refines.{FitCells, Live, Upto, Roomy, Keeps, Below}
use Rattle.machine.proofs.Words.{cell-low, cell-high, store_same, store_keeps}
use Rattle.machine.proofs.Keeping.{keeps_same, keeps_then, keeps-agrees, roomy-same, live_below, live-sub, agrees-sub, agrees-then}

-- ---- words become 0

zeroed-take : (w : List ℕ) (a n k : ℕ) → k ≤ a → take k (zeroed w a n) ≡ take k w
unfolding zeroed
zeroed-take w a zero k h = refl
zeroed-take w a (suc n) k h = zeroed-take (set w a 0) (suc a) n k (omega arith) ∙ take-set-le k w a 0 h

pub zeroed-drop : (w : List ℕ) (a n k : ℕ) → a + n ≤ k → drop k (zeroed w a n) ≡ drop k w
unfolding zeroed
zeroed-drop w a zero k h = refl
zeroed-drop w a (suc n) k h = zeroed-drop (set w a 0) (suc a) n k (omega arith) ∙ drop-set-lt k w a 0 (omega arith)

-- ---- cells are taken

-- n cells more
abbrev pub took : Counts → ℕ → Counts
took u n = record { steps = u.steps; cells = u.cells + n; bytes = u.bytes }

pub upto-took : (u : Counts) (n : ℕ) → Upto u (took u n)
upto-took u n = record { cells = omega arith; bytes = omega arith }

module _ (u : Counts) (n : ℕ) (r : Rooms) (f : Roomy (took u n) r) where
  -- the rooms with those cells
  abbrev pub taken : Rooms
  taken = with_words r (cells_taken r.cells u.cells n)

  zeros : cells_taken r.cells u.cells n ≡ zeroed r.cells (u.cells * 2) (n * 2)
  unfolding cells_taken
  zeros = rw (le-leb (u.cells + n) (cell_room r.cells) f.cells) refl

  taken-length : length taken.cells ≡ length r.cells
  taken-length = ap length zeros ∙ zeroed-length r.cells (u.cells * 2) (n * 2)

  pub taken-null : (i : ℕ) → u.cells ≤ i → i < u.cells + n → cell_at taken Cells.Evaluation i ≡ Value.Null
  unfolding cell_at
  taken-null i a b = null-taken r.cells u.cells n i f.cells a b

  low-words : take (u.cells * 2) taken.cells ≡ take (u.cells * 2) r.cells
  low-words = ap (take (u.cells * 2)) zeros ∙ zeroed-take r.cells (u.cells * 2) (n * 2) (u.cells * 2) (omega arith)

  high-words : drop ((u.cells + n) * 2) taken.cells ≡ drop ((u.cells + n) * 2) r.cells
  high-words = ap (drop ((u.cells + n) * 2)) zeros ∙ zeroed-drop r.cells (u.cells * 2) (n * 2) ((u.cells + n) * 2) (omega arith)

  null-fits : Fits Value.Null
  null-fits = tt

  taken-fits : FitCells r → FitCells taken
  unfolding cell_at
  taken-fits w Cells.Binding i = w Cells.Binding i
  taken-fits w Cells.Evaluation i = go (ltb i u.cells) refl (leb (u.cells + n) i) refl
    where
      go : (a : Bool) → ltb i u.cells ≡ a → (b : Bool) → leb (u.cells + n) i ≡ b → Fits (cell_at taken Cells.Evaluation i)
      go true e b d = subst Fits (sym (cell-low r.cells taken.cells u.cells i (ltb-true i u.cells e) taken-length low-words)) (w Cells.Evaluation i)
      go false e true d = subst Fits (sym (cell-high r.cells taken.cells (u.cells + n) i (leb-true (u.cells + n) i d) taken-length high-words)) (w Cells.Evaluation i)
      go false e false d = subst Fits (sym (taken-null i (ltb-false i u.cells e) (leb-false (u.cells + n) i d))) null-fits

  pub taken-keeps : Keeps u (took u n) r taken
  taken-keeps =
      record {
        literals = refl;
        binding_cells = refl;
        binding_texts = refl;
        sized = taken-length;
        low = low-words;
        high = high-words;
        text_sized = refl;
        text_low = refl;
        text_high = refl;
        grows = upto-took u n;
        fits = f;
        fitting = taken-fits;
      }

-- ---- cells are copied

-- n cells of a space from a on, to the evaluation's from `to` on
abbrev pub copied_to : Rooms → CellSpace → (a to n : ℕ) → Rooms
copied_to r space a to n = with_words r (copied r.binding_cells space r.cells a to n)

copied_on : (r : Rooms) (space : CellSpace) (a to n : ℕ) → copied_to r space a to (suc n) ≡ copied_to (written r to (cell_at r space a)) space (suc a) (suc to) n
unfolding copied cell_at
copied_on r space a to n = refl

copied_none : (r : Rooms) (space : CellSpace) (a to : ℕ) → copied_to r space a to 0 ≡ r
unfolding copied
copied_none r space a to = refl

one_more : (u : Counts) (n : ℕ) → took (took u 1) n ≡ took u (suc n)
one_more u n = ap (λ k. record { steps = u.steps; cells = k; bytes = u.bytes }) (shift u.cells n)
  where
    shift : (a b : ℕ) → a + 1 + b ≡ a + suc b
    shift a b = omega arith

suc-cell : (u : Counts) → suc u.cells ≡ (took u 1).cells
suc-cell u = omega arith

-- one cell, and then the rest as `ih` says
module _ (n : ℕ) (space : CellSpace) (a : ℕ) (u : Counts) (r : Rooms) (w : FitCells r) (f : Roomy (took u (suc n)) r) where
  abbrev one : Counts
  one = took u 1

  abbrev stored : Rooms
  stored = written r u.cells (cell_at r space a)

  first-kept : Keeps u one r stored
  first-kept = store_keeps u one r u.cells (cell_at r space a) (omega arith) (omega arith) (upto-took u 1) (record { cells = omega (arith, f.cells); bytes = f.bytes }) (w space a)

  first_fits : FitCells stored
  first_fits = first-kept.fitting w

  room-left : Roomy (took one n) stored
  room-left = roomy-same (took one n) r stored first-kept.sized first-kept.text_sized (subst (λ c. Roomy c r) (sym (one_more u n)) f)

  abbrev others : Rooms
  others = copied_to stored space (suc a) (suc u.cells) n

  abbrev Others : Type 0
  Others = Keeps one (took one n) stored (copied_to stored space (suc a) one.cells n)

  rest-kept : Others → Keeps one (took one n) stored others
  rest-kept ih = subst (λ i. Keeps one (took one n) stored (copied_to stored space (suc a) i n)) (sym (suc-cell u)) ih

  copy-keeps-step : Others → Keeps u (took u (suc n)) r (copied_to r space a u.cells (suc n))
  copy-keeps-step ih = subst (λ q. Keeps u (took u (suc n)) r q) (sym (copied_on r space a u.cells n)) (subst (λ c. Keeps u c r others) (one_more u n) (keeps_then u one (took one n) r stored others first-kept (rest-kept ih)))

  module _ (v : Meaning.Value) (vs : Values) (counted : count vs ≡ n) (L : Alive) (b : Below L u) (h : Stands v L r (cell_at r space a)) (ih : Others) where
    abbrev top : Counts
    top = took u (suc n)

    abbrev M : Alive
    M = Live L u one

    below_one : Below M one
    below_one = live_below L u one b first-kept.grows

    agree-one : Agrees L M r stored
    agree-one = keeps-agrees L u one r stored b first-kept

    wide : Agrees (Live M one (took one n)) (Live L u top) others others
    wide = subst (λ c. Agrees (Live M one (took one n)) (Live L u c) others others) (one_more u n) (agrees-sub (Live M one (took one n)) (Live L u (took one n)) others (live-sub L u one (took one n) first-kept.grows (rest-kept ih).grows) (omega arith))

    on : Agrees M (Live L u top) stored others
    on = agrees-then M (Live M one (took one n)) (Live L u top) stored others others (keeps-agrees M one (took one n) stored others below_one (rest-kept ih)) wide

    inside : M.cells Cells.Evaluation u.cells
    inside = inr (refl, omega arith, omega arith)

    first-stands : Stands v M stored (cell_at stored Cells.Evaluation u.cells)
    first-stands = subst (λ x. Stands v M stored x) (sym (store_same r u.cells (cell_at r space a) (omega (arith, f.cells)) (w space a))) (frame L M r stored agree-one v (settled (cell_at r space a)) (settled-stands L r v (cell_at r space a) (w space a) h))

    copy-stands-step : StandsCells vs (Live M one (took one n)) (copied_to stored space (suc a) one.cells n) Cells.Evaluation one.cells → StandsCells (cons v vs) (Live L u top) (copied_to r space a u.cells (suc n)) Cells.Evaluation u.cells
    unfolding Stands
    copy-stands-step later =
        subst (λ p. StandsCells (cons v vs) (Live L u top) p Cells.Evaluation u.cells) (sym (copied_on r space a u.cells n)) (
          inr (refl, omega arith, omega arith),
          subst (λ x. Stands v (Live L u top) others x) (sym (on.same Cells.Evaluation u.cells inside)) (frame M (Live L u top) stored others on v (cell_at stored Cells.Evaluation u.cells) first-stands),
          frame-cells (Live M one (took one n)) (Live L u top) others others wide vs Cells.Evaluation (suc u.cells)
              (subst (λ i. StandsCells vs (Live M one (took one n)) (copied_to stored space (suc a) i n) Cells.Evaluation i) (sym (suc-cell u)) later),
        )

pub copy-keeps : (n : ℕ) (space : CellSpace) (a : ℕ) (u : Counts) (r : Rooms) → FitCells r → Roomy (took u n) r → Keeps u (took u n) r (copied_to r space a u.cells n)
copy-keeps zero space a u r w f = subst (λ q. Keeps u (took u 0) r q) (sym (copied_none r space a u.cells)) (keeps_same u (took u 0) r (upto-took u 0) f)
copy-keeps (suc n) space a u r w f = copy-keeps-step n space a u r w f (copy-keeps n space (suc a) (took u 1) (stored n space a u r w f) (first_fits n space a u r w f) (room-left n space a u r w f))

-- the copies stand for what they are copies of
pub copy-stands : (vs : Values) (L : Alive) (space : CellSpace) (a : ℕ) (u : Counts) (r : Rooms) → Below L u → (w : FitCells r) (f : Roomy (took u (count vs)) r) → StandsCells vs L r space a
    → StandsCells vs (Live L u (took u (count vs))) (copied_to r space a u.cells (count vs)) Cells.Evaluation u.cells
unfolding Stands count
copy-stands nil L space a u r b w f h = tt
copy-stands (cons v vs) L space a u r b w f h =
    let n : ℕ = count vs in
    let k : Keeps (took u 1) (took (took u 1) n) (stored n space a u r w f) (copied_to (stored n space a u r w f) space (suc a) (u.cells + 1) n) = copy-keeps n space (suc a) (took u 1) (stored n space a u r w f) (first_fits n space a u r w f) (room-left n space a u r w f) in
    copy-stands-step n space a u r w f v vs refl L b h.1 k
    (copy-stands vs (Live L u (took u 1)) space (suc a) (took u 1) (stored n space a u r w f) (below_one n space a u r w f v vs refl L b h.1 k) (first_fits n space a u r w f) (room-left n space a u r w f)
    (frame-cells L (Live L u (took u 1)) r (stored n space a u r w f) (agree-one n space a u r w f v vs refl L b h.1 k) vs space (suc a) h.2))
