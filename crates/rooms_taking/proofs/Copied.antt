-- Cells that were copied hold the same values as those that they were copied from. Assumes nothing.
use Prim.Native.Nat.{ℕ, zero, suc, ◌+◌, ◌/◌, ◌≤◌, ◌<◌}
use mathlib.Core.Path.{◌≡◌, refl, sym, ap, ◌∙◌, subst}
use mathlib.Core.List.{List}
use native.Mathlib.Omega.{arith}
use lib.ListN.{length}
use Rattle.meaning.specs.Value as Meaning
use Rattle.meaning.specs.Value.{nil, cons, count, join}
use Rattle.rooms.specs.declared.value.Value.{Value}
use Rattle.rooms.specs.declared.value.CellSpace.{CellSpace}
use Rattle.rooms.specs.declared.value.CellSpace.TheVariants as Cells
use Rattle.rooms.specs.Cells.{cell_in, written_in}
use Rattle.rooms.specs.Rooms.{Rooms, words_of, cell_at, with_words}
use Rattle.rooms_taking.specs.Taking.{copied}
use Rattle.rooms.specs.Stands.{Alive, Stands, StandsCells, Agrees}
use Rattle.rooms.proofs.CellLaws.{written-length, written-other}
use Rattle.rooms.proofs.CellCopies.{copied-cell}
use Rattle.rooms.proofs.Frame.{frame-cells}
use Rattle.rooms_taking.proofs.Built.{words-agree}

-- cell i of a space is none of those from `to` on that are written
abbrev pub Before : CellSpace → (i to : ℕ) → Type 0
Before Cells.Binding i to = Unit {0}
Before Cells.Evaluation i to = i < to

-- a cell before the one that is written is as it was, in either space
before_same : (b w : List ℕ) (s : CellSpace) (i to : ℕ) (m : Value) → Before s i to → cell_in (words_of b (written_in w to m) s) i ≡ cell_in (words_of b w s) i
before_same b w Cells.Binding i to m h = refl
before_same b w Cells.Evaluation i to m h = written-other w to i m (omega arith)

before_on : (s : CellSpace) (i to : ℕ) → Before s i to → Before s i (suc to)
before_on Cells.Binding i to h = tt
before_on Cells.Evaluation i to h = omega arith

copied-below : (b : List ℕ) (s : CellSpace) (w : List ℕ) (a to n i : ℕ) → i < to → cell_in (copied b s w a to n) i ≡ cell_in w i
unfolding copied
copied-below b s w a to zero i h = refl
copied-below b s w a to (suc n) i h = copied-below b s (written_in w to (cell_in (words_of b w s) a)) (suc a) (suc to) n i (omega arith) ∙ written-other w to i (cell_in (words_of b w s) a) (omega arith)

-- cell j of the copy is cell j of what was copied
copied_at : (b : List ℕ) (s : CellSpace) (w : List ℕ) (a to n : ℕ) → to + n ≤ length w / 2 → ((j : ℕ) → j < n → Before s (a + j) to) → (j : ℕ) → j < n → cell_in (copied b s w a to n) (to + j) ≡ cell_in (words_of b w s) (a + j)
unfolding copied
copied_at b s w a to zero f before j h = absurd (omega arith)
copied_at b s w a to (suc n) f before zero h =
    ap (cell_in (copied b s (written_in w to (cell_in (words_of b w s) a)) (suc a) (suc to) n)) (plus-zero to)
    ∙ copied-below b s (written_in w to (cell_in (words_of b w s) a)) (suc a) (suc to) n to (omega arith)
    ∙ copied-cell w (words_of b w s) to a (omega arith)
    ∙ ap (cell_in (words_of b w s)) (sym (plus-zero a))
  where
    plus-zero : (k : ℕ) → k + 0 ≡ k
    plus-zero k = omega arith
copied_at b s w a to (suc n) f before (suc j) h =
    ap (cell_in (copied b s (written_in w to (cell_in (words_of b w s) a)) (suc a) (suc to) n)) (shift to j)
    ∙ copied_at b s (written_in w to (cell_in (words_of b w s) a)) (suc a) (suc to) n (omega (arith, written-length w to (cell_in (words_of b w s) a)))
    (λ k l. before_on s (suc a + k) to (subst (λ i. Before s i to) (shift a k) (before (suc k) (omega arith)))) j (omega arith)
    ∙ before_same b w s (suc a + j) to (cell_in (words_of b w s) a) (subst (λ i. Before s i to) (shift a j) (before (suc j) h))
    ∙ ap (cell_in (words_of b w s)) (sym (shift a j))
  where
    shift : (k i : ℕ) → k + suc i ≡ suc k + i
    shift k i = omega arith

-- elements that lie in two places
cells-moved : (M : Alive) (q : Rooms) (vs : Meaning.Values) (s : CellSpace) (a : ℕ) (t : CellSpace) (c : ℕ) → ((j : ℕ) → j < count vs → M.cells t (c + j)) → ((j : ℕ) → j < count vs → cell_at q t (c + j) ≡ cell_at q s (a + j)) → StandsCells vs M q s a → StandsCells vs M q t c
unfolding Stands count
cells-moved M q nil s a t c live same h = tt
cells-moved M q (cons v vs) s a t c live same h = (
  subst (λ i. M.cells t i) (plus-zero c) (live 0 (omega arith)),
  subst (λ m. Stands v M q m) (ap (cell_at q s) (sym (plus-zero a)) ∙ sym (same 0 (omega arith)) ∙ ap (cell_at q t) (plus-zero c)) h.1,
  cells-moved M q vs s (suc a) t (suc c)
      (λ j l. subst (λ i. M.cells t i) (shift c j) (live (suc j) (omega arith)))
      (λ j l. ap (cell_at q t) (sym (shift c j)) ∙ same (suc j) (omega arith) ∙ ap (cell_at q s) (shift a j))
      h.2,
)
  where
    plus-zero : (k : ℕ) → k + 0 ≡ k
    plus-zero k = omega arith

    shift : (k i : ℕ) → k + suc i ≡ suc k + i
    shift k i = omega arith

-- Elements that lie one row behind the other are the elements of the joined list.
pub cells-joined : (L : Alive) (r : Rooms) (vs ws : Meaning.Values) (s : CellSpace) (a : ℕ) → StandsCells vs L r s a → StandsCells ws L r s (a + count vs) → StandsCells (join vs ws) L r s a
unfolding Stands count join
cells-joined L r nil ws s a h g = subst (λ k. StandsCells ws L r s k) (plus-zero a) g
  where
    plus-zero : (k : ℕ) → k + 0 ≡ k
    plus-zero k = omega arith
cells-joined L r (cons v vs) ws s a h g = (h.0, h.1, cells-joined L r vs ws s (suc a) h.2 (subst (λ k. StandsCells ws L r s k) (shift a (count vs)) g))
  where
    shift : (k i : ℕ) → k + suc i ≡ suc k + i
    shift k i = omega arith

-- the cells of elements are alive
elements-alive : (L : Alive) (r : Rooms) (vs : Meaning.Values) (s : CellSpace) (a : ℕ) → StandsCells vs L r s a → (j : ℕ) → j < count vs → L.cells s (a + j)
unfolding Stands count
elements-alive L r nil s a h j l = absurd (omega arith)
elements-alive L r (cons v vs) s a h zero l = subst (λ i. L.cells s i) (plus-zero a) h.0
  where
    plus-zero : (k : ℕ) → k ≡ k + 0
    plus-zero k = omega arith
elements-alive L r (cons v vs) s a h (suc j) l = subst (λ i. L.cells s i) (shift a j) (elements-alive L r vs s (suc a) h.2 j (omega arith))
  where
    shift : (k i : ℕ) → suc k + i ≡ k + suc i
    shift k i = omega arith

module _ (L : Alive) (r : Rooms) (to : ℕ) (below : (i : ℕ) → L.cells Cells.Evaluation i → i < to) where
  -- Copying to cells above those in use leaves every value as it was.
  pub copied-agrees : (s : CellSpace) (a n : ℕ) → Agrees L L r (with_words r (copied r.binding_cells s r.cells a to n))
  copied-agrees s a n = words-agree L r (copied r.binding_cells s r.cells a to n) (λ i l. copied-below r.binding_cells s r.cells a to n i (below i l))

  alive-before : (s : CellSpace) (i : ℕ) → L.cells s i → Before s i to
  alive-before Cells.Binding i l = tt
  alive-before Cells.Evaluation i l = below i l

  -- The copies hold what the elements hold, for any M that also has the new cells.
  pub copied-stands : (M : Alive) (vs : Meaning.Values) (s : CellSpace) (a : ℕ) → to + count vs ≤ length r.cells / 2 → Agrees L M r (with_words r (copied r.binding_cells s r.cells a to (count vs))) → ((j : ℕ) → j < count vs → M.cells Cells.Evaluation (to + j)) → StandsCells vs L r s a → StandsCells vs M (with_words r (copied r.binding_cells s r.cells a to (count vs))) Cells.Evaluation to
  unfolding cell_at
  copied-stands M vs s a f g live h =
      cells-moved M (with_words r (copied r.binding_cells s r.cells a to (count vs))) vs s a Cells.Evaluation to live
      (λ j l. copied_at r.binding_cells s r.cells a to (count vs) f (λ k m. alive-before s (a + k) (elements-alive L r vs s a h k m)) j l ∙ sym (g.same s (a + j) (elements-alive L r vs s a h j l)))
      (frame-cells L M r (with_words r (copied r.binding_cells s r.cells a to (count vs))) g vs s a h)
