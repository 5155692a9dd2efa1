-- Runs of cells copied one after the other, a run at a time. Assumes nothing.
use Prim.Native.Nat.{ℕ, zero, suc, ◌+◌, ◌-◌, ◌≤◌, ◌<◌}
use mathlib.Core.Path.{◌≡◌, refl, sym, ap, ◌∙◌}
use mathlib.Core.List.{List}
use native.Mathlib.Omega.{arith}
use native.Mathlib.Numerals.{add-one}
use lib.ListN.{length, get_or}
use Rattle.rooms.specs.declared.value.CellSpace.{CellSpace}
use Rattle.rooms.specs.declared.value.CellSpace.TheVariants as Cells
use Rattle.rooms.specs.Cells.{cell_in, written_in}
use Rattle.rooms.specs.Rooms.{Rooms, words_of, with_words}
use Rattle.rooms_taking.specs.Taking.{copied}
use Rattle.rooms.proofs.CellLaws.{written-length}
use Rattle.machine.specs.Comprehension.{runs_copied}
use Rattle.eval_comprehension.specs.AppendResult.{copies_of}

one_more : (n : ℕ) → 0 < n → suc (n - 1) ≡ n
one_more n h = omega arith

no_more : (n : ℕ) → n ≤ 0 → n ≡ 0
no_more n h = omega arith

pub runs_on : (b f k w u : List ℕ) (n i to : ℕ) → 0 < n → u ≡ copied b Cells.Evaluation w (get_or f i 0) to (get_or k i 0) →
    runs_copied b f k (n - 1) (i + 1) (to + get_or k i 0) u ≡ runs_copied b f k n i to w
unfolding runs_copied
runs_on b f k w u n i to h e =
    (λ j. runs_copied b f k (n - 1) (add-one i j) (to + get_or k i 0) (e j)) ∙ ap (λ m. runs_copied b f k m i to w) (one_more n h)

pub runs_none : (b f k w : List ℕ) (n i to : ℕ) → n ≤ 0 → w ≡ runs_copied b f k n i to w
unfolding runs_copied
runs_none b f k w n i to h = ap (λ m. runs_copied b f k m i to w) (sym (no_more n h))

-- there are as many cells as before
pub copied-length : (b : List ℕ) (s : CellSpace) (w : List ℕ) (a to n : ℕ) → length (copied b s w a to n) ≡ length w
unfolding copied
copied-length b s w a to zero = refl
copied-length b s w a to (suc n) =
    copied-length b s (written_in w to (cell_in (words_of b w s) a)) (suc a) (suc to) n ∙ written-length w to (cell_in (words_of b w s) a)

module _ (f k : List ℕ) (n : ℕ) where
  -- the rooms once the runs from the i-th of n on are copied too
  pub copies : (i to : ℕ) → Rooms → Rooms
  copies i to r = copies_of f k (n - i) i to r

  pub copies-all : (to : ℕ) (r : Rooms) → copies 0 to r ≡ copies_of f k n 0 to r
  unfolding copies
  copies-all to r = let p : n - 0 ≡ n = omega arith in ap (λ m. copies_of f k m 0 to r) p

  pub copies-on : (i to : ℕ) (r : Rooms) {a l : ℕ} → i < n → a ≡ get_or f i 0 → l ≡ get_or k i 0 →
      copies (i + 1) (to + l) (with_words r (copied r.binding_cells Cells.Evaluation r.cells a to l)) ≡ copies i to r
  unfolding copies
  copies-on i to r h e d =
      let p : n - (i + 1) ≡ (n - i) - 1 = omega arith in
      rw (p, e, d) (ap (with_words r) (runs_on r.binding_cells f k r.cells _ (n - i) i to (omega arith) refl))

  pub copies-none : (i to : ℕ) (r : Rooms) → n ≤ i → r ≡ copies i to r
  unfolding copies
  copies-none i to r h = ap (with_words r) (runs_none r.binding_cells f k r.cells (n - i) i to (omega arith))
