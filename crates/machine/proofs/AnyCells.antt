-- Any words of 64 bits hold, in every cell, a value that words can hold, or `Absent`. So a run may begin in rooms as they are lent,
-- whatever they hold. Assumes nothing.
use Prim.Native.Nat.{ℕ, ◌+◌, ◌*◌, ◌^◌, ◌<◌}
use mathlib.Core.Path.{◌≡◌, refl}
use mathlib.Core.Bool.{Bool, true, false, cond}
use mathlib.Core.List.{List}
use native.Mathlib.Omega.{arith}
use lib.Dec.{ltb, eqb}
use lib.ListN.{get_or}
use lib.Signed.{mag}
use borrow.Author.Tests.{ltb-true, ltb-false}
use Rattle.rooms.specs.declared.value.Value.TheVariants as Value
use Rattle.rooms.specs.declared.value.TextSpace.{TextSpace}
use Rattle.rooms.specs.declared.value.CellSpace.{CellSpace}
use Rattle.rooms.specs.declared.value.CellSpace.TheVariants as Cells
use Rattle.rooms.specs.Cells.{Fits, signed_of, text_place, cell_place, bare_of, text_of, container_of, value_of, cell_of, has_cell, cell_in}
use Rattle.rooms.specs.Rooms.{Rooms, cell_at}
use Rattle.machine.specs.Refines.{FitCells}
use Rattle.machine.proofs.Words.{bits_fit}
use Rattle.rooms.specs.Spans.{span, row}

-- either way
pub either : {A : Type 0} (P : A → Type 0) (b : Bool) {x y : A} → (b ≡ true → P x) → (b ≡ false → P y) → P (cond b x y)
either P true h k = h refl
either P false h k = k refl

-- ---- values

signed-fits : (x : ℕ) → x < 2 ^ 64 → mag (signed_of x) < 2 ^ 63
unfolding signed_of
signed-fits x h = either (λ z. mag z < 2 ^ 63) (ltb x (2 ^ 63)) (λ e. ltb-true x (2 ^ 63) e) (λ e. omega (arith, ltb-false x (2 ^ 63) e))

bare-fits : (k x : ℕ) → x < 2 ^ 64 → Fits (bare_of k x)
unfolding bare_of
bare-fits k x h =
    either Fits (eqb k 0) (λ e. either Fits (eqb x 0) (λ f. tt) (λ f. tt))
    (λ e. either Fits (eqb k 1) (λ f. either Fits (eqb x 0) (λ g. tt) (λ g. either Fits (eqb x 1) (λ l. tt) (λ l. tt)))
    (λ f. either Fits (eqb k 2) (λ g. signed-fits x h)
    (λ g. either Fits (eqb k 3) (λ l. h)
    (λ l. either Fits (eqb k 4) (λ m. bits_fit x h)
    (λ m. either Fits (eqb k 14) (λ n. either Fits (eqb x 0) (λ o. tt) (λ o. tt)) (λ n. tt))))))

-- a text's place, if both numbers fit
text-fits : (k d s a n : ℕ) → Fits (text_of k d (text_place s a n))
unfolding text_of text_place
text-fits k d s a n =
    either (λ t. Fits (text_of k d t)) (ltb 65535 a) (λ e. tt)
    (λ e. either (λ t. Fits (text_of k d t)) (ltb 65535 n) (λ f. tt)
    (λ f.
    let placed = spanned (omega (arith, ltb-false 65535 a e)) (omega (arith, ltb-false 65535 n f)) in
    either (λ t. Fits (text_of k d t)) (eqb s 0) (λ g. placed _)
    (λ g. either (λ t. Fits (text_of k d t)) (eqb s 1) (λ l. placed _)
    (λ l. either (λ t. Fits (text_of k d t)) (eqb s 2) (λ m. placed _) (λ m. tt)))))
  where
    spanned : a < 2 ^ 16 → n < 2 ^ 16 → (s : TextSpace) → Fits (cond (eqb d 0) (cond (eqb k 5) (Value.String (span s a n)) (Value.Bytes (span s a n))) Value.Absent)
    spanned h l s = either Fits (eqb d 0) (λ e. either Fits (eqb k 5) (λ f. (h, l)) (λ f. (h, l))) (λ e. tt)

container-fits : (k d s a n : ℕ) → Fits (container_of k d (cell_place s a n))
unfolding container_of cell_place
container-fits k d s a n =
    either (λ c. Fits (container_of k d c)) (ltb 65535 a) (λ e. tt)
    (λ e. either (λ c. Fits (container_of k d c)) (ltb 65535 n) (λ f. tt)
    (λ f.
    let placed = counted (omega (arith, ltb-false 65535 a e)) (omega (arith, ltb-false 65535 n f)) in
    either (λ c. Fits (container_of k d c)) (eqb s 0) (λ g. placed _)
    (λ g. either (λ c. Fits (container_of k d c)) (eqb s 1) (λ l. placed _) (λ l. tt))))
  where
    counted : a < 2 ^ 16 → n < 2 ^ 16 → (s : CellSpace)
        → Fits (cond (ltb 255 d) Value.Absent (cond (eqb k 12) (Value.List d (row s a n)) (cond (eqb k 13) (Value.Map d (row s a n)) (cond (eqb n 0) (Value.OptionalOf d s a) Value.Absent))))
    counted h l s =
        either Fits (ltb 255 d) (λ e. tt)
        (λ e.
        let small = ltb-false 255 d e in
        either Fits (eqb k 12) (λ f. (omega (arith, small), h, l))
        (λ f. either Fits (eqb k 13) (λ g. (omega (arith, small), h, l))
        (λ g. either Fits (eqb n 0) (λ m. (omega (arith, small), h)) (λ m. tt))))

value-fits : (h k s d n x : ℕ) → x < 2 ^ 64 → Fits (value_of h k s d n x)
unfolding value_of
value-fits h k s d n x w =
    either Fits (eqb k 5) (λ e. text-fits k d s x n)
    (λ e. either Fits (eqb k 6) (λ f. text-fits k d s x n)
    (λ f. either Fits (eqb k 12) (λ g. container-fits k d s x n)
    (λ g. either Fits (eqb k 13) (λ l. container-fits k d s x n)
    (λ l. either Fits (eqb k 15) (λ m. container-fits k d s x n)
    (λ m. either Fits (eqb k h) (λ o. bare-fits k x w) (λ o. tt))))))

-- ---- cells

-- Every cell of words fits.
pub cell-fits : (w : List ℕ) → ((j : ℕ) → get_or w j 0 < 2 ^ 64) → (i : ℕ) → Fits (cell_in w i)
unfolding cell_in cell_of
cell-fits w h i = either Fits (has_cell w i) (λ e. value-fits _ _ _ _ _ _ (h (i * 2 + 1))) (λ e. tt)

-- So every cell of rooms of words does.
pub words-fit : (r : Rooms) → ((j : ℕ) → get_or r.cells j 0 < 2 ^ 64) → ((j : ℕ) → get_or r.binding_cells j 0 < 2 ^ 64) → FitCells r
unfolding cell_at
words-fit r h k Cells.Evaluation i = cell-fits r.cells h i
words-fit r h k Cells.Binding i = cell-fits r.binding_cells k i
