-- What is read from any two words is written and read back as it is, so a copy of a cell is that cell. Assumes nothing.
use mathlib.Core.Path.{◌≡◌, refl, sym, ap, ◌∙◌, subst}
use mathlib.Core.Bool.{Bool, true, false, cond}
use mathlib.Core.List.{List}
use Prim.Native.Nat.{ℕ, ◌*◌, ◌+◌, ◌/◌, ◌%◌, ◌^◌, ◌<◌}
use native.Mathlib.Omega.{arith}
use lib.ListN.{length, get_or}
use lib.Signed.{mag}
use lib.Dec.{ltb, eqb}
use borrow.Author.Tests.{ltb-true, ltb-false}
use Rattle.numbers.specs.declared.double.Double.{Double}
use Rattle.numbers.specs.declared.double.Double.TheVariants as Bits
use Rattle.numbers.specs.Double.{double_of, Proper}
use Rattle.numbers.proofs.DoubleLaws.{proper, double-back}
use Rattle.rooms.specs.declared.value.Value.{Value}
use Rattle.rooms.specs.Value.{double_value}
use Rattle.rooms.specs.Cells.{signed_of, text_place, cell_place, bare_of, text_of, container_of, value_of, cell_of, has_cell, cell_in, written_in, settled}
use Rattle.rooms.proofs.Words.{signed_below, signed_above}
use Rattle.rooms.proofs.CellLaws.{Small, small-back, written-words}
use Rattle.std.specs.Prelude.{Option, None, Some}
use Rattle.rooms.specs.declared.value.Span.{Span}
use Rattle.rooms.specs.declared.value.Row.{Row}

-- a value that words give: its numbers lie within their fields, and a Double is in its one spelling
abbrev Read : Value → Type 0
Read v = Small v × (settled v ≡ v)

-- of both ways of a test
branch : {A : Type 0} (P : A → Type 0) (b : Bool) (u w : A) → (b ≡ true → P u) → (b ≡ false → P w) → P (cond b u w)
branch P true u w f g = f refl
branch P false u w f g = g refl

signed-small : (w : ℕ) → mag (signed_of w) < 2 ^ 63
signed-small w = go (ltb w (2 ^ 63)) refl
  where
    go : (b : Bool) → ltb w (2 ^ 63) ≡ b → mag (signed_of w) < 2 ^ 63
    go true e = subst (λ z. mag z < 2 ^ 63) (sym (signed_below w (ltb-true w (2 ^ 63) e))) (ltb-true w (2 ^ 63) e)
    go false e = subst (λ z. mag z < 2 ^ 63) (sym (signed_above w (ltb-false w (2 ^ 63) e))) (omega (arith, ltb-false w (2 ^ 63) e))

double-read : (d : Double) → Proper d → Read (double_value d)
double-read (Bits.Plain x) p = (tt, ap double_value (double-back (Bits.Plain x) p))
double-read (Bits.Nan b) p = (tt, ap double_value (double-back (Bits.Nan b) p))

abbrev TextIn : Option Span → Type 0
TextIn (Some sp) = (sp.first < 2 ^ 16) × (sp.length < 2 ^ 16)
TextIn None = Unit {0}

abbrev CellsIn : Option Row → Type 0
CellsIn (Some ro) = (ro.first < 2 ^ 16) × (ro.length < 2 ^ 16)
CellsIn None = Unit {0}

small : (a : ℕ) → ltb 65535 a ≡ false → a < 2 ^ 16
small a e = omega (arith, ltb-false 65535 a e)

text_in : (s a n : ℕ) → TextIn (text_place s a n)
unfolding text_place
text_in s a n =
    branch TextIn (ltb 65535 a) _ _ (λ _. tt)
    (λ p. branch TextIn (ltb 65535 n) _ _ (λ _. tt)
    (λ q. branch TextIn (eqb s 0) _ _ (λ _. (small a p, small n q))
    (λ _. branch TextIn (eqb s 1) _ _ (λ _. (small a p, small n q))
    (λ _. branch TextIn (eqb s 2) _ _ (λ _. (small a p, small n q)) (λ _. tt)))))

cells-in : (s a n : ℕ) → CellsIn (cell_place s a n)
unfolding cell_place
cells-in s a n =
    branch CellsIn (ltb 65535 a) _ _ (λ _. tt)
    (λ p. branch CellsIn (ltb 65535 n) _ _ (λ _. tt)
    (λ q. branch CellsIn (eqb s 0) _ _ (λ _. (small a p, small n q))
    (λ _. branch CellsIn (eqb s 1) _ _ (λ _. (small a p, small n q)) (λ _. tt))))

text-read : (k d : ℕ) (p : Option Span) → TextIn p → Read (text_of k d p)
unfolding text_of
text-read k d (Some sp) h = branch Read (eqb d 0) _ _ (λ _. branch Read (eqb k 5) _ _ (λ _. (h, refl)) (λ _. (h, refl))) (λ _. (tt, refl))
text-read k d None h = (tt, refl)

container-read : (k d : ℕ) (p : Option Row) → CellsIn p → Read (container_of k d p)
unfolding container_of
container-read k d (Some ro) h =
    branch Read (ltb 255 d) _ _ (λ _. (tt, refl))
    (λ e. branch Read (eqb k 12) _ _ (λ _. ((deep e, h.0, h.1), refl))
    (λ _. branch Read (eqb k 13) _ _ (λ _. ((deep e, h.0, h.1), refl))
    (λ _. branch Read (eqb ro.length 0) _ _ (λ _. ((deep e, h.0), refl)) (λ _. (tt, refl)))))
  where
    deep : ltb 255 d ≡ false → d < 2 ^ 8
    deep e = omega (arith, ltb-false 255 d e)
container-read k d None h = (tt, refl)

bare-read : (k x : ℕ) → Read (bare_of k x)
unfolding bare_of
bare-read k x =
    branch Read (eqb k 0) _ _ (λ _. branch Read (eqb x 0) _ _ (λ _. (tt, refl)) (λ _. (tt, refl)))
    (λ _. branch Read (eqb k 1) _ _ (λ _. branch Read (eqb x 0) _ _ (λ _. (tt, refl)) (λ _. branch Read (eqb x 1) _ _ (λ _. (tt, refl)) (λ _. (tt, refl))))
    (λ _. branch Read (eqb k 2) _ _ (λ _. (signed-small x, refl))
    (λ _. branch Read (eqb k 3) _ _ (λ _. (tt, refl))
    (λ _. branch Read (eqb k 4) _ _ (λ _. double-read (double_of x) (proper x))
    (λ _. branch Read (eqb k 14) _ _ (λ _. branch Read (eqb x 0) _ _ (λ _. (tt, refl)) (λ _. (tt, refl))) (λ _. (tt, refl)))))))

cell-read : (h x : ℕ) → Read (cell_of h x)
unfolding cell_of value_of
cell-read h x = fields (h % 256) (h / 256 % 256) (h / 65536 % 256) (h / 16777216)
  where
    fields : (k s d n : ℕ) → Read (value_of h k s d n x)
    fields k s d n =
        branch Read (eqb k 5) _ _ (λ _. text-read k d (text_place s x n) (text_in s x n))
        (λ _. branch Read (eqb k 6) _ _ (λ _. text-read k d (text_place s x n) (text_in s x n))
        (λ _. branch Read (eqb k 12) _ _ (λ _. container-read k d (cell_place s x n) (cells-in s x n))
        (λ _. branch Read (eqb k 13) _ _ (λ _. container-read k d (cell_place s x n) (cells-in s x n))
        (λ _. branch Read (eqb k 15) _ _ (λ _. container-read k d (cell_place s x n) (cells-in s x n))
        (λ _. branch Read (eqb k h) _ _ (λ _. bare-read k x) (λ _. (tt, refl)))))))

cell-in-read : (w : List ℕ) (i : ℕ) → Read (cell_in w i)
unfolding cell_in
cell-in-read w i = branch Read (has_cell w i) _ _ (λ _. cell-read (get_or w (i * 2) 0) (get_or w (i * 2 + 1) 0)) (λ _. (tt, refl))

-- A cell into which another was copied holds what that one holds, whatever its words are.
pub copied-cell : (w u : List ℕ) (i j : ℕ) → i < length w / 2 → cell_in (written_in w i (cell_in u j)) i ≡ cell_in u j
copied-cell w u i j h = written-words w i (cell_in u j) h ∙ small-back (cell_in u j) (cell-in-read u j).0 ∙ (cell-in-read u j).1
