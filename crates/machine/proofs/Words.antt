-- What a store, a taking and a copy of cells change: one cell, none outside. Assumes nothing.
use Prim.Native.Nat.{ℕ, ◌+◌, ◌-◌, ◌*◌, ◌/◌, ◌^◌, ◌≤◌, ◌<◌}
use mathlib.Core.Path.{◌≡◌, refl, sym, ap, ◌∙◌, subst}
use mathlib.Core.Logic.{◌≢◌}
use mathlib.Core.Bool.{Bool, true, false, cond, true≢false}
use mathlib.Core.List.{List}
use native.Mathlib.Omega.{arith}
use lib.Dec.{ltb, eqb}
use lib.Ieee.{binary64}
use lib.Ieee.Bits.{to_bits-lt, of_bits-fits}
use lib.ListN.{length, get_or, set, take, drop}
use lib.Seq.{get_or-take, get_or-drop, take-set-le, drop-set-lt, take-take, drop-drop}
use borrow.Author.Tests.{eqb-true, eq-eqb}
use Rattle.numbers.specs.declared.double.Double.TheVariants as Bits
use Rattle.numbers.specs.Double.{bits_of, double_of}
use Rattle.numbers.proofs.DoubleLaws.{double-either}
use Rattle.meaning.specs.Limits.{Counts}
use Rattle.rooms.specs.declared.value.Value.{Value}
use Rattle.rooms.specs.declared.value.CellSpace.TheVariants as Cells
use Rattle.rooms.specs.Value.{double_value}
use Rattle.rooms.specs.Cells.{Fits, payload_of, settled, head_of, cell_of, has_cell, cell_in, written_in}
use Rattle.rooms.specs.Rooms.{Rooms, cell_at}
use Rattle.rooms.proofs.CellLaws.{written-length, written_same, written-other}
use Rattle.machine.specs.Outcomes.{written}
use Rattle.machine.specs.Refines.{FitCells, Upto, Roomy, Keeps}

-- ---- values in one spelling

pub bits_fit : (b : ℕ) → b < 2 ^ 64 → Fits (double_value (double_of b))
bits_fit b h = double-either (λ d. Fits (double_value d)) b h (of_bits-fits binary64 b)

-- in the spelling that a cell gives it, a value still fits
pub settled-fits : (m : Value) → Fits m → Fits (settled m)
settled-fits Value.Null h = h
settled-fits (Value.Bool b) h = h
settled-fits (Value.Int z) h = h
settled-fits (Value.Uint n) h = h
settled-fits (Value.Double x) h = bits_fit (bits_of (Bits.Plain x)) (to_bits-lt binary64 x h)
settled-fits (Value.Nan b) h = bits_fit b h
settled-fits (Value.String sp) h = h
settled-fits (Value.Bytes sp) h = h
settled-fits (Value.List d ro) h = h
settled-fits (Value.Map d ro) h = h
settled-fits Value.OptionalNone h = h
settled-fits (Value.OptionalOf d s a) h = h
settled-fits Value.Absent h = h

-- ---- lists

pub take-lower : (s t : ℕ) (l k : List ℕ) → s ≤ t → take t k ≡ take t l → take s k ≡ take s l
take-lower s t l k h e = sym (take-take s t k h) ∙ ap (take s) e ∙ take-take s t l h

pub drop-higher : (s t : ℕ) (l k : List ℕ) → s ≤ t → drop s k ≡ drop s l → drop t k ≡ drop t l
drop-higher s t l k h e = subst (λ x. drop x k ≡ drop x l) (back s t h) (sym (drop-drop (rest s t) s k) ∙ ap (drop (rest s t)) e ∙ drop-drop (rest s t) s l)
  where
    rest : ℕ → ℕ → ℕ
    rest s t = t - s

    back : (s t : ℕ) → s ≤ t → s + (t - s) ≡ t
    back s t h = omega arith

pub below-same : (n : ℕ) (l k : List ℕ) (i : ℕ) → i < n → take n k ≡ take n l → get_or k i 0 ≡ get_or l i 0
below-same n l k i h e = sym (get_or-take n k i 0 h) ∙ ap (λ x. get_or x i 0) e ∙ get_or-take n l i 0 h

pub above_same : (n : ℕ) (l k : List ℕ) (i : ℕ) → n ≤ i → drop n k ≡ drop n l → get_or k i 0 ≡ get_or l i 0
above_same n l k i h e = subst (λ j. get_or k j 0 ≡ get_or l j 0) (back n i h) (sym (get_or-drop n k (i - n) 0) ∙ ap (λ x. get_or x (i - n) 0) e ∙ get_or-drop n l (i - n) 0)
  where
    back : (n i : ℕ) → n ≤ i → n + (i - n) ≡ i
    back n i h = omega arith

-- ---- cells

-- the cell is read from two words
cell_same : (w x : List ℕ) (i : ℕ) → length x ≡ length w → get_or x (i * 2) 0 ≡ get_or w (i * 2) 0 → get_or x (i * 2 + 1) 0 ≡ get_or w (i * 2 + 1) 0 → cell_in x i ≡ cell_in w i
unfolding cell_in
cell_same w x i l a b = λ k. cond (ltb i (l k / 2)) (cell_of (a k) (b k)) Value.Absent

pub cell-low : (w x : List ℕ) (n i : ℕ) → i < n → length x ≡ length w → take (n * 2) x ≡ take (n * 2) w → cell_in x i ≡ cell_in w i
cell-low w x n i h l e = cell_same w x i l (below-same (n * 2) w x (i * 2) (omega arith) e) (below-same (n * 2) w x (i * 2 + 1) (omega arith) e)

pub cell-high : (w x : List ℕ) (n i : ℕ) → n ≤ i → length x ≡ length w → drop (n * 2) x ≡ drop (n * 2) w → cell_in x i ≡ cell_in w i
cell-high w x n i h l e = cell_same w x i l (above_same (n * 2) w x (i * 2) (omega arith) e) (above_same (n * 2) w x (i * 2 + 1) (omega arith) e)

module _ (lo hi : Counts) (r q : Rooms) (k : Keeps lo hi r q) where
  pub low-cell : (i : ℕ) → i < lo.cells → cell_at q Cells.Evaluation i ≡ cell_at r Cells.Evaluation i
  unfolding cell_at
  low-cell i h = cell-low r.cells q.cells lo.cells i h k.sized k.low

  pub high-cell : (i : ℕ) → hi.cells ≤ i → cell_at q Cells.Evaluation i ≡ cell_at r Cells.Evaluation i
  unfolding cell_at
  high-cell i h = cell-high r.cells q.cells hi.cells i h k.sized k.high

  pub binding-cell : (i : ℕ) → cell_at q Cells.Binding i ≡ cell_at r Cells.Binding i
  unfolding cell_at
  binding-cell i = ap (λ w. cell_in w i) k.binding_cells

-- ---- a store

pub store_same : (r : Rooms) (i : ℕ) (v : Value) → i < length r.cells / 2 → Fits v → cell_at (written r i v) Cells.Evaluation i ≡ settled v
unfolding cell_at
store_same r i v h w = written_same r.cells i v h w

pub store_other : (r : Rooms) (i j : ℕ) (v : Value) → j ≢ i → cell_at (written r i v) Cells.Evaluation j ≡ cell_at r Cells.Evaluation j
unfolding cell_at
store_other r i j v d = written-other r.cells i j v d

store-binding : (r : Rooms) (i j : ℕ) (v : Value) → cell_at (written r i v) Cells.Binding j ≡ cell_at r Cells.Binding j
unfolding cell_at
store-binding r i j v = refl

store-take : (w : List ℕ) (i n : ℕ) (v : Value) → n ≤ i → take (n * 2) (written_in w i v) ≡ take (n * 2) w
unfolding written_in
store-take w i n v h = go (has_cell w i)
  where
    go : (b : Bool) → take (n * 2) (cond b (set (set w (i * 2) (head_of v)) (i * 2 + 1) (payload_of v)) w) ≡ take (n * 2) w
    go true = take-set-le (n * 2) (set w (i * 2) (head_of v)) (i * 2 + 1) (payload_of v) (omega arith) ∙ take-set-le (n * 2) w (i * 2) (head_of v) (omega arith)
    go false = refl

store-drop : (w : List ℕ) (i n : ℕ) (v : Value) → i < n → drop (n * 2) (written_in w i v) ≡ drop (n * 2) w
unfolding written_in
store-drop w i n v h = go (has_cell w i)
  where
    go : (b : Bool) → drop (n * 2) (cond b (set (set w (i * 2) (head_of v)) (i * 2 + 1) (payload_of v)) w) ≡ drop (n * 2) w
    go true = drop-set-lt (n * 2) (set w (i * 2) (head_of v)) (i * 2 + 1) (payload_of v) (omega arith) ∙ drop-set-lt (n * 2) w (i * 2) (head_of v) (omega arith)
    go false = refl

pub store-fits : (r : Rooms) (i : ℕ) (v : Value) → i < length r.cells / 2 → Fits v → FitCells r → FitCells (written r i v)
store-fits r i v h w f Cells.Binding j = subst Fits (sym (store-binding r i j v)) (f Cells.Binding j)
store-fits r i v h w f Cells.Evaluation j = go (eqb j i) refl
  where
    go : (b : Bool) → eqb j i ≡ b → Fits (cell_at (written r i v) Cells.Evaluation j)
    go true e = subst (λ k. Fits (cell_at (written r i v) Cells.Evaluation k)) (sym (eqb-true j i e)) (subst Fits (sym (store_same r i v h w)) (settled-fits v w))
    go false e = subst Fits (sym (store_other r i j v (λ z. differ z e))) (f Cells.Evaluation j)
      where
        differ : j ≡ i → eqb j i ≡ false → ⊥
        differ z n = true≢false (sym (eq-eqb j i z) ∙ n)

pub store_keeps : (lo hi : Counts) (r : Rooms) (i : ℕ) (v : Value) → lo.cells ≤ i → i < hi.cells → Upto lo hi → Roomy hi r → Fits v → Keeps lo hi r (written r i v)
store_keeps lo hi r i v a b g f w =
    record {
      literals = refl;
      binding_cells = refl;
      binding_texts = refl;
      sized = written-length r.cells i v;
      low = store-take r.cells i lo.cells v a;
      high = store-drop r.cells i hi.cells v b;
      text_sized = refl;
      text_low = refl;
      text_high = refl;
      grows = g;
      fits = f;
      fitting = store-fits r i v (omega (arith, f.cells)) w;
    }
