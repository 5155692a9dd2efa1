-- Building touches no value that is there: after cells were taken or a cell was written, what was alive still stands, and the new stands
-- too. Assumes nothing.
use Prim.Native.Nat.{ℕ, ◌+◌, ◌*◌, ◌/◌, ◌≤◌, ◌<◌}
use mathlib.Core.Path.{◌≡◌, refl, sym, ap, ap₂, ◌∙◌, subst}
use mathlib.Core.Bool.{Bool, true, false, cond}
use mathlib.Core.List.{List}
use native.Mathlib.Omega.{arith}
use lib.Dec.{leb}
use lib.Ieee.{binary64}
use lib.Ieee.Bits.{to_bits-lt}
use lib.ListN.{length, get_or}
use borrow.Author.Tests.{lt-ltb}
use Rattle.numbers.specs.declared.double.Double.{Double}
use Rattle.numbers.specs.declared.double.Double.TheVariants as Bits
use Rattle.numbers.specs.Double.{bits_of, double_of}
use Rattle.numbers.proofs.DoubleLaws.{bits_back}
use Rattle.meaning.specs.Value as Meaning
use Rattle.meaning.specs.Value.{null, bool, int, uint, double, string, bytes, scalar, list, map, optional_none, optional_of}
use Rattle.rooms.specs.declared.value.Value.{Value}
use Rattle.rooms.specs.declared.value.CellSpace.{CellSpace}
use Rattle.rooms.specs.declared.value.CellSpace.TheVariants as Cells
use Rattle.rooms.specs.Value.{double_value}
use Rattle.rooms.specs.Cells.{bare_of, value_of, cell_of, cell_in, written_in, Fits, settled}
use Rattle.rooms.specs.Rooms.{Rooms, cell_at, with_words}
use Rattle.rooms_taking.specs.Taking.{cell_room, zeroed, cells_taken}
use Rattle.rooms.specs.Stands.{Alive, StandsScalar, Stands, Agrees}
use Rattle.rooms_taking.proofs.TakingSteps.{cells-taken}
use Rattle.rooms.proofs.CellLaws.{written_same, written-other, cell_same}
use Rattle.rooms_taking.proofs.Zeroed.{zeroed-length, zeroed-below, zeroed-at}
use Rattle.rooms.proofs.Frame.{frame}

-- ---- rooms with other cells of the evaluation

-- rooms whose live cells of the evaluation are as they were
pub words-agree : (L : Alive) (r : Rooms) (w : List ℕ) → ((i : ℕ) → L.cells Cells.Evaluation i → cell_in w i ≡ cell_in r.cells i) → Agrees L L r (with_words r w)
unfolding cell_at
words-agree L r w h = record { sub = λ s i l. l; same = same; longer = omega arith; texts = refl; literals = refl; binding_texts = refl }
  where
    same : (s : CellSpace) (i : ℕ) → L.cells s i → cell_at (with_words r w) s i ≡ cell_at r s i
    same Cells.Binding i l = refl
    same Cells.Evaluation i l = h i l

-- ---- taking cells

-- a cell by its two words
words-cell : (w : List ℕ) (i h x : ℕ) → i < length w / 2 → get_or w (i * 2) 0 ≡ h → get_or w (i * 2 + 1) 0 ≡ x → cell_in w i ≡ cell_of h x
unfolding cell_in
words-cell w i h x l p q = rw (lt-ltb i (length w / 2) l) (ap₂ cell_of p q)

-- The cells that are taken are Null.
pub taken-null : (w : List ℕ) (used count i : ℕ) → used + count ≤ cell_room w → used ≤ i → i < used + count → cell_in (cells_taken w used count) i ≡ Value.Null
unfolding cell_of value_of bare_of
taken-null w used count i h l f =
    ap (λ u. cell_in u i) (sym (cells-taken w used count h))
    ∙ words-cell (zeroed w (used * 2) (count * 2)) i 0 0 (omega (arith, zeroed-length w (used * 2) (count * 2)))
    (zeroed-at w (used * 2) (count * 2) (i * 2) (omega arith) (omega arith) (omega arith))
    (zeroed-at w (used * 2) (count * 2) (i * 2 + 1) (omega arith) (omega arith) (omega arith))

taken-below : (w : List ℕ) (used count i : ℕ) → i < used → cell_in (cells_taken w used count) i ≡ cell_in w i
unfolding cells_taken
taken-below w used count i h = go (leb (used + count) (cell_room w))
  where
    go : (b : Bool) → cell_in (cond b (zeroed w (used * 2) (count * 2)) w) i ≡ cell_in w i
    go true = cell_same (zeroed w (used * 2) (count * 2)) w i (zeroed-length w (used * 2) (count * 2)) (zeroed-below w (used * 2) (count * 2) (i * 2) (omega arith)) (zeroed-below w (used * 2) (count * 2) (i * 2 + 1) (omega arith))
    go false = refl

-- Taking cells leaves every value as it was, where none reaches a cell above those in use.
pub taken-agrees : (L : Alive) (r : Rooms) (used count : ℕ) → ((i : ℕ) → L.cells Cells.Evaluation i → i < used) → Agrees L L r (with_words r (cells_taken r.cells used count))
taken-agrees L r used count below = words-agree L r (cells_taken r.cells used count) (λ i l. taken-below r.cells used count i (below i l))

-- ---- writing a cell

-- A value written where no value lies leaves every value as it was.
pub written-agrees : (L : Alive) (r : Rooms) (i : ℕ) (m : Value) → (L.cells Cells.Evaluation i → ⊥) → Agrees L L r (with_words r (written_in r.cells i m))
written-agrees L r i m free = words-agree L r (written_in r.cells i m) (λ j l. written-other r.cells i j m (λ e. free (subst (λ k. L.cells Cells.Evaluation k) e l)))

settled-double : (x : Double) → Fits (double_value x) → (settled (double_value x) ≡ double_value (double_of (bits_of x))) × (bits_of (double_of (bits_of x)) ≡ bits_of x)
settled-double (Bits.Plain x) f = (refl, bits_back (bits_of (Bits.Plain x)) (to_bits-lt binary64 x f))
settled-double (Bits.Nan b) f = (refl, bits_back b f)

-- a value stands for the same in the spelling that words give it
pub settled-stands : (L : Alive) (r : Rooms) (v : Meaning.Value) (m : Value) → Fits m → Stands v L r m → Stands v L r (settled m)
unfolding Stands StandsScalar
settled-stands L r (scalar null) m f h = ap settled h
settled-stands L r (scalar (bool b)) m f h = ap settled h
settled-stands L r (scalar (int z)) m f h = ap settled h
settled-stands L r (scalar (uint n)) m f h = ap settled h
settled-stands L r (scalar (double d)) m f h = (double_of (bits_of h.0), ap settled h.1 ∙ same.0, same.1 ∙ h.2)
  where
    same : (settled (double_value h.0) ≡ double_value (double_of (bits_of h.0))) × (bits_of (double_of (bits_of h.0)) ≡ bits_of h.0)
    same = settled-double h.0 (subst Fits h.1 f)
settled-stands L r (scalar (string s)) m f h = (h.0, h.1, ap settled h.2, h.3)
settled-stands L r (scalar (bytes s)) m f h = (h.0, h.1, ap settled h.2, h.3)
settled-stands L r (list vs) m f h = (h.0, h.1, ap settled h.2, h.3)
settled-stands L r (map es) m f h = (h.0, h.1, ap settled h.2, h.3)
settled-stands L r optional_none m f h = ap settled h
settled-stands L r (optional_of v) m f h = (h.0, h.1, ap settled h.2, h.3, h.4)

-- The cell that a value was written to holds that value.
pub written_stands : (L : Alive) (r : Rooms) (i : ℕ) (v : Meaning.Value) (m : Value) → i < length r.cells / 2 → (L.cells Cells.Evaluation i → ⊥) → Fits m → Stands v L r m → Stands v L (with_words r (written_in r.cells i m)) (cell_at (with_words r (written_in r.cells i m)) Cells.Evaluation i)
unfolding cell_at
written_stands L r i v m l free f h =
    subst (λ x. Stands v L (with_words r (written_in r.cells i m)) x) (sym (written_same r.cells i m l f))
    (frame L L r (with_words r (written_in r.cells i m)) (written-agrees L r i m free) v (settled m) (settled-stands L r v m f h))
