-- Laws over all kinds of records, by their bytes: heads and operands. Assumes nothing.
use mathlib.Core.Path.{◌≡◌, refl, sym, ◌∙◌}
use mathlib.Core.List.{List, [], ◌∷◌}
use Rattle.std.specs.Prelude.{Option, None, Some}
use Prim.Native.Nat.{ℕ, zero, suc, ◌*◌, ◌<◌, ◌≤◌}
use native.Mathlib.Omega.{arith}
use lib.Dec.{eqb}
use lib.ListN.{length, get_or}
use Rattle.std.specs.Prelude.{slice_get}
use borrow.Author.Tests.{ne_eqb}
use Rattle.meaning.specs.Kinds.{byte, word, Called, to_one, to_none, to_two, numbered, functions, kinds, is_leaf, called_without}
use Rattle.meaning.specs.Heads.{first, fields_bytes}
use Rattle.meaning.specs.Table.{word_bytes}
use Rattle.table_layout.specs.Layout.{row_of, head_bytes}
use Rattle.table_check.specs.Shapes.{called_count, count_of}
use Rattle.table_layout.proofs.KindLaws.{every-kind}

-- ---- heads

pub head-width : (k : ℕ) → fields_bytes word_bytes (byte ∷ word ∷ (row_of k).fields) ≡ head_bytes k
unfolding head_bytes
head-width k = refl

-- ---- operands

none-called : (o : Option Called) → called_without o ≡ eqb (called_count o) 0
unfolding called_without
none-called None = refl
none-called (Some (to_one f)) = refl
none-called (Some to_none) = refl
none-called (Some to_two) = refl

no_pairs : (n : ℕ) → eqb n 0 ≡ eqb (2 * n) 0
no_pairs zero = refl
no_pairs (suc n) = ne_eqb (suc n) 0 (λ e. omega arith) ∙ sym (ne_eqb (2 * suc n) 0 (λ e. omega arith))

-- a record is a leaf where it has no operands
pub leaf-count : (ns : List ℕ) (k : ℕ) → k < 17 → is_leaf (row_of k).operands (first ns) ≡ eqb (count_of (row_of k).kind ns) 0
unfolding row_of kinds is_leaf count_of
leaf-count ns =
    every-kind (λ k. is_leaf (row_of k).operands (first ns) ≡ eqb (count_of (row_of k).kind ns) 0) refl refl refl refl refl refl refl refl refl refl refl refl
    refl (no_pairs (first ns)) refl refl (none-called (numbered functions (first ns)))

-- ---- the row of a byte

module _ {A : Type 0} where
  pub there : (l : List A) (i : ℕ) (d : A) → i < length l → slice_get l i ≡ Some (get_or l i d)
  there [] i d h = absurd (omega arith)
  there (x ∷ l) zero d h = refl
  there (x ∷ l) (suc i) d h = there l i d (omega arith)

  pub beyond : (l : List A) (i : ℕ) → length l ≤ i → slice_get l i ≡ None
  beyond [] i h = refl
  beyond (x ∷ l) zero h = absurd (omega arith)
  beyond (x ∷ l) (suc i) h = beyond l i (omega arith)
