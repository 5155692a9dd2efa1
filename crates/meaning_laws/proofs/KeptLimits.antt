-- Values that bindings can hold are fine, and a run that comes to a value under the limits made only modest charges.
-- Rests on Kept. Assumes nothing.
use Prim.Native.Nat.{ℕ, ◌+◌, ◌≤◌}
use mathlib.Core.Path.{◌≡◌, refl}
use mathlib.Core.List.{[], ◌∷◌}
use mathlib.Core.Bool.{Bool, true, false, cond}
use native.Mathlib.Omega.{arith}
use lib.ListN.{length}
use borrow.Author.Tests.{leb-true}
use Rattle.meaning.specs.Limits.{Counts, deepest_value, most_cells, most_bytes}
use Rattle.meaning.specs.Value.{Value, scalar, list, map, optional_none, optional_of, Values, nil, cons, Entries, empty, entry, nesting, nesting_in, nesting_over, count, count_entries}
use Rattle.meaning.specs.Run.{Charge, step, cells, text, nest, Trace}
use Rattle.meaning.specs.Limited.{charge, fits, limit_of, through, stopped, onward, make, spend}
use Rattle.meaning.specs.Bindings.{cells_of, cells_in, cells_over, bytes_of, bytes_in, bytes_over}
use Rattle.meaning.specs.WellFormed.{Sound, SoundElements, SoundEntries}
use Rattle.meaning_laws.specs.Each.{Each}
use Rattle.meaning_laws.proofs.Fine.{Fine, FineElements, FineEntries}
use Rattle.meaning_laws.proofs.Kept.{Modest}

-- ---- values in a binding room

-- no more elements, or entries, than cells
elements-cells : (vs : Values) → count vs ≤ cells_in vs
unfolding count cells_in
elements-cells nil = omega arith
elements-cells (cons v vs) = let h = elements-cells vs in omega arith

entries-cells : (es : Entries) → count_entries es ≤ cells_over es
unfolding count_entries cells_over
entries-cells empty = omega arith
entries-cells (entry k v es) = let h = entries-cells es in omega arith

mutual
  unfolding nesting cells_of bytes_of

  -- A well-formed value no larger than a binding room is fine.
  pub small-fine : (v : Value) → Sound v → nesting v ≤ deepest_value → cells_of v ≤ most_cells → bytes_of v ≤ most_bytes → Fine v
  small-fine (scalar x) s n c b = (s, omega arith)
  small-fine (list vs) s n c b = (n, omega (arith, elements-cells vs), small-elements vs s (omega arith) c b)
  small-fine (map es) s n c b = (n, omega (arith, entries-cells es), small-entries es s (omega arith) c b)
  small-fine optional_none s n c b = tt
  small-fine (optional_of v) s n c b = (n, small-fine v s (omega arith) (omega arith) b)

  small-elements : (vs : Values) → SoundElements vs → nesting_in vs ≤ deepest_value → cells_in vs ≤ most_cells → bytes_in vs ≤ most_bytes → FineElements vs
  small-elements nil s n c b = tt
  small-elements (cons v vs) s n c b =
      (small-fine v s.0 (omega arith) (omega arith) (omega arith), small-elements vs s.1 (omega arith) (omega arith) (omega arith))

  small-entries : (es : Entries) → SoundEntries es → nesting_over es ≤ deepest_value → cells_over es ≤ most_cells → bytes_over es ≤ most_bytes → FineEntries es
  small-entries empty s n c b = tt
  small-entries (entry k v es) s n c b = (
    (s.0, omega arith),
    small-fine v s.1 (omega arith) (omega arith) (omega arith),
    s.2,
    small-entries es s.3 (omega arith) (omega arith) (omega arith),
  )

-- ---- charges that were made

module _ (limits : Counts) (cells_few : limits.cells ≤ most_cells) (bytes_few : limits.bytes ≤ most_bytes) where
  fits-modest : (c : Counts) (x : Charge) → fits limits (charge c x) x ≡ true → Modest x
  unfolding fits charge
  fits-modest c step e = tt
  fits-modest c (cells vs) e = let h = leb-true (c.cells + count vs) limits.cells e in omega arith
  fits-modest c (text s) e = let h = leb-true (c.bytes + length s) limits.bytes e in omega arith
  fits-modest c (nest d) e = leb-true d deepest_value e

  -- Charges that were all made are modest.
  pub spent-modest : (t : Trace) (c d : Counts) → spend limits t c ≡ through d → Each Modest t
  unfolding spend make onward
  spent-modest [] c d e = tt
  spent-modest (x ∷ t) c d e = go (fits limits (charge c x) x) refl (λ k. spent-modest t (charge c x) d k) e
    where
      go : (b : Bool) → fits limits (charge c x) x ≡ b → (spend limits t (charge c x) ≡ through d → Each Modest t)
          → onward (λ a. spend limits t a) (cond b (through (charge c x)) (stopped (limit_of x) c)) ≡ through d → Each Modest (x ∷ t)
      go true h below k = (fits-modest c x h, below k)
      go false h below k = absurd (let z : ◌≡◌ {A = ℕ} 0 1 = cc in omega arith)
