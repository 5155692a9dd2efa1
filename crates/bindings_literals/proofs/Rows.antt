-- Operands and entries of an accepted table, one after the other. Assumes nothing.
use Prim.Native.Nat.{ℕ, zero, suc, ◌+◌, ◌*◌, ◌-◌, ◌≤◌, ◌<◌}
use mathlib.Core.Path.{◌≡◌}
use mathlib.Core.List.{List}
use native.Mathlib.Omega.{arith}
use lib.ListN.{length, get_or}
use Rattle.table_check.specs.declared.faults.Marks.TheVariants.{Anywhere, Values}
use Rattle.table_layout.specs.Layout.{head_bytes, word_at}
use Rattle.table_layout.specs.Layout.{after}
use Rattle.table_check.specs.Records.{Sound, SoundPart, Row}
use Rattle.table_layout.proofs.KindLaws.{head-table}
use Rattle.table_check.proofs.HeadLaws.{Here}
use Rattle.table_check.proofs.AcceptedRecordLaws.{sound-here, part-here}
use Rattle.table_check.proofs.Parts.{first-pair}
use Rattle.bindings_literals.specs.Literals.{row_bytes, entry_bytes, Operands, Entries}

back : (n : ℕ) → suc n - 1 ≡ n
back n = omega arith

-- what is known of the place of an accepted record
pub record Place (t : List ℕ) (q : ℕ) : Type 0 where
  pub known : get_or t q 0 < 17
  pub head : q + head_bytes (get_or t q 0) ≤ length t
  pub three : q + 3 ≤ length t
  pub ends : after t q ≤ length t
  pub least : 3 ≤ word_at t (q + 1)
  pub whole : head_bytes (get_or t q 0) ≤ word_at t (q + 1)

of-here : (t : List ℕ) (q : ℕ) → Here t q (length t) → Place t q
of-here t q h =
    let f = head-table (get_or t q 0) h.known in
    record {
      known = h.known;
      head = h.room;
      three = omega (arith, f.0, f.1, h.room);
      ends = h.inside;
      least = omega (arith, f.0, f.1, h.least);
      whole = h.least;
    }

module _ (t x : List ℕ) where
  pub sound-place : (q : ℕ) → Sound t x q → Place t q
  sound-place q s = of-here t q (sound-here t x q s)

  pub part-place : (q : ℕ) → SoundPart t x q → Place t q
  part-place q s = of-here t q (part-here t x q s)

  -- ---- the first and the rest

  pub first_part : (n q : ℕ) → 0 < n → Operands t x n q → SoundPart t x q × Operands t x (n - 1) (after t q)
  first_part zero q h o = absurd (omega arith)
  first_part (suc n) q h o = (o.0, rw (back n) o.1)

  pub first_entry : (n q : ℕ) → 0 < n → Entries t x n q → Sound t x q × SoundPart t x (after t q) × Entries t x (n - 1) (after t (after t q))
  first_entry zero q h o = absurd (omega arith)
  first_entry (suc n) q h o = (o.0, o.1, rw (back n) o.2)

  pub first-bytes : (n q : ℕ) → 0 < n → row_bytes t n q ≡ word_at t (q + 1) + row_bytes t (n - 1) (after t q)
  unfolding row_bytes
  first-bytes zero q h = absurd (omega arith)
  first-bytes (suc n) q h = rw (back n)

  pub first-entry-bytes : (n q : ℕ) → 0 < n →
      entry_bytes t n q ≡ word_at t (q + 1) + (word_at t (after t q + 1) + entry_bytes t (n - 1) (after t (after t q)))
  unfolding entry_bytes
  first-entry-bytes zero q h = absurd (omega arith)
  first-entry-bytes (suc n) q h = rw (back n)

  -- ---- from the rows of a record

  pub row_operands : (end n q : ℕ) → Row t x Anywhere end n q → Operands t x n q × (q + row_bytes t n q ≡ end)
  unfolding row_bytes
  row_operands end zero q r = (tt, omega (arith, r))
  row_operands end (suc n) q r = let f = row_operands end n (after t q) r.1 in ((r.0, f.0), omega (arith, f.1))

  pub row-entries : (end n q : ℕ) → Row t x Values end (2 * n) q → Entries t x n q × (q + entry_bytes t n q ≡ end)
  unfolding entry_bytes
  row-entries end zero q r = (tt, omega (arith, r))
  row-entries end (suc n) q r =
      let p = first-pair t x end (suc n) q (omega arith) r in
      let s : Row t x Values end (2 * n) (after t (after t q)) = rw (back n) at p.2 in
      let f = row-entries end n (after t (after t q)) s in
      ((p.0, p.1, f.0), omega (arith, f.1))
