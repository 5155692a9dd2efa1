-- The readers show all of a value: what reads as a value of the definition shows it, part by part. Assumes nothing.
use Prim.Native.Nat.{ℕ, zero, suc, ◌+◌, ◌*◌, ◌<◌}
use mathlib.Core.Path.{◌≡◌, refl, ap, ◌∙◌, subst}
use Rattle.std.specs.Prelude.{Option, None, Some}
use Rattle.meaning.specs.Options.{bind}
use native.Mathlib.Omega.{arith}
use borrow.Author.Tests.{lt-ltb}
use Rattle.meaning.specs.Value as Meaning
use Rattle.meaning.specs.Value.{count, count_entries, key_of}
use Rattle.rooms.specs.declared.value.Value.{Value}
use Rattle.rooms.specs.declared.value.CellSpace.{CellSpace}
use Rattle.rooms.specs.Rooms.{Rooms, cell_at, words_of}
use Rattle.rooms.specs.Reading.{elements_in, entries_in, read_to}
use Rattle.answer_values.specs.Elements.{cell_from}
use Rattle.answer_values.specs.Entries.{entry_from}
use Rattle.answer_values.specs.Shown.{ShowsElements, ShowsEntries, Shows}
use Rattle.rooms.specs.Spans.{row}

some_same : {A : Type 0} {a b : A} → ◌≡◌ {A = Option A} (Some a) (Some b) → a ≡ b
some_same e = cc

bound-to : {A B : Type 0} (o : Option A) (g : A → Option B) (b : B) → bind o g ≡ Some b → (a : A) × (o ≡ Some a) × (g a ≡ Some b)
unfolding bind
bound-to None g b e = let z : ◌≡◌ {A = ℕ} 0 1 = cc in absurd (omega arith)
bound-to (Some a) g b e = (a, refl, e)

module _ (n : ℕ) (r : Rooms) (d : ℕ) (s : CellSpace) (a k : ℕ) where
  at-index : (i : ℕ) → i < k → cell_from (words_of r.binding_cells r.cells s) a k i ≡ cell_at r s (a + i)
  unfolding cell_at
  at-index i h = rw (lt-ltb i k h) refl

  at_entry : (b i : ℕ) → i < k → entry_from (words_of r.binding_cells r.cells s) b k i ≡ cell_at r s (b + 2 * i)
  unfolding cell_at
  at_entry b i h = rw (lt-ltb i k h) refl

  -- j elements from index i on
  elements-show : (j i : ℕ) → i + j ≡ k → (vs : Meaning.Values) → elements_in (λ part. read_to n r part) r s (a + i) j ≡ Some vs
      → (j ≡ count vs) × ShowsElements n r (Value.List d (row s a k)) i vs
  unfolding elements_in count
  elements-show zero i h vs e = subst (λ ws. (0 ≡ count ws) × ShowsElements n r (Value.List d (row s a k)) i ws) (some_same e) (refl, tt)
  elements-show (suc j) i h vs e =
      let f = bound-to (read_to n r (cell_at r s (a + i))) _ vs e in
      let g = bound-to (elements_in (λ part. read_to n r part) r s (suc (a + i)) j) _ vs f.2 in
      let at : suc (a + i) ≡ a + (i + 1) = omega arith in
      let rest = elements-show j (i + 1) (omega arith) g.0 (rw (← at) g.1) in
      subst (λ ws. (suc j ≡ count ws) × ShowsElements n r (Value.List d (row s a k)) i ws) (some_same g.2)
      (ap suc rest.0, (ap (read_to n r) (at-index i (omega arith)) ∙ f.1, rest.1))

  -- j entries from index i on
  entries-show : (j i : ℕ) → i + j ≡ k → (es : Meaning.Entries) → entries_in (λ part. read_to n r part) r s (a + 2 * i) j ≡ Some es
      → (j ≡ count_entries es) × ShowsEntries n r (Value.Map d (row s a k)) i es
  unfolding entries_in count_entries
  entries-show zero i h es e = subst (λ fs. (0 ≡ count_entries fs) × ShowsEntries n r (Value.Map d (row s a k)) i fs) (some_same e) (refl, tt)
  entries-show (suc j) i h es e =
      let f = bound-to (bind (read_to n r (cell_at r s (a + 2 * i))) key_of) _ es e in
      let g = bound-to (read_to n r (cell_at r s (suc (a + 2 * i)))) _ es f.2 in
      let l = bound-to (entries_in (λ part. read_to n r part) r s (suc (suc (a + 2 * i))) j) _ es g.2 in
      let at : suc (suc (a + 2 * i)) ≡ a + 2 * (i + 1) = omega arith in
      let there : a + 1 + 2 * i ≡ suc (a + 2 * i) = omega arith in
      let rest = entries-show j (i + 1) (omega arith) l.0 (rw (← at) l.1) in
      subst (λ fs. (suc j ≡ count_entries fs) × ShowsEntries n r (Value.Map d (row s a k)) i fs) (some_same l.2) (
        ap suc rest.0,
        (
          ap (λ x. bind (read_to n r x) key_of) (at_entry a i (omega arith)) ∙ f.1,
          ap (read_to n r) (at_entry (a + 1) i (omega arith) ∙ ap (cell_at r s) there) ∙ g.1,
          rest.1,
        ),
      )

-- What reads as a value shows it: its kind, its number, bits or text, and as many parts, each of which reads as the value's.
pub shows : (n : ℕ) (r : Rooms) (m : Value) (v : Meaning.Value) → read_to (suc n) r m ≡ Some v → Shows n r m v
unfolding read_to cell_at
shows n r Value.Null v e = subst (Shows n r Value.Null) (some_same e) refl
shows n r (Value.Bool b) v e = subst (Shows n r (Value.Bool b)) (some_same e) (refl, refl)
shows n r (Value.Int z) v e = subst (Shows n r (Value.Int z)) (some_same e) (refl, refl)
shows n r (Value.Uint k) v e = subst (Shows n r (Value.Uint k)) (some_same e) (refl, refl)
shows n r (Value.Double x) v e = subst (Shows n r (Value.Double x)) (some_same e) (refl, refl)
shows n r (Value.Nan b) v e = subst (Shows n r (Value.Nan b)) (some_same e) (refl, refl)
shows n r (Value.String sp) v e = subst (Shows n r (Value.String sp)) (some_same e) (refl, record { span = sp; is = refl; spelled = refl })
shows n r (Value.Bytes sp) v e = subst (Shows n r (Value.Bytes sp)) (some_same e) (refl, record { span = sp; is = refl; spelled = refl })
shows n r (Value.List d ro) v e =
    let f = bound-to (elements_in (λ part. read_to n r part) r ro.space ro.first ro.length) _ v e in
    let start : ro.first ≡ ro.first + 0 = omega arith in
    let g = elements-show n r d ro.space ro.first ro.length ro.length 0 (omega arith) f.0 (rw (← start) f.1) in
    subst (Shows n r (Value.List d ro)) (some_same f.2) (refl, g.0, g.1)
shows n r (Value.Map d ro) v e =
    let f = bound-to (entries_in (λ part. read_to n r part) r ro.space ro.first ro.length) _ v e in
    let start : ro.first ≡ ro.first + 2 * 0 = omega arith in
    let g = entries-show n r d ro.space ro.first ro.length ro.length 0 (omega arith) f.0 (rw (← start) f.1) in
    subst (Shows n r (Value.Map d ro)) (some_same f.2) (refl, g.0, g.1)
shows n r Value.OptionalNone v e = subst (Shows n r Value.OptionalNone) (some_same e) refl
shows n r (Value.OptionalOf d s a) v e =
    let f = bound-to (read_to n r (cell_at r s a)) _ v e in
    subst (Shows n r (Value.OptionalOf d s a)) (some_same f.2) (refl, f.1)
shows n r Value.Absent v e = let z : ◌≡◌ {A = ℕ} 0 1 = cc in absurd (omega arith)
