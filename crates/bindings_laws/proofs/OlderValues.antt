-- The values of a sound room in a larger one that has the same cells and the same text below: they fit, and are read as before.
-- Assumes nothing.
use Prim.Native.Nat.{ℕ, zero, suc, ◌+◌, ◌*◌, ◌≤◌, ◌<◌, max}
use mathlib.Core.Path.{◌≡◌, refl, sym, ap, ap₂, ◌∙◌}
use mathlib.Core.List.{List, []}
use Rattle.std.specs.Prelude.{Some}
use Rattle.meaning.specs.Options.{bind}
use mathlib.Core.Bool.{Bool, true, false, not, ◌&&◌, ◌||◌, cond}
use native.Mathlib.Omega.{arith}
use lib.ListN.{take}
use borrow.Author.Tests.{le-leb, eq-eqb}
use Rattle.text.specs.Utf8.{well_formed}
use Rattle.meaning.specs.Value as Meaning
use Rattle.meaning.specs.Value.{key_of, scalar, string, list, map, cons, entry}
use Rattle.rooms.specs.declared.value.Value.{Value}
use Rattle.rooms.specs.declared.value.TextSpace.TheVariants as Text
use Rattle.rooms.specs.declared.value.CellSpace.TheVariants as Cells
use Rattle.rooms.specs.Value.{nesting_of, plain_of, is_key}
use Rattle.rooms.specs.Cells.{cell_in}
use Rattle.rooms.specs.Rooms.{cell_at, part}
use Rattle.rooms.specs.Reading.{Reader, elements_in, entries_in, read_by, read_to}
use Rattle.rooms.proofs.Frame.{part_same}
use Rattle.rooms_comparison.specs.Seen.{seen_scalar, seen_of, same_seen}
use Rattle.bindings_sound.specs.Keys as Keys
use Rattle.bindings_sound.specs.Keys.{repeated_in, keys_fit}
use Rattle.bindings_sound.specs.Fits.{deepest_in, span_fits, string_fits, row_fits, map_fits, value_fits}
use Rattle.bindings_sound.specs.Held.{binding_rooms}
use Rattle.bindings_sound.proofs.FitLaws.{both_true, span-good, string-good, row-good, map-good}

pub never : {A : Type 0} {b : Bool} → b ≡ true → b ≡ false → A
never e f = let z : true ≡ false = sym e ∙ f in let y : ◌≡◌ {A = ℕ} 1 0 = ap (λ b. cond b 1 0) z in absurd (omega arith)

pub all_true : {a b : Bool} → a ≡ true → b ≡ true → (a && b) ≡ true
all_true e f = rw (e, f)

-- ---- what a value has to have

pub span_fits_lem : (bytes a n : ℕ) → a + n ≤ bytes → span_fits bytes Text.Binding a n ≡ true
unfolding span_fits
span_fits_lem bytes a n h = le-leb (a + n) bytes h

pub string-fits : (t : List ℕ) (bytes a n : ℕ) → a + n ≤ bytes → well_formed (part t a n) ≡ true → string_fits t bytes Text.Binding a n ≡ true
unfolding string_fits
string-fits t bytes a n h e = all_true (span_fits_lem bytes a n h) e

pub row_fits_lem : (w : List ℕ) (used least d a n : ℕ) → least ≤ a → a + n ≤ used → d ≤ 32 → d ≡ suc (deepest_in w a n) → row_fits w used least d Cells.Binding a n ≡ true
unfolding row_fits
row_fits_lem w used least d a n g h i e =
    all_true (le-leb least a g) (all_true (le-leb (a + n) used h) (all_true (le-leb d 32 i) (eq-eqb d (suc (deepest_in w a n)) e)))

pub map-fits : (w t : List ℕ) (used least d a n : ℕ) → least ≤ a → a + 2 * n ≤ used → d ≤ 32 → d ≡ suc (deepest_in w a (2 * n)) → keys_fit w t a n ≡ true →
    map_fits w t used least d Cells.Binding a n ≡ true
unfolding map_fits
map-fits w t used least d a n g h i e k = all_true (row_fits_lem w used least d a (2 * n) g h i e) k

-- ---- a larger room

module _ (w t : List ℕ) (used bytes : ℕ) (good : (i : ℕ) → i < used → value_fits w t used bytes (suc i) (cell_in w i) ≡ true)
    (w' t' : List ℕ) (used' bytes' : ℕ) (cells : used ≤ used') (more : bytes ≤ bytes')
    (same : (i : ℕ) → i < used → cell_in w' i ≡ cell_in w i) (text : take bytes t' ≡ take bytes t) where
  part-kept : (a n : ℕ) → a + n ≤ bytes → part t' a n ≡ part t a n
  part-kept a n h = part_same bytes a n t t' h text

  deepest-kept : (n a : ℕ) → a + n ≤ used → deepest_in w' a n ≡ deepest_in w a n
  unfolding deepest_in
  deepest-kept zero a h = refl
  deepest-kept (suc n) a h = ap₂ (λ v d. max (nesting_of v) d) (same a (omega arith)) (deepest-kept n (suc a) (omega arith))

  -- ---- keys

  seen-kept : (v : Value) (least : ℕ) → is_key v ≡ true → value_fits w t used bytes least v ≡ true → seen_of [] t' [] (plain_of v) ≡ seen_of [] t [] (plain_of v)
  seen-kept Value.Null least k e = refl
  seen-kept (Value.Bool b) least k e = refl
  seen-kept (Value.Int z) least k e = refl
  seen-kept (Value.Uint n) least k e = refl
  seen-kept (Value.Double x) least k e = refl
  seen-kept (Value.Nan b) least k e = refl
  seen-kept (Value.String sp) least k e =
      let g = (string-good t bytes sp.space sp.first sp.length e).0 in rw g.bound (ap (λ x. seen_scalar (string x)) (part-kept sp.first sp.length g.inside))
  seen-kept (Value.Bytes sp) least k e = never k refl
  seen-kept (Value.List d ro) least k e = refl
  seen-kept (Value.Map d ro) least k e = refl
  seen-kept Value.OptionalNone least k e = refl
  seen-kept (Value.OptionalOf d s a) least k e = refl
  seen-kept Value.Absent least k e = refl

  cell-seen : (i : ℕ) → i < used → is_key (cell_in w i) ≡ true → seen_of [] t' [] (plain_of (cell_in w' i)) ≡ seen_of [] t [] (plain_of (cell_in w i))
  cell-seen i h k = ap (λ v. seen_of [] t' [] (plain_of v)) (same i h) ∙ seen-kept (cell_in w i) (suc i) k (good i h)

  repeated-kept : (u v : Value) → seen_of [] t' [] (plain_of u) ≡ seen_of [] t [] (plain_of v) → (n a : ℕ) → a + 2 * n ≤ used → keys_fit w t a n ≡ true →
      repeated_in w' t' u a n ≡ repeated_in w t v a n
  unfolding repeated_in keys_fit Keys.match
  repeated-kept u v e zero a h k = refl
  repeated-kept u v e (suc n) a h k =
      let f = both_true k in
      let g = both_true {a = not (repeated_in w t (cell_in w a) (suc (suc a)) n)} f.1 in
      ap₂ ◌||◌ (ap₂ same_seen e (cell-seen a (omega arith) f.0)) (repeated-kept u v e n (suc (suc a)) (omega arith) g.1)

  keys_kept : (n a : ℕ) → a + 2 * n ≤ used → keys_fit w t a n ≡ true → keys_fit w' t' a n ≡ true
  unfolding keys_fit
  keys_kept zero a h k = refl
  keys_kept (suc n) a h k =
      let f = both_true k in
      let g = both_true {a = not (repeated_in w t (cell_in w a) (suc (suc a)) n)} f.1 in
      let i = repeated-kept (cell_in w' a) (cell_in w a) (cell-seen a (omega arith) f.0) n (suc (suc a)) (omega arith) g.1 in
      all_true (ap is_key (same a (omega arith)) ∙ f.0) (all_true (ap not i ∙ g.0) (keys_kept n (suc (suc a)) (omega arith) g.1))

  -- ---- values

  pub fits_kept : (v : Value) (least : ℕ) → value_fits w t used bytes least v ≡ true → value_fits w' t' used' bytes' least v ≡ true
  fits_kept Value.Null least e = refl
  fits_kept (Value.Bool b) least e = refl
  fits_kept (Value.Int z) least e = refl
  fits_kept (Value.Uint n) least e = refl
  fits_kept (Value.Double x) least e = refl
  fits_kept (Value.Nan b) least e = refl
  fits_kept (Value.String sp) least e =
      let g = string-good t bytes sp.space sp.first sp.length e in
      rw g.0.bound (string-fits t' bytes' sp.first sp.length (omega (arith, g.0.inside)) (ap well_formed (part-kept sp.first sp.length g.0.inside) ∙ g.1))
  fits_kept (Value.Bytes sp) least e =
      let g = span-good bytes sp.space sp.first sp.length e in rw g.bound (span_fits_lem bytes' sp.first sp.length (omega (arith, g.inside)))
  fits_kept (Value.List d ro) least e =
      let g = row-good w used least d ro.space ro.first ro.length e in
      rw g.bound (row_fits_lem w' used' least d ro.first ro.length g.later (omega (arith, g.inside)) g.shallow (g.nests ∙ ap suc (sym (deepest-kept ro.length ro.first g.inside))))
  fits_kept (Value.Map d ro) least e =
      let m = map-good w t used least d ro.space ro.first ro.length e in
      let g = m.0 in
      rw g.bound
      (map-fits w' t' used' least d ro.first ro.length g.later (omega (arith, g.inside)) g.shallow (g.nests ∙ ap suc (sym (deepest-kept (2 * ro.length) ro.first g.inside)))
      (keys_kept ro.length ro.first g.inside m.1))
  fits_kept Value.OptionalNone least e = never e refl
  fits_kept (Value.OptionalOf d s a) least e = never e refl
  fits_kept Value.Absent least e = never e refl

  module _ (f g : Reader) (each : (v : Value) (least : ℕ) → value_fits w t used bytes least v ≡ true → f v ≡ g v) where
    cell-read : (i : ℕ) → i < used → f (cell_at (binding_rooms w' t') Cells.Binding i) ≡ g (cell_at (binding_rooms w t) Cells.Binding i)
    unfolding cell_at
    cell-read i h = ap f (same i h) ∙ each (cell_in w i) (suc i) (good i h)

    elements-kept : (n a : ℕ) → a + n ≤ used → elements_in f (binding_rooms w' t') Cells.Binding a n ≡ elements_in g (binding_rooms w t) Cells.Binding a n
    unfolding elements_in
    elements-kept zero a h = refl
    elements-kept (suc n) a h =
        ap₂ (λ o p. bind o (λ v. bind p (λ vs. Some (cons v vs)))) (cell-read a (omega arith)) (elements-kept n (suc a) (omega arith))

    entries-kept : (n a : ℕ) → a + 2 * n ≤ used → entries_in f (binding_rooms w' t') Cells.Binding a n ≡ entries_in g (binding_rooms w t) Cells.Binding a n
    unfolding entries_in
    entries-kept zero a h = refl
    entries-kept (suc n) a h =
        let i = cell-read a (omega arith) in
        let j = cell-read (suc a) (omega arith) in
        let k = entries-kept n (suc (suc a)) (omega arith) in
        ap (λ o. bind (bind o key_of) (λ x. bind (f (cell_at (binding_rooms w' t') Cells.Binding (suc a))) (λ v. bind (entries_in f (binding_rooms w' t') Cells.Binding (suc (suc a)) n) (λ es. Some (entry x v es))))) i
        ∙ ap₂ (λ o p. bind (bind (g (cell_at (binding_rooms w t) Cells.Binding a)) key_of) (λ x. bind o (λ v. bind p (λ es. Some (entry x v es))))) j k

    by_value : (v : Value) (least : ℕ) → value_fits w t used bytes least v ≡ true → read_by f (binding_rooms w' t') v ≡ read_by g (binding_rooms w t) v
    by_value Value.Null least e = refl
    by_value (Value.Bool b) least e = refl
    by_value (Value.Int z) least e = refl
    by_value (Value.Uint n) least e = refl
    by_value (Value.Double x) least e = refl
    by_value (Value.Nan b) least e = refl
    by_value (Value.String sp) least e =
        let i = (string-good t bytes sp.space sp.first sp.length e).0 in rw i.bound (ap (λ x. Some (scalar (string x))) (part-kept sp.first sp.length i.inside))
    by_value (Value.Bytes sp) least e =
        let i = span-good bytes sp.space sp.first sp.length e in rw i.bound (ap (λ x. Some (scalar (Meaning.bytes x))) (part-kept sp.first sp.length i.inside))
    by_value (Value.List d ro) least e =
        let i = row-good w used least d ro.space ro.first ro.length e in rw i.bound (ap (λ o. bind o (λ vs. Some (list vs))) (elements-kept ro.length ro.first i.inside))
    by_value (Value.Map d ro) least e =
        let i = (map-good w t used least d ro.space ro.first ro.length e).0 in rw i.bound (ap (λ o. bind o (λ es. Some (map es))) (entries-kept ro.length ro.first i.inside))
    by_value Value.OptionalNone least e = never e refl
    by_value (Value.OptionalOf d s a) least e = never e refl
    by_value Value.Absent least e = never e refl

  pub read_kept : (d : ℕ) (v : Value) (least : ℕ) → value_fits w t used bytes least v ≡ true → read_to d (binding_rooms w' t') v ≡ read_to d (binding_rooms w t) v
  unfolding read_to
  read_kept zero v least e = refl
  read_kept (suc d) v least e = by_value (λ u. read_to d (binding_rooms w' t') u) (λ u. read_to d (binding_rooms w t) u) (λ u m h. read_kept d u m h) v least e
