-- One sequence of the table: what it says of the text that begins with it, and which rows a first byte opens.
use mathlib.Core.Path.{◌≡◌, refl, sym}
use mathlib.Core.Bool.{Bool, true, false, cond, ◌&&◌, and-eq-true_iff, false≢true}
use mathlib.Core.List.{List, [], ◌∷◌}
use Rattle.std.specs.Prelude.{Option, None, Some}
use Prim.Native.Nat.{ℕ, zero, suc, ◌≤◌, ◌<◌}
use native.Mathlib.Omega.{arith}
use lib.Dec.{eqb, ltb}
use lib.ListN.{length, get_or, drop}
use borrow.Author.Tests.{eqb-true, eqb-false, ne_eqb, ltb-true, ltb-false}
use Rattle.text.specs.Utf8.{Range, ◌to◌, table, inside, opened, well_formed_from, well_formed}
use Rattle.text.specs.Sequence.{fits, sized, sequence_of, second_of}
use Rattle.text.proofs.Table.{begins, begins-none-under, begins-none-over}
use Rattle.text.proofs.Utf8Laws.{never-well-formed}

pub by-test : {A : Type 0} (t : Bool) → (t ≡ true → A) → (t ≡ false → A) → A
by-test true f g = f refl
by-test false f g = g refl

-- ---- a sequence, and the text behind it

fits-formed : (ranges : List Range) (bytes : List ℕ) → fits ranges bytes ≡ true →
    (length ranges ≤ length bytes) × (well_formed_from (Some ranges) bytes ≡ well_formed_from (Some []) (drop (length ranges) bytes))
unfolding fits well_formed_from
fits-formed [] bytes e = (omega arith, refl)
fits-formed (range ∷ ranges) [] e = absurd (false≢true e)
fits-formed (range ∷ ranges) (byte ∷ bytes) e =
    let a = (and-eq-true_iff (inside range byte) (fits ranges bytes)).0 e in
    let s = fits-formed ranges bytes a.1 in
    (omega (arith, s.0), rw a.0 s.1)

fits_not : (ranges : List Range) (bytes : List ℕ) → fits ranges bytes ≡ false → well_formed_from (Some ranges) bytes ≡ false
unfolding fits well_formed_from
fits_not [] bytes e = absurd (false≢true (sym e))
fits_not (range ∷ ranges) [] e = refl
fits_not (range ∷ ranges) (byte ∷ bytes) e = go (inside range byte) e (fits_not ranges bytes)
  where
    go : (t : Bool) → (t && fits ranges bytes) ≡ false → (fits ranges bytes ≡ false → well_formed_from (Some ranges) bytes ≡ false) →
        well_formed_from (cond t (Some ranges) None) bytes ≡ false
    go true k below = below k
    go false k below = never-well-formed bytes

sized-none : (due : Option (List Range)) (bytes : List ℕ) → sized due bytes ≡ None → well_formed_from due bytes ≡ false
sized-none None bytes e = never-well-formed bytes
sized-none (Some ranges) bytes e = by-test (fits ranges bytes) (λ f. let g : ◌≡◌ {A = Option ℕ} (Some (suc (length ranges))) None = rw f at e in cc) (λ f. fits_not ranges bytes f)

sized-some : (due : Option (List Range)) (bytes : List ℕ) (n : ℕ) → sized due bytes ≡ Some (suc n) →
    (n ≤ length bytes) × (well_formed_from due bytes ≡ well_formed_from (Some []) (drop n bytes))
sized-some None bytes n e = cc
sized-some (Some ranges) bytes n e =
    by-test (fits ranges bytes)
    (λ f. let g : ◌≡◌ {A = Option ℕ} (Some (suc (length ranges))) (Some (suc n)) = rw f at e in
    let m : length ranges ≡ n = cc in
    rw (← m) (fits-formed ranges bytes f))
    (λ f. let g : ◌≡◌ {A = Option ℕ} None (Some (suc n)) = rw f at e in cc)

sized-positive : (due : Option (List Range)) (bytes : List ℕ) → sized due bytes ≡ Some 0 → ⊥
sized-positive None bytes e = cc
sized-positive (Some ranges) bytes e =
    by-test (fits ranges bytes)
    (λ f. let g : ◌≡◌ {A = Option ℕ} (Some (suc (length ranges))) (Some 0) = rw f at e in let z : suc (length ranges) ≡ 0 = cc in omega arith)
    (λ f. let g : ◌≡◌ {A = Option ℕ} None (Some 0) = rw f at e in cc)

-- a text that begins with no sequence is not well formed
pub sequence-none : (text : List ℕ) → 0 < length text → sequence_of text ≡ None → well_formed text ≡ false
unfolding sequence_of well_formed well_formed_from
sequence-none [] h e = absurd (omega arith)
sequence-none (byte ∷ bytes) h e = sized-none (opened table byte) bytes e

-- one that begins with one is as well formed as the rest
pub record Begins (text : List ℕ) (n : ℕ) : Type 0 where
  pub positive : 0 < n
  pub within : n ≤ length text
  pub formed : well_formed (drop n text) ≡ well_formed text

pub sequence-some : (text : List ℕ) (n : ℕ) → sequence_of text ≡ Some n → Begins text n
unfolding sequence_of well_formed well_formed_from
sequence-some [] n e = cc
sequence-some (byte ∷ bytes) zero e = absurd (sized-positive (opened table byte) bytes e)
sequence-some (byte ∷ bytes) (suc n) e =
    let s = sized-some (opened table byte) bytes n e in
    record { positive = omega arith; within = omega (arith, s.0); formed = sym s.1 }

pub within : (text : List ℕ) (n : ℕ) → sequence_of text ≡ Some n → n ≤ length text
within text n e = (sequence-some text n e).within

pub positive : (text : List ℕ) (n : ℕ) → sequence_of text ≡ Some n → 0 < n
positive text n e = (sequence-some text n e).positive

-- ---- which sequence a first byte begins

one-opens : (byte : ℕ) → byte ≤ 0x7F → opened table byte ≡ Some []
unfolding table
one-opens byte h = begins 0 byte refl (omega arith) h

two-opens : (byte : ℕ) → 0xC2 ≤ byte → byte ≤ 0xDF → opened table byte ≡ Some (0x80 to 0xBF ∷ [])
unfolding table
two-opens byte l h = begins 1 byte refl l h

three-opens : (byte : ℕ) → 0xE0 ≤ byte → byte ≤ 0xEF → opened table byte ≡ Some (second_of byte ∷ 0x80 to 0xBF ∷ [])
unfolding table
three-opens byte l h =
    by-test (eqb byte 0xE0)
    (λ e. let g = eqb-true byte 0xE0 e in rw e (begins 2 byte refl (omega arith) (omega arith)))
    (λ e. by-test (eqb byte 0xED)
    (λ f. let g = eqb-true byte 0xED f in rw (e, f) (begins 4 byte refl (omega arith) (omega arith)))
    (λ f. let d = eqb-false byte 0xED f in
    let k = eqb-false byte 0xE0 e in
    rw (e, f, ne_eqb byte 0xF0 (λ g. omega arith), ne_eqb byte 0xF4 (λ g. omega arith))
    (by-test (ltb byte 0xED)
    (λ g. let a = ltb-true byte 0xED g in begins 3 byte refl (omega arith) (omega arith))
    (λ g. let a = ltb-false byte 0xED g in begins 5 byte refl (omega arith) (omega arith)))))

four-opens : (byte : ℕ) → 0xF0 ≤ byte → byte ≤ 0xF4 → opened table byte ≡ Some (second_of byte ∷ 0x80 to 0xBF ∷ 0x80 to 0xBF ∷ [])
unfolding table
four-opens byte l h =
    let n = ne_eqb byte 0xE0 (λ g. omega arith) in
    let m = ne_eqb byte 0xED (λ g. omega arith) in
    by-test (eqb byte 0xF0)
    (λ e. let g = eqb-true byte 0xF0 e in rw (n, m, e) (begins 6 byte refl (omega arith) (omega arith)))
    (λ e. by-test (eqb byte 0xF4)
    (λ f. let g = eqb-true byte 0xF4 f in rw (n, m, e, f) (begins 8 byte refl (omega arith) (omega arith)))
    (λ f. let d = eqb-false byte 0xF4 f in let k = eqb-false byte 0xF0 e in rw (n, m, e, f) (begins 7 byte refl (omega arith) (omega arith))))

pub sequence-empty : (text : List ℕ) → length text ≡ 0 → sequence_of text ≡ None
unfolding sequence_of
sequence-empty [] h = refl
sequence-empty (byte ∷ rest) h = absurd (omega (arith, h))

module _ (byte : ℕ) (rest : List ℕ) where
  pub sequence-alone : byte ≤ 0x7F → sequence_of (byte ∷ rest) ≡ Some 1
  unfolding sequence_of fits
  sequence-alone h = rw (one-opens byte h)

  pub sequence-under : 0x7F < byte → byte < 0xC2 → sequence_of (byte ∷ rest) ≡ None
  unfolding sequence_of
  sequence-under l h = rw (begins-none-under byte l h)

  pub sequence-two : 0xC2 ≤ byte → byte ≤ 0xDF → sequence_of (byte ∷ rest) ≡ sized (Some (0x80 to 0xBF ∷ [])) rest
  unfolding sequence_of
  sequence-two l h = rw (two-opens byte l h)

  pub sequence-three : 0xE0 ≤ byte → byte ≤ 0xEF → sequence_of (byte ∷ rest) ≡ sized (Some (second_of byte ∷ 0x80 to 0xBF ∷ [])) rest
  unfolding sequence_of
  sequence-three l h = rw (three-opens byte l h)

  pub sequence-four : 0xF0 ≤ byte → byte ≤ 0xF4 → sequence_of (byte ∷ rest) ≡ sized (Some (second_of byte ∷ 0x80 to 0xBF ∷ 0x80 to 0xBF ∷ [])) rest
  unfolding sequence_of
  sequence-four l h = rw (four-opens byte l h)

  pub sequence-over : 0xF4 < byte → sequence_of (byte ∷ rest) ≡ None
  unfolding sequence_of
  sequence-over h = rw (begins-none-over byte h)

-- a text, by its first byte
pub ruleset first_byte = (sequence-empty, sequence-alone, sequence-under, sequence-two, sequence-three, sequence-four, sequence-over)

-- ---- the bytes behind the first

pub fits-short : (ranges : List Range) (rest : List ℕ) → length rest < length ranges → fits ranges rest ≡ false
unfolding fits
fits-short [] rest h = absurd (omega arith)
fits-short (range ∷ ranges) [] h = refl
fits-short (range ∷ ranges) (byte ∷ rest) h = rw (fits-short ranges rest (omega arith)) (both_false (inside range byte))
  where
    both_false : (t : Bool) → (t && false) ≡ false
    both_false true = refl
    both_false false = refl

pub fits-one : (a : Range) (rest : List ℕ) → 1 ≤ length rest → fits (a ∷ []) rest ≡ (inside a (get_or rest 0 0) && true)
unfolding fits
fits-one a [] h = absurd (omega arith)
fits-one a (x ∷ rest) h = refl

pub fits-two : (a b : Range) (rest : List ℕ) → 2 ≤ length rest → fits (a ∷ b ∷ []) rest ≡ (inside a (get_or rest 0 0) && (inside b (get_or rest 1 0) && true))
unfolding fits
fits-two a b [] h = absurd (omega arith)
fits-two a b (x ∷ []) h = absurd (omega arith)
fits-two a b (x ∷ y ∷ rest) h = refl

pub fits-three : (a b d : Range) (rest : List ℕ) → 3 ≤ length rest →
    fits (a ∷ b ∷ d ∷ []) rest ≡ (inside a (get_or rest 0 0) && (inside b (get_or rest 1 0) && (inside d (get_or rest 2 0) && true)))
unfolding fits
fits-three a b d [] h = absurd (omega arith)
fits-three a b d (x ∷ []) h = absurd (omega arith)
fits-three a b d (x ∷ y ∷ []) h = absurd (omega arith)
fits-three a b d (x ∷ y ∷ z ∷ rest) h = refl

-- the bytes behind it, each tested against its range
pub ruleset later = (fits-short, fits-one, fits-two, fits-three)
