-- Fields of records: which numbers are right, and which spans of the text. Assumes nothing.
use mathlib.Core.Path.{◌≡◌, refl, sym, ◌∙◌}
use mathlib.Core.Bool.{Bool, true, false, ◌&&◌, cond}
use mathlib.Core.List.{List, [], ◌∷◌}
use Rattle.std.specs.Prelude.{None, Some}
use Prim.Native.Nat.{ℕ, zero, suc, ◌+◌, ◌-◌, ◌<◌, ◌≤◌}
use native.Mathlib.Omega.{arith}
use lib.Dec.{leb, ltb, leb-suc-suc}
use lib.ListN.{length, get_or, take, drop}
use Rattle.std.specs.Prelude.{slice_get}
use borrow.Author.Tests.{le-leb, lt-leb, leb-true, ltb-true}
use Rattle.text.specs.Utf8.{well_formed}
use Rattle.meaning.specs.Kinds.{numbered, flags, name_of, kinds, unaries, binaries, functions}
use Rattle.meaning.specs.Table.{span, utf8, word_bytes}
use Rattle.meaning.specs.Heads.{field_bytes, fields_bytes, numbers_at}
use Rattle.meaning.specs.Limits.{names}
use Rattle.table_layout.specs.Layout.{row_of, word_at, fields_at}
use Rattle.table_layout.proofs.WordLaws.{byte_is}
use Rattle.table_layout.proofs.KindLaws.{every-kind}
use Rattle.table_check.specs.Shapes.{numbers_of}
use Rattle.table_check.specs.Fits.{is_some, fields_fit}

some-cond : {A : Type 0} (b : Bool) (a : A) → is_some (cond b (Some a) None) ≡ b
some-cond true a = refl
some-cond false a = refl

some_at : {A : Type 0} (l : List A) (i : ℕ) → is_some (slice_get l i) ≡ leb (suc i) (length l)
some_at [] i = sym (lt-leb (suc i) 0 (omega arith))
some_at (x ∷ l) zero = sym (le-leb 1 (suc (length l)) (omega arith))
some_at (x ∷ l) (suc i) = some_at l i ∙ sym (leb-suc-suc (suc i) (length l))

-- ---- numbers

pub numbered_is : {A : Type 0} (l : List A) (n : ℕ) → is_some (numbered l n) ≡ (leb 1 n && leb n (length l))
unfolding numbered
numbered_is l zero = refl
numbered_is l (suc n) = rw (le-leb 1 (suc n) (omega arith)) (some_at l n)

pub unary_is : (n : ℕ) → is_some (numbered unaries n) ≡ (leb 1 n && leb n 3)
unfolding unaries
unary_is n = numbered_is unaries n

pub binary_is : (n : ℕ) → is_some (numbered binaries n) ≡ (leb 1 n && leb n 17)
unfolding binaries
binary_is n = numbered_is binaries n

pub function_is : (n : ℕ) → is_some (numbered functions n) ≡ (leb 1 n && leb n 6)
unfolding functions
function_is n = numbered_is functions n

pub flag_is : (n : ℕ) → is_some (slice_get flags n) ≡ leb n 1
unfolding flags
flag_is n = some_at (false ∷ true ∷ []) n ∙ leb-suc-suc n 1

pub name_is : (n : ℕ) → is_some (name_of n) ≡ ltb n 128
unfolding name_of
name_is n = some-cond (ltb n 128) n

-- ---- spans

module _ (x : List ℕ) (o n : ℕ) where
  pub span_is : is_some (span x o n) ≡ leb (o + n) (length x)
  unfolding span
  span_is = some-cond (leb (o + n) (length x)) (take n (drop o x))

  pub utf8_outside : length x < o + n → false ≡ is_some (utf8 (span x o n))
  unfolding span utf8
  utf8_outside h = rw (lt-leb (o + n) (length x) h)

  pub utf8_inside : o + n ≤ length x → well_formed (take (o + n - o) (drop o x)) ≡ is_some (utf8 (span x o n))
  unfolding span utf8
  utf8_inside h =
      let e : o + n - o ≡ n = omega arith in rw (le-leb (o + n) (length x) h, e) (sym (some-cond (well_formed (take n (drop o x))) (take n (drop o x))))

pub spans-same : (x : List ℕ) {a b o n : ℕ} → a ≡ o → b ≡ n → is_some (utf8 (span x a b)) ≡ is_some (utf8 (span x o n))
spans-same x e f = rw (e, f)

-- ---- what right fields give a caller

pub span-inside : (x : List ℕ) (o n : ℕ) → is_some (span x o n) ≡ true → o + n ≤ length x
span-inside x o n e = leb-true _ _ (sym (span_is x o n) ∙ e)

both_of : (b : Bool) (s : List ℕ) → is_some (utf8 (cond b (Some s) None)) ≡ true → (b ≡ true) × (well_formed s ≡ true)
unfolding utf8
both_of true s e = (refl, sym (some-cond (well_formed s) s) ∙ e)
both_of false s e = let z : ◌≡◌ {A = ℕ} 0 1 = cc in absurd (omega arith)

pub text-inside : (x : List ℕ) (o n : ℕ) → is_some (utf8 (span x o n)) ≡ true → (o + n ≤ length x) × (well_formed (take n (drop o x)) ≡ true)
unfolding span
text-inside x o n e = let f = both_of (leb (o + n) (length x)) (take n (drop o x)) e in (leb-true _ _ f.0, f.1)

pub name_below : (n : ℕ) → is_some (name_of n) ≡ true → n < names
name_below n e = ltb-true _ _ (sym (name_is n) ∙ e)

-- ---- the fields of each kind that has some

module _ (x t : List ℕ) (p : ℕ) where
  pub bool-fits : leb (get_or t (p + fields_at) 0) 1 ≡ fields_fit x (row_of 1).kind (numbers_of t p 1)
  unfolding row_of kinds fields_fit numbers_of numbers_at field_bytes fields_bytes word_at
  bool-fits = rw (byte_is t (p + fields_at), flag_is)

  pub string-fits : {a b : ℕ} → a ≡ word_at t (p + fields_at) → b ≡ word_at t (p + fields_at + word_bytes) → is_some (utf8 (span x a b)) ≡ fields_fit x (row_of 5).kind (numbers_of t p 5)
  unfolding row_of kinds fields_fit numbers_of numbers_at field_bytes fields_bytes word_at
  string-fits = λ e f. rw (e, f)

  pub bytes-fits : {a b : ℕ} → a ≡ word_at t (p + fields_at) → b ≡ word_at t (p + fields_at + word_bytes) → is_some (span x a b) ≡ fields_fit x (row_of 6).kind (numbers_of t p 6)
  unfolding row_of kinds fields_fit numbers_of numbers_at field_bytes fields_bytes word_at
  bytes-fits = λ e f. rw (e, f)

  pub name-fits : ltb (get_or t (p + fields_at) 0) 128 ≡ fields_fit x (row_of 7).kind (numbers_of t p 7)
  unfolding row_of kinds fields_fit numbers_of numbers_at field_bytes fields_bytes word_at
  name-fits = rw (byte_is t (p + fields_at), name_is)

  pub unary-fits : (leb 1 (get_or t (p + fields_at) 0) && leb (get_or t (p + fields_at) 0) 3) ≡ fields_fit x (row_of 8).kind (numbers_of t p 8)
  unfolding row_of kinds fields_fit numbers_of numbers_at field_bytes fields_bytes word_at unaries
  unary-fits = rw (byte_is t (p + fields_at)) (sym (numbered_is unaries (get_or t (p + fields_at) 0)))

  pub binary-fits : (leb 1 (get_or t (p + fields_at) 0) && leb (get_or t (p + fields_at) 0) 17) ≡ fields_fit x (row_of 9).kind (numbers_of t p 9)
  unfolding row_of kinds fields_fit numbers_of numbers_at field_bytes fields_bytes word_at binaries
  binary-fits = rw (byte_is t (p + fields_at)) (sym (numbered_is binaries (get_or t (p + fields_at) 0)))

  pub select-is : (is_some (slice_get flags (get_or t (p + fields_at) 0)) && is_some (utf8 (span x (word_at t (p + fields_at + 1)) (word_at t (p + fields_at + 1 + word_bytes))))) ≡ fields_fit x
      (row_of 11).kind (numbers_of t p 11)
  unfolding row_of kinds fields_fit numbers_of numbers_at field_bytes fields_bytes word_at
  select-is = rw (byte_is t (p + fields_at))

  names-fit : (ltb (get_or t (p + fields_at) 0) 128 && ltb (get_or t (p + fields_at + 1) 0) 128) ≡ fields_fit x (row_of 15).kind (numbers_of t p 15)
  unfolding row_of kinds fields_fit numbers_of numbers_at field_bytes fields_bytes word_at
  names-fit = rw (byte_is t (p + fields_at), byte_is t (p + fields_at + 1), name_is (get_or t (p + fields_at) 0), name_is (get_or t (p + fields_at + 1) 0))

  pub names-second : ltb (get_or t (p + fields_at) 0) 128 ≡ true → ltb (get_or t (p + fields_at + 1) 0) 128 ≡ fields_fit x (row_of 15).kind (numbers_of t p 15)
  names-second e = rw e at names-fit

  pub names-first : ltb (get_or t (p + fields_at) 0) 128 ≡ false → ltb (get_or t (p + fields_at) 0) 128 ≡ fields_fit x (row_of 15).kind (numbers_of t p 15)
  names-first e = e ∙ (rw e at names-fit)

  pub function-fits : (leb 1 (get_or t (p + fields_at) 0) && leb (get_or t (p + fields_at) 0) 6) ≡ fields_fit x (row_of 16).kind (numbers_of t p 16)
  unfolding row_of kinds fields_fit numbers_of numbers_at field_bytes fields_bytes word_at functions
  function-fits = rw (byte_is t (p + fields_at)) (sym (numbered_is functions (get_or t (p + fields_at) 0)))

-- ---- kinds without fields that could be wrong

pub no_fields : (x t : List ℕ) (p k : ℕ) → k < 17 → (k ≡ 1 → ⊥) → (k ≡ 5 → ⊥) → (k ≡ 6 → ⊥) → (k ≡ 7 → ⊥) → (k ≡ 8 → ⊥) → (k ≡ 9 → ⊥) → (k ≡ 11 → ⊥) →
    (k ≡ 15 → ⊥) → (k ≡ 16 → ⊥) → true ≡ fields_fit x (row_of k).kind (numbers_of t p k)
unfolding row_of kinds fields_fit
no_fields x t p =
    every-kind
    (λ k. (k ≡ 1 → ⊥) → (k ≡ 5 → ⊥) → (k ≡ 6 → ⊥) → (k ≡ 7 → ⊥) → (k ≡ 8 → ⊥) → (k ≡ 9 → ⊥) → (k ≡ 11 → ⊥) → (k ≡ 15 → ⊥) → (k ≡ 16 → ⊥) →
    true ≡ fields_fit x (row_of k).kind (numbers_of t p k)) (λ a b c d e f g h i. refl) (λ a b c d e f g h i. absurd (a refl)) (λ a b c d e f g h i. refl)
    (λ a b c d e f g h i. refl) (λ a b c d e f g h i. refl) (λ a b c d e f g h i. absurd (b refl)) (λ a b c d e f g h i. absurd (c refl))
    (λ a b c d e f g h i. absurd (d refl)) (λ a b c d e f g h i. absurd (e refl)) (λ a b c d e f g h i. absurd (f refl)) (λ a b c d e f g h i. refl)
    (λ a b c d e f g h i. absurd (g refl)) (λ a b c d e f g h i. refl) (λ a b c d e f g h i. refl) (λ a b c d e f g h i. refl)
    (λ a b c d e f g h i. absurd (h refl)) (λ a b c d e f g h i. absurd (i refl))
