-- The test of well-formedness says what the table says, and the count of code points is the number of its sequences. Then
-- what becomes of both where texts are put together.
use mathlib.Core.Path.{◌≡◌, refl, sym, ap, subst, subst⁻¹, ◌∙◌}
use mathlib.Core.Logic.{◌↔◌}
use mathlib.Core.Bool.{Bool, true, false, cond, false≢true}
use mathlib.Core.List.{List, [], ◌∷◌, ◌++◌}
use Rattle.std.specs.Prelude.{Option, None, Some}
use Prim.Native.Nat.{ℕ, zero, suc, ◌+◌, ◌≤◌, ◌<◌}
use native.Mathlib.Omega.{arith}
use lib.ListN.{length}
use Rattle.text.specs.Utf8.{Range, ◌to◌, table, inside, Matches, InRows, Characters, opened, after, well_formed_from, well_formed, code_points}
use Rattle.text.proofs.Table.{inside_under, begins, sequence-opens, opens-sequence, sequence-counts}

-- ---- what is due
-- Nothing mends a text that no byte can continue.
pub never-well-formed : (bytes : List ℕ) → well_formed_from None bytes ≡ false
unfolding well_formed_from
never-well-formed [] = refl
never-well-formed (byte ∷ bytes) = never-well-formed bytes

matched : (ranges : List Range) (bytes rest : List ℕ) → Matches ranges bytes → well_formed_from (Some ranges) (bytes ++ rest) ≡ well_formed_from (Some []) rest
unfolding well_formed_from
matched [] [] rest m = refl
matched (range ∷ ranges) (byte ∷ bytes) rest m =
    ap (λ (t : Bool). well_formed_from (cond t (Some ranges) None) (bytes ++ rest)) m.0 ∙ matched ranges bytes rest m.1
matched [] (byte ∷ bytes) rest m = elim m [ ]
matched (range ∷ ranges) [] rest m = elim m [ ]

-- ---- a text is well formed exactly if it is made of the table's sequences
not-empty : InRows table [] → ⊥
not-empty m = omega (arith, sequence-counts [] [] m)

one_more : (first rest : List ℕ) → InRows table first → well_formed (first ++ rest) ≡ well_formed rest
unfolding well_formed well_formed_from
one_more [] rest m = absurd (not-empty m)
one_more (byte ∷ bytes) rest m =
    let s = sequence-opens byte bytes m in
    ap (λ (due : Option (List Range)). well_formed_from due (bytes ++ rest)) s.1 ∙ matched s.0 bytes rest s.2

characters-formed : (bytes : List ℕ) (count : ℕ) → Characters bytes count → well_formed bytes ≡ true
unfolding well_formed well_formed_from
characters-formed bytes zero e = rw e
characters-formed bytes (suc count) s = rw (s.2, one_more s.0 s.1 s.3) (characters-formed s.1 count s.4)

abbrev Split : List Range → List ℕ → Type 0
Split ranges bytes =
    (first : List ℕ) × (rest : List ℕ) × (bytes ≡ first ++ rest) × Matches ranges first × (count : ℕ) × Characters rest count

split : (ranges : List Range) (bytes : List ℕ) → well_formed_from (Some ranges) bytes ≡ true → Split ranges bytes
unfolding well_formed_from
split [] [] e = ([], [], refl, tt, 0, refl)
split (range ∷ ranges) [] e = absurd (false≢true e)
split [] (byte ∷ bytes) e = go (opened table byte) refl e (λ (ranges : List Range). split ranges bytes)
  where
    go : (due : Option (List Range)) → opened table byte ≡ due → well_formed_from due bytes ≡ true
        → ((ranges : List Range) → well_formed_from (Some ranges) bytes ≡ true → Split ranges bytes) → Split [] (byte ∷ bytes)
    go None o k below = absurd (false≢true (sym (never-well-formed bytes) ∙ k))
    go (Some ranges) o k below =
        let s = below ranges k in
        ([], byte ∷ bytes, refl, tt, suc s.4, (byte ∷ s.0, s.1, ap (λ (l : List ℕ). byte ∷ l) s.2, opens-sequence byte s.0 ranges o s.3, s.5))
split (range ∷ ranges) (byte ∷ bytes) e = go (inside range byte) refl e (split ranges bytes)
  where
    go : (t : Bool) → inside range byte ≡ t → well_formed_from (cond t (Some ranges) None) bytes ≡ true
        → (well_formed_from (Some ranges) bytes ≡ true → Split ranges bytes) → Split (range ∷ ranges) (byte ∷ bytes)
    go false i k below = absurd (false≢true (sym (never-well-formed bytes) ∙ k))
    go true i k below = let s = below k in (byte ∷ s.0, s.1, ap (λ (l : List ℕ). byte ∷ l) s.2, (i, s.3), s.4, s.5)

formed-characters : (bytes : List ℕ) → well_formed bytes ≡ true → (count : ℕ) × Characters bytes count
unfolding well_formed
formed-characters bytes e = let s = split [] bytes e in go s.0 s.1 s.2 s.3 s.4 s.5
  where
    go : (first rest : List ℕ) → bytes ≡ first ++ rest → Matches [] first → (count : ℕ) → Characters rest count → (count : ℕ) × Characters bytes count
    go [] rest e m count s = (count, subst⁻¹ (λ (l : List ℕ). Characters l count) e s)
    go (_ ∷ _) rest e m count s = elim m [ ]

-- A text is well formed exactly if it is some number of the table's sequences, one after the other.
pub well-formed-characters : (bytes : List ℕ) → (well_formed bytes ≡ true) ↔ ((count : ℕ) × Characters bytes count)
well-formed-characters bytes = (formed-characters bytes, λ s. characters-formed bytes s.0 s.1)

-- ---- how many they are
-- The sequences are as many as there are bytes that do not continue a code point.
pub characters-counted : (bytes : List ℕ) (count : ℕ) → Characters bytes count → count ≡ code_points bytes
unfolding code_points
characters-counted bytes zero e = rw e
characters-counted bytes (suc count) s = rw (s.2, sequence-counts s.0 s.1 s.3) (ap suc (characters-counted s.1 count s.4))

-- So a text is made of the table's sequences in one number only.
pub characters-unique : (bytes : List ℕ) (m n : ℕ) → Characters bytes m → Characters bytes n → m ≡ n
characters-unique bytes m n s t = characters-counted bytes m s ∙ sym (characters-counted bytes n t)

-- A well-formed text has as many code points as are counted.
pub well-formed-counted : (bytes : List ℕ) → well_formed bytes ≡ true → Characters bytes (code_points bytes)
well-formed-counted bytes e =
    let s = formed-characters bytes e in
    subst (λ (count : ℕ). Characters bytes count) (characters-counted bytes s.0 s.1) s.1

-- ---- texts put together
-- The empty text is well formed.
pub empty-well-formed : well_formed [] ≡ true
unfolding well_formed well_formed_from
empty-well-formed = refl

append-from : (due : Option (List Range)) (xs ys : List ℕ) → well_formed_from due xs ≡ true → well_formed_from due (xs ++ ys) ≡ well_formed_from (Some []) ys
unfolding well_formed_from
append-from None [] ys e = absurd (false≢true e)
append-from (Some []) [] ys e = refl
append-from (Some (range ∷ ranges)) [] ys e = absurd (false≢true e)
append-from due (x ∷ xs) ys e = append-from (after due x) xs ys e

-- What follows a well-formed text decides whether the whole is well formed.
pub append-well-formed : (xs ys : List ℕ) → well_formed xs ≡ true → well_formed (xs ++ ys) ≡ well_formed ys
unfolding well_formed
append-well-formed xs ys e = append-from (Some []) xs ys e

-- Two well-formed texts, one after the other, are well formed.
pub joined-well-formed : (xs ys : List ℕ) → well_formed xs ≡ true → well_formed ys ≡ true → well_formed (xs ++ ys) ≡ true
joined-well-formed xs ys e f = append-well-formed xs ys e ∙ f

-- They have the code points of both.
pub append-code-points : (xs ys : List ℕ) → code_points (xs ++ ys) ≡ code_points xs + code_points ys
unfolding code_points
append-code-points [] ys = omega arith
append-code-points (x ∷ xs) ys = go (inside (0x80 to 0xBF) x) (append-code-points xs ys)
  where
    go : (t : Bool) → code_points (xs ++ ys) ≡ code_points xs + code_points ys
        → cond t (code_points (xs ++ ys)) (suc (code_points (xs ++ ys))) ≡ cond t (code_points xs) (suc (code_points xs)) + code_points ys
    go true e = e
    go false e = omega arith

-- A text has at most as many code points as bytes.
pub code-points-length : (bytes : List ℕ) → code_points bytes ≤ length bytes
unfolding code_points
code-points-length [] = omega arith
code-points-length (byte ∷ bytes) = go (inside (0x80 to 0xBF) byte) (code-points-length bytes)
  where
    go : (t : Bool) → code_points bytes ≤ length bytes → cond t (code_points bytes) (suc (code_points bytes)) ≤ suc (length bytes)
    go true h = omega arith
    go false h = omega arith

-- ---- ASCII
-- A byte below 0x80 before a text keeps it well formed, or not, as it was.
pub ascii-well-formed : (byte : ℕ) (bytes : List ℕ) → byte < 0x80 → well_formed (byte ∷ bytes) ≡ well_formed bytes
unfolding table well_formed well_formed_from
ascii-well-formed byte bytes h = rw (begins 0 byte refl (omega arith) (omega arith))

-- It is one code point more.
pub ascii-code-points : (byte : ℕ) (bytes : List ℕ) → byte < 0x80 → code_points (byte ∷ bytes) ≡ suc (code_points bytes)
unfolding code_points
ascii-code-points byte bytes h = rw (inside_under 0x80 0xBF byte h)
