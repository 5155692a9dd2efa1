-- Pairs that need no number line and no order: what decides them at once says what is seen of them. Assumes nothing.
use mathlib.Core.Path.{◌≡◌, refl, sym, ap, ◌∙◌}
use mathlib.Core.Bool.{Bool, true, false}
use mathlib.Core.List.{List}
use Prim.Native.Nat.{ℕ}
use lib.Dec.{eqb}
use lib.IntN.{ℤ}
use mir.Syntax.{w64}
use mir.Val.{SFits, to_z, of_z}
use mir.ValLaws.{to_z-of_z}
use borrow.Author.Tests.{eq-eqb, eqb-true}
use Rattle.text.specs.Bytes.{equal_of}
use Rattle.text.proofs.BytesLaws.{equal-decides}
use Rattle.meaning.specs.Value.{int, string, bytes, int_key, string_key, key_scalar}
use Rattle.meaning.specs.Comparison.{scalar_equal}
use Rattle.rooms_comparison.proofs.ScalarLaws.{string-same, bytes_same}
use Rattle.rooms_comparison.proofs.KeyMatches.{found-matches, matches-found}

one_truth : (p q : Bool) → (p ≡ true → q ≡ true) → (q ≡ true → p ≡ true) → p ≡ q
one_truth true q h k = sym (h refl)
one_truth false true h k = k refl
one_truth false false h k = refl

-- Two Ints are one point of the number line exactly if they are the same word.
pub int_same : (a b : ℤ) → SFits w64 a → SFits w64 b → eqb (of_z w64 a) (of_z w64 b) ≡ scalar_equal (int a) (int b)
unfolding key_scalar
int_same a b f g =
    one_truth (eqb (of_z w64 a) (of_z w64 b)) (scalar_equal (int a) (int b))
    (λ e. matches-found (int_key a) (int_key b) (sym (to_z-of_z w64 a f) ∙ ap (to_z w64) (eqb-true (of_z w64 a) (of_z w64 b) e) ∙ to_z-of_z w64 b g))
    (λ e. eq-eqb (of_z w64 a) (of_z w64 b) (ap (of_z w64) (found-matches (int_key a) (int_key b) e)))

-- Two Strings are equal exactly if they are the same bytes.
pub text_same : (s t : List ℕ) → equal_of s t ≡ scalar_equal (string s) (string t)
unfolding key_scalar
text_same s t =
    one_truth (equal_of s t) (scalar_equal (string s) (string t))
    (λ e. matches-found (string_key s) (string_key t) ((equal-decides s t).0 e))
    (λ e. (equal-decides s t).1 (found-matches (string_key s) (string_key t) e))

pub bytes_equal : (s t : List ℕ) → equal_of s t ≡ scalar_equal (bytes s) (bytes t)
bytes_equal s t = text_same s t ∙ sym (string-same s t) ∙ bytes_same s t
