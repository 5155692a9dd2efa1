-- Numbers and spaces as words: the steps of the code, and that a word gives back its number. Assumes nothing.
use mathlib.Core.Path.{◌≡◌, refl, ap, ◌∙◌}
use mathlib.Core.Bool.{true, false, true≢false}
use Prim.Native.Nat.{ℕ, ◌-◌, ◌^◌, ◌≤◌, ◌<◌}
use native.Mathlib.Omega.{arith}
use lib.IntN.{ℤ, pos, negsuc, neg_ℤ, nat_abs, ◌-ℤ◌, -ℤ_one}
use lib.Signed.{mag, lt_z}
use borrow.Author.Tests.{lt-ltb, le-ltb, ltb-true}
use borrow.Author.Rules.{sfits_of}
use mir.Syntax.{w64}
use mir.Val.{to_z, of_z}
use mir.ValLaws.{to_z-of_z}
use Rattle.numbers.proofs.IntMag.{pred-neg, minus}
use Rattle.rooms.specs.declared.value.TextSpace.{TextSpace}
use Rattle.rooms.specs.declared.value.TextSpace.TheVariants as Text
use Rattle.rooms.specs.declared.value.CellSpace.{CellSpace}
use Rattle.rooms.specs.declared.value.CellSpace.TheVariants as Cells
use Rattle.rooms.specs.Cells.{word_of, signed_of, text_number, cell_number}

pub text-small : (s : TextSpace) → text_number s < 256
text-small Text.Literal = omega arith
text-small Text.Binding = omega arith
text-small Text.Evaluation = omega arith

pub cell-small : (s : CellSpace) → cell_number s < 256
cell-small Cells.Binding = omega arith
cell-small Cells.Evaluation = omega arith

-- ---- an Int to its word

pub word-negative : (z : ℤ) → lt_z z (pos 0) ≡ true → 2 ^ 64 - 1 - mag z ≡ word_of z
unfolding word_of
word-negative (pos n) t = absurd (never n (ltb-true n 0 t))
  where
    never : (n : ℕ) → n < 0 → ⊥
    never n h = omega arith
word-negative (negsuc n) t = refl

pub word-positive : (z : ℤ) → lt_z z (pos 0) ≡ false → nat_abs z ≡ word_of z
unfolding word_of
word-positive (pos n) t = refl
word-positive (negsuc n) t = absurd (true≢false t)

-- ---- a word to its Int

pub below-zero : (k : ℕ) → k < 2 ^ 63 → to_z w64 (of_z w64 (to_z w64 (of_z w64 (pos 0 -ℤ to_z w64 k)) -ℤ pos 1)) ≡ negsuc k
below-zero k h = rw (minus k h, -ℤ_one (neg_ℤ (pos k)), pred-neg k) (to_z-of_z w64 (negsuc k) (sfits_of h))

pub signed_below : (w : ℕ) → w < 2 ^ 63 → signed_of w ≡ pos w
unfolding signed_of
signed_below w h = rw (lt-ltb w (2 ^ 63) h)

pub signed_above : (w : ℕ) → 2 ^ 63 ≤ w → signed_of w ≡ negsuc (2 ^ 64 - 1 - w)
unfolding signed_of
signed_above w h = rw (le-ltb w (2 ^ 63) h)

-- ---- and back

pub signed_back : (z : ℤ) → mag z < 2 ^ 63 → signed_of (word_of z) ≡ z
unfolding word_of
signed_back (pos n) h = signed_below n h
signed_back (negsuc n) h = signed_above (2 ^ 64 - 1 - n) (omega arith) ∙ ap negsuc (twice n h)
  where
    twice : (n : ℕ) → n < 2 ^ 63 → 2 ^ 64 - 1 - (2 ^ 64 - 1 - n) ≡ n
    twice n h = omega arith
