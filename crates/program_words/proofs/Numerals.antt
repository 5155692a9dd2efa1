-- Decimal digits, read place by place. Assumes nothing.
use Rattle.std.proofs.Common.{◌≡◌, refl, ℕ, ◌≤◌, Bool, true, false, ◌&&◌, None, List, [], ◌∷◌, length, leb, arith}
use borrow.Author.Tests.{le-leb, leb-true}
use Rattle.program_words.specs.Decimal.{number_from, number_of}

-- ---- a byte between two others

pub inside : (a b x : ℕ) → a ≤ x → x ≤ b → (leb a x && leb x b) ≡ true
inside a b x h k = rw (le-leb a x h, le-leb x b k)

pub outside : (a b x : ℕ) → (a ≤ x → x ≤ b → ⊥) → (leb a x && leb x b) ≡ false
outside a b x n = go (leb a x) (leb x b) refl refl
  where
    go : (s t : Bool) → leb a x ≡ s → leb x b ≡ t → (s && t) ≡ false
    go true true e f = absurd (n (leb-true a x e) (leb-true x b f))
    go true false e f = refl
    go false t e f = refl

-- ---- a word

pub number_none : (l : List ℕ) → length l ≡ 0 → None ≡ number_of l
unfolding number_of
number_none [] h = refl
number_none (x ∷ xs) h = absurd (omega arith)

pub number_some : (l : List ℕ) → ¬ (length l ≡ 0) → number_from 0 l ≡ number_of l
unfolding number_of
number_some [] h = absurd (h refl)
number_some (x ∷ xs) h = refl
