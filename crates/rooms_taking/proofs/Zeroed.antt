-- Elements that became 0: those that were named, and no other. So clearing clears what was used and touches nothing else. Assumes nothing.
use Prim.Native.Nat.{ℕ, zero, suc, ◌+◌, ◌*◌, ◌/◌, ◌≤◌, ◌<◌, min}
use mathlib.Core.Path.{◌≡◌, refl, ap, ◌∙◌}
use mathlib.Core.Bool.{Bool, true, false}
use mathlib.Core.List.{List}
use native.Mathlib.Omega.{arith}
use lib.Dec.{ltb}
use lib.ListN.{length, get_or, set, length-set}
use lib.Seq.{get_or-set_same, get_or-set_other}
use borrow.Author.Tests.{ltb-true, ltb-false}
use Rattle.rooms_taking.specs.Taking.{zeroed, cells_cleared, bytes_cleared}

pub zeroed-length : (w : List ℕ) (a n : ℕ) → length (zeroed w a n) ≡ length w
unfolding zeroed
zeroed-length w a zero = refl
zeroed-length w a (suc n) = zeroed-length (set w a 0) (suc a) n ∙ length-set w a 0

pub zeroed-below : (w : List ℕ) (a n i : ℕ) → i < a → get_or (zeroed w a n) i 0 ≡ get_or w i 0
unfolding zeroed
zeroed-below w a zero i h = refl
zeroed-below w a (suc n) i h = zeroed-below (set w a 0) (suc a) n i (omega arith) ∙ get_or-set_other w a i 0 0 (omega arith)

pub zeroed-at : (w : List ℕ) (a n i : ℕ) → a ≤ i → i < a + n → a + n ≤ length w → get_or (zeroed w a n) i 0 ≡ 0
unfolding zeroed
zeroed-at w a zero i h l f = absurd (omega arith)
zeroed-at w a (suc n) i h l f = go (ltb a i) refl (λ m. zeroed-at (set w a 0) (suc a) n i m (omega arith) (omega (arith, length-set w a 0)))
  where
    go : (b : Bool) → ltb a i ≡ b → (suc a ≤ i → get_or (zeroed (set w a 0) (suc a) n) i 0 ≡ 0) → get_or (zeroed (set w a 0) (suc a) n) i 0 ≡ 0
    go true e k = k (omega (arith, ltb-true a i e))
    go false e k = zeroed-below (set w a 0) (suc a) n i (omega (arith, ltb-false a i e)) ∙ ap (λ j. get_or (set w a 0) j 0) (first (ltb-false a i e)) ∙ get_or-set_same w a 0 0 (omega arith)
      where
        first : i ≤ a → i ≡ a
        first m = omega arith

pub zeroed-above : (w : List ℕ) (a n i : ℕ) → a + n ≤ i → get_or (zeroed w a n) i 0 ≡ get_or w i 0
unfolding zeroed
zeroed-above w a zero i h = refl
zeroed-above w a (suc n) i h = zeroed-above (set w a 0) (suc a) n i (omega arith) ∙ get_or-set_other w a i 0 0 (omega arith)

-- Both words of each cell in use are 0 after clearing, and every word above them is as it was.
pub cleared-words : (w : List ℕ) (used i : ℕ) → used ≤ length w / 2 → i < used * 2 → get_or (cells_cleared w used) i 0 ≡ 0
unfolding cells_cleared
cleared-words w used i h l = zeroed-at w 0 (min used (length w / 2) * 2) i (omega arith) (omega arith) (omega arith)

pub kept-words : (w : List ℕ) (used i : ℕ) → used * 2 ≤ i → get_or (cells_cleared w used) i 0 ≡ get_or w i 0
unfolding cells_cleared
kept-words w used i h = zeroed-above w 0 (min used (length w / 2) * 2) i (omega arith)

pub cleared-bytes : (t : List ℕ) (used i : ℕ) → used ≤ length t → i < used → get_or (bytes_cleared t used) i 0 ≡ 0
unfolding bytes_cleared
cleared-bytes t used i h l = zeroed-at t 0 (min used (length t)) i (omega arith) (omega arith) (omega arith)

pub kept-bytes : (t : List ℕ) (used i : ℕ) → used ≤ i → get_or (bytes_cleared t used) i 0 ≡ get_or t i 0
unfolding bytes_cleared
kept-bytes t used i h = zeroed-above t 0 (min used (length t)) i (omega arith)
