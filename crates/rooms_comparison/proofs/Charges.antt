-- What a count of pairs comes to under a limit, for tallies joined as the definition joins them. Assumes nothing.
use Prim.Native.Nat.{ℕ, zero, suc, ◌+◌, ◌≤◌, ◌<◌}
use mathlib.Core.Path.{◌≡◌, refl, sym, ◌∙◌, ap, fun_ext}
use mathlib.Core.Bool.{Bool, true, false, cond}
use native.Mathlib.Omega.{arith}
use lib.Dec.{ltb}
use borrow.Author.Tests.{lt-ltb, ltb-true, ltb-false}
use Rattle.meaning.specs.Comparison.{Tally, tick, both, either}
use Rattle.rooms_comparison.specs.declared.pairs.Pairs.{Pairs}
use Rattle.rooms_comparison.specs.declared.lookup.Found.{Found}
use Rattle.rooms_comparison.specs.LookUp.{pair_found}
use Rattle.rooms_comparison.specs.Equality.{pair, decided, and_then, where_found, or_else, pays, paid, pays_found}

pub pays-add : (limit k n m : ℕ) (f : ℕ → Pairs) → pays limit k (n + m) f ≡ pays limit k n (λ j. pays limit j m f)
pays-add limit k zero m f = ap (λ x. pays limit k x f) (left m)
  where
    left : (a : ℕ) → 0 + a ≡ a
    left a = omega arith
pays-add limit k (suc n) m f = ap (λ x. pays limit k x f) (shift n m) ∙ ap (pair (ltb k limit) k) (pays-add limit (suc k) n m f)
  where
    shift : (a b : ℕ) → suc a + b ≡ suc (a + b)
    shift a b = omega arith

-- what goes on after charges goes on after the last of them
pays-then : (g : Pairs → Pairs) → ((k : ℕ) → g (Pairs.Out k) ≡ Pairs.Out k) → (limit k n : ℕ) (f : ℕ → Pairs) → g (pays limit k n f) ≡ pays limit k n (λ j. g (f j))
pays-then g e limit k zero f = refl
pays-then g e limit k (suc n) f = go (ltb k limit) (pays-then g e limit (suc k) n f)
  where
    go : (b : Bool) → g (pays limit (suc k) n f) ≡ pays limit (suc k) n (λ j. g (f j)) → g (pair b k (pays limit (suc k) n f)) ≡ pair b k (pays limit (suc k) n (λ j. g (f j)))
    go true h = h
    go false h = e k

pub pays-found : (g : ℕ → ℕ → Pairs) (limit k n : ℕ) (f : ℕ → Found) → where_found (pays_found limit k n f) g ≡ pays limit k n (λ j. where_found (f j) g)
pays-found g limit k zero f = refl
pays-found g limit k (suc n) f = go (ltb k limit) (pays-found g limit (suc k) n f)
  where
    go : (b : Bool) → where_found (pays_found limit (suc k) n f) g ≡ pays limit (suc k) n (λ j. where_found (f j) g) → where_found (pair_found b k (pays_found limit (suc k) n f)) g ≡ pair b k (pays limit (suc k) n (λ j. where_found (f j) g))
    go true h = h
    go false h = refl

-- pairs that go on where they are equal
pub both-paid : (limit k : ℕ) (t u : Tally Bool) (f : ℕ → Pairs) → ((j : ℕ) → f j ≡ paid limit j u) → and_then (paid limit k t) f ≡ paid limit k (both t u)
unfolding paid both
both-paid limit k t u f h = pays-then (λ p. and_then p f) (λ j. refl) limit k t.0 (decided t.1) ∙ go t.1
  where
    go : (b : Bool) → pays limit k t.0 (λ j. and_then (decided b j) f) ≡ paid limit k (cond b (t.0 + u.0, u.1) (t.0, b))
    go true = ap (pays limit k t.0) (fun_ext h) ∙ sym (pays-add limit k t.0 u.0 (decided u.1))
    go false = refl

-- and where they are not
pub either-paid : (limit k : ℕ) (t u : Tally Bool) (f : ℕ → Pairs) → ((j : ℕ) → f j ≡ paid limit j u) → or_else (paid limit k t) f ≡ paid limit k (either t u)
unfolding paid either
either-paid limit k t u f h = pays-then (λ p. or_else p f) (λ j. refl) limit k t.0 (decided t.1) ∙ go t.1
  where
    go : (b : Bool) → pays limit k t.0 (λ j. or_else (decided b j) f) ≡ paid limit k (cond b (t.0, b) (t.0 + u.0, u.1))
    go true = refl
    go false = ap (pays limit k t.0) (fun_ext h) ∙ sym (pays-add limit k t.0 u.0 (decided u.1))

-- a pair more, first
pub tick-paid : (limit k : ℕ) (t : Tally Bool) → pair (ltb k limit) k (paid limit (suc k) t) ≡ paid limit k (tick t)
unfolding paid tick
tick-paid limit k t = refl

-- A count that stays within the limit comes to the answer, one pair after the other.
pub paid-within : (limit k n : ℕ) (b : Bool) → k + n ≤ limit → paid limit k (n, b) ≡ decided b (k + n)
unfolding paid
paid-within limit k zero b h = ap (decided b) (plus-zero k)
  where
    plus-zero : (a : ℕ) → a ≡ a + 0
    plus-zero a = omega arith
paid-within limit k (suc n) b h = ap (λ t. pair t k (pays limit (suc k) n (decided b))) (lt-ltb k limit (omega arith)) ∙ paid-within limit (suc k) n b (omega arith) ∙ ap (decided b) (shift k n)
  where
    shift : (a i : ℕ) → suc a + i ≡ a + suc i
    shift a i = omega arith

-- A count that would pass the limit comes to `Out` at the limit, whatever the answer would have been.
pub paid-over : (limit k n : ℕ) (b : Bool) → k ≤ limit → limit < k + n → paid limit k (n, b) ≡ Pairs.Out limit
unfolding paid
paid-over limit k zero b h l = absurd (omega arith)
paid-over limit k (suc n) b h l = go (ltb k limit) refl (λ m. paid-over limit (suc k) n b m (omega arith))
  where
    last : limit ≤ k → k ≡ limit
    last m = omega arith

    go : (t : Bool) → ltb k limit ≡ t → (suc k ≤ limit → pays limit (suc k) n (decided b) ≡ Pairs.Out limit) → pair t k (pays limit (suc k) n (decided b)) ≡ Pairs.Out limit
    go true e m = m (ltb-true k limit e)
    go false e m = ap Pairs.Out (last (ltb-false k limit e))
