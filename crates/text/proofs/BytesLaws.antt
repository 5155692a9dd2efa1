-- The order of texts is a total order, in which a text comes before those that it begins, and `equal_of` decides whether two
-- texts are the same bytes. Both are what std compares slices of bytes by.
use Rattle.std.proofs.Common.{◌≡◌, ◌↔◌, ℕ, ◌<◌, List, [], ◌∷◌, ◌++◌, ◌&&◌, true, eqb, nat_eq, refl, sym, ◌∙◌, ap}
use Rattle.std.specs.Cmp.{nat_cmp_is}
use Rattle.std.specs.Cmp.Lexicographic.{slice_cmp, pointwise, nat_list_cmp_total, bytes_decides}
use Rattle.std.specs.Ordering.{nat_cmp, ordering_then, ordering_reverse}
use Rattle.std.specs.declared.cmp.Ordering.TheVariants.{Less, Equal, Greater}
use Rattle.std.proofs.lemmas.Map.Lookups.{exact_bytes}
use Rattle.text.specs.Bytes.{order_of, equal_of}

-- ---- std's own comparisons
pub by_bytes : (xs ys : List ℕ) → slice_cmp nat_cmp xs ys ≡ order_of xs ys
unfolding order_of
by_bytes [] [] = refl
by_bytes [] (y ∷ ys) = refl
by_bytes (x ∷ xs) [] = refl
by_bytes (x ∷ xs) (y ∷ ys) = ap (ordering_then (nat_cmp x y)) (by_bytes xs ys)

pub pointwise_equal : (xs ys : List ℕ) → pointwise nat_eq xs ys ≡ equal_of xs ys
unfolding equal_of
pointwise_equal [] [] = refl
pointwise_equal [] (y ∷ ys) = refl
pointwise_equal (x ∷ xs) [] = refl
pointwise_equal (x ∷ xs) (y ∷ ys) = ap (λ t. eqb x y && t) (pointwise_equal xs ys)

-- ---- the first bytes
-- Where the first bytes differ they decide, and where they are the same the rest does.
module _ (x y : ℕ) (xs ys : List ℕ) where
  pub first-less : x < y → order_of (x ∷ xs) (y ∷ ys) ≡ Less
  unfolding order_of
  first-less h = rw (← nat_cmp_is x y Less h)

  pub first-greater : y < x → order_of (x ∷ xs) (y ∷ ys) ≡ Greater
  unfolding order_of
  first-greater h = rw (← nat_cmp_is x y Greater h)

  pub first-same : x ≡ y → order_of (x ∷ xs) (y ∷ ys) ≡ order_of xs ys
  unfolding order_of
  first-same e = rw (← nat_cmp_is x y Equal e)

-- ---- the order of texts
-- A text is equal to itself.
pub order_same : (xs : List ℕ) → order_of xs xs ≡ Equal
unfolding order_of
order_same [] = refl
order_same (x ∷ xs) = first-same x x xs xs refl ∙ order_same xs

-- Two texts are equal in the order exactly if they are the same bytes.
pub order-equal : (xs ys : List ℕ) → (order_of xs ys ≡ Equal) ↔ (xs ≡ ys)
order-equal xs ys = (λ e. exact_bytes xs ys (by_bytes xs ys ∙ e), λ e. rw (← e) (order_same xs))

-- Swapped texts stand the other way round.
pub order-flipped : (xs ys : List ℕ) → order_of ys xs ≡ ordering_reverse (order_of xs ys)
order-flipped xs ys = rw (← by_bytes xs ys, ← by_bytes ys xs) (nat_list_cmp_total.antisymm ys xs)

-- A text before another comes before all that the other comes before.
pub order-transitive : (xs ys zs : List ℕ) → order_of xs ys ≡ Less → order_of ys zs ≡ Less → order_of xs zs ≡ Less
order-transitive xs ys zs p q = sym (by_bytes xs zs) ∙ nat_list_cmp_total.trans xs ys zs (by_bytes xs ys ∙ p) (by_bytes ys zs ∙ q)

-- A text comes before every longer one that it begins.
pub order-prefix : (xs : List ℕ) (y : ℕ) (ys : List ℕ) → order_of xs (xs ++ y ∷ ys) ≡ Less
unfolding order_of
order-prefix [] y ys = refl
order-prefix (x ∷ xs) y ys = first-same x x xs (xs ++ y ∷ ys) refl ∙ order-prefix xs y ys

-- ---- the decision of equality
-- The decision says true exactly if the two texts are the same bytes.
pub equal-decides : (xs ys : List ℕ) → (equal_of xs ys ≡ true) ↔ (xs ≡ ys)
equal-decides xs ys = rw (← pointwise_equal xs ys) (bytes_decides xs ys)
