-- The order of texts by their bytes, and the decision whether two are the same. A text is any list of numbers.
use Rattle.std.specs.Prelude.{Bool, true, false, ◌&&◌, List, [], ◌∷◌, ℕ, eqb}
use Rattle.std.specs.Ordering.{nat_cmp, ordering_then}
use Rattle.std.specs.declared.cmp.Ordering.{Ordering}
use Rattle.std.specs.declared.cmp.Ordering.TheVariants.{Less, Equal, Greater}

-- The first byte that differs decides. A text comes before every longer one that it begins.
unfoldable pub order_of : List ℕ → List ℕ → Ordering
order_of [] [] = Equal
order_of [] (y ∷ ys) = Less
order_of (x ∷ xs) [] = Greater
order_of (x ∷ xs) (y ∷ ys) = ordering_then (nat_cmp x y) (order_of xs ys)

-- as many bytes, and the same at each place
unfoldable pub equal_of : List ℕ → List ℕ → Bool
equal_of [] [] = true
equal_of [] (y ∷ ys) = false
equal_of (x ∷ xs) [] = false
equal_of (x ∷ xs) (y ∷ ys) = eqb x y && equal_of xs ys
