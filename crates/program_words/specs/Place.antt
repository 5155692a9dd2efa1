-- Where a byte stands first.
use Rattle.std.specs.Prelude.{ℕ, suc, ◌+◌, min, cond, List, [], ◌∷◌, eqb, length, drop}

-- the end where there is none
unfoldable pub place_of : ℕ → List ℕ → ℕ
place_of b [] = 0
place_of b (x ∷ xs) = cond (eqb x b) 0 (suc (place_of b xs))

-- from a place on
abbrev pub place_from : ℕ → List ℕ → ℕ → ℕ
place_from b l from = min from (length l) + place_of b (drop from l)
