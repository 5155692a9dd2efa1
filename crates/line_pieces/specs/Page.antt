-- Text put into lent memory, a byte after the other.
use Rattle.std.specs.Prelude.{ℕ, suc, cond, List, [], ◌∷◌, ◌++◌, ltb, length, set}

-- where the next byte goes, and the memory
abbrev pub Page : Type 0
Page = ℕ × List ℕ

-- a byte that finds no room is left out
unfoldable pub put : ℕ → Page → Page
put b p = cond (ltb p.0 (length p.1)) (suc p.0, set p.1 p.0 b) p

unfoldable pub puts : List ℕ → Page → Page
puts [] p = p
puts (b ∷ bs) p = puts bs (put b p)

-- the next byte goes between the two
abbrev pub between : List ℕ → List ℕ → Page
between w b = (length w, w ++ b)
