-- What lent memory holds at first: in every word and every byte a value that no evaluation leaves by chance.
use Rattle.std.specs.Prelude.{ℕ, Bool, true, ◌&&◌, List, [], ◌∷◌, eqb}

-- 0xA5 in each byte
abbrev pub lent_word : ℕ
lent_word = 11936128518282651045

abbrev pub lent_byte : ℕ
lent_byte = 165

-- whether each element of a list is this one
unfoldable pub all_are : ℕ → List ℕ → Bool
all_are x [] = true
all_are x (y ∷ ys) = eqb y x && all_are x ys
