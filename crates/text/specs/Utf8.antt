-- UTF-8, from Unicode's table 3-7 of well-formed byte sequences: the table; what a text made of its sequences is; the test
-- that the code's contract cites; and the count of code points. A text is any list of numbers.
use Rattle.std.specs.Prelude.{◌≡◌, ◌⊎◌, Bool, true, false, cond, ◌&&◌, List, [], ◌∷◌, ◌++◌, ℕ, zero, suc, leb, Option, None, Some}

infix 80 ◌to◌
-- the numbers from the first to the second, both included
pub data Range : Type 0 where
  ◌to◌ : ℕ → ℕ → Range

-- a row for each form of sequence, in it a range for each byte
unfoldable pub table : List (List Range)
table =
    (0x00 to 0x7F ∷ [])
    ∷ (0xC2 to 0xDF ∷ 0x80 to 0xBF ∷ [])
    ∷ (0xE0 to 0xE0 ∷ 0xA0 to 0xBF ∷ 0x80 to 0xBF ∷ [])
    ∷ (0xE1 to 0xEC ∷ 0x80 to 0xBF ∷ 0x80 to 0xBF ∷ [])
    ∷ (0xED to 0xED ∷ 0x80 to 0x9F ∷ 0x80 to 0xBF ∷ [])
    ∷ (0xEE to 0xEF ∷ 0x80 to 0xBF ∷ 0x80 to 0xBF ∷ [])
    ∷ (0xF0 to 0xF0 ∷ 0x90 to 0xBF ∷ 0x80 to 0xBF ∷ 0x80 to 0xBF ∷ [])
    ∷ (0xF1 to 0xF3 ∷ 0x80 to 0xBF ∷ 0x80 to 0xBF ∷ 0x80 to 0xBF ∷ [])
    ∷ (0xF4 to 0xF4 ∷ 0x80 to 0x8F ∷ 0x80 to 0xBF ∷ 0x80 to 0xBF ∷ [])
    ∷ []

unfoldable pub inside : Range → ℕ → Bool
inside (low to high) byte = leb low byte && leb byte high

-- as many bytes as ranges, each inside its own
abbrev pub Matches : List Range → List ℕ → Type 0
Matches [] [] = Unit {0}
Matches [] (byte ∷ bytes) = ⊥
Matches (range ∷ ranges) [] = ⊥
Matches (range ∷ ranges) (byte ∷ bytes) = (inside range byte ≡ true) × Matches ranges bytes

-- one of the rows matches the bytes
abbrev pub InRows : List (List Range) → List ℕ → Type 0
InRows [] bytes = ⊥
InRows (row ∷ rows) bytes = Matches row bytes ⊎ InRows rows bytes

-- the bytes are sequences of the table, one after the other; the number is how many
abbrev pub Characters : List ℕ → ℕ → Type 0
Characters bytes zero = bytes ≡ []
Characters bytes (suc count) =
    (first : List ℕ) × (rest : List ℕ) × (bytes ≡ first ++ rest) × InRows table first × Characters rest count

-- what is due after a sequence's first byte: the rest of the first row that begins with it; `none` where no row does
unfoldable pub opened : List (List Range) → ℕ → Option (List Range)
opened [] byte = None
opened ([] ∷ rows) byte = opened rows byte
opened ((range ∷ ranges) ∷ rows) byte = cond (inside range byte) (Some ranges) (opened rows byte)

-- what is due after one more byte, from what was due before it
abbrev pub after : Option (List Range) → ℕ → Option (List Range)
after None byte = None
after (Some []) byte = opened table byte
after (Some (range ∷ ranges)) byte = cond (inside range byte) (Some ranges) None

-- a text may end where nothing is due
abbrev pub complete : Option (List Range) → Bool
complete None = false
complete (Some []) = true
complete (Some (range ∷ ranges)) = false

-- every byte meets what is due before it, and nothing is due after the last
unfoldable pub well_formed_from : Option (List Range) → List ℕ → Bool
well_formed_from due [] = complete due
well_formed_from due (byte ∷ bytes) = well_formed_from (after due byte) bytes

unfoldable pub well_formed : List ℕ → Bool
well_formed bytes = well_formed_from (Some []) bytes

-- How many of the bytes do not continue a code point, as those from 0x80 to 0xBF do. In well-formed text that is how many
-- code points there are.
unfoldable pub code_points : List ℕ → ℕ
code_points [] = 0
code_points (byte ∷ bytes) = cond (inside (0x80 to 0xBF) byte) (code_points bytes) (suc (code_points bytes))
