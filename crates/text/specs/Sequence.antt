-- One sequence of the table: how many bytes it has, and the range of its second byte.
use Rattle.std.specs.Prelude.{Bool, true, false, cond, ◌&&◌, List, [], ◌∷◌, ℕ, suc, eqb, length, Option, None, Some}
use Rattle.text.specs.Utf8.{Range, ◌to◌, table, inside, opened}

-- the bytes begin with one inside each of the ranges
unfoldable pub fits : List Range → List ℕ → Bool
fits [] bytes = true
fits (range ∷ ranges) [] = false
fits (range ∷ ranges) (byte ∷ bytes) = inside range byte && fits ranges bytes

-- the length of a sequence whose first byte opens these ranges, from the bytes behind it
abbrev pub sized : Option (List Range) → List ℕ → Option ℕ
sized None bytes = None
sized (Some ranges) bytes = cond (fits ranges bytes) (Some (suc (length ranges))) None

-- the length of the sequence that a text begins with
unfoldable pub sequence_of : List ℕ → Option ℕ
sequence_of [] = None
sequence_of (byte ∷ bytes) = sized (opened table byte) bytes

-- the range of the second byte of a sequence of three or four, from the first
abbrev pub second_of : ℕ → Range
second_of first =
    cond (eqb first 0xE0) (0xA0 to 0xBF) (cond (eqb first 0xED) (0x80 to 0x9F) (cond (eqb first 0xF0) (0x90 to 0xBF) (cond (eqb first 0xF4) (0x80 to 0x8F) (0x80 to 0xBF))))
