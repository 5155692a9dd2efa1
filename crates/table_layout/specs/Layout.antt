-- Where things stand in a table, by the definition's kinds, fields and words, at the width that the definition names, `word_bytes`.
use Rattle.std.specs.Prelude.{ℕ, ◌+◌, ◌^◌, List, ◌∷◌, get_or}
use Rattle.meaning.specs.Limits.{byte_numbers}
use Rattle.meaning.specs.Kinds.{byte, word, Row, mark_row, kinds}
use Rattle.meaning.specs.Heads.{fields_bytes, little_endian}
use Rattle.meaning.specs.Table.{word_bytes}

-- from a record's place to its first field: a kind and an extent
abbrev pub fields_at : ℕ
fields_at = 1 + word_bytes

-- words are the numbers below this one
abbrev pub word_numbers : ℕ
word_numbers = byte_numbers ^ word_bytes

-- kinds are the bytes below this one
abbrev pub kind_numbers : ℕ
kind_numbers = 17

-- the row of a kind byte; the mark's where there is none
unfoldable pub row_of : ℕ → Row
row_of b = get_or kinds b mark_row

-- from a record's place to its first operand
unfoldable pub head_bytes : ℕ → ℕ
head_bytes b = fields_bytes word_bytes (byte ∷ word ∷ (row_of b).fields)

unfoldable pub word_at : List ℕ → ℕ → ℕ
word_at t p = little_endian word_bytes t word_bytes p

-- where the record at a place ends
abbrev pub after : List ℕ → ℕ → ℕ
after t p = p + word_at t (p + 1)

-- a number of 8 bytes
abbrev pub long_at : List ℕ → ℕ → ℕ
long_at t i = little_endian word_bytes t 8 i
