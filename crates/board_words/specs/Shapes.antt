-- What a value is by itself, as six words: its kind, its number, where its text lies, how many parts it has. And the two words of a part.
use Rattle.std.specs.Prelude.{ℕ, Bool, Option, None, Some, List, [], ◌∷◌, ◌++◌}
use Rattle.rooms.specs.declared.value.Value.{Value}
use Rattle.rooms.specs.declared.value.Span.{Span}
use Rattle.rooms.specs.Value.{plain_of, parts_of}
use Rattle.rooms.specs.Cells.{bit_of, word_of, text_number, head_of, payload_of}
use Rattle.answer_values.specs.declared.numeric.Numeric.{Numeric}
use Rattle.answer_values.specs.Kinds.{kind_of, truth_in}
use Rattle.answer_values.specs.Numbers.{number_in}
use Rattle.answer_values.specs.SpansAndCounts.{span_in, count_in}

-- a Bool as 0 or 1
abbrev pub number_or : Option Numeric → ℕ
number_or (Some (Numeric.Int z)) = word_of z
number_or (Some (Numeric.Uint n)) = n
number_or (Some (Numeric.Bits d)) = d
number_or None = 0

abbrev pub truth_or : Option Bool → (other : ℕ) → ℕ
truth_or (Some b) other = bit_of b
truth_or None other = other

-- a Bool as 0 or 1, an Int in two's complement, a Uint, a Double by its bits; of anything else 0
abbrev pub number_word : Value → ℕ
number_word v = truth_or (truth_in (plain_of v)) (number_or (number_in (plain_of v)))

-- the space, the first byte and the length; of anything else than text 0
abbrev pub span_words : Option Span → List ℕ
span_words (Some sp) = text_number sp.space ∷ sp.first ∷ sp.length ∷ []
span_words None = 0 ∷ 0 ∷ 0 ∷ []

abbrev pub shape_of : Value → List ℕ
shape_of v = kind_of v ∷ number_word v ∷ (span_words (span_in (plain_of v)) ++ count_in (parts_of v) ∷ [])

abbrev pub part_of : Value → List ℕ
part_of v = head_of v ∷ payload_of v ∷ []
