-- A value as two words, a head and a payload, and a cell of a list of words.
-- In order: numbers and spaces as words; a value's words; the value of two words; a cell read and written.
use Rattle.std.specs.Prelude.{ℕ, Option, None, Some, ◌+◌, ◌-◌, ◌*◌, ◌/◌, ◌%◌, ◌^◌, ◌<◌, List, Bool, true, false, cond, ltb, eqb, T, ℤ, pos, negsuc, length, get_or, set}
use Rattle.std.specs.Float.{binary64}
use Rattle.std.specs.Float.Ieee.{fits}
use Rattle.std.specs.Int.Signed.{mag}
use Rattle.numbers.specs.declared.double.Double.TheVariants.{Plain}
use Rattle.numbers.specs.Double.{bits_of, double_of}
use Rattle.rooms.specs.declared.value.Value.{Value}
use Rattle.rooms.specs.declared.value.TextSpace.{TextSpace}
use Rattle.rooms.specs.declared.value.TextSpace.TheVariants as Text
use Rattle.rooms.specs.declared.value.CellSpace.{CellSpace}
use Rattle.rooms.specs.declared.value.CellSpace.TheVariants as Cells
use Rattle.rooms.specs.declared.value.Span.{Span}
use Rattle.rooms.specs.declared.value.Row.{Row}
use Rattle.rooms.specs.Value.{double_value}
use Rattle.rooms.specs.Spans.{span, row}

-- ---- numbers and spaces

-- two's complement: -(n + 1) is 2 ^ 64 - 1 - n
unfoldable pub word_of : ℤ → ℕ
word_of (pos n) = n
word_of (negsuc n) = 2 ^ 64 - 1 - n

unfoldable pub signed_of : ℕ → ℤ
signed_of w = cond (ltb w (2 ^ 63)) (pos w) (negsuc (2 ^ 64 - 1 - w))

abbrev pub bit_of : Bool → ℕ
bit_of true = 1
bit_of false = 0

abbrev pub text_number : TextSpace → ℕ
text_number Text.Literal = 0
text_number Text.Binding = 1
text_number Text.Evaluation = 2

abbrev pub cell_number : CellSpace → ℕ
cell_number Cells.Binding = 0
cell_number Cells.Evaluation = 1

-- ---- the words of a value

-- the kind below 2 ^ 8, the space below 2 ^ 16, the nesting below 2 ^ 24, then the length
unfoldable pub packed : (kind space nesting length : ℕ) → ℕ
packed k s d n = k + s * 2 ^ 8 + d * 2 ^ 16 + n * 2 ^ 24

-- the kind's number: 0 to 6, 12 and 13 as in a table; 14 none, 15 a present Optional, 16 no value
abbrev pub head_of : Value → ℕ
head_of Value.Null = 0
head_of (Value.Bool b) = 1
head_of (Value.Int z) = 2
head_of (Value.Uint n) = 3
head_of (Value.Double x) = 4
head_of (Value.Nan b) = 4
head_of (Value.String sp) = packed 5 (text_number sp.space) 0 sp.length
head_of (Value.Bytes sp) = packed 6 (text_number sp.space) 0 sp.length
head_of (Value.List d ro) = packed 12 (cell_number ro.space) d ro.length
head_of (Value.Map d ro) = packed 13 (cell_number ro.space) d ro.length
head_of Value.OptionalNone = 14
head_of (Value.OptionalOf d s a) = packed 15 (cell_number s) d 0
head_of Value.Absent = 16

abbrev pub payload_of : Value → ℕ
payload_of Value.Null = 0
payload_of (Value.Bool b) = bit_of b
payload_of (Value.Int z) = word_of z
payload_of (Value.Uint n) = n
payload_of (Value.Double x) = bits_of (Plain x)
payload_of (Value.Nan b) = b
payload_of (Value.String sp) = sp.first
payload_of (Value.Bytes sp) = sp.first
payload_of (Value.List d ro) = ro.first
payload_of (Value.Map d ro) = ro.first
payload_of Value.OptionalNone = 0
payload_of (Value.OptionalOf d s a) = a
payload_of Value.Absent = 0

-- the values that words can hold: every value of the code
abbrev pub Fits : Value → Type 0
Fits Value.Null = Unit {0}
Fits (Value.Bool b) = Unit {0}
Fits (Value.Int z) = mag z < 2 ^ 63
Fits (Value.Uint n) = n < 2 ^ 64
Fits (Value.Double x) = T (fits binary64 x)
Fits (Value.Nan b) = b < 2 ^ 64
Fits (Value.String sp) = (sp.first < 2 ^ 16) × (sp.length < 2 ^ 16)
Fits (Value.Bytes sp) = (sp.first < 2 ^ 16) × (sp.length < 2 ^ 16)
Fits (Value.List d ro) = (d < 2 ^ 8) × (ro.first < 2 ^ 16) × (ro.length < 2 ^ 16)
Fits (Value.Map d ro) = (d < 2 ^ 8) × (ro.first < 2 ^ 16) × (ro.length < 2 ^ 16)
Fits Value.OptionalNone = Unit {0}
Fits (Value.OptionalOf d s a) = (d < 2 ^ 8) × (a < 2 ^ 16)
Fits Value.Absent = Unit {0}

-- a Double in the one spelling that words give it: with the same bits, a float that is no NaN or the bits of a NaN
abbrev pub settled : Value → Value
settled Value.Null = Value.Null
settled (Value.Bool b) = Value.Bool b
settled (Value.Int z) = Value.Int z
settled (Value.Uint n) = Value.Uint n
settled (Value.Double x) = double_value (double_of (bits_of (Plain x)))
settled (Value.Nan b) = double_value (double_of b)
settled (Value.String sp) = Value.String sp
settled (Value.Bytes sp) = Value.Bytes sp
settled (Value.List d ro) = Value.List d ro
settled (Value.Map d ro) = Value.Map d ro
settled Value.OptionalNone = Value.OptionalNone
settled (Value.OptionalOf d s a) = Value.OptionalOf d s a
settled Value.Absent = Value.Absent

-- ---- the value of two words

unfoldable pub text_place : (space first length : ℕ) → Option Span
text_place s a n =
    cond (ltb 65535 a) None
    (cond (ltb 65535 n) None
    (cond (eqb s 0) (Some (span Text.Literal a n))
    (cond (eqb s 1) (Some (span Text.Binding a n))
    (cond (eqb s 2) (Some (span Text.Evaluation a n)) None))))

unfoldable pub cell_place : (space first length : ℕ) → Option Row
cell_place s a n =
    cond (ltb 65535 a) None
    (cond (ltb 65535 n) None
    (cond (eqb s 0) (Some (row Cells.Binding a n))
    (cond (eqb s 1) (Some (row Cells.Evaluation a n)) None)))

-- where a payload is one of few
abbrev pub only : ℕ → Value → ℕ → Value
only n v x = cond (eqb x n) v Value.Absent

unfoldable pub bare_of : (kind payload : ℕ) → Value
bare_of k x =
    cond (eqb k 0) (only 0 Value.Null x)
    (cond (eqb k 1) (cond (eqb x 0) (Value.Bool false) (only 1 (Value.Bool true) x))
    (cond (eqb k 2) (Value.Int (signed_of x))
    (cond (eqb k 3) (Value.Uint x)
    (cond (eqb k 4) (double_value (double_of x))
    (cond (eqb k 14) (only 0 Value.OptionalNone x) Value.Absent)))))

unfoldable pub text_of : (kind nesting : ℕ) → Option Span → Value
text_of k d (Some sp) = cond (eqb d 0) (cond (eqb k 5) (Value.String sp) (Value.Bytes sp)) Value.Absent
text_of k d None = Value.Absent

unfoldable pub container_of : (kind nesting : ℕ) → Option Row → Value
container_of k d (Some ro) =
    cond (ltb 255 d) Value.Absent
    (cond (eqb k 12) (Value.List d ro)
    (cond (eqb k 13) (Value.Map d ro)
    (cond (eqb ro.length 0) (Value.OptionalOf d ro.space ro.first) Value.Absent)))
container_of k d None = Value.Absent

-- a head's fields with a payload
unfoldable pub value_of : (head kind space nesting length payload : ℕ) → Value
value_of h k s d n x =
    cond (eqb k 5) (text_of k d (text_place s x n))
    (cond (eqb k 6) (text_of k d (text_place s x n))
    (cond (eqb k 12) (container_of k d (cell_place s x n))
    (cond (eqb k 13) (container_of k d (cell_place s x n))
    (cond (eqb k 15) (container_of k d (cell_place s x n))
    (cond (eqb k h) (bare_of k x) Value.Absent)))))

-- of any two words: a value, or `Absent`
unfoldable pub cell_of : (head payload : ℕ) → Value
cell_of h x = value_of h (h % 2 ^ 8) (h / 2 ^ 8 % 2 ^ 8) (h / 2 ^ 16 % 2 ^ 8) (h / 2 ^ 24) x

-- ---- a cell of a list of words

-- there is a cell i
abbrev pub has_cell : List ℕ → ℕ → Bool
has_cell w i = ltb i (length w / 2)

unfoldable pub cell_in : List ℕ → ℕ → Value
cell_in w i = cond (has_cell w i) (cell_of (get_or w (i * 2) 0) (get_or w (i * 2 + 1) 0)) Value.Absent

unfoldable pub written_in : List ℕ → ℕ → Value → List ℕ
written_in w i v = cond (has_cell w i) (set (set w (i * 2) (head_of v)) (i * 2 + 1) (payload_of v)) w
