-- Bytes in hexadecimal digits, two a byte, and words of bytes.
use Rattle.std.specs.Prelude.{ℕ, zero, suc, ◌+◌, ◌-◌, ◌*◌, cond, ◌&&◌, Option, Some, None, List, [], ◌∷◌, ◌++◌, leb, eqb, take, drop, get_or}
use Rattle.std.specs.Option.{unwrap_or}
use Prim.Native.Char.{code}
use Rattle.program_words.specs.Place.{place_of}
use Rattle.program_words.specs.Decimal.{is_digit, number_of}

-- in either case
unfoldable pub digit_of : ℕ → Option ℕ
digit_of x =
    cond (is_digit x) (Some (x - code "0"))
    (cond (leb (code "a") x && leb x (code "f")) (Some (x - code "a" + 10))
    (cond (leb (code "A") x && leb x (code "F")) (Some (x - code "A" + 10)) None))

-- the byte that two digits spell, a high one and a low one
abbrev pub joined : Option ℕ → Option ℕ → Option ℕ
joined (Some h) (Some l) = Some (h * 16 + l)
joined (Some h) None = None
joined None low = None

-- a byte in front of the others; where there is none, nothing
abbrev pub in_front : Option ℕ → List ℕ → List ℕ
in_front (Some b) rest = b ∷ rest
in_front None rest = []

-- up to the first that is no digit
unfoldable pub bytes_of : List ℕ → List ℕ
bytes_of [] = []
bytes_of (h ∷ []) = []
bytes_of (h ∷ l ∷ rest) = in_front (joined (digit_of h) (digit_of l)) (bytes_of rest)

-- ---- pieces: `DIGITS`, or `DIGITS*COUNT` for as many times

unfoldable pub repeated : ℕ → List ℕ → List ℕ
repeated zero s = []
repeated (suc n) s = s ++ repeated n s

-- a count that is no number counts as 0
abbrev pub count_of : Option ℕ → ℕ
count_of count = unwrap_or count 0

-- what stands from the `*` on
unfoldable pub times_of : List ℕ → ℕ
times_of [] = 1
times_of (x ∷ count) = count_of (number_of count)

unfoldable pub piece_of : List ℕ → List ℕ
piece_of p = repeated (times_of (drop (place_of (code "*") p) p)) (bytes_of (take (place_of (code "*") p) p))

-- with `+` between two, behind a part of a piece
unfoldable pub pieces_of : List ℕ → List ℕ → List ℕ
pieces_of p [] = piece_of p
pieces_of p (x ∷ xs) = cond (eqb x (code "+")) (piece_of p ++ pieces_of [] xs) (pieces_of (p ++ x ∷ []) xs)

abbrev pub spelled_by : List ℕ → List ℕ
spelled_by word = pieces_of [] word

-- ---- words: a number, followed by bytes from a place on, the highest first; the third argument is how many

unfoldable pub big_endian : ℕ → List ℕ → ℕ → ℕ → ℕ
big_endian v l zero at = v
big_endian v l (suc n) at = big_endian (v * 256 + get_or l at 0) l n (suc at)
