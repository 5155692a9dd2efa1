-- Numbers and text in ASCII.
use Rattle.std.specs.Prelude.{ℕ, zero, suc, ◌+◌, ◌/◌, ◌%◌, Bool, cond, ◌&&◌, not, List, [], ◌∷◌, ◌++◌, ltb, leb, eqb, ℤ, pos, negsuc}
use Prim.Native.Char.{code}
use Prim.Native.String.{String}
use Prim.Native.String as Quoted

-- what stands in quotes, as bytes
abbrev pub ascii : String → List ℕ
ascii Quoted.[] = []
ascii (Quoted.◌∷◌ c s) = code c ∷ ascii s

-- ---- numbers

-- 0 to 9, A to F
abbrev pub digit_of : ℕ → ℕ
digit_of d = cond (ltb d 10) (48 + d) (55 + d)

-- the last n hexadecimal digits
unfoldable pub hexadecimal : (n : ℕ) → ℕ → List ℕ
hexadecimal zero x = []
hexadecimal (suc n) x = hexadecimal n (x / 16) ++ digit_of (x % 16) ∷ []

-- as many digits as are needed, and at most n
unfoldable pub decimal_to : (n : ℕ) → ℕ → List ℕ
decimal_to zero x = []
decimal_to (suc n) x = cond (ltb x 10) (digit_of x ∷ []) (decimal_to n (x / 10) ++ digit_of (x % 10) ∷ [])

-- 64 bits take no more than 20
unfoldable pub decimal : ℕ → List ℕ
decimal x = decimal_to 20 x

unfoldable pub signed : ℤ → List ℕ
signed (pos n) = decimal n
signed (negsuc n) = code "-" ∷ decimal (suc n)

-- ---- text

-- printable ASCII stands for itself, but for the quote and the backslash
abbrev pub is_plain : ℕ → Bool
is_plain b = leb 0x20 b && leb b 0x7E && not (eqb b (code "\"")) && not (eqb b (code "\\"))

unfoldable pub escaped : ℕ → List ℕ
escaped b = cond (is_plain b) (b ∷ []) (ascii "\\x" ++ hexadecimal 2 b)

unfoldable pub escaped_all : List ℕ → List ℕ
escaped_all [] = []
escaped_all (b ∷ s) = escaped b ++ escaped_all s

unfoldable pub quoted : List ℕ → List ℕ
quoted s = code "\"" ∷ [] ++ escaped_all s ++ code "\"" ∷ []
