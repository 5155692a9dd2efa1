-- Numbers in decimal digits.
use Rattle.std.specs.Prelude.{ℕ, ◌+◌, ◌-◌, ◌*◌, min, Bool, cond, ◌&&◌, Option, Some, None, List, [], ◌∷◌, leb}
use Prim.Native.Char.{code}

abbrev pub is_digit : ℕ → Bool
is_digit x = leb (code "0") x && leb x (code "9")

-- one digit more; what grows beyond 64 bits stays the largest number of 64 bits
abbrev pub longer : ℕ → ℕ → ℕ
longer n d = min (n * 10 + d) 18446744073709551615

-- behind a number that was read before
unfoldable pub number_from : ℕ → List ℕ → Option ℕ
number_from n [] = Some n
number_from n (x ∷ xs) = cond (is_digit x) (number_from (longer n (x - code "0")) xs) None

-- at least one digit, and nothing else
unfoldable pub number_of : List ℕ → Option ℕ
number_of [] = None
number_of (x ∷ xs) = number_from 0 (x ∷ xs)
