-- The size of a Double cut to a whole number: what `size_of` answers, and what a whole number is then compared with.
use Rattle.std.specs.Prelude.{Bool, not, cond, ℕ, ◌*◌, ◌/◌, ◌%◌, ◌^◌, ltb, eqb, Option, None, Some}

-- n / 2 ^ 1074 as its whole part and whether more follows; none from 2 ^ 64 on
unfoldable pub cut : ℕ → Option (ℕ × Bool)
cut n = cond (ltb n (2 ^ 64 * 2 ^ 1074)) (Some (n / 2 ^ 1074, not (eqb (n % 2 ^ 1074) 0))) None
