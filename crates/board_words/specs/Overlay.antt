-- Words laid over the first of those that are lent, and what is returned with them.
use Rattle.std.specs.Prelude.{ℕ, List, ◌++◌, cond, ltb, length, drop}

-- the words behind them are unchanged
abbrev pub over : (words lent : List ℕ) → List ℕ
over words lent = words ++ drop (length words) lent

-- where too few are lent, nothing is written
abbrev pub no_room : ℕ
no_room = 255

-- what is returned, and the lent words afterwards
abbrev pub handed : (number : ℕ) (words lent : List ℕ) → ℕ × List ℕ
handed number words lent = cond (ltb (length lent) (length words)) (no_room, lent) (number, over words lent)
