-- The line of an answer: the format that a reader has to believe.
use Rattle.std.specs.Prelude.{ℕ, cond, List, ◌++◌, leb, length, take}
use Rattle.meaning.specs.Limits.{Counts}
use Rattle.meaning.specs.Errors.{Exhausted, Steps, Cells, Text, Nesting, error_number, refusal_number}
use Rattle.meaning.specs.Limited as Limited
use Rattle.meaning.specs.Answer.{Answer, refusal, ran}
use Rattle.line_pieces.specs.Spelled.{ascii, decimal}
use Rattle.line_values.specs.Written.{written}

-- the longest text of a value that is shown
abbrev pub longest_value : ℕ
longest_value = 1000000

-- n bytes, and a mark that it goes on
unfoldable pub shortened : (n : ℕ) → List ℕ → List ℕ
shortened n s = cond (leb (length s) n) s (take n s ++ ascii " ...")

unfoldable pub placed : (number place : ℕ) → List ℕ
placed n p = decimal n ++ ascii " at " ++ decimal p

unfoldable pub counted : Counts → List ℕ
counted c = ascii " steps " ++ decimal c.steps ++ ascii " cells " ++ decimal c.cells ++ ascii " bytes " ++ decimal c.bytes

unfoldable pub exhausted : Exhausted → List ℕ
exhausted Steps = ascii "Exhausted Steps"
exhausted Cells = ascii "Exhausted Cells"
exhausted Text = ascii "Exhausted Text"
exhausted Nesting = ascii "Exhausted Nesting"

unfoldable pub line_of : Answer → List ℕ
line_of (refusal why place) = ascii "Refused " ++ placed (refusal_number why) place
line_of (ran (Limited.value v c)) = shortened longest_value (written v) ++ counted c
line_of (ran (Limited.error e c)) = ascii "Error " ++ placed (error_number e.error) e.place ++ counted c
line_of (ran (Limited.exhausted x c)) = exhausted x ++ counted c
