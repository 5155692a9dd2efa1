-- The rooms of a run: how much there is, and what they hold after cells were taken, parts copied, or all of it cleared.
use Rattle.std.specs.Prelude.{ℕ, zero, suc, ◌+◌, ◌*◌, ◌/◌, min, List, cond, leb, length, get_or, set}
use Rattle.meaning.specs.Limits.{most_cells, most_bytes}
use Rattle.rooms.specs.declared.value.CellSpace.{CellSpace}
use Rattle.rooms.specs.Cells.{cell_in, written_in}
use Rattle.rooms.specs.declared.value.TextSpace.{TextSpace}
use Rattle.rooms.specs.Rooms.{words_of, text_of}
use Rattle.std.specs.Prelude.{Option, None, Some}

-- what is lent, up to the limits
abbrev pub cell_room : List ℕ → ℕ
cell_room w = min (length w / 2) most_cells

abbrev pub text_room : List ℕ → ℕ
text_room t = min (length t) most_bytes

unfoldable pub taken_of : (room used count : ℕ) → Option ℕ
taken_of room used count = cond (leb (used + count) room) (Some (used + count)) None

-- n of a list's elements from a on become 0
unfoldable pub zeroed : List ℕ → (a n : ℕ) → List ℕ
zeroed w a zero = w
zeroed w a (suc n) = zeroed (set w a 0) (suc a) n

unfoldable pub cells_taken : List ℕ → (used count : ℕ) → List ℕ
cells_taken w used count = cond (leb (used + count) (cell_room w)) (zeroed w (used * 2) (count * 2)) w

unfoldable pub cells_cleared : List ℕ → ℕ → List ℕ
cells_cleared w used = zeroed w 0 (min used (length w / 2) * 2)

unfoldable pub bytes_cleared : List ℕ → ℕ → List ℕ
bytes_cleared t used = zeroed t 0 (min used (length t))

-- n cells of a space from a on, to the evaluation's cells from `to` on
unfoldable pub copied : List ℕ → CellSpace → List ℕ → (a to n : ℕ) → List ℕ
copied b space w a to zero = w
copied b space w a to (suc n) = copied b space (written_in w to (cell_in (words_of b w space) a)) (suc a) (suc to) n

-- n bytes of a space from a on, to the evaluation's text from `to` on
unfoldable pub pasted : List ℕ → List ℕ → TextSpace → List ℕ → (a to n : ℕ) → List ℕ
pasted l b space t a to zero = t
pasted l b space t a to (suc n) = pasted l b space (set t to (get_or (text_of l b t space) a 0)) (suc a) (suc to) n
