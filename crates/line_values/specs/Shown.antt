-- Values as text, from the rooms that they lie in. In order: a value without parts, elements, entries, a value whose parts are shown by a given
-- function, a value of some depth. proofs/ReadOut proves that this is the text of the value that is read there.
use Rattle.std.specs.Prelude.{ℕ, zero, suc, List, [], ◌∷◌, ◌++◌}
use Prim.Native.Char.{code}
use Rattle.rooms.specs.declared.value.Value.{Value}
use Rattle.rooms.specs.declared.value.Parts.{Parts}
use Rattle.rooms.specs.declared.value.CellSpace.{CellSpace}
use Rattle.rooms.specs.Value.{parts_of, nesting_of}
use Rattle.rooms.specs.Rooms.{Rooms, cell_at}
use Rattle.rooms_comparison.specs.Seen.{Seen, seen_scalar, seen_none, seen_other, seen_in}
use Rattle.line_pieces.specs.Spelled.{ascii}
use Rattle.line_values.specs.Written.{written_scalar, separator}

-- a value without parts
abbrev pub shown_seen : Seen → List ℕ
shown_seen (seen_scalar x) = written_scalar x
shown_seen seen_none = ascii "Optional none"
shown_seen seen_other = []

-- how a part is shown
abbrev pub Show : Type 0
Show = Value → List ℕ

-- n elements, a cell each, from a on
unfoldable pub elements_shown : Show → Rooms → CellSpace → (a n : ℕ) → List ℕ
elements_shown f r s a zero = []
elements_shown f r s a (suc n) = f (cell_at r s a) ++ separator n ++ elements_shown f r s (suc a) n

-- n entries, two cells each, from a on
unfoldable pub entries_shown : Show → Rooms → CellSpace → (a n : ℕ) → List ℕ
entries_shown f r s a zero = []
entries_shown f r s a (suc n) =
    f (cell_at r s a) ++ ascii ": " ++ f (cell_at r s (suc a)) ++ separator n ++ entries_shown f r s (suc (suc a)) n

abbrev pub parts_shown : Show → Rooms → Value → Parts → List ℕ
parts_shown f r m (Parts.Elements ro) = ascii "List [" ++ elements_shown f r ro.space ro.first ro.length ++ code "]" ∷ []
parts_shown f r m (Parts.Entries ro) = ascii "Map {" ++ entries_shown f r ro.space ro.first ro.length ++ code "}" ∷ []
parts_shown f r m (Parts.Present s a) = ascii "Optional of " ++ f (cell_at r s a)
parts_shown f r m Parts.Nothing = shown_seen (seen_in r m)

-- a value that nests less deep than n
unfoldable pub shown_to : (n : ℕ) → Rooms → Value → List ℕ
shown_to zero r m = []
shown_to (suc n) r m = parts_shown (λ part. shown_to n r part) r m (parts_of m)

-- by the nesting that the value carries
unfoldable pub shown_in : Rooms → Value → List ℕ
shown_in r m = shown_to (suc (nesting_of m)) r m
