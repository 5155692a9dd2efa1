-- How literals are laid down in a binding room: a container's cells are the next ones, what is in its parts lies behind, in the order of the
-- table, and so does the text.
use Rattle.std.specs.Prelude.{ℕ, suc, ◌+◌, ◌*◌, List, [], ◌∷◌, length, set}
use Rattle.numbers.specs.Double.{double_of}
use Rattle.meaning.specs.Value.{Scalar, null, bool, int, uint, double, string, bytes}
use Rattle.meaning.specs.Spelling.{Literal, scalar_at, list_at, map_at, Literals, no_literals, literals, LiteralPairs, no_literal_pairs, literal_pairs, literals_nesting, literal_pairs_nesting}
use Rattle.rooms.specs.declared.value.Value.{Value}
use Rattle.rooms.specs.declared.value.TextSpace.TheVariants as Text
use Rattle.rooms.specs.declared.value.CellSpace.TheVariants as Cells
use Rattle.rooms.specs.Value.{double_value}
use Rattle.rooms.specs.Cells.{written_in}
use Rattle.rooms.specs.Spans.{span, row}

-- the lent words and text, and how much of them is used
pub record Room : Type 0 where
  pub words : List ℕ
  pub text : List ℕ
  pub cells : ℕ
  pub bytes : ℕ

abbrev pub room : (words text : List ℕ) → (cells bytes : ℕ) → Room
room w t c b = record { words = w; text = t; cells = c; bytes = b }

-- bytes over those from a place on
unfoldable pub typed : List ℕ → ℕ → List ℕ → List ℕ
typed t to [] = t
typed t to (b ∷ bs) = typed (set t to b) (suc to) bs

abbrev pub with_text : Room → List ℕ → Room
with_text r s = room r.words (typed r.text r.bytes s) r.cells (r.bytes + length s)

abbrev pub taking : Room → ℕ → Room
taking r n = room r.words r.text (r.cells + n) r.bytes

-- what was laid down goes into a cell
abbrev pub put : Value × Room → ℕ → Room
put a to = room (written_in a.1.words to a.0) a.1.text a.1.cells a.1.bytes

unfoldable pub laid_scalar : Scalar → Room → Value × Room
laid_scalar null r = (Value.Null, r)
laid_scalar (bool b) r = (Value.Bool b, r)
laid_scalar (int z) r = (Value.Int z, r)
laid_scalar (uint n) r = (Value.Uint n, r)
laid_scalar (double d) r = (double_value (double_of d), r)
laid_scalar (string s) r = (Value.String (span Text.Binding r.bytes (length s)), with_text r s)
laid_scalar (bytes s) r = (Value.Bytes (span Text.Binding r.bytes (length s)), with_text r s)

unfoldable pub count_literals : Literals → ℕ
count_literals no_literals = 0
count_literals (literals l ls) = suc (count_literals ls)

unfoldable pub count_pairs : LiteralPairs → ℕ
count_pairs no_literal_pairs = 0
count_pairs (literal_pairs l m ls) = suc (count_pairs ls)

unfoldable mutual
  pub laid : Literal → Room → Value × Room
  laid (scalar_at p x) r = laid_scalar x r
  laid (list_at p ls) r =
      (Value.List (suc (literals_nesting ls)) (row Cells.Binding r.cells (count_literals ls)), laid_row ls r.cells (taking r (count_literals ls)))
  laid (map_at p ls) r =
      (Value.Map (suc (literal_pairs_nesting ls)) (row Cells.Binding r.cells (count_pairs ls)), laid_pairs ls r.cells (taking r (2 * count_pairs ls)))

  -- parts, whose cells begin at a place
  pub laid_row : Literals → ℕ → Room → Room
  laid_row no_literals to r = r
  laid_row (literals l ls) to r = laid_row ls (suc to) (put (laid l r) to)

  pub laid_pairs : LiteralPairs → ℕ → Room → Room
  laid_pairs no_literal_pairs to r = r
  laid_pairs (literal_pairs l m ls) to r = laid_pairs ls (suc (suc to)) (put (laid m (put (laid l r) to)) (suc to))

-- a Map's parts as a row: key, value, key, value
unfoldable pub flat : LiteralPairs → Literals
flat no_literal_pairs = no_literals
flat (literal_pairs l m ls) = literals l (literals m (flat ls))
