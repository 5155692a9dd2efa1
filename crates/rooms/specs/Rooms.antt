-- The lent memory as one record: two rooms of cells, as words, and three of text. What lies where.
use Rattle.std.specs.Prelude.{ℕ, List, take, drop}
use Rattle.rooms.specs.declared.value.Value.{Value}
use Rattle.rooms.specs.declared.value.TextSpace.{TextSpace}
use Rattle.rooms.specs.declared.value.TextSpace.TheVariants as Text
use Rattle.rooms.specs.declared.value.CellSpace.{CellSpace}
use Rattle.rooms.specs.declared.value.CellSpace.TheVariants as Cells
use Rattle.rooms.specs.Cells.{cell_in}

pub record Rooms : Type 0 where
  -- a table's literal text
  pub literal : List ℕ
  -- of the bindings
  pub binding_cells : List ℕ
  pub binding_text : List ℕ
  -- of the evaluation
  pub cells : List ℕ
  pub text : List ℕ

abbrev pub rooms : (literal binding_cells binding_text cells text : List ℕ) → Rooms
rooms l c b e t = record { literal = l; binding_cells = c; binding_text = b; cells = e; text = t }

-- the same rooms with other cells, or another text, of the evaluation
abbrev pub with_words : Rooms → List ℕ → Rooms
with_words r w = rooms r.literal r.binding_cells r.binding_text w r.text

abbrev pub with_text : Rooms → List ℕ → Rooms
with_text r t = rooms r.literal r.binding_cells r.binding_text r.cells t

-- of the words of the bindings and of the evaluation
abbrev pub words_of : List ℕ → List ℕ → CellSpace → List ℕ
words_of b e Cells.Binding = b
words_of b e Cells.Evaluation = e

unfoldable pub cell_at : Rooms → CellSpace → ℕ → Value
cell_at r s i = cell_in (words_of r.binding_cells r.cells s) i

-- of the three texts
abbrev pub text_of : List ℕ → List ℕ → List ℕ → TextSpace → List ℕ
text_of l b t Text.Literal = l
text_of l b t Text.Binding = b
text_of l b t Text.Evaluation = t

-- n bytes of a text from a on, or all that there are
abbrev pub part : List ℕ → ℕ → ℕ → List ℕ
part t a n = take n (drop a t)

abbrev pub span_in : Rooms → TextSpace → ℕ → ℕ → List ℕ
span_in r s a n = part (text_of r.literal r.binding_text r.text s) a n
