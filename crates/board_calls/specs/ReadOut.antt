-- What each function of `readout` returns and leaves in lent memory: a value or a part of one by its kind, with the words that say what it is.
use Rattle.std.specs.Prelude.{ℕ, List}
use Rattle.rooms.specs.declared.value.Value.{Value}
use Rattle.answer_values.specs.Kinds.{kind_of}
use Rattle.board_words.specs.Overlay.{handed}
use Rattle.board_words.specs.Shapes.{shape_of, part_of}

abbrev pub reads : Value → (shape : List ℕ) → ℕ × List ℕ
reads v shape = handed (kind_of v) (shape_of v) shape

abbrev pub reads_part : Value → (part : List ℕ) → ℕ × List ℕ
reads_part v part = handed (kind_of v) (part_of v) part
