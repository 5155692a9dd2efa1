-- When two evaluations are alike: the answers tell the same, and the evaluation rooms that they leave hold the same.
use Rattle.std.specs.Prelude.{◌*◌, ◌≡◌, List, length, drop}
use Rattle.meaning.specs.Limited.{Cell}
use Rattle.rooms.specs.Rooms.{Rooms}
use Rattle.machine.specs.Answer.{CellsHave}
use Rattle.answer.specs.declared.Answer.{Answer}
use Rattle.answer.specs.Meant.{told, counts_told}

pub record Alike (answer : Answer) (left : Rooms) (other : Answer) (left_other : Rooms) : Type 0 where
  -- the case, number, place, value as it is read out, counts
  pub tells : told left answer ≡ told left_other other
  -- each cell below the count holds the same value, or zeros, in both
  pub holds : List Cell
  pub counted : length holds ≡ (counts_told (told left answer)).cells
  pub cells : CellsHave left 0 holds
  pub cells_other : CellsHave left_other 0 holds
  -- the words above it, and all bytes
  pub cells_above : drop (length holds * 2) left.cells ≡ drop (length holds * 2) left_other.cells
  pub bytes : left.text ≡ left_other.text
