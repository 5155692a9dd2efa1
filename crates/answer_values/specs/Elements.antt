-- The parts of a List and of an Optional, by their index.
use Rattle.std.specs.Prelude.{ℕ, ◌+◌, List, cond, ltb}
use Rattle.rooms.specs.declared.value.Value.{Value}
use Rattle.rooms.specs.declared.value.Parts.{Parts}
use Rattle.rooms.specs.Cells.{cell_in}
use Rattle.rooms.specs.Rooms.{words_of}

-- the i-th of n cells from a on
abbrev pub cell_from : List ℕ → (a n i : ℕ) → Value
cell_from w a n i = cond (ltb i n) (cell_in w (a + i)) Value.Absent

-- in the words of the bindings and of the evaluation
module _ (b w : List ℕ) where
  abbrev pub element_in : Parts → ℕ → Value
  element_in (Parts.Elements ro) i = cell_from (words_of b w ro.space) ro.first ro.length i
  element_in (Parts.Entries ro) i = Value.Absent
  element_in (Parts.Present s a) i = Value.Absent
  element_in Parts.Nothing i = Value.Absent

  abbrev pub present_in : Parts → Value
  present_in (Parts.Elements ro) = Value.Absent
  present_in (Parts.Entries ro) = Value.Absent
  present_in (Parts.Present s a) = cell_in (words_of b w s) a
  present_in Parts.Nothing = Value.Absent
