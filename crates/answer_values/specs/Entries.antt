-- The entries of a Map, by their index.
use Rattle.std.specs.Prelude.{ℕ, ◌+◌, ◌*◌, List, cond, ltb}
use Rattle.rooms.specs.declared.value.Value.{Value}
use Rattle.rooms.specs.declared.value.Parts.{Parts}
use Rattle.rooms.specs.Cells.{cell_in}
use Rattle.rooms.specs.Rooms.{words_of}

-- the i-th of n cells from a on, every other one
abbrev pub entry_from : List ℕ → (a n i : ℕ) → Value
entry_from w a n i = cond (ltb i n) (cell_in w (a + 2 * i)) Value.Absent

-- in the words of the bindings and of the evaluation
module _ (b w : List ℕ) where
  -- an entry is two cells, its key and its value
  abbrev pub key_in : Parts → ℕ → Value
  key_in (Parts.Elements ro) i = Value.Absent
  key_in (Parts.Entries ro) i = entry_from (words_of b w ro.space) ro.first ro.length i
  key_in (Parts.Present s a) i = Value.Absent
  key_in Parts.Nothing i = Value.Absent

  abbrev pub value_in : Parts → ℕ → Value
  value_in (Parts.Elements ro) i = Value.Absent
  value_in (Parts.Entries ro) i = entry_from (words_of b w ro.space) (ro.first + 1) ro.length i
  value_in (Parts.Present s a) i = Value.Absent
  value_in Parts.Nothing i = Value.Absent
