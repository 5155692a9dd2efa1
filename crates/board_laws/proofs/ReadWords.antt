-- A value's two words, as an answer or a part has them, are read as that value: what is handed out by one call is taken back by the next.
-- Rests on CellWords and on Showing (crate answer_values). Assumes nothing.
use Prim.Native.Nat.{ℕ, ◌+◌, ◌*◌, ◌^◌, ◌<◌}
use mathlib.Core.Path.{◌≡◌, refl, sym, ap, ap₂, ◌∙◌}
use mathlib.Core.Bool.{Bool, true, false, cond}
use mathlib.Core.List.{List}
use Rattle.std.specs.Prelude.{Some}
use lib.Dec.{ltb}
use lib.ListN.{get_or}
use Rattle.meaning.specs.Value as Meaning
use Rattle.rooms.specs.declared.value.Value.{Value}
use Rattle.rooms.specs.declared.value.CellSpace.{CellSpace}
use Rattle.rooms.specs.declared.value.CellSpace.TheVariants as Cells
use Rattle.rooms.specs.declared.value.Parts.{Parts}
use Rattle.rooms.specs.Value.{nesting_of}
use Rattle.rooms.specs.Cells.{head_of, payload_of, bare_of, value_of, cell_of, has_cell, cell_in}
use Rattle.rooms.specs.Rooms.{Rooms, words_of}
use Rattle.rooms.specs.Reading.{reading}
use Rattle.bindings_sound.specs.Fits.{is_absent}
use Rattle.bindings_sound.proofs.SoundScope.{absent-is}
use Rattle.answer_values.specs.Elements.{element_in, present_in}
use Rattle.answer_values.specs.Entries.{key_in, value_in}
use Rattle.answer_values.specs.Shown.{Shows}
use Rattle.answer_values.proofs.Showing.{shows}
use Rattle.board_laws.specs.InOrder.{Words}
use Rattle.board_laws.specs.ValueWords.{ReadAgain}
use Rattle.board_laws.proofs.CellWords.{cell-written}

absent-again : ReadAgain Value.Absent
unfolding cell_of value_of bare_of
absent-again = refl

-- two words read, written and read again
read_again : (h x : ℕ) → x < 2 ^ 64 → ReadAgain (cell_of h x)
read_again h x l = by_value (is_absent (cell_of h x)) refl
  where
    by_value : (b : Bool) → is_absent (cell_of h x) ≡ b → ReadAgain (cell_of h x)
    by_value false e = let w = (cell-written h x l).words e in ap₂ cell_of w.0 w.1
    by_value true e = let a = absent-is (cell_of h x) e in ap (λ (v : Value). cell_of (head_of v) (payload_of v)) a ∙ absent-again ∙ sym a

module _ (w : List ℕ) (words : Words w) where
  cell-again : (i : ℕ) → ReadAgain (cell_in w i)
  unfolding cell_in
  cell-again i = by_place (has_cell w i)
    where
      by_place : (b : Bool) → ReadAgain (cond b (cell_of (get_or w (i * 2) 0) (get_or w (i * 2 + 1) 0)) Value.Absent)
      by_place true = read_again (get_or w (i * 2) 0) (get_or w (i * 2 + 1) 0) (words (i * 2 + 1))
      by_place false = absent-again

  -- a cell where there is one
  perhaps-again : (b : Bool) (i : ℕ) → ReadAgain (cond b (cell_in w i) Value.Absent)
  perhaps-again true i = cell-again i
  perhaps-again false i = absent-again

-- ---- the parts of a value

module _ (b w : List ℕ) (binding_words : Words b) (words : Words w) where
  each-words : (s : CellSpace) → Words (words_of b w s)
  each-words Cells.Binding = binding_words
  each-words Cells.Evaluation = words

  -- The words of a part that `ombravelik_element`, `ombravelik_key`, `ombravelik_value` and `ombravelik_present` hand out are read as that part.
  pub element-again : (p : Parts) (i : ℕ) → ReadAgain (element_in b w p i)
  element-again (Parts.Elements ro) i = perhaps-again (words_of b w ro.space) (each-words ro.space) (ltb i ro.length) (ro.first + i)
  element-again (Parts.Entries ro) i = absent-again
  element-again (Parts.Present s a) i = absent-again
  element-again Parts.Nothing i = absent-again

  pub key-again : (p : Parts) (i : ℕ) → ReadAgain (key_in b w p i)
  key-again (Parts.Elements ro) i = absent-again
  key-again (Parts.Entries ro) i = perhaps-again (words_of b w ro.space) (each-words ro.space) (ltb i ro.length) (ro.first + 2 * i)
  key-again (Parts.Present s a) i = absent-again
  key-again Parts.Nothing i = absent-again

  pub value-again : (p : Parts) (i : ℕ) → ReadAgain (value_in b w p i)
  value-again (Parts.Elements ro) i = absent-again
  value-again (Parts.Entries ro) i = perhaps-again (words_of b w ro.space) (each-words ro.space) (ltb i ro.length) (ro.first + 1 + 2 * i)
  value-again (Parts.Present s a) i = absent-again
  value-again Parts.Nothing i = absent-again

  pub present-again : (p : Parts) → ReadAgain (present_in b w p)
  present-again (Parts.Elements ro) = absent-again
  present-again (Parts.Entries ro) = absent-again
  present-again (Parts.Present s a) = cell-again (words_of b w s) (each-words s) a
  present-again Parts.Nothing = absent-again

-- ---- a value read out

-- Two words that read as a value of the definition show it: `ombravelik_read` its kind, number, text and count, the other four each of its parts.
pub words-show : (r : Rooms) (head payload : ℕ) (v : Meaning.Value) → reading r (cell_of head payload) ≡ Some v → Shows (nesting_of (cell_of head payload)) r (cell_of head payload) v
unfolding reading
words-show r head payload v e = shows (nesting_of (cell_of head payload)) r (cell_of head payload) v e
