-- A state: words that stand for bindings. Two a name, its slot as a cell; the used cells, the used bytes; and the number of slots.
use Rattle.std.specs.Prelude.{ℕ, zero, suc, ◌+◌, ◌*◌, List, [], ◌∷◌, ◌++◌, Bool, cond, ◌&&◌, eqb, length, get_or}
use Rattle.meaning.specs.Limits.{names}
use Rattle.rooms.specs.declared.value.Value.{Value}
use Rattle.rooms.specs.declared.scope.Slot.{Slot}
use Rattle.rooms.specs.declared.scope.Scope.{Scope}
use Rattle.rooms.specs.Cells.{cell_in, has_cell, head_of, payload_of}
use Rattle.rooms.specs.Scope.{empty_slots, stored}
use Rattle.bindings_sound.specs.declared.Bindings.{Bindings}
use Rattle.bindings_sound.specs.Fits.{is_absent}

-- ---- how many words there are, and where those behind the slots stand

abbrev pub state_words : ℕ
state_words = 259

abbrev pub cells_at : ℕ
cells_at = 256

abbrev pub bytes_at : ℕ
bytes_at = 257

abbrev pub slots_at : ℕ
slots_at = 258

-- the first word of a slot without a value; the second is 0
abbrev pub absent_head : ℕ
absent_head = 16

-- ---- the bindings that words stand for

-- slot i has the two words of no value
unfoldable pub says_absent : List ℕ → (i : ℕ) → Bool
says_absent w i = has_cell w i && (eqb (get_or w (i * 2) 0) absent_head && eqb (get_or w (i * 2 + 1) 0) 0)

-- words that are no value, and do not say that there is none, are an Optional: no binding gives a name such a value
unfoldable pub slot_in : List ℕ → (i : ℕ) → Value
slot_in w i = cond (is_absent (cell_in w i)) (cond (says_absent w i) Value.Absent Value.OptionalNone) (cell_in w i)

-- n slots from i on
unfoldable pub slots_in : List ℕ → (i n : ℕ) → List Slot
slots_in w i zero = []
slots_in w i (suc n) = record { value = slot_in w i } ∷ slots_in w (suc i) n

unfoldable pub scope_in : List ℕ → Scope
scope_in w = record { slots = slots_in w 0 names }

-- what words stand for that are no state: no room is sound with it
unfoldable pub no_bindings : Bindings
no_bindings = record { scope = stored empty_slots 0 Value.OptionalNone; cells = 0; bytes = 0 }

abbrev pub is_state : List ℕ → Bool
is_state w = eqb (length w) state_words && eqb (get_or w slots_at 0) names

unfoldable pub bindings_in : List ℕ → Bindings
bindings_in w = cond (is_state w) (record { scope = scope_in w; cells = get_or w cells_at 0; bytes = get_or w bytes_at 0 }) no_bindings

-- ---- the words of bindings

unfoldable pub slot_words : List Slot → List ℕ
slot_words [] = []
slot_words (s ∷ slots) = head_of s.value ∷ payload_of s.value ∷ slot_words slots

unfoldable pub state_of : Bindings → List ℕ
state_of b = slot_words b.scope.slots ++ b.cells ∷ b.bytes ∷ names ∷ []

-- over lent words, where there are as many as a state has
unfoldable pub state_put : (lent : List ℕ) → Bindings → List ℕ
state_put w b = cond (eqb (length w) state_words) (state_of b) w
