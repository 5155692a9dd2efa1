-- What a binding can have written into a cell or a slot: text and cells of the bindings, below the used counts, and the nesting that follows
-- from the nestings that its parts' cells state.
use Rattle.std.specs.Prelude.{ℕ, zero, suc, ◌+◌, ◌*◌, max, List, Bool, true, false, ◌&&◌, ◌||◌, leb, eqb}
use Rattle.text.specs.Utf8.{well_formed}
use Rattle.meaning.specs.Limits.{deepest_value}
use Rattle.rooms.specs.declared.value.Value.{Value}
use Rattle.rooms.specs.declared.value.TextSpace.{TextSpace}
use Rattle.rooms.specs.declared.value.TextSpace.TheVariants as Text
use Rattle.rooms.specs.declared.value.CellSpace.{CellSpace}
use Rattle.rooms.specs.declared.value.CellSpace.TheVariants as Cells
use Rattle.rooms.specs.Value.{nesting_of}
use Rattle.rooms.specs.Cells.{cell_in}
use Rattle.rooms.specs.Rooms.{part}
use Rattle.bindings_sound.specs.Keys.{keys_fit}

abbrev pub of_bindings : CellSpace → Bool
of_bindings Cells.Binding = true
of_bindings Cells.Evaluation = false

abbrev pub text_of_bindings : TextSpace → Bool
text_of_bindings Text.Literal = false
text_of_bindings Text.Binding = true
text_of_bindings Text.Evaluation = false

-- of n cells from a on
unfoldable pub deepest_in : List ℕ → (a n : ℕ) → ℕ
deepest_in w a zero = 0
deepest_in w a (suc n) = max (nesting_of (cell_in w a)) (deepest_in w (suc a) n)

-- a span of the bindings' text, of which `bytes` bytes are used
unfoldable pub span_fits : (bytes : ℕ) → TextSpace → (a n : ℕ) → Bool
span_fits bytes space a n = text_of_bindings space && leb (a + n) bytes

unfoldable pub string_fits : List ℕ → (bytes : ℕ) → TextSpace → (a n : ℕ) → Bool
string_fits t bytes space a n = span_fits bytes space a n && well_formed (part t a n)

-- a container of nesting d, with n cells from a on. The cells below `least` may not be referred to
unfoldable pub row_fits : List ℕ → (used least nesting : ℕ) → CellSpace → (a n : ℕ) → Bool
row_fits w used least d space a n =
    of_bindings space && (leb least a && (leb (a + n) used && (leb d deepest_value && eqb d (suc (deepest_in w a n)))))

unfoldable pub map_fits : (words text : List ℕ) → (used least nesting : ℕ) → CellSpace → (a n : ℕ) → Bool
map_fits w t used least d space a n = row_fits w used least d space a (2 * n) && keys_fit w t a n

-- of used cells and bytes
abbrev pub value_fits : (words text : List ℕ) → (used bytes least : ℕ) → Value → Bool
value_fits w t used bytes least Value.Null = true
value_fits w t used bytes least (Value.Bool b) = true
value_fits w t used bytes least (Value.Int z) = true
value_fits w t used bytes least (Value.Uint n) = true
value_fits w t used bytes least (Value.Double x) = true
value_fits w t used bytes least (Value.Nan b) = true
value_fits w t used bytes least (Value.String sp) = string_fits t bytes sp.space sp.first sp.length
value_fits w t used bytes least (Value.Bytes sp) = span_fits bytes sp.space sp.first sp.length
value_fits w t used bytes least (Value.List d ro) = row_fits w used least d ro.space ro.first ro.length
value_fits w t used bytes least (Value.Map d ro) = map_fits w t used least d ro.space ro.first ro.length
value_fits w t used bytes least Value.OptionalNone = false
value_fits w t used bytes least (Value.OptionalOf d s a) = false
value_fits w t used bytes least Value.Absent = false

abbrev pub is_absent : Value → Bool
is_absent Value.Null = false
is_absent (Value.Bool b) = false
is_absent (Value.Int z) = false
is_absent (Value.Uint n) = false
is_absent (Value.Double x) = false
is_absent (Value.Nan b) = false
is_absent (Value.String sp) = false
is_absent (Value.Bytes sp) = false
is_absent (Value.List d ro) = false
is_absent (Value.Map d ro) = false
is_absent Value.OptionalNone = false
is_absent (Value.OptionalOf d s a) = false
is_absent Value.Absent = true

-- a name may be unbound; what it is bound to may refer to any of the cells
unfoldable pub slot_fits : (words text : List ℕ) → (used bytes : ℕ) → Value → Bool
slot_fits w t used bytes v = is_absent v || value_fits w t used bytes 0 v
