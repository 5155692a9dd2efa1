-- What slices and a scope of the code can hold: bytes, words of 64 bits, and in each slot a value that words can hold. Read off what owning
-- them tells (the shadow of a row of the kit's logic). Assumes nothing.
use Prim.Native.Nat.{ℕ, zero, suc, ◌^◌, ◌<◌}
use mathlib.Core.Path.{◌≡◌}
use mathlib.Core.List.{List, [], ◌∷◌}
use lib.ListN.{length, get_or}
use mir.Val.{Val}
use denote.Shadow.{shadow}
use denote.Floats.{passes}
use denote.Array.{each}
use denote.Enum.Declared as Enum
use Rattle.meaning.specs.WellFormed.{AllBytes}
use Rattle.rooms.specs.declared.value.Value.{Value}
use Rattle.rooms.specs.declared.scope.Slot.{Slot}
use Rattle.rooms.specs.Cells.{Fits}
use Rattle.rooms.specs.Rooms.{Rooms}
use Rattle.rooms.specs.Scope.{absent}
use Rattle.rooms.specs.contracts.value.Value as Values
use Rattle.rooms.specs.contracts.scope.Slot as Slots
use Rattle.bindings_sound.specs.declared.Bindings.{Bindings}
use Rattle.answer.specs.Promised.{Lent}

value-fits : (v : Value) (vs : List Val) → shadow ((Enum.field Values.the_type).row.own_val ((Values.the_type).to v) vs) → Fits v
value-fits Value.Null vs h = tt
value-fits (Value.Bool b) vs h = tt
value-fits (Value.Int z) vs h = h.1.1.1.1.0.1
value-fits (Value.Uint n) vs h = h.1.1.1.1.0.1
value-fits (Value.Double x) vs h = passes _ h.1.1.1.1.0.1
value-fits (Value.Nan b) vs h = h.1.1.1.1.0.1
value-fits (Value.String sp) vs h = (h.1.1.1.1.0.1.1.1.0.1, h.1.1.1.1.0.1.1.1.1.0.1)
value-fits (Value.Bytes sp) vs h = (h.1.1.1.1.0.1.1.1.0.1, h.1.1.1.1.0.1.1.1.1.0.1)
value-fits (Value.List d ro) vs h = (h.1.1.1.1.0.1, h.1.1.1.1.1.0.1.1.1.0.1, h.1.1.1.1.1.0.1.1.1.1.0.1)
value-fits (Value.Map d ro) vs h = (h.1.1.1.1.0.1, h.1.1.1.1.1.0.1.1.1.0.1, h.1.1.1.1.1.0.1.1.1.1.0.1)
value-fits Value.OptionalNone vs h = tt
value-fits (Value.OptionalOf d s a) vs h = (h.1.1.1.1.0.1, h.1.1.1.1.1.1.0.1)
value-fits Value.Absent vs h = tt

pub slots-fit : (ss : List Slot) (us : List Val) → shadow (each (Slots.the_row).Denot (Slots.the_row).own_val ss us)
    → (n : ℕ) → Fits (get_or ss n absent).value
slots-fit [] us h n = tt
slots-fit (s ∷ ss) [] h n = absurd h
slots-fit (s ∷ ss) (u ∷ us) h zero = value-fits s.value _ h.0.1.1.0
slots-fit (s ∷ ss) (u ∷ us) h (suc n) = slots-fit ss us h.1 n

all-bytes : (bs : List ℕ) → ((i : ℕ) → get_or bs i 0 < 2 ^ 8) → AllBytes bs
all-bytes [] h = tt
all-bytes (b ∷ bs) h = (h 0, all-bytes bs (λ i. h (suc i)))

pub is-lent : (table : List ℕ) (bindings : Bindings) (lent : Rooms) → ((i : ℕ) → get_or table i 0 < 2 ^ 8)
    → ((i : ℕ) → get_or lent.cells i 0 < 2 ^ 64) → ((i : ℕ) → get_or lent.binding_cells i 0 < 2 ^ 64)
    → length bindings.scope.slots ≡ 128 → ((n : ℕ) → Fits (get_or bindings.scope.slots n absent).value) → Lent table bindings lent
is-lent table bindings lent t w b s v = record { table_bytes = all-bytes table t; words = w; binding_words = b; slots = s; values = v }
