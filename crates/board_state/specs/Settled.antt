-- What comes back of bindings that are put into a state: themselves, each Double in the one spelling that words give it.
use Rattle.std.specs.Prelude.{List, [], ◌∷◌, map}
use Rattle.rooms.specs.declared.scope.Slot.{Slot}
use Rattle.rooms.specs.Cells.{Fits, settled}
use Rattle.bindings_sound.specs.declared.Bindings.{Bindings}

-- a value in the spelling that its words give it
abbrev pub settled_slot : Slot → Slot
settled_slot s = record { value = settled s.value }

-- each slot so; the used counts as they are
abbrev pub settled_bindings : Bindings → Bindings
settled_bindings b = record { scope = record { slots = map settled_slot b.scope.slots }; cells = b.cells; bytes = b.bytes }

-- each slot has a value that words can hold, as every value of the code is
abbrev pub AllFit : List Slot → Type 0
AllFit [] = Unit {0}
AllFit (s ∷ l) = Fits s.value × AllFit l
