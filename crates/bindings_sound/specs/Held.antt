-- What a sound room holds: a value for each name that has one, read out of the lent memory, as a room and a scope of the definition.
use Rattle.std.specs.Prelude.{ℕ, zero, suc, ◌<◌, List, [], ◌∷◌, Option, None, Some}
use Rattle.meaning.specs.Limits.{names}
use Rattle.meaning.specs.Value as Meaning
use Rattle.meaning.specs.Comprehension as Loops
use Rattle.meaning.specs.Bindings.{BindingRoom}
use Rattle.rooms.specs.declared.value.CellSpace.{CellSpace}
use Rattle.rooms.specs.declared.value.CellSpace.TheVariants as Cells
use Rattle.rooms.specs.Rooms.{Rooms, rooms}
use Rattle.rooms.specs.Reading.{reading}
use Rattle.rooms.specs.Scope.{slot_of}
use Rattle.rooms.specs.Stands.{Alive}
use Rattle.bindings_sound.specs.declared.Bindings.{Bindings}

-- what is read in a binding room lies in it
abbrev pub binding_rooms : (words text : List ℕ) → Rooms
binding_rooms w t = rooms [] w t [] []

-- nothing for a name that has no value
unfoldable pub held_scope : (words text : List ℕ) → Bindings → Loops.Scope
held_scope w t b n = reading (binding_rooms w t) (slot_of b.scope n)

abbrev pub also_bound : ℕ → Option Meaning.Value → List (ℕ × Meaning.Value) → List (ℕ × Meaning.Value)
also_bound n None bs = bs
also_bound n (Some v) bs = (n, v) ∷ bs

-- `count` names from n on
unfoldable pub bound_from : Loops.Scope → (n count : ℕ) → List (ℕ × Meaning.Value)
bound_from s n zero = []
bound_from s n (suc count) = also_bound n (s n) (bound_from s (suc n) count)

unfoldable pub room_of : (words text : List ℕ) → Bindings → BindingRoom
room_of w t b = record { bound = bound_from (held_scope w t b) 0 names; used_cells = b.cells; used_bytes = b.bytes }

-- the cells of the bindings below the used count are alive, and none of the evaluation's
abbrev pub alive_in : ℕ → CellSpace → ℕ → Type 0
alive_in used Cells.Binding i = i < used
alive_in used Cells.Evaluation i = ⊥

abbrev pub alive_below : ℕ → Alive
alive_below used = record { cells = alive_in used; bytes = 0 }
