-- A function's result and the memory at its exit, as one equation with what the machine does on the memory at its entry.
use Rattle.std.specs.Prelude.{◌≡◌, ℕ, List, length}
use Rattle.rooms.specs.declared.memory.Lent.{Lent}
use Rattle.rooms.specs.declared.memory.Inputs.{Inputs}
use Rattle.rooms.specs.Rooms.{Rooms, with_words}
use Rattle.rooms.specs.Memory.{rooms_lent, rooms_with}

-- the references stay those that were lent; a result is mostly an outcome, then `A × Rooms` is `Res`
pub record Gives {A : Type 0} (result : A) (old new : Lent) (does : Rooms → A × Rooms) : Type 0 where
  pub same_literal : new.literal.now ≡ old.literal.now
  pub same_binding_cells : new.binding_cells.now ≡ old.binding_cells.now
  pub same_binding_text : new.binding_text.now ≡ old.binding_text.now
  pub same_cells : new.cells.ghost_name ≡ old.cells.ghost_name
  pub same_text : new.text.ghost_name ≡ old.text.ghost_name
  pub cells_long : length new.cells.now ≡ length old.cells.now
  pub text_long : length new.text.now ≡ length old.text.now
  pub gives : ◌≡◌ {A = A × Rooms} (result, rooms_lent new) (does (rooms_lent old))

-- the references alone
pub record Stays (old new : Lent) : Type 0 where
  pub same_literal : new.literal.now ≡ old.literal.now
  pub same_binding_cells : new.binding_cells.now ≡ old.binding_cells.now
  pub same_binding_text : new.binding_text.now ≡ old.binding_text.now
  pub same_cells : new.cells.ghost_name ≡ old.cells.ghost_name
  pub same_text : new.text.ghost_name ≡ old.text.ghost_name
  pub cells_long : length new.cells.now ≡ length old.cells.now
  pub text_long : length new.text.now ≡ length old.text.now

-- the same of what writes the evaluation's cells alone, and is lent its text shared
abbrev pub GivesCells : {A : Type 0} → A → Inputs → (text old new : List ℕ) → (Rooms → A × Rooms) → Type 0
GivesCells {A} result i text old new does = ◌≡◌ {A = A × Rooms} (result, rooms_with i new text) (does (rooms_with i old text))

-- and of what is lent nothing but these cells, whatever else a run has
abbrev pub GivesCellsAlone : {A : Type 0} → A → (old new : List ℕ) → (Rooms → A × Rooms) → Type 0
GivesCellsAlone {A} result old new does = (r : Rooms) → ◌≡◌ {A = A × Rooms} (result, with_words r new) (does (with_words r old))
