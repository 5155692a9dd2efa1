-- The memory of a run as the code has it, and what it changes: the lists that lie behind the references.
use Rattle.std.specs.Prelude.{ℕ, List, ◌≡◌, length}
use Rattle.rooms.specs.declared.memory.View.{View}
use Rattle.rooms.specs.declared.memory.Lent.{Lent}
use Rattle.rooms.specs.declared.memory.Inputs.{Inputs}
use Rattle.rooms.specs.declared.value.Span.{Span}
use Rattle.rooms.specs.Rooms.{Rooms, rooms, span_in}

abbrev pub rooms_seen : View → Rooms
rooms_seen v = rooms v.literal.now v.binding_cells.now v.binding_text.now v.cells.now v.text.now

abbrev pub rooms_lent : Lent → Rooms
rooms_lent m = rooms m.literal.now m.binding_cells.now m.binding_text.now m.cells.now m.text.now

-- with cells and a text of the evaluation
abbrev pub rooms_with : Inputs → (cells text : List ℕ) → Rooms
rooms_with i w t = rooms i.literal.now i.binding_cells.now i.binding_text.now w t

-- the bytes of a span
abbrev pub spanned : Rooms → Span → List ℕ
spanned r s = span_in r s.space s.first s.length

-- the references stay those that were lent, and behind them lies what f makes of it
pub record Changes (old new : Lent) (f : Rooms → Rooms) : Type 0 where
  pub same_literal : new.literal.now ≡ old.literal.now
  pub same_binding_cells : new.binding_cells.now ≡ old.binding_cells.now
  pub same_binding_text : new.binding_text.now ≡ old.binding_text.now
  pub same_cells : new.cells.ghost_name ≡ old.cells.ghost_name
  pub same_text : new.text.ghost_name ≡ old.text.ghost_name
  pub cells_long : length new.cells.now ≡ length old.cells.now
  pub text_long : length new.text.now ≡ length old.text.now
  pub rooms_after : rooms_lent new ≡ f (rooms_lent old)
