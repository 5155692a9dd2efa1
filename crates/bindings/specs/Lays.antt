-- What laying does with a binding room that is lent: what is returned and the room afterwards, and that the same memory stays lent.
use Rattle.std.specs.Prelude.{◌≡◌, length}
use Rattle.bindings.specs.declared.laying.Laying.{Laying}
use Rattle.bindings_literals.specs.Laying.{Room, room}

abbrev pub room_in : Laying → Room
room_in l = room l.cells.now l.text.now l.used l.bytes

pub record Lays {A : Type 0} (old new : Laying) (result : A) (f : Room → A × Room) : Type 0 where
  pub cells : new.cells.ghost_name ≡ old.cells.ghost_name
  pub text : new.text.ghost_name ≡ old.text.ghost_name
  pub cells_long : length new.cells.now ≡ length old.cells.now
  pub text_long : length new.text.now ≡ length old.text.now
  pub laid : ◌≡◌ {A = A × Room} (result, room_in new) (f (room_in old))
