-- What a binding leaves of the program's memory.
use Rattle.std.specs.Prelude.{◌≡◌, length}
use Rattle.replay_lines.specs.declared.Memory.{Memory}

-- the same slices are there, as long as they were, and those of an evaluation and of its line hold what they held
pub record Leaves (old new : Memory) : Type 0 where
  pub literal : new.literal.ghost_name ≡ old.literal.ghost_name
  pub table : new.table.ghost_name ≡ old.table.ghost_name
  pub binding_cells : new.binding_cells.ghost_name ≡ old.binding_cells.ghost_name
  pub binding_text : new.binding_text.ghost_name ≡ old.binding_text.ghost_name
  pub cells : new.cells.ghost_name ≡ old.cells.ghost_name
  pub text : new.text.ghost_name ≡ old.text.ghost_name
  pub out : new.out.ghost_name ≡ old.out.ghost_name
  pub literal_long : length new.literal.now ≡ length old.literal.now
  pub table_long : length new.table.now ≡ length old.table.now
  pub binding_cells_long : length new.binding_cells.now ≡ length old.binding_cells.now
  pub binding_text_long : length new.binding_text.now ≡ length old.binding_text.now
  pub same_cells : new.cells.now ≡ old.cells.now
  pub same_text : new.text.now ≡ old.text.now
  pub same_out : new.out.now ≡ old.out.now
