-- A binding brought in: the room with one binding more, the room that is left for it, and what an accepted binding is.
use Rattle.std.specs.Prelude.{ℕ, ◌+◌, ◌≤◌, ◌<◌, min, ◌≡◌, List, ◌∷◌, None, Some}
use Rattle.meaning.specs.Limits.{names, deepest_value, most_cells, most_bytes}
use Rattle.meaning.specs.Value.{Value, nesting}
use Rattle.meaning.specs.Expr.{Expr}
use Rattle.meaning.specs.Run.{value}
use Rattle.meaning.specs.Comprehension.{Scope}
use Rattle.meaning.specs.Meaning.{run}
use Rattle.meaning.specs.Heads.{got}
use Rattle.meaning.specs.Table.{read_table}
use Rattle.meaning.specs.Spelling.{Literal, literal_of, spelled_root}
use Rattle.meaning.specs.Bindings.{cells_of, bytes_of, BindingRoom, scope_of}

-- the room with one binding more, and what it takes
abbrev pub with_binding : BindingRoom → ℕ → Value → BindingRoom
with_binding room number v =
    record { bound = (number, v) ∷ room.bound; used_cells = room.used_cells + cells_of v; used_bytes = room.used_bytes + bytes_of v }

-- what it takes fits into what is left of the room and of the limits
abbrev pub Fits : (lent_cells lent_bytes : ℕ) → BindingRoom → Value → Type 0
Fits lent_cells lent_bytes room v = (room.used_cells + cells_of v ≤ min lent_cells most_cells) × (room.used_bytes + bytes_of v ≤ min lent_bytes most_bytes)

-- what an accepted binding is: a table that reads as `rule`, made of literals alone, which spells the value `held`. Evaluating the rule gives that
-- value too, and afterwards it is bound under a name that was free
pub record Brought (lent_cells lent_bytes : ℕ) (room : BindingRoom) (number : ℕ) (table text : List ℕ) (more : BindingRoom) : Type 0 where
  pub rule : Expr
  pub made : Literal
  pub held : Value
  pub named : number < names
  pub free : scope_of room number ≡ None
  pub reads : read_table table text ≡ got rule
  pub literals : literal_of rule ≡ got made
  pub spells : spelled_root made ≡ got held
  pub gives : (s : Scope) → (run rule s).1 ≡ value held
  pub nests : nesting held ≤ deepest_value
  pub fits : Fits lent_cells lent_bytes room held
  pub becomes : more ≡ with_binding room number held
  pub holds : scope_of more number ≡ Some held
