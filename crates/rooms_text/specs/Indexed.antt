-- The size of a value in rooms as the definition's rule says it, and what an index must answer, by what the definition's look-up finds.
use Rattle.std.specs.Prelude.{ℕ, ◌+◌, ◌≡◌}
use Rattle.meaning.specs.Errors.{NoOverload, IndexOutOfBounds}
use Rattle.meaning.specs.Run.{Rule, pure, fail}
use Rattle.meaning.specs.Value as Meaning
use Rattle.meaning.specs.Maps.{look_up}
use Rattle.rooms.specs.declared.value.Value.{Value}
use Rattle.rooms.specs.declared.value.CellSpace.{CellSpace}
use Rattle.rooms.specs.Rooms.{Rooms, cell_at}
use Rattle.rooms.specs.Stands.{Alive, Stands}
use Rattle.rooms_text.specs.declared.sizes.Position.{Position}
use Rattle.rooms_text.specs.Sizes.{size_of, sized_rule}

-- what `sizes::size_in` answers, as a rule
abbrev pub sized : Rooms → Value → Rule Meaning.Value
sized r m = sized_rule (size_of r m)

-- what an index into a list that lies from cell a on must answer: the look-up's error, or the cell of its value
abbrev pub IndexIs : Alive → Rooms → CellSpace → (a : ℕ) → (whole index : Meaning.Value) → Position → Type 0
IndexIs L r s a c i (Position.At k) = (v : Meaning.Value) × (look_up c i ≡ pure v) × L.cells s (a + k) × Stands v L r (cell_at r s (a + k))
IndexIs L r s a c i Position.Outside = look_up c i ≡ fail IndexOutOfBounds
IndexIs L r s a c i Position.Unsuited = look_up c i ≡ fail NoOverload
