-- What the look-up of a key in rooms must answer, by what the definition's look-up finds.
use Rattle.std.specs.Prelude.{ℕ, ◌≡◌, Option, None, Some}
use Rattle.meaning.specs.Value as Meaning
use Rattle.meaning.specs.Comparison.{Tally}
use Rattle.rooms.specs.declared.value.CellSpace.{CellSpace}
use Rattle.rooms.specs.Rooms.{Rooms, cell_at}
use Rattle.rooms.specs.Stands.{Alive, Stands}
use Rattle.rooms_comparison.specs.declared.lookup.Found.{Found}
use Rattle.rooms_comparison.specs.Equality.{pays_found}

-- what a look-up that ends answers: no entry, or the cell where the value of the entry found lies
abbrev pub FoundIs : Alive → Rooms → CellSpace → Option Meaning.Value → (ℕ → Found) → Type 0
FoundIs L r space None f = f ≡ (λ j. Found.Missing j)
FoundIs L r space (Some v) f = (c : ℕ) × (f ≡ (λ j. Found.At c j)) × L.cells space c × Stands v L r (cell_at r space c)

-- the answer of a look-up that begins at count k, where the definition finds t .1 after t.0 pairs
abbrev pub Finds : Alive → Rooms → CellSpace → (limit k : ℕ) → Tally (Option Meaning.Value) → Found → Type 0
Finds L r space limit k t p = (f : ℕ → Found) × FoundIs L r space t.1 f × (p ≡ pays_found limit k t.0 f)
