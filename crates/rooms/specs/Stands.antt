-- What a value of the code stands for: `Stands v L r m`, the value m in rooms r is the value v of the definition, and every cell and
-- byte that it reaches is alive in L. By recursion on v.
use Rattle.std.specs.Prelude.{ℕ, suc, ◌+◌, ◌≤◌, ◌≡◌, List, length, take}
use Rattle.numbers.specs.declared.double.Double.{Double}
use Rattle.numbers.specs.Double.{bits_of}
use Rattle.meaning.specs.Limits.{deepest_value}
use Rattle.meaning.specs.Value as Meaning
use Rattle.meaning.specs.Value.{null, bool, int, uint, double, string, bytes, scalar, list, map, optional_none, optional_of, nil, cons, empty, entry, nesting, nesting_in, nesting_over, count, count_entries, key_scalar}
use Rattle.rooms.specs.declared.value.Value.{Value}
use Rattle.rooms.specs.declared.value.TextSpace.{TextSpace}
use Rattle.rooms.specs.declared.value.TextSpace.TheVariants as Text
use Rattle.rooms.specs.declared.value.CellSpace.{CellSpace}
use Rattle.rooms.specs.Value.{double_value}
use Rattle.rooms.specs.Cells.{Fits}
use Rattle.rooms.specs.Rooms.{Rooms, cell_at, span_in}
use Rattle.rooms.specs.Spans.{span, row}

-- which cells, and how many bytes of the evaluation's text
pub record Alive : Type 1 where
  pub cells : CellSpace → ℕ → Type 0
  pub bytes : ℕ

-- text of the literals and the bindings is never overwritten
abbrev pub Within : Alive → TextSpace → ℕ → Type 0
Within L Text.Literal n = Unit {0}
Within L Text.Binding n = Unit {0}
Within L Text.Evaluation n = n ≤ L.bytes

-- the bytes s lie in a space from a on
pub record TextAt (s : List ℕ) (L : Alive) (r : Rooms) (space : TextSpace) (a : ℕ) : Type 0 where
  pub within : Within L space (a + length s)
  pub spells : span_in r space a (length s) ≡ s

unfoldable pub StandsScalar : Meaning.Scalar → Alive → Rooms → Value → Type 0
StandsScalar null L r m = m ≡ Value.Null
StandsScalar (bool b) L r m = m ≡ Value.Bool b
StandsScalar (int z) L r m = m ≡ Value.Int z
StandsScalar (uint n) L r m = m ≡ Value.Uint n
StandsScalar (double d) L r m = (x : Double) × (m ≡ double_value x) × (bits_of x ≡ d)
StandsScalar (string s) L r m = (space : TextSpace) × (a : ℕ) × (m ≡ Value.String (span space a (length s))) × TextAt s L r space a
StandsScalar (bytes s) L r m = (space : TextSpace) × (a : ℕ) × (m ≡ Value.Bytes (span space a (length s))) × TextAt s L r space a

unfoldable mutual
  pub Stands : Meaning.Value → Alive → Rooms → Value → Type 0
  Stands (scalar x) L r m = StandsScalar x L r m
  Stands (list vs) L r m = (space : CellSpace) × (a : ℕ) × (m ≡ Value.List (suc (nesting_in vs)) (row space a (count vs))) × StandsCells vs L r space a
  Stands (map es) L r m = (space : CellSpace) × (a : ℕ) × (m ≡ Value.Map (suc (nesting_over es)) (row space a (count_entries es))) × StandsEntries es L r space a
  Stands optional_none L r m = m ≡ Value.OptionalNone
  Stands (optional_of v) L r m = (space : CellSpace) × (a : ℕ) × (m ≡ Value.OptionalOf (suc (nesting v)) space a) × L.cells space a × Stands v L r (cell_at r space a)

  -- elements, a cell each, from a on
  pub StandsCells : Meaning.Values → Alive → Rooms → CellSpace → ℕ → Type 0
  StandsCells nil L r space a = Unit {0}
  StandsCells (cons v vs) L r space a = L.cells space a × Stands v L r (cell_at r space a) × StandsCells vs L r space (suc a)

  -- entries, two cells each, from a on
  pub StandsEntries : Meaning.Entries → Alive → Rooms → CellSpace → ℕ → Type 0
  StandsEntries empty L r space a = Unit {0}
  StandsEntries (entry k v es) L r space a =
      L.cells space a × StandsScalar (key_scalar k) L r (cell_at r space a)
      × L.cells space (suc a) × Stands v L r (cell_at r space (suc a))
      × StandsEntries es L r space (suc (suc a))

-- a value of a run
pub record Holds (v : Meaning.Value) (L : Alive) (r : Rooms) (m : Value) : Type 0 where
  pub stands : Stands v L r m
  pub fits : Fits m
  pub nests : nesting v ≤ deepest_value

-- what is alive in r is alive in q, and the same there
pub record Agrees (L M : Alive) (r q : Rooms) : Type 0 where
  pub sub : (space : CellSpace) (i : ℕ) → L.cells space i → M.cells space i
  pub same : (space : CellSpace) (i : ℕ) → L.cells space i → cell_at q space i ≡ cell_at r space i
  pub longer : L.bytes ≤ M.bytes
  pub texts : take L.bytes q.text ≡ take L.bytes r.text
  pub literals : q.literal ≡ r.literal
  pub binding_texts : q.binding_text ≡ r.binding_text
