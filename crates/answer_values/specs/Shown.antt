-- What the readers show of a value that reads as a value of the definition: all of it, part by part.
use Rattle.std.specs.Prelude.{ℕ, ◌+◌, ◌≡◌, List, Some}
use Rattle.meaning.specs.Options.{bind}
use Rattle.meaning.specs.Value as Meaning
use Rattle.meaning.specs.Value.{Scalar, null, bool, int, uint, double, string, bytes, scalar, list, map, optional_none, optional_of, Values, nil, cons, Entries, empty, entry, key_of, count, count_entries}
use Rattle.rooms.specs.declared.value.Value.{Value}
use Rattle.rooms.specs.declared.value.Span.{Span}
use Rattle.rooms.specs.Rooms.{Rooms}
use Rattle.rooms.specs.Value.{plain_of, parts_of}
use Rattle.rooms.specs.Reading.{read_to}
use Rattle.rooms.specs.Memory.{spanned}
use Rattle.answer_values.specs.declared.numeric.Numeric.TheVariants as Numeric
use Rattle.answer_values.specs.Kinds.{kind_of, truth_in}
use Rattle.answer_values.specs.Numbers.{number_in}
use Rattle.answer_values.specs.SpansAndCounts.{span_in, count_in}
use Rattle.answer_values.specs.Elements.{element_in, present_in}
use Rattle.answer_values.specs.Entries.{key_in, value_in}

-- its span is a text
pub record Spells (r : Rooms) (m : Value) (s : List ℕ) : Type 0 where
  pub span : Span
  pub is : span_in (plain_of m) ≡ Some span
  pub spelled : spanned r span ≡ s

abbrev pub ShowsScalar : Rooms → Value → Scalar → Type 0
ShowsScalar r m null = kind_of m ≡ 0
ShowsScalar r m (bool b) = (kind_of m ≡ 1) × (truth_in (plain_of m) ≡ Some b)
ShowsScalar r m (int z) = (kind_of m ≡ 2) × (number_in (plain_of m) ≡ Some (Numeric.Int z))
ShowsScalar r m (uint n) = (kind_of m ≡ 3) × (number_in (plain_of m) ≡ Some (Numeric.Uint n))
ShowsScalar r m (double d) = (kind_of m ≡ 4) × (number_in (plain_of m) ≡ Some (Numeric.Bits d))
ShowsScalar r m (string s) = (kind_of m ≡ 5) × Spells r m s
ShowsScalar r m (bytes s) = (kind_of m ≡ 6) × Spells r m s

module _ (n : ℕ) (r : Rooms) where
  -- a part reads as a value, to the depth n
  abbrev pub PartReads : Value → Meaning.Value → Type 0
  PartReads part v = read_to n r part ≡ Some v

  -- from index i on, so are the elements
  abbrev pub ShowsElements : Value → ℕ → Values → Type 0
  ShowsElements m i nil = Unit {0}
  ShowsElements m i (cons v vs) = PartReads (element_in r.binding_cells r.cells (parts_of m) i) v × ShowsElements m (i + 1) vs

  abbrev pub ShowsEntries : Value → ℕ → Entries → Type 0
  ShowsEntries m i empty = Unit {0}
  ShowsEntries m i (entry k v es) =
      (bind (read_to n r (key_in r.binding_cells r.cells (parts_of m) i)) key_of ≡ Some k)
      × PartReads (value_in r.binding_cells r.cells (parts_of m) i) v
      × ShowsEntries m (i + 1) es

  abbrev pub Shows : Value → Meaning.Value → Type 0
  Shows m (scalar x) = ShowsScalar r m x
  Shows m (list vs) = (kind_of m ≡ 12) × (count_in (parts_of m) ≡ count vs) × ShowsElements m 0 vs
  Shows m (map es) = (kind_of m ≡ 13) × (count_in (parts_of m) ≡ count_entries es) × ShowsEntries m 0 es
  Shows m optional_none = kind_of m ≡ 14
  Shows m (optional_of v) = (kind_of m ≡ 15) × PartReads (present_in r.binding_cells r.cells (parts_of m)) v
