-- What a value of the code reads as: a function from the rooms to the definition's value, or none where the words hold no value.
-- In order: elements, entries, a value whose parts are read by a given function, a value of some depth.
use Rattle.std.specs.Prelude.{ℕ, zero, suc, Option, None, Some}
use Rattle.meaning.specs.Options.{bind}
use Rattle.numbers.specs.declared.double.Double.TheVariants.{Plain}
use Rattle.numbers.specs.Double.{bits_of}
use Rattle.meaning.specs.Value as Meaning
use Rattle.meaning.specs.Value.{null, bool, int, uint, double, string, bytes, scalar, list, map, optional_none, optional_of, nil, cons, empty, entry, key_of}
use Rattle.rooms.specs.declared.value.Value.{Value}
use Rattle.rooms.specs.declared.value.CellSpace.{CellSpace}
use Rattle.rooms.specs.Value.{nesting_of}
use Rattle.rooms.specs.Rooms.{Rooms, cell_at, span_in}

abbrev pub Reader : Type 0
Reader = Value → Option Meaning.Value

-- n elements, a cell each, from a on
unfoldable pub elements_in : Reader → Rooms → CellSpace → (a n : ℕ) → Option Meaning.Values
elements_in f r s a zero = Some nil
elements_in f r s a (suc n) = bind (f (cell_at r s a)) (λ v. bind (elements_in f r s (suc a) n) (λ vs. Some (cons v vs)))

-- n entries, two cells each, from a on
unfoldable pub entries_in : Reader → Rooms → CellSpace → (a n : ℕ) → Option Meaning.Entries
entries_in f r s a zero = Some empty
entries_in f r s a (suc n) =
    bind (bind (f (cell_at r s a)) key_of)
    (λ k. bind (f (cell_at r s (suc a))) (λ v. bind (entries_in f r s (suc (suc a)) n) (λ es. Some (entry k v es))))

abbrev pub read_by : Reader → Rooms → Value → Option Meaning.Value
read_by f r Value.Null = Some (scalar null)
read_by f r (Value.Bool b) = Some (scalar (bool b))
read_by f r (Value.Int z) = Some (scalar (int z))
read_by f r (Value.Uint n) = Some (scalar (uint n))
read_by f r (Value.Double x) = Some (scalar (double (bits_of (Plain x))))
read_by f r (Value.Nan b) = Some (scalar (double b))
read_by f r (Value.String sp) = Some (scalar (string (span_in r sp.space sp.first sp.length)))
read_by f r (Value.Bytes sp) = Some (scalar (bytes (span_in r sp.space sp.first sp.length)))
read_by f r (Value.List d ro) = bind (elements_in f r ro.space ro.first ro.length) (λ vs. Some (list vs))
read_by f r (Value.Map d ro) = bind (entries_in f r ro.space ro.first ro.length) (λ es. Some (map es))
read_by f r Value.OptionalNone = Some optional_none
read_by f r (Value.OptionalOf d s a) = bind (f (cell_at r s a)) (λ v. Some (optional_of v))
read_by f r Value.Absent = None

-- a value that nests less deep than n
unfoldable pub read_to : (n : ℕ) → Rooms → Value → Option Meaning.Value
read_to zero r m = None
read_to (suc n) r m = read_by (λ part. read_to n r part) r m

-- by the nesting that the value carries
unfoldable pub reading : Rooms → Value → Option Meaning.Value
reading r m = read_to (suc (nesting_of m)) r m
