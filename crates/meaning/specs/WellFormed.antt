-- The values that can occur: numbers in range, bytes that are bytes, Strings in UTF-8, no two keys of a map that match, and no nesting
-- above the limit.
use Rattle.std.specs.Prelude.{ℕ, ◌^◌, ◌≤◌, ◌<◌, ◌≡◌, List, [], ◌∷◌, true, None}
use Rattle.numbers.specs.Int.{in_range}
use Rattle.text.specs.Utf8.{well_formed}
use Rattle.meaning.specs.Limits.{deepest_value, byte_numbers}
use Rattle.meaning.specs.Value.{Scalar, null, bool, int, uint, double, string, bytes, key_scalar, Value, scalar, list, map, optional_none, optional_of, Values, nil, cons, Entries, empty, entry, nesting}
use Rattle.meaning.specs.Comparison.{find}

abbrev pub AllBytes : List ℕ → Type 0
AllBytes [] = Unit {0}
AllBytes (b ∷ bs) = (b < byte_numbers) × AllBytes bs

abbrev pub SoundScalar : Scalar → Type 0
SoundScalar null = Unit {0}
SoundScalar (bool b) = Unit {0}
SoundScalar (int z) = in_range z ≡ true
SoundScalar (uint n) = n < 2 ^ 64
SoundScalar (double d) = d < 2 ^ 64
SoundScalar (string s) = AllBytes s × (well_formed s ≡ true)
SoundScalar (bytes s) = AllBytes s

abbrev mutual
  pub Sound : Value → Type 0
  Sound (scalar x) = SoundScalar x
  Sound (list vs) = SoundElements vs
  Sound (map es) = SoundEntries es
  Sound optional_none = Unit {0}
  Sound (optional_of v) = Sound v

  pub SoundElements : Values → Type 0
  SoundElements nil = Unit {0}
  SoundElements (cons v vs) = Sound v × SoundElements vs

  -- no later entry is found under an earlier one's key
  pub SoundEntries : Entries → Type 0
  SoundEntries empty = Unit {0}
  SoundEntries (entry k v es) = SoundScalar (key_scalar k) × Sound v × ((find (key_scalar k) es).1 ≡ None) × SoundEntries es

pub record WellFormed (v : Value) : Type 0 where
  pub sound : Sound v
  pub nests : nesting v ≤ deepest_value
