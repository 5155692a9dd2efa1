-- Which keys match in a look-up.
use Rattle.std.specs.Prelude.{◌≡◌, pos}
use Rattle.meaning.specs.Value.{Key, int_key, uint_key, bool_key, string_key}

-- by kind and value, or an Int and a Uint by one number
abbrev pub Matches : Key → Key → Type 0
Matches (int_key y) (int_key z) = y ≡ z
Matches (int_key z) (uint_key n) = z ≡ pos n
Matches (int_key z) (bool_key b) = ⊥
Matches (int_key z) (string_key s) = ⊥
Matches (uint_key n) (int_key z) = z ≡ pos n
Matches (uint_key m) (uint_key n) = m ≡ n
Matches (uint_key n) (bool_key b) = ⊥
Matches (uint_key n) (string_key s) = ⊥
Matches (bool_key b) (int_key z) = ⊥
Matches (bool_key b) (uint_key n) = ⊥
Matches (bool_key a) (bool_key b) = a ≡ b
Matches (bool_key b) (string_key s) = ⊥
Matches (string_key s) (int_key z) = ⊥
Matches (string_key s) (uint_key n) = ⊥
Matches (string_key s) (bool_key b) = ⊥
Matches (string_key s) (string_key t) = s ≡ t
