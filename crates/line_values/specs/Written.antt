-- Values as text: the format that a reader has to believe.
use Rattle.std.specs.Prelude.{ℕ, zero, suc, true, false, List, [], ◌∷◌, ◌++◌}
use Prim.Native.Char.{code}
use Rattle.meaning.specs.Value.{Scalar, null, bool, int, uint, double, string, bytes, Value, scalar, list, map, optional_none, optional_of, Values, nil, cons, count, Entries, empty, entry, count_entries, key_scalar}
use Rattle.line_pieces.specs.Spelled.{ascii, hexadecimal, decimal, signed, quoted}

unfoldable pub written_scalar : Scalar → List ℕ
written_scalar null = ascii "Null"
written_scalar (bool true) = ascii "Bool true"
written_scalar (bool false) = ascii "Bool false"
written_scalar (int z) = ascii "Int " ++ signed z
written_scalar (uint n) = ascii "Uint " ++ decimal n
written_scalar (double bits) = ascii "Double 0x" ++ hexadecimal 16 bits
written_scalar (string s) = ascii "String " ++ quoted s
written_scalar (bytes s) = ascii "Bytes " ++ quoted s

-- before n further parts
unfoldable pub separator : (n : ℕ) → List ℕ
separator zero = []
separator (suc n) = ascii ", "

unfoldable mutual
  pub written : Value → List ℕ
  written (scalar x) = written_scalar x
  written (list vs) = ascii "List [" ++ written_values vs ++ code "]" ∷ []
  written (map es) = ascii "Map {" ++ written_entries es ++ code "}" ∷ []
  written optional_none = ascii "Optional none"
  written (optional_of v) = ascii "Optional of " ++ written v

  pub written_values : Values → List ℕ
  written_values nil = []
  written_values (cons v vs) = written v ++ separator (count vs) ++ written_values vs

  pub written_entries : Entries → List ℕ
  written_entries empty = []
  written_entries (entry k v es) = written_scalar (key_scalar k) ++ ascii ": " ++ written v ++ separator (count_entries es) ++ written_entries es
