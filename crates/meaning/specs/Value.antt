-- The values of CEL. A value holds its parts; where they lie in memory is not said here.
-- A Double is its 64 bits, a String or Bytes its bytes. antt nests no type in another, so elements and entries have types of their own.
use Rattle.std.specs.Prelude.{ℕ, zero, suc, max, List, [], ◌∷◌, Bool, true, false, ℤ, Option, None, Some}
use Rattle.meaning.specs.Options.{bind}

pub data Scalar : Type 0 where
  null : Scalar
  bool : Bool → Scalar
  int : ℤ → Scalar
  uint : ℕ → Scalar
  double : ℕ → Scalar
  string : List ℕ → Scalar
  bytes : List ℕ → Scalar

-- what may stand as the key of a map
pub data Key : Type 0 where
  int_key : ℤ → Key
  uint_key : ℕ → Key
  bool_key : Bool → Key
  string_key : List ℕ → Key

mutual
  pub data Value : Type 0 where
    scalar : Scalar → Value
    list : Values → Value
    map : Entries → Value
    optional_none : Value
    optional_of : Value → Value

  pub data Values : Type 0 where
    nil : Values
    cons : Value → Values → Values

  -- in the order in which they were made
  pub data Entries : Type 0 where
    empty : Entries
    entry : Key → Value → Entries → Entries

-- ---- nesting

unfoldable mutual
  pub nesting : Value → ℕ
  nesting (scalar x) = 0
  nesting (list vs) = suc (nesting_in vs)
  nesting (map es) = suc (nesting_over es)
  nesting optional_none = 0
  nesting (optional_of v) = suc (nesting v)

  -- of the deepest part
  pub nesting_in : Values → ℕ
  nesting_in nil = 0
  nesting_in (cons v vs) = max (nesting v) (nesting_in vs)

  pub nesting_over : Entries → ℕ
  nesting_over empty = 0
  nesting_over (entry k v es) = max (nesting v) (nesting_over es)

-- ---- elements and entries

unfoldable pub count : Values → ℕ
count nil = 0
count (cons v vs) = suc (count vs)

unfoldable pub count_entries : Entries → ℕ
count_entries empty = 0
count_entries (entry k v es) = suc (count_entries es)

unfoldable pub join : Values → Values → Values
join nil ws = ws
join (cons v vs) ws = cons v (join vs ws)

unfoldable pub nth : Values → ℕ → Option Value
nth nil n = None
nth (cons v vs) zero = Some v
nth (cons v vs) (suc n) = nth vs n

unfoldable pub value_list : Values → List Value
value_list nil = []
value_list (cons v vs) = v ∷ value_list vs

-- one entry more, at the end
unfoldable pub add_entry : Entries → Key → Value → Entries
add_entry empty k v = entry k v empty
add_entry (entry j w es) k v = entry j w (add_entry es k v)

unfoldable pub key_scalar : Key → Scalar
key_scalar (int_key z) = int z
key_scalar (uint_key n) = uint n
key_scalar (bool_key b) = bool b
key_scalar (string_key s) = string s

-- ---- views: what a value is, if it is that

unfoldable pub scalar_of : Value → Option Scalar
scalar_of (scalar x) = Some x
scalar_of (list vs) = None
scalar_of (map es) = None
scalar_of optional_none = None
scalar_of (optional_of v) = None

unfoldable pub elements_of : Value → Option Values
elements_of (scalar x) = None
elements_of (list vs) = Some vs
elements_of (map es) = None
elements_of optional_none = None
elements_of (optional_of v) = None

unfoldable pub entries_of : Value → Option Entries
entries_of (scalar x) = None
entries_of (list vs) = None
entries_of (map es) = Some es
entries_of optional_none = None
entries_of (optional_of v) = None

unfoldable pub is_none : Value → Bool
is_none (scalar x) = false
is_none (list vs) = false
is_none (map es) = false
is_none optional_none = true
is_none (optional_of v) = false

-- of a present Optional
unfoldable pub part_of : Value → Option Value
part_of (scalar x) = None
part_of (list vs) = None
part_of (map es) = None
part_of optional_none = None
part_of (optional_of v) = Some v

unfoldable pub bool_in : Scalar → Option Bool
bool_in null = None
bool_in (bool b) = Some b
bool_in (int z) = None
bool_in (uint n) = None
bool_in (double d) = None
bool_in (string s) = None
bool_in (bytes s) = None

unfoldable pub bool_of : Value → Option Bool
bool_of v = bind (scalar_of v) bool_in

unfoldable pub key_in : Scalar → Option Key
key_in null = None
key_in (bool b) = Some (bool_key b)
key_in (int z) = Some (int_key z)
key_in (uint n) = Some (uint_key n)
key_in (double d) = None
key_in (string s) = Some (string_key s)
key_in (bytes s) = None

unfoldable pub key_of : Value → Option Key
key_of v = bind (scalar_of v) key_in

unfoldable pub string_in : Scalar → Option (List ℕ)
string_in null = None
string_in (bool b) = None
string_in (int z) = None
string_in (uint n) = None
string_in (double d) = None
string_in (string s) = Some s
string_in (bytes s) = None

unfoldable pub string_of : Value → Option (List ℕ)
string_of v = bind (scalar_of v) string_in
