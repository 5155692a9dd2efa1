-- What a binding's table spells: literals, lists and maps, and the value that they make.
use Rattle.std.specs.Prelude.{ℕ, suc, max, not, leb, Option, None, Some}
use Rattle.meaning.specs.Limits.{deepest_value}
use Rattle.meaning.specs.declared.refusal.Reason.TheVariants.{UnsoundBinding, NotALiteral}
use Rattle.meaning.specs.Value.{Scalar, Key, key_scalar, key_in, Value, scalar, list, map, Values, nil, cons, Entries, empty, add_entry}
use Rattle.meaning.specs.Expr.{Expr, literal, name, unary, binary, conditional, select, list_of, map_of, comprehension, call, none_call, or_value, Elements, no_elements, element, marked_element, Pairs, no_pairs, pair, marked_pair}
use Rattle.meaning.specs.Comparison.{find}
use Rattle.meaning.specs.Maps.{is_found}
use Rattle.meaning.specs.Heads.{Got, got, refused, ◌>>=◌, ◌>>◌, demand}

-- ---- what a binding may be made of

-- literals, lists and maps, each with its place
mutual
  pub data Literal : Type 0 where
    scalar_at : ℕ → Scalar → Literal
    list_at : ℕ → Literals → Literal
    map_at : ℕ → LiteralPairs → Literal

  pub data Literals : Type 0 where
    no_literals : Literals
    literals : Literal → Literals → Literals

  pub data LiteralPairs : Type 0 where
    no_literal_pairs : LiteralPairs
    literal_pairs : Literal → Literal → LiteralPairs → LiteralPairs

-- the first record, in the order of the table, that is anything else is refused
unfoldable mutual
  pub literal_of : Expr → Got Literal
  literal_of (literal p x) = got (scalar_at p x)
  literal_of (name p n) = refused NotALiteral p
  literal_of (unary p o e) = refused NotALiteral p
  literal_of (binary p o e f) = refused NotALiteral p
  literal_of (conditional p c e f) = refused NotALiteral p
  literal_of (select p test field e) = refused NotALiteral p
  literal_of (list_of p es) = do
    ls ← literals_of es
    got (list_at p ls)
  literal_of (map_of p ps) = do
    ls ← literal_pairs_of ps
    got (map_at p ls)
  literal_of (comprehension p a i range init condition step result) = refused NotALiteral p
  literal_of (call p f e) = refused NotALiteral p
  literal_of (none_call p) = refused NotALiteral p
  literal_of (or_value p e f) = refused NotALiteral p

  pub literals_of : Elements → Got Literals
  literals_of no_elements = got no_literals
  literals_of (element e es) = do
    l ← literal_of e
    ls ← literals_of es
    got (literals l ls)
  literals_of (marked_element p e es) = refused NotALiteral p

  pub literal_pairs_of : Pairs → Got LiteralPairs
  literal_pairs_of no_pairs = got no_literal_pairs
  literal_pairs_of (pair k e ps) = do
    l ← literal_of k
    m ← literal_of e
    ls ← literal_pairs_of ps
    got (literal_pairs l m ls)
  literal_pairs_of (marked_pair k p e ps) = do
    literal_of k
    refused NotALiteral p

-- ---- the value that it spells

unfoldable pub place_of : Literal → ℕ
place_of (scalar_at p x) = p
place_of (list_at p ls) = p
place_of (map_at p ls) = p

unfoldable mutual
  pub literal_nesting : Literal → ℕ
  literal_nesting (scalar_at p x) = 0
  literal_nesting (list_at p ls) = suc (literals_nesting ls)
  literal_nesting (map_at p ls) = suc (literal_pairs_nesting ls)

  pub literals_nesting : Literals → ℕ
  literals_nesting no_literals = 0
  literals_nesting (literals l ls) = max (literal_nesting l) (literals_nesting ls)

  pub literal_pairs_nesting : LiteralPairs → ℕ
  literal_pairs_nesting no_literal_pairs = 0
  literal_pairs_nesting (literal_pairs k l ls) = max (literal_nesting k) (max (literal_nesting l) (literal_pairs_nesting ls))

-- a key that is of a key's kind and matches none before it
unfoldable pub new_key : Entries → ℕ → Option Key → Got Key
new_key es p None = refused UnsoundBinding p
new_key es p (Some k) = do
  demand (not (is_found (find (key_scalar k) es).1)) UnsoundBinding p
  got k

unfoldable pub key_literal : Entries → Literal → Got Key
key_literal es (scalar_at p x) = new_key es p (key_in x)
key_literal es (list_at p ls) = refused UnsoundBinding p
key_literal es (map_at p ls) = refused UnsoundBinding p

unfoldable mutual
  pub spelled : Literal → Got Value
  spelled (scalar_at p x) = got (scalar x)
  spelled (list_at p ls) = do
    vs ← spelled_elements ls
    got (list vs)
  spelled (map_at p ls) = do
    es ← spelled_entries ls empty
    got (map es)

  pub spelled_elements : Literals → Got Values
  spelled_elements no_literals = got nil
  spelled_elements (literals l ls) = do
    v ← spelled l
    vs ← spelled_elements ls
    got (cons v vs)

  -- from the entries before these
  pub spelled_entries : LiteralPairs → Entries → Got Entries
  spelled_entries no_literal_pairs es = got es
  spelled_entries (literal_pairs l m ls) es = do
    k ← key_literal es l
    v ← spelled m
    spelled_entries ls (add_entry es k v)

-- if any record nests too deep, the root does, and it is the first
unfoldable pub spelled_root : Literal → Got Value
spelled_root l = do
  demand (leb (literal_nesting l) deepest_value) UnsoundBinding (place_of l)
  spelled l
