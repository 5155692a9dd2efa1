-- The records of a table as literals, Lists and Maps, whatever they are: `literal_of` of the definition says whether they are that.
use Rattle.std.specs.Prelude.{ℕ, zero, suc, ◌+◌, List, [], ◌∷◌, cond, eqb, get_or}
use Rattle.std.specs.Int.{w64}
use Rattle.std.proofs.Common.{to_z}
use Rattle.numbers.specs.Double.{double_of}
use Rattle.meaning.specs.Value.{null}
use Rattle.meaning.specs.Expr.{Expr, literal, name, unary, binary, conditional, select, list_of, map_of, comprehension, call, none_call, or_value, Elements, no_elements, element, marked_element, Pairs, no_pairs, pair, marked_pair}
use Rattle.meaning.specs.Table.{Part, bare, marked, word_bytes}
use Rattle.meaning.specs.Spelling.{Literal, scalar_at, list_at, map_at, Literals, no_literals, literals, LiteralPairs, no_literal_pairs, literal_pairs}
use Rattle.table_layout.specs.Layout.{fields_at, word_at, long_at, after}
use Rattle.table_check.specs.Records.{expr_of, part_of, Sound, SoundPart}
use Rattle.rooms.specs.declared.value.Value.{Value}
use Rattle.rooms.specs.declared.value.TextSpace.TheVariants as Text
use Rattle.rooms.specs.Value.{double_value}
use Rattle.rooms.specs.Spans.{span}

-- ---- expressions

unfoldable mutual
  pub literal_in : Expr → Literal
  literal_in (literal p x) = scalar_at p x
  literal_in (name p n) = scalar_at p null
  literal_in (unary p o e) = scalar_at p null
  literal_in (binary p o e f) = scalar_at p null
  literal_in (conditional p c e f) = scalar_at p null
  literal_in (select p test field e) = scalar_at p null
  literal_in (list_of p es) = list_at p (literals_in es)
  literal_in (map_of p ps) = map_at p (literal_pairs_in ps)
  literal_in (comprehension p a i range init condition step result) = scalar_at p null
  literal_in (call p f e) = scalar_at p null
  literal_in (none_call p) = scalar_at p null
  literal_in (or_value p e f) = scalar_at p null

  pub literals_in : Elements → Literals
  literals_in no_elements = no_literals
  literals_in (element e es) = literals (literal_in e) (literals_in es)
  literals_in (marked_element p e es) = literals (scalar_at p null) (literals_in es)

  pub literal_pairs_in : Pairs → LiteralPairs
  literal_pairs_in no_pairs = no_literal_pairs
  literal_pairs_in (pair k e ps) = literal_pairs (literal_in k) (literal_in e) (literal_pairs_in ps)
  literal_pairs_in (marked_pair k p e ps) = literal_pairs (literal_in k) (scalar_at p null) (literal_pairs_in ps)

unfoldable pub part_literal : Part → Literal
part_literal (bare e) = literal_in e
part_literal (marked p e) = scalar_at p null

-- ---- places of an accepted table

-- how many bytes so many operands from a place on take
unfoldable pub row_bytes : List ℕ → (count place : ℕ) → ℕ
row_bytes t zero q = 0
row_bytes t (suc n) q = word_at t (q + 1) + row_bytes t n (after t q)

-- so many entries
unfoldable pub entry_bytes : List ℕ → (count place : ℕ) → ℕ
entry_bytes t zero q = 0
entry_bytes t (suc n) q = word_at t (q + 1) + (word_at t (after t q + 1) + entry_bytes t n (after t (after t q)))

module _ (t x : List ℕ) where
  -- they are accepted, one after the other
  abbrev pub Operands : (count place : ℕ) → Type 0
  Operands zero q = Unit {0}
  Operands (suc n) q = SoundPart t x q × Operands n (after t q)

  -- a key carries no mark
  abbrev pub Entries : (count place : ℕ) → Type 0
  Entries zero q = Unit {0}
  Entries (suc n) q = Sound t x q × SoundPart t x (after t q) × Entries n (after t (after t q))

  -- what they are
  unfoldable pub row_literals : (count place : ℕ) → Literals
  row_literals zero q = no_literals
  row_literals (suc n) q = literals (part_literal (part_of t x q)) (row_literals n (after t q))

  unfoldable pub keys_from : (count place : ℕ) → List Literal
  keys_from zero q = []
  keys_from (suc n) q = literal_in (expr_of t x q) ∷ keys_from n (after t (after t q))

-- ---- as values

-- a literal's value, its text where it lies in the table's; `Absent` for a record that is none
unfoldable pub literal_value : List ℕ → ℕ → Value
literal_value t p =
    cond (eqb (get_or t p 0) 0) Value.Null
    (cond (eqb (get_or t p 0) 1) (Value.Bool (eqb (get_or t (p + fields_at) 0) 1))
    (cond (eqb (get_or t p 0) 2) (Value.Int (to_z w64 (long_at t (p + fields_at))))
    (cond (eqb (get_or t p 0) 3) (Value.Uint (long_at t (p + fields_at)))
    (cond (eqb (get_or t p 0) 4) (double_value (double_of (long_at t (p + fields_at))))
    (cond (eqb (get_or t p 0) 5) (Value.String (span Text.Literal (word_at t (p + fields_at)) (word_at t (p + (fields_at + word_bytes)))))
    (cond (eqb (get_or t p 0) 6) (Value.Bytes (span Text.Literal (word_at t (p + fields_at)) (word_at t (p + (fields_at + word_bytes))))) Value.Absent))))))

abbrev pub text_length : Value → ℕ
text_length Value.Null = 0
text_length (Value.Bool b) = 0
text_length (Value.Int z) = 0
text_length (Value.Uint n) = 0
text_length (Value.Double x) = 0
text_length (Value.Nan b) = 0
text_length (Value.String sp) = sp.length
text_length (Value.Bytes sp) = sp.length
text_length (Value.List d ro) = 0
text_length (Value.Map d ro) = 0
text_length Value.OptionalNone = 0
text_length (Value.OptionalOf d s a) = 0
text_length Value.Absent = 0

-- where it begins
abbrev pub text_first : Value → ℕ
text_first Value.Null = 0
text_first (Value.Bool b) = 0
text_first (Value.Int z) = 0
text_first (Value.Uint n) = 0
text_first (Value.Double x) = 0
text_first (Value.Nan b) = 0
text_first (Value.String sp) = sp.first
text_first (Value.Bytes sp) = sp.first
text_first (Value.List d ro) = 0
text_first (Value.Map d ro) = 0
text_first Value.OptionalNone = 0
text_first (Value.OptionalOf d s a) = 0
text_first Value.Absent = 0

-- the same value with its text in the bindings' text, from a place on
abbrev pub moved_to : ℕ → Value → Value
moved_to to Value.Null = Value.Null
moved_to to (Value.Bool b) = Value.Bool b
moved_to to (Value.Int z) = Value.Int z
moved_to to (Value.Uint n) = Value.Uint n
moved_to to (Value.Double x) = Value.Double x
moved_to to (Value.Nan b) = Value.Nan b
moved_to to (Value.String sp) = Value.String (span Text.Binding to sp.length)
moved_to to (Value.Bytes sp) = Value.Bytes (span Text.Binding to sp.length)
moved_to to (Value.List d ro) = Value.List d ro
moved_to to (Value.Map d ro) = Value.Map d ro
moved_to to Value.OptionalNone = Value.OptionalNone
moved_to to (Value.OptionalOf d s a) = Value.OptionalOf d s a
moved_to to Value.Absent = Value.Null
