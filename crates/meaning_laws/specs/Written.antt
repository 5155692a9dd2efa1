-- How an expression is written as the records of a node table, rule by rule from the table of kinds, in the order of that table; nothing
-- here looks at how a table is read. `Written width text e p bytes`: these bytes, put at place p of a table, spell e. A text in e is some
-- part of the literal text, so an expression can be written in several ways. It rests on expressions, limits and UTF-8 alone.
use Rattle.std.specs.Prelude.{ℕ, zero, suc, ◌+◌, ◌^◌, ◌/◌, ◌%◌, ◌≤◌, ◌<◌, max, ◌≡◌, List, [], ◌∷◌, ◌++◌, Bool, true, false, length, take, drop}
use Rattle.std.specs.Int.{w64}
use Rattle.std.proofs.Common.{to_z}
use Rattle.text.specs.Utf8.{well_formed}
use Rattle.meaning.specs.Limits.{shortest_table, longest_table, deepest_record, names, byte_numbers}
use Rattle.meaning.specs.Value.{Scalar, null, bool, int, uint, double, string, bytes}
use Rattle.meaning.specs.Expr.{Unary, not_op, negate_op, not_strictly_false, And, Or, add, sub, div, mul, rem, less, less_equals, greater, greater_equals}
use Rattle.meaning.specs.Expr.{Binary, logic, equals, not_equals, index, opt_index, opt_select, arith, compare, is_in}
use Rattle.meaning.specs.Expr.{Function, size_call, of_call, has_value_call, value_call}
use Rattle.meaning.specs.Expr.{Expr, literal, name, unary, binary, conditional, select, list_of, map_of, comprehension, call, none_call, or_value}
use Rattle.meaning.specs.Expr.{Elements, no_elements, element, marked_element, Pairs, no_pairs, pair, marked_pair, count_elements, count_pairs}

-- ---- numbers as bytes

-- a number as so many bytes, the lowest first
abbrev pub little : ℕ → ℕ → List ℕ
little zero n = []
little (suc size) n = n % byte_numbers ∷ little size (n / byte_numbers)

-- a field: how many bytes it has, and the number in it
pub record Number : Type 0 where
  pub size : ℕ
  pub value : ℕ

-- the bytes of fields, one after the other
abbrev pub spelled : List Number → List ℕ
spelled [] = []
spelled (n ∷ ns) = little n.size n.value ++ spelled ns

-- each number fits into its bytes
abbrev pub Fit : List Number → Type 0
Fit [] = Unit {0}
Fit (n ∷ ns) = (n.value < byte_numbers ^ n.size) × Fit ns

abbrev pub byte : ℕ → Number
byte n = record { size = 1; value = n }

abbrev pub long : ℕ → Number
long n = record { size = 8; value = n }

-- ---- the numbers that stand for flags, operators and functions

abbrev pub flag_number : Bool → ℕ
flag_number false = 0
flag_number true = 1

abbrev pub unary_number : Unary → ℕ
unary_number not_op = 1
unary_number negate_op = 2
unary_number not_strictly_false = 3

abbrev pub binary_number : Binary → ℕ
binary_number (logic Or) = 1
binary_number (logic And) = 2
binary_number equals = 3
binary_number not_equals = 4
binary_number index = 5
binary_number opt_index = 6
binary_number opt_select = 7
binary_number (arith add) = 8
binary_number (arith sub) = 9
binary_number (arith div) = 10
binary_number (arith mul) = 11
binary_number (arith rem) = 12
binary_number (compare less) = 13
binary_number (compare less_equals) = 14
binary_number (compare greater) = 15
binary_number (compare greater_equals) = 16
binary_number is_in = 17

-- optional.none is 3, orValue 6
abbrev pub function_number : Function → ℕ
function_number size_call = 1
function_number of_call = 2
function_number has_value_call = 4
function_number value_call = 5

-- ---- bytes at a place

-- which bytes, put at which place, spell a thing
abbrev pub Form : Type 1
Form = ℕ → List ℕ → Type 0

abbrev pub nothing : Form
nothing p bs = bs ≡ []

infixr 50 ◌then◌
-- one thing, and the other where it ends
abbrev pub ◌then◌ : Form → Form → Form
◌then◌ first second p bs =
    (xs : List ℕ) × (ys : List ℕ) × (bs ≡ xs ++ ys) × first p xs × second (p + length xs) ys

infixr 40 ◌and◌
-- with a condition that no byte decides
abbrev pub ◌and◌ : Type 0 → Form → Form
◌and◌ condition form p bs = condition × form p bs

-- a part of the literal text, from an offset on
pub record Excerpt (text s : List ℕ) (offset : ℕ) : Type 0 where
  pub within : offset + length s ≤ length text
  pub same : take (length s) (drop offset text) ≡ s

-- ---- records

-- extents, offsets, lengths and counts have `width` bytes
module _ (width : ℕ) where
  abbrev pub word : ℕ → Number
  word n = record { size = width; value = n }

  -- what stands before the operands: kind, extent, fields
  abbrev pub head_bytes : (kind extent : ℕ) → List Number → List ℕ
  head_bytes kind extent fields = kind ∷ spelled (word extent ∷ fields)

  -- A record of the expression, which carries this place: it starts there, its extent is the number of its bytes, and its operands
  -- follow its head and fill it.
  pub record Record (place kind : ℕ) (fields : List Number) (operands : Form) (p : ℕ) (bs : List ℕ) : Type 0 where
    pub here : place ≡ p
    pub rest : List ℕ
    pub bytes : bs ≡ head_bytes kind (length bs) fields ++ rest
    pub fit : Fit (word (length bs) ∷ fields)
    pub follow : operands (p + length (head_bytes kind (length bs) fields)) rest

  -- ---- expressions

  module _ (text : List ℕ) where
    -- the text is named by offset and length
    abbrev pub WrittenText : List ℕ → (List Number → Form) → Form
    WrittenText s record_of p bs = (offset : ℕ) × Excerpt text s offset × record_of (word offset ∷ word (length s) ∷ []) p bs

    abbrev pub WrittenScalar : ℕ → Scalar → Form
    WrittenScalar q null = Record q 0 [] nothing
    WrittenScalar q (bool b) = Record q 1 (byte (flag_number b) ∷ []) nothing
    WrittenScalar q (int z) = λ p bs. (n : ℕ) × (to_z w64 n ≡ z) × Record q 2 (long n ∷ []) nothing p bs
    WrittenScalar q (uint n) = Record q 3 (long n ∷ []) nothing
    WrittenScalar q (double d) = Record q 4 (long d ∷ []) nothing
    WrittenScalar q (string s) = (well_formed s ≡ true) and WrittenText s (λ span. Record q 5 span nothing)
    WrittenScalar q (bytes s) = WrittenText s (λ span. Record q 6 span nothing)

    -- q is the place that the expression carries for the record
    abbrev mutual
      pub Written : Expr → Form
      Written (literal q s) = WrittenScalar q s
      Written (name q n) = (n < names) and Record q 7 (byte n ∷ []) nothing
      Written (unary q o x) = Record q 8 (byte (unary_number o) ∷ []) (Written x)
      Written (binary q o x y) = Record q 9 (byte (binary_number o) ∷ []) (Written x then Written y)
      Written (conditional q x y z) = Record q 10 [] (Written x then Written y then Written z)
      Written (select q test field x) =
          (well_formed field ≡ true) and WrittenText field (λ span. Record q 11 (byte (flag_number test) ∷ span) (Written x))
      Written (list_of q es) = Record q 12 (word (count_elements es) ∷ []) (WrittenElements es)
      Written (map_of q es) = Record q 13 (word (count_pairs es) ∷ []) (WrittenPairs es)
      Written (comprehension q accumulator item range init condition step result) =
          (accumulator < names) and (item < names) and Record q 15 (byte accumulator ∷ byte item ∷ [])
          (Written range then Written init then Written condition then Written step then Written result)
      Written (call q f x) = Record q 16 (byte (function_number f) ∷ []) (Written x)
      Written (none_call q) = Record q 16 (byte 3 ∷ []) nothing
      Written (or_value q x y) = Record q 16 (byte 6 ∷ []) (Written x then Written y)

      -- a mark is a record of kind 14 about an element or a value
      pub WrittenElements : Elements → Form
      WrittenElements no_elements = nothing
      WrittenElements (element e es) = Written e then WrittenElements es
      WrittenElements (marked_element m e es) = Record m 14 [] (Written e) then WrittenElements es

      pub WrittenPairs : Pairs → Form
      WrittenPairs no_pairs = nothing
      WrittenPairs (pair k e es) = Written k then Written e then WrittenPairs es
      WrittenPairs (marked_pair k m e es) = Written k then Record m 14 [] (Written e) then WrittenPairs es

-- ---- how deep records stand in one another

abbrev mutual
  pub depth : Expr → ℕ
  depth (literal q s) = 1
  depth (name q n) = 1
  depth (unary q o x) = suc (depth x)
  depth (binary q o x y) = suc (max (depth x) (depth y))
  depth (conditional q x y z) = suc (max (depth x) (max (depth y) (depth z)))
  depth (select q test field x) = suc (depth x)
  depth (list_of q es) = suc (depth_elements es)
  depth (map_of q es) = suc (depth_pairs es)
  depth (comprehension q accumulator item range init condition step result) =
      suc (max (depth range) (max (depth init) (max (depth condition) (max (depth step) (depth result)))))
  depth (call q f x) = suc (depth x)
  depth (none_call q) = 1
  depth (or_value q x y) = suc (max (depth x) (depth y))

  -- a mark is a record too
  pub depth_elements : Elements → ℕ
  depth_elements no_elements = 0
  depth_elements (element e es) = max (depth e) (depth_elements es)
  depth_elements (marked_element m e es) = max (suc (depth e)) (depth_elements es)

  pub depth_pairs : Pairs → ℕ
  depth_pairs no_pairs = 0
  depth_pairs (pair k e es) = max (depth k) (max (depth e) (depth_pairs es))
  depth_pairs (marked_pair k m e es) = max (depth k) (max (suc (depth e)) (depth_pairs es))

-- ---- whole tables

-- the table spells the expression: one record from its first byte to its last, with extents and spans of two bytes
pub record Spells (table text : List ℕ) (e : Expr) : Type 0 where
  pub written : Written 2 text e 0 table
  pub at_least : shortest_table ≤ length table
  pub at_most : length table ≤ longest_table
  pub nests : depth e ≤ deepest_record
