-- The records of an accepted table: the expression at a place, and what a record of each kind is made of.
use Rattle.std.specs.Prelude.{ℕ, zero, suc, ◌+◌, ◌≡◌, Bool, true, false, List, [], ◌∷◌, eqb, length, take, drop, get_or, Option, None, Some}
use Rattle.std.specs.Int.{w64}
use Rattle.std.proofs.Common.{to_z}
use Rattle.meaning.specs.Limits.{deepest_record}
use Rattle.meaning.specs.Value.{null, bool, int, uint, double, string, bytes}
use Rattle.meaning.specs.Expr.{Expr, literal, name, unary, binary, conditional, select, list_of, map_of, comprehension, call, none_call, or_value, Elements, no_elements, Pairs, no_pairs, Unary, not_op, Binary, equals}
use Rattle.meaning.specs.Kinds.{ExprKind, null_kind, bool_kind, int_kind, uint_kind, double_kind, string_kind, bytes_kind, name_kind, unary_kind, binary_kind, conditional_kind, select_kind, list_kind, map_kind, comprehension_kind, function_kind, numbered, unaries, binaries, Called, to_one, to_none, to_two, functions}
use Rattle.meaning.specs.Heads.{Got, got, refused}
use Rattle.meaning.specs.Table.{Part, bare, add_element, add_pair, expr_at, part_at, word_bytes}
use Rattle.table_check.specs.declared.faults.Marks.{Marks}
use Rattle.table_layout.specs.Layout.{fields_at, word_at, after, long_at}
use Rattle.table_check.specs.Faults.{may_mark}

-- ---- the expression at a place

unfoldable pub expr_in : Got (Expr × ℕ) → Expr
expr_in (got a) = a.0
expr_in (refused r p) = literal 0 null

unfoldable pub part_in : Got (Part × ℕ) → Part
part_in (got a) = a.0
part_in (refused r p) = bare (literal 0 null)

unfoldable pub expr_of : (table text : List ℕ) → ℕ → Expr
expr_of t x p = expr_in (expr_at word_bytes t x deepest_record p (length t))

-- an operand that may be marked
unfoldable pub part_of : (table text : List ℕ) → ℕ → Part
part_of t x p = part_in (part_at word_bytes t x deepest_record p (length t))

-- the record at a place is accepted
unfoldable pub Sound : (table text : List ℕ) → ℕ → Type 0
Sound t x p = expr_at word_bytes t x deepest_record p (length t) ≡ got (expr_of t x p, after t p)

unfoldable pub SoundPart : (table text : List ℕ) → ℕ → Type 0
SoundPart t x p = part_at word_bytes t x deepest_record p (length t) ≡ got (part_of t x p, after t p)

-- ---- operands one after the other

module _ (t x : List ℕ) where
  -- where a mark may stand, and where none may
  abbrev pub Operand : Bool → ℕ → Type 0
  Operand true q = SoundPart t x q
  Operand false q = Sound t x q

  -- so many from a place on, up to the end
  abbrev pub Row : Marks → (end count place : ℕ) → Type 0
  Row marks end zero q = q ≡ end
  Row marks end (suc n) q = Operand (may_mark marks (suc n)) q × Row marks end n (after t q)

  abbrev pub elements_of : (count place : ℕ) → Elements
  elements_of zero q = no_elements
  elements_of (suc n) q = add_element (part_of t x q) (elements_of n (after t q))

  abbrev pub pairs_of : (count place : ℕ) → Pairs
  pairs_of zero q = no_pairs
  pairs_of (suc n) q = add_pair (expr_of t x q) (part_of t x (after t q)) (pairs_of n (after t (after t q)))

-- ---- a record of each kind

abbrev pub kind_byte : ExprKind → ℕ
kind_byte null_kind = 0
kind_byte bool_kind = 1
kind_byte int_kind = 2
kind_byte uint_kind = 3
kind_byte double_kind = 4
kind_byte string_kind = 5
kind_byte bytes_kind = 6
kind_byte name_kind = 7
kind_byte unary_kind = 8
kind_byte binary_kind = 9
kind_byte conditional_kind = 10
kind_byte select_kind = 11
kind_byte list_kind = 12
kind_byte map_kind = 13
kind_byte comprehension_kind = 15
kind_byte function_kind = 16

-- from a record's place to its first operand
abbrev pub head_of_kind : ExprKind → ℕ
head_of_kind null_kind = fields_at
head_of_kind bool_kind = fields_at + 1
head_of_kind int_kind = fields_at + 8
head_of_kind uint_kind = fields_at + 8
head_of_kind double_kind = fields_at + 8
head_of_kind string_kind = fields_at + word_bytes + word_bytes
head_of_kind bytes_kind = fields_at + word_bytes + word_bytes
head_of_kind name_kind = fields_at + 1
head_of_kind unary_kind = fields_at + 1
head_of_kind binary_kind = fields_at + 1
head_of_kind conditional_kind = fields_at
head_of_kind select_kind = fields_at + 1 + word_bytes + word_bytes
head_of_kind list_kind = fields_at + word_bytes
head_of_kind map_kind = fields_at + word_bytes
head_of_kind comprehension_kind = fields_at + 1 + 1
head_of_kind function_kind = fields_at + 1

abbrev pub span_of : List ℕ → (offset size : ℕ) → List ℕ
span_of x offset size = take size (drop offset x)

abbrev pub or_else : {A : Type 0} → A → Option A → A
or_else d None = d
or_else d (Some a) = a

abbrev pub unary_of : ℕ → Unary
unary_of n = or_else not_op (numbered unaries n)

abbrev pub binary_of : ℕ → Binary
binary_of n = or_else equals (numbered binaries n)

module _ (t x : List ℕ) (p : ℕ) where
  -- the numbers in its fields
  abbrev pub numbers_in : ExprKind → List ℕ
  numbers_in null_kind = []
  numbers_in bool_kind = get_or t (p + fields_at) 0 ∷ []
  numbers_in int_kind = long_at t (p + fields_at) ∷ []
  numbers_in uint_kind = long_at t (p + fields_at) ∷ []
  numbers_in double_kind = long_at t (p + fields_at) ∷ []
  numbers_in string_kind = word_at t (p + fields_at) ∷ word_at t (p + (fields_at + word_bytes)) ∷ []
  numbers_in bytes_kind = word_at t (p + fields_at) ∷ word_at t (p + (fields_at + word_bytes)) ∷ []
  numbers_in name_kind = get_or t (p + fields_at) 0 ∷ []
  numbers_in unary_kind = get_or t (p + fields_at) 0 ∷ []
  numbers_in binary_kind = get_or t (p + fields_at) 0 ∷ []
  numbers_in conditional_kind = []
  numbers_in select_kind = get_or t (p + fields_at) 0 ∷ word_at t (p + (fields_at + 1)) ∷ word_at t (p + (fields_at + 1 + word_bytes)) ∷ []
  numbers_in list_kind = word_at t (p + fields_at) ∷ []
  numbers_in map_kind = word_at t (p + fields_at) ∷ []
  numbers_in comprehension_kind = get_or t (p + fields_at) 0 ∷ get_or t (p + (fields_at + 1)) 0 ∷ []
  numbers_in function_kind = get_or t (p + fields_at) 0 ∷ []

  -- the operands, counted from 0
  abbrev pub operand_at : ExprKind → ℕ → ℕ
  operand_at k zero = p + head_of_kind k
  operand_at k (suc i) = after t (operand_at k i)

  abbrev pub call_of : Option Called → Expr
  call_of None = none_call p
  call_of (Some (to_one f)) = call p f (expr_of t x (operand_at function_kind 0))
  call_of (Some to_none) = none_call p
  call_of (Some to_two) = or_value p (expr_of t x (operand_at function_kind 0)) (expr_of t x (operand_at function_kind 1))

  -- the expression, made of those at its operands' places
  abbrev pub node : ExprKind → Expr
  node null_kind = literal p null
  node bool_kind = literal p (bool (eqb (get_or t (p + fields_at) 0) 1))
  node int_kind = literal p (int (to_z w64 (long_at t (p + fields_at))))
  node uint_kind = literal p (uint (long_at t (p + fields_at)))
  node double_kind = literal p (double (long_at t (p + fields_at)))
  node string_kind = literal p (string (span_of x (word_at t (p + fields_at)) (word_at t (p + (fields_at + word_bytes)))))
  node bytes_kind = literal p (bytes (span_of x (word_at t (p + fields_at)) (word_at t (p + (fields_at + word_bytes)))))
  node name_kind = name p (get_or t (p + fields_at) 0)
  node unary_kind = unary p (unary_of (get_or t (p + fields_at) 0)) (expr_of t x (operand_at unary_kind 0))
  node binary_kind = binary p (binary_of (get_or t (p + fields_at) 0)) (expr_of t x (operand_at binary_kind 0)) (expr_of t x (operand_at binary_kind 1))
  node conditional_kind =
      conditional p (expr_of t x (operand_at conditional_kind 0)) (expr_of t x (operand_at conditional_kind 1)) (expr_of t x (operand_at conditional_kind 2))
  node select_kind =
      select p (eqb (get_or t (p + fields_at) 0) 1) (span_of x (word_at t (p + (fields_at + 1))) (word_at t (p + (fields_at + 1 + word_bytes))))
      (expr_of t x (operand_at select_kind 0))
  node list_kind = list_of p (elements_of t x (word_at t (p + fields_at)) (operand_at list_kind 0))
  node map_kind = map_of p (pairs_of t x (word_at t (p + fields_at)) (operand_at map_kind 0))
  node comprehension_kind =
      comprehension p (get_or t (p + fields_at) 0) (get_or t (p + (fields_at + 1)) 0) (expr_of t x (operand_at comprehension_kind 0))
      (expr_of t x (operand_at comprehension_kind 1)) (expr_of t x (operand_at comprehension_kind 2)) (expr_of t x (operand_at comprehension_kind 3))
      (expr_of t x (operand_at comprehension_kind 4))
  node function_kind = call_of (numbered functions (get_or t (p + fields_at) 0))
