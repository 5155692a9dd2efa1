-- The records of a node table: each kind with its fields, and the numbers that stand for operators, functions, flags and names.
use Rattle.std.specs.Prelude.{ℕ, zero, suc, List, [], ◌∷◌, Bool, true, false, cond, ltb, eqb, Option, None, Some}
use Rattle.std.specs.Prelude.{slice_get}
use Rattle.meaning.specs.Limits.{names}
use Rattle.meaning.specs.Expr.{Unary, not_op, negate_op, not_strictly_false, And, Or, add, sub, div, mul, rem, less, less_equals, greater, greater_equals, Binary, logic, equals, not_equals, index, opt_index, opt_select, arith, compare, is_in, Function, size_call, of_call, has_value_call, value_call}

-- ---- the kinds of records

-- a mark is no expression
pub data ExprKind : Type 0 where
  null_kind bool_kind int_kind uint_kind double_kind string_kind bytes_kind : ExprKind
  name_kind unary_kind binary_kind conditional_kind select_kind : ExprKind
  list_kind map_kind comprehension_kind function_kind : ExprKind

pub data Kind : Type 0 where
  mark : Kind
  expr : ExprKind → Kind

-- a field: a byte, a word of the layout's width, or 8 bytes
pub data Field : Type 0 where
  byte word long : Field

-- whether operands follow: never, always, if the count is not 0, if the function has some
pub data Operands : Type 0 where
  never always counted called : Operands

-- a kind, its fields after the extent, its operands
pub record Row : Type 0 where
  pub kind : Kind
  pub fields : List Field
  pub operands : Operands

abbrev pub row : ExprKind → List Field → Operands → Row
row k fs os = record { kind = expr k; fields = fs; operands = os }

abbrev pub mark_row : Row
mark_row = record { kind = mark; fields = []; operands = always }

-- in the order of the kind bytes, from 0
unfoldable pub kinds : List Row
kinds =
    row null_kind [] never
    ∷ row bool_kind (byte ∷ []) never
    ∷ row int_kind (long ∷ []) never
    ∷ row uint_kind (long ∷ []) never
    ∷ row double_kind (long ∷ []) never
    ∷ row string_kind (word ∷ word ∷ []) never
    ∷ row bytes_kind (word ∷ word ∷ []) never
    ∷ row name_kind (byte ∷ []) never
    ∷ row unary_kind (byte ∷ []) always
    ∷ row binary_kind (byte ∷ []) always
    ∷ row conditional_kind [] always
    ∷ row select_kind (byte ∷ word ∷ word ∷ []) always
    ∷ row list_kind (word ∷ []) counted
    ∷ row map_kind (word ∷ []) counted
    ∷ mark_row
    ∷ row comprehension_kind (byte ∷ byte ∷ []) always
    ∷ row function_kind (byte ∷ []) called
    ∷ []

-- ---- the numbers in fields

-- the n-th of a list whose numbers begin at 1
unfoldable pub numbered : {A : Type 0} → List A → ℕ → Option A
numbered xs zero = None
numbered xs (suc n) = slice_get xs n

unfoldable pub unaries : List Unary
unaries = not_op ∷ negate_op ∷ not_strictly_false ∷ []

unfoldable pub binaries : List Binary
binaries =
    logic Or
    ∷ logic And
    ∷ equals
    ∷ not_equals
    ∷ index
    ∷ opt_index
    ∷ opt_select
    ∷ arith add
    ∷ arith sub
    ∷ arith div
    ∷ arith mul
    ∷ arith rem
    ∷ compare less
    ∷ compare less_equals
    ∷ compare greater
    ∷ compare greater_equals
    ∷ is_in
    ∷ []

-- a function of one operand, optional.none, or orValue
pub data Called : Type 0 where
  to_one : Function → Called
  to_none to_two : Called

unfoldable pub functions : List Called
functions = to_one size_call ∷ to_one of_call ∷ to_none ∷ to_one has_value_call ∷ to_one value_call ∷ to_two ∷ []

-- a flag is 0 or 1
unfoldable pub flags : List Bool
flags = false ∷ true ∷ []

unfoldable pub name_of : ℕ → Option ℕ
name_of n = cond (ltb n names) (Some n) None

-- ---- whether operands follow

unfoldable pub called_without : Option Called → Bool
called_without None = false
called_without (Some (to_one f)) = false
called_without (Some to_none) = true
called_without (Some to_two) = false

-- n is the number in the record's first field
unfoldable pub is_leaf : Operands → ℕ → Bool
is_leaf never n = true
is_leaf always n = false
is_leaf counted n = eqb n 0
is_leaf called n = called_without (numbered functions n)
