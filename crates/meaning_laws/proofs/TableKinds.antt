-- The definition's lists of kinds, operators, functions and flags hold, under each number, what the writing rules give that number to,
-- and nothing else. Assumes nothing.
use Prim.Native.Nat.{ℕ, zero, suc, ◌+◌, ◌<◌}
use native.Mathlib.Omega.{arith}
use native.Mathlib.Nat.{zero-add, add-zero, add-suc, suc-add}
use native.Mathlib.Numerals.{one-add}
use mathlib.Core.Path.{◌≡◌, refl}
use mathlib.Core.List.{List, [], ◌∷◌}
use Rattle.std.specs.Prelude.{None, Some}
use mathlib.Core.Bool.{Bool, true, false, cond}
use Rattle.std.specs.Prelude.{slice_get}
use lib.Dec.{ltb}
use borrow.Author.Tests.{lt-ltb, ltb-true}
use Rattle.meaning.specs.Limits.{names}
use Rattle.meaning.specs.Expr.{Unary, not_op, negate_op, not_strictly_false, And, Or, add, sub, div, mul, rem, less, less_equals, greater, greater_equals}
use Rattle.meaning.specs.Expr.{Binary, logic, equals, not_equals, index, opt_index, opt_select, arith as arithmetic, compare, is_in}
use Rattle.meaning.specs.Expr.{size_call, of_call, has_value_call, value_call}
use Rattle.meaning.specs.Kinds.{null_kind, bool_kind, int_kind, uint_kind, double_kind, string_kind, bytes_kind, name_kind, unary_kind, binary_kind}
use Rattle.meaning.specs.Kinds.{conditional_kind, select_kind, list_kind, map_kind, comprehension_kind, function_kind, Kind, mark, expr}
use Rattle.meaning.specs.Kinds.{Field, byte, word, long, Operands, never, always, counted, called, Row, kinds, numbered, unaries, binaries}
use Rattle.meaning.specs.Kinds.{Called, to_one, to_none, to_two, functions, flags, name_of}
use Rattle.meaning_laws.specs.Written.{flag_number, unary_number, binary_number, function_number}
use Rattle.meaning_laws.proofs.TableBytes.{nonsense}

-- ---- lists with a number for each element

-- every element and its number have the property, the first number being n
abbrev All : {A : Type 0} → (ℕ → A → Type 0) → ℕ → List A → Type 0
All P n [] = Unit {0}
All P n (x ∷ xs) = P n x × All P (suc n) xs

all-at : {A : Type 0} (P : ℕ → A → Type 0) (xs : List A) (n i : ℕ) (a : A) → All P n xs → slice_get xs i ≡ Some a → P (n + i) a
all-at P [] n i a h e = nonsense (cc)
all-at P (x ∷ xs) n zero a h e = let same : x ≡ a = cc in rw (add-zero, ← same) h.0
all-at P (x ∷ xs) n (suc i) a h e = rw (add-suc, ← suc-add) (all-at P xs (suc n) i a h.1 e)

-- ---- kinds

-- the byte of a kind
abbrev pub kind_byte : Kind → ℕ
kind_byte (expr null_kind) = 0
kind_byte (expr bool_kind) = 1
kind_byte (expr int_kind) = 2
kind_byte (expr uint_kind) = 3
kind_byte (expr double_kind) = 4
kind_byte (expr string_kind) = 5
kind_byte (expr bytes_kind) = 6
kind_byte (expr name_kind) = 7
kind_byte (expr unary_kind) = 8
kind_byte (expr binary_kind) = 9
kind_byte (expr conditional_kind) = 10
kind_byte (expr select_kind) = 11
kind_byte (expr list_kind) = 12
kind_byte (expr map_kind) = 13
kind_byte mark = 14
kind_byte (expr comprehension_kind) = 15
kind_byte (expr function_kind) = 16

-- the fields behind the extent
abbrev pub fields_of : Kind → List Field
fields_of (expr null_kind) = []
fields_of (expr bool_kind) = byte ∷ []
fields_of (expr int_kind) = long ∷ []
fields_of (expr uint_kind) = long ∷ []
fields_of (expr double_kind) = long ∷ []
fields_of (expr string_kind) = word ∷ word ∷ []
fields_of (expr bytes_kind) = word ∷ word ∷ []
fields_of (expr name_kind) = byte ∷ []
fields_of (expr unary_kind) = byte ∷ []
fields_of (expr binary_kind) = byte ∷ []
fields_of (expr conditional_kind) = []
fields_of (expr select_kind) = byte ∷ word ∷ word ∷ []
fields_of (expr list_kind) = word ∷ []
fields_of (expr map_kind) = word ∷ []
fields_of mark = []
fields_of (expr comprehension_kind) = byte ∷ byte ∷ []
fields_of (expr function_kind) = byte ∷ []

-- whether operands follow
abbrev pub operands_of : Kind → Operands
operands_of (expr null_kind) = never
operands_of (expr bool_kind) = never
operands_of (expr int_kind) = never
operands_of (expr uint_kind) = never
operands_of (expr double_kind) = never
operands_of (expr string_kind) = never
operands_of (expr bytes_kind) = never
operands_of (expr name_kind) = never
operands_of (expr unary_kind) = always
operands_of (expr binary_kind) = always
operands_of (expr conditional_kind) = always
operands_of (expr select_kind) = always
operands_of (expr list_kind) = counted
operands_of (expr map_kind) = counted
operands_of mark = always
operands_of (expr comprehension_kind) = always
operands_of (expr function_kind) = called

-- all of it
abbrev pub row_of : Kind → Row
row_of k = record { kind = k; fields = fields_of k; operands = operands_of k }

-- The row of a kind stands at the kind's byte.
pub kind-there : (k : Kind) → slice_get kinds (kind_byte k) ≡ Some (row_of k)
unfolding kinds
kind-there (expr null_kind) = refl
kind-there (expr bool_kind) = refl
kind-there (expr int_kind) = refl
kind-there (expr uint_kind) = refl
kind-there (expr double_kind) = refl
kind-there (expr string_kind) = refl
kind-there (expr bytes_kind) = refl
kind-there (expr name_kind) = refl
kind-there (expr unary_kind) = refl
kind-there (expr binary_kind) = refl
kind-there (expr conditional_kind) = refl
kind-there (expr select_kind) = refl
kind-there (expr list_kind) = refl
kind-there (expr map_kind) = refl
kind-there mark = refl
kind-there (expr comprehension_kind) = refl
kind-there (expr function_kind) = refl

-- the number and the row that stand at a place of the list
abbrev Numbered : ℕ → Row → Type 0
Numbered b r = b ≡ kind_byte r.kind

abbrev Complete : ℕ → Row → Type 0
Complete b r = r ≡ row_of r.kind

rows-numbered : All Numbered 0 kinds
unfolding kinds
rows-numbered = omega arith

rows-complete : All Complete 0 kinds
unfolding kinds
rows-complete = (r, (r, (r, (r, (r, (r, (r, (r, (r, (r, (r, (r, (r, (r, (r, (r, (r, tt)))))))))))))))))
  where
    r : {a : Row} → a ≡ a
    r = refl

-- A row that stands at a byte is the row of its kind, and the byte is the kind's.
pub kind-here : (b : ℕ) (r : Row) → slice_get kinds b ≡ Some r → (b ≡ kind_byte r.kind) × (r ≡ row_of r.kind)
kind-here b r e = (rw zero-add at (all-at Numbered kinds 0 b r rows-numbered e), all-at Complete kinds 0 b r rows-complete e)

-- ---- operators, functions, flags and names

-- the n-th of a list whose numbers begin at 1
numbered-at : {A : Type 0} (P : ℕ → A → Type 0) (xs : List A) (n : ℕ) (a : A) → All P 1 xs → numbered xs n ≡ Some a → P n a
unfolding numbered
numbered-at P xs zero a h e = nonsense (cc)
numbered-at P xs (suc n) a h e = rw one-add at (all-at P xs 1 n a h e)

-- A flag stands under its number.
pub flag-there : (b : Bool) → slice_get flags (flag_number b) ≡ Some b
unfolding flags
flag-there false = refl
flag-there true = refl

abbrev OfFlag : ℕ → Bool → Type 0
OfFlag n b = n ≡ flag_number b

flags-numbered : All OfFlag 0 flags
unfolding flags
flags-numbered = omega arith

-- What stands under a number is the flag with this number.
pub flag-here : (n : ℕ) (b : Bool) → slice_get flags n ≡ Some b → n ≡ flag_number b
flag-here n b e = rw zero-add at (all-at OfFlag flags 0 n b flags-numbered e)

-- A unary operator stands under its number.
pub unary-there : (o : Unary) → numbered unaries (unary_number o) ≡ Some o
unfolding numbered unaries
unary-there not_op = refl
unary-there negate_op = refl
unary-there not_strictly_false = refl

abbrev OfUnary : ℕ → Unary → Type 0
OfUnary n o = n ≡ unary_number o

unaries-numbered : All OfUnary 1 unaries
unfolding unaries
unaries-numbered = omega arith

-- What stands under a number is the unary operator with this number.
pub unary-here : (n : ℕ) (o : Unary) → numbered unaries n ≡ Some o → n ≡ unary_number o
unary-here n o e = numbered-at OfUnary unaries n o unaries-numbered e

-- A binary operator stands under its number.
pub binary-there : (o : Binary) → numbered binaries (binary_number o) ≡ Some o
unfolding numbered binaries
binary-there (logic Or) = refl
binary-there (logic And) = refl
binary-there equals = refl
binary-there not_equals = refl
binary-there index = refl
binary-there opt_index = refl
binary-there opt_select = refl
binary-there (arithmetic add) = refl
binary-there (arithmetic sub) = refl
binary-there (arithmetic div) = refl
binary-there (arithmetic mul) = refl
binary-there (arithmetic rem) = refl
binary-there (compare less) = refl
binary-there (compare less_equals) = refl
binary-there (compare greater) = refl
binary-there (compare greater_equals) = refl
binary-there is_in = refl

abbrev OfBinary : ℕ → Binary → Type 0
OfBinary n o = n ≡ binary_number o

binaries-numbered : All OfBinary 1 binaries
unfolding binaries
binaries-numbered = omega arith

-- What stands under a number is the binary operator with this number.
pub binary-here : (n : ℕ) (o : Binary) → numbered binaries n ≡ Some o → n ≡ binary_number o
binary-here n o e = numbered-at OfBinary binaries n o binaries-numbered e

-- the number of a function
abbrev pub called_number : Called → ℕ
called_number (to_one f) = function_number f
called_number to_none = 3
called_number to_two = 6

-- A function stands under its number.
pub called-there : (f : Called) → numbered functions (called_number f) ≡ Some f
unfolding numbered functions
called-there (to_one size_call) = refl
called-there (to_one of_call) = refl
called-there (to_one has_value_call) = refl
called-there (to_one value_call) = refl
called-there to_none = refl
called-there to_two = refl

abbrev OfCalled : ℕ → Called → Type 0
OfCalled n f = n ≡ called_number f

functions-numbered : All OfCalled 1 functions
unfolding functions
functions-numbered = omega arith

-- What stands under a number is the function with this number.
pub called-here : (n : ℕ) (f : Called) → numbered functions n ≡ Some f → n ≡ called_number f
called-here n f e = numbered-at OfCalled functions n f functions-numbered e

-- A number below the limit is a name.
pub name-there : (n : ℕ) → n < names → name_of n ≡ Some n
unfolding name_of
name-there n h = rw (lt-ltb n names h)

-- A name is its number, below the limit.
pub name-here : (n m : ℕ) → name_of n ≡ Some m → (n ≡ m) × (m < names)
unfolding name_of
name-here n m e = go (ltb n names) refl e
  where
    go : (t : Bool) → ltb n names ≡ t → cond t (Some n) None ≡ Some m → (n ≡ m) × (m < names)
    go true h e = let same : n ≡ m = cc in (same, rw (← same) (ltb-true n names h))
    go false h e = nonsense (cc)
