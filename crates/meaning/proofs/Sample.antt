-- Notation for worked examples: tables spelled record by record, their extents worked out; values; rows; what is done to a binding room.
use Prim.Native.Nat.{ℕ, zero, suc, ◌+◌, ◌-◌, ◌/◌, ◌%◌, ◌^◌}
use mathlib.Core.Path.{◌≡◌}
use mathlib.Core.List.{List, [], ◌∷◌, ◌++◌, map}
use mathlib.Core.Bool.{Bool}
use lib.IntN.{ℤ}
use lib.ListN.{length}
use Rattle.meaning.specs.Limits.{Counts, most_steps, most_cells, most_bytes}
use Rattle.meaning.specs.Errors.{refusal_number}
use Rattle.meaning.specs.Value.{bool, int, Value, scalar, list, Values, nil, cons}
use Rattle.meaning.specs.Heads.{Got, got, refused}
use Rattle.meaning.specs.Bindings.{BindingRoom, empty_room, bring}
use Rattle.meaning.specs.Rows.{Shown, Row}

-- ---- records

-- n as a given number of bytes, the lowest first
unfoldable pub little : ℕ → ℕ → List ℕ
little zero n = []
little (suc k) n = n % 256 ∷ little k (n / 256)

-- a kind byte, the extent, the fields, the operands
unfoldable pub spelled : ℕ → List ℕ → List ℕ → List ℕ
spelled kind fields operands = kind ∷ (little 2 (3 + length fields + length operands) ++ (fields ++ operands))

unfoldable pub joined : List (List ℕ) → List ℕ
joined [] = []
joined (x ∷ xs) = x ++ joined xs

abbrev pub Null : List ℕ
Null = spelled 0 [] []

abbrev pub True : List ℕ
True = spelled 1 (1 ∷ []) []

abbrev pub False : List ℕ
False = spelled 1 (0 ∷ []) []

abbrev pub Int : ℕ → List ℕ
Int n = spelled 2 (little 8 n) []

-- -(n + 1)
abbrev pub Below : ℕ → List ℕ
Below n = spelled 2 (little 8 (2 ^ 64 - suc n)) []

abbrev pub Uint : ℕ → List ℕ
Uint n = spelled 3 (little 8 n) []

abbrev pub Double : ℕ → List ℕ
Double bits = spelled 4 (little 8 bits) []

-- a span of the text: offset, length
abbrev pub String : ℕ → ℕ → List ℕ
String at n = spelled 5 (little 2 at ++ little 2 n) []

abbrev pub Bytes : ℕ → ℕ → List ℕ
Bytes at n = spelled 6 (little 2 at ++ little 2 n) []

abbrev pub Name : ℕ → List ℕ
Name n = spelled 7 (n ∷ []) []

abbrev pub Not : List ℕ → List ℕ
Not e = spelled 8 (1 ∷ []) e

abbrev pub Negate : List ℕ → List ℕ
Negate e = spelled 8 (2 ∷ []) e

abbrev pub NotStrictlyFalse : List ℕ → List ℕ
NotStrictlyFalse e = spelled 8 (3 ∷ []) e

abbrev pub Or : List ℕ → List ℕ → List ℕ
Or e f = spelled 9 (1 ∷ []) (e ++ f)

abbrev pub And : List ℕ → List ℕ → List ℕ
And e f = spelled 9 (2 ∷ []) (e ++ f)

abbrev pub Equals : List ℕ → List ℕ → List ℕ
Equals e f = spelled 9 (3 ∷ []) (e ++ f)

abbrev pub Differs : List ℕ → List ℕ → List ℕ
Differs e f = spelled 9 (4 ∷ []) (e ++ f)

abbrev pub Index : List ℕ → List ℕ → List ℕ
Index e f = spelled 9 (5 ∷ []) (e ++ f)

abbrev pub OptIndex : List ℕ → List ℕ → List ℕ
OptIndex e f = spelled 9 (6 ∷ []) (e ++ f)

abbrev pub OptSelect : List ℕ → List ℕ → List ℕ
OptSelect e f = spelled 9 (7 ∷ []) (e ++ f)

abbrev pub Plus : List ℕ → List ℕ → List ℕ
Plus e f = spelled 9 (8 ∷ []) (e ++ f)

abbrev pub Minus : List ℕ → List ℕ → List ℕ
Minus e f = spelled 9 (9 ∷ []) (e ++ f)

abbrev pub Over : List ℕ → List ℕ → List ℕ
Over e f = spelled 9 (10 ∷ []) (e ++ f)

abbrev pub Times : List ℕ → List ℕ → List ℕ
Times e f = spelled 9 (11 ∷ []) (e ++ f)

abbrev pub Rem : List ℕ → List ℕ → List ℕ
Rem e f = spelled 9 (12 ∷ []) (e ++ f)

abbrev pub Less : List ℕ → List ℕ → List ℕ
Less e f = spelled 9 (13 ∷ []) (e ++ f)

abbrev pub AtMost : List ℕ → List ℕ → List ℕ
AtMost e f = spelled 9 (14 ∷ []) (e ++ f)

abbrev pub More : List ℕ → List ℕ → List ℕ
More e f = spelled 9 (15 ∷ []) (e ++ f)

abbrev pub AtLeast : List ℕ → List ℕ → List ℕ
AtLeast e f = spelled 9 (16 ∷ []) (e ++ f)

abbrev pub In : List ℕ → List ℕ → List ℕ
In e f = spelled 9 (17 ∷ []) (e ++ f)

abbrev pub If : List ℕ → List ℕ → List ℕ → List ℕ
If c e f = spelled 10 [] (c ++ e ++ f)

abbrev pub Select : List ℕ → ℕ → ℕ → List ℕ
Select e at n = spelled 11 (0 ∷ (little 2 at ++ little 2 n)) e

abbrev pub Has : List ℕ → ℕ → ℕ → List ℕ
Has e at n = spelled 11 (1 ∷ (little 2 at ++ little 2 n)) e

abbrev pub ListOf : List (List ℕ) → List ℕ
ListOf es = spelled 12 (little 2 (length es)) (joined es)

-- key, value, key, value
abbrev pub MapOf : List (List ℕ) → List ℕ
MapOf es = spelled 13 (little 2 (length es / 2)) (joined es)

abbrev pub Mark : List ℕ → List ℕ
Mark e = spelled 14 [] e

-- accumulator, item; range, init, condition, step, result
abbrev pub Fold : ℕ → ℕ → List ℕ → List ℕ → List ℕ → List ℕ → List ℕ → List ℕ
Fold a i range init condition step result = spelled 15 (a ∷ i ∷ []) (range ++ init ++ condition ++ step ++ result)

abbrev pub Size : List ℕ → List ℕ
Size e = spelled 16 (1 ∷ []) e

abbrev pub Some : List ℕ → List ℕ
Some e = spelled 16 (2 ∷ []) e

abbrev pub HasValue : List ℕ → List ℕ
HasValue e = spelled 16 (4 ∷ []) e

abbrev pub ValueOf : List ℕ → List ℕ
ValueOf e = spelled 16 (5 ∷ []) e

abbrev pub None : List ℕ
None = spelled 16 (3 ∷ []) []

abbrev pub OrValue : List ℕ → List ℕ → List ℕ
OrValue e f = spelled 16 (6 ∷ []) (e ++ f)

-- a list of one marked element
abbrev pub MarkedList : List ℕ → List ℕ
MarkedList e = ListOf (Mark e ∷ [])

-- a number of records around one
unfoldable pub wrapped : ℕ → (List ℕ → List ℕ) → List ℕ → List ℕ
wrapped zero outer e = e
wrapped (suc n) outer e = outer (wrapped n outer e)

-- ---- values

abbrev pub truth : Bool → Value
truth b = scalar (bool b)

abbrev pub number : ℤ → Value
number z = scalar (int z)

unfoldable pub values_of : List Value → Values
values_of [] = nil
values_of (v ∷ vs) = cons v (values_of vs)

abbrev pub elements : List Value → Value
elements vs = list (values_of vs)

-- a number of lists around a value
unfoldable pub nested : ℕ → Value → Value
nested zero v = v
nested (suc n) v = elements (nested n v ∷ [])

-- ---- rows

abbrev pub counts : ℕ → ℕ → ℕ → Counts
counts s c b = record { steps = s; cells = c; bytes = b }

-- all that can be lent
abbrev pub ample : Counts
ample = counts most_steps most_cells most_bytes

abbrev pub row : List ℕ → List ℕ → List (ℕ × Value) → Counts → Shown → Row
row table text bound lent answer = record { table = table; text = text; bound = bound; lent = lent; answer = answer }

-- ---- bindings

-- what is done to a binding room, and what it answers
pub data Step : Type 0 where
  empties : Step
  brings : ℕ → List ℕ → List ℕ → Step

pub data Reply : Type 0 where
  emptied brought : Reply
  declined : ℕ → ℕ → Reply

abbrev pub after : BindingRoom → Got BindingRoom → Reply × BindingRoom
after room (got more) = (brought, more)
after room (refused r p) = (declined (refusal_number r) p, room)

abbrev pub taken : ℕ → ℕ → BindingRoom → Step → Reply × BindingRoom
taken cells bytes room empties = (emptied, empty_room)
taken cells bytes room (brings n table text) = after room (bring cells bytes room n table text)

-- one after the other, in a room of `cells` cells and `bytes` bytes
unfoldable pub play : ℕ → ℕ → BindingRoom → List Step → List Reply × BindingRoom
play cells bytes room [] = ([], room)
play cells bytes room (s ∷ ss) =
    let now = taken cells bytes room s in
    let later = play cells bytes now.1 ss in
    (now.0 ∷ later.0, later.1)

-- the lengths lent, what is done, what is answered, and what is bound then, with the cells and bytes used
pub record BindingRow : Type 0 where
  pub cells : ℕ
  pub bytes : ℕ
  pub steps : List Step
  pub replies : List Reply
  pub bound : List (ℕ × Value)
  pub used_cells : ℕ
  pub used_bytes : ℕ

abbrev pub binding : ℕ → ℕ → List Step → List Reply → List (ℕ × Value) → ℕ → ℕ → BindingRow
binding c b ss rs vs uc ub = record { cells = c; bytes = b; steps = ss; replies = rs; bound = vs; used_cells = uc; used_bytes = ub }

abbrev pub played : BindingRow → List Reply × BindingRoom
played r = play r.cells r.bytes empty_room r.steps

abbrev pub wanted : BindingRow → List Reply × BindingRoom
wanted r = (r.replies, record { bound = r.bound; used_cells = r.used_cells; used_bytes = r.used_bytes })

-- every row's replies come, and its room
abbrev pub HoldBindings : List BindingRow → Type 0
HoldBindings rows = map played rows ≡ map wanted rows
