-- Records of one operand or two, and the slots that a record reads which is a literal or a name, or which is two levels at most above those.
use Rattle.std.specs.Prelude.{ℕ, ◌<◌, ◌≡◌, Bool, true, false, cond, List, Option, None, Some}
use Rattle.meaning.specs.Limits.{names}
use Rattle.meaning.specs.Expr.{Expr, literal, name, unary, binary, conditional, select, list_of, map_of, comprehension, call, none_call, or_value}
use Rattle.meaning.specs.Kinds.{Called, to_one, to_none, to_two, numbered, functions}
use Rattle.rooms.specs.declared.scope.Slot.{Slot}
use Rattle.rooms.specs.declared.scope.Scope.{Scope}
use Rattle.rooms.specs.Scope.{slot_of}
use Rattle.table_check.specs.Records.{Sound, expr_of}
use Rattle.eval_shapes.specs.Leaves.{slot_in}
use Rattle.eval_shapes.specs.declared.Shape.{Shape}
use Rattle.eval_shapes.specs.Shapes.{shape_of}
use Rattle.eval_shallow.specs.declared.slots.Sides.{Sides}
use Rattle.eval_shallow.specs.declared.slots.Pair.{Pair}

-- ---- one operand or two

pub data Operands : Type 0 where
  neither : Operands
  one : Expr → Operands
  two : Expr → Expr → Operands

-- of operators, select and the functions of one argument
abbrev pub operands_of : Expr → Operands
operands_of (literal p x) = neither
operands_of (name p n) = neither
operands_of (unary p o e) = one e
operands_of (binary p o e f) = two e f
operands_of (conditional p c e f) = neither
operands_of (select p t f e) = one e
operands_of (list_of p es) = neither
operands_of (map_of p es) = neither
operands_of (comprehension p a i r s c t e) = neither
operands_of (call p f e) = one e
operands_of (none_call p) = neither
operands_of (or_value p e f) = neither

-- as the code has them, by their places
abbrev pub sides_seen : (t x : List ℕ) → Sides → Operands
sides_seen t x Sides.Neither = neither
sides_seen t x (Sides.One p) = one (expr_of t x p)
sides_seen t x (Sides.Two p q) = two (expr_of t x p) (expr_of t x q)

abbrev pub SoundSides : (t x : List ℕ) → Sides → Type 0
SoundSides t x Sides.Neither = Unit {0}
SoundSides t x (Sides.One p) = Sound t x p
SoundSides t x (Sides.Two p q) = Sound t x p × Sound t x q

-- of a function by its number, with the place where its first operand would stand
abbrev pub called_sides : Option Called → ℕ → Sides
called_sides None q = Sides.Neither
called_sides (Some (to_one f)) q = Sides.One q
called_sides (Some to_none) q = Sides.Neither
called_sides (Some to_two) q = Sides.Neither

abbrev pub call_sides : (number place : ℕ) → Sides
call_sides n q = called_sides (numbered functions n) q

-- ---- literals and names

abbrev pub leaf_shape : Shape → Bool
leaf_shape Shape.Leaf = true
leaf_shape Shape.List = false
leaf_shape Shape.Map = false
leaf_shape Shape.Comprehension = false
leaf_shape Shape.None = false
leaf_shape (Shape.Operands f) = false

abbrev pub is_leaf : Expr → Bool
is_leaf e = leaf_shape (shape_of e)

-- ---- the slots of a record whose operands are literals and names

abbrev pub pair : ℕ → ℕ → Pair ℕ
pair a b = record { first = a; second = b }

abbrev pub flat_slots : Operands → Option (Pair ℕ)
flat_slots neither = None
flat_slots (one e) = cond (is_leaf e) (Some (pair (slot_in e) 0)) None
flat_slots (two e f) = cond (is_leaf e) (cond (is_leaf f) (Some (pair (slot_in e) (slot_in f))) None) None

abbrev pub flat_of : Expr → Option (Pair ℕ)
flat_of e = flat_slots (operands_of e)

-- a literal or a name itself, or such a record
abbrev pub small_of : Expr → Option (Pair ℕ)
small_of e = cond (is_leaf e) (Some (pair (slot_in e) 0)) (flat_of e)

-- ---- and of one whose operands are all of those

abbrev pub beside : Option (Pair ℕ) → Option (Pair ℕ) → Option (Pair (Pair ℕ))
beside None n = None
beside (Some a) None = None
beside (Some a) (Some b) = Some (record { first = a; second = b })

abbrev pub near_slots : Operands → Option (Pair (Pair ℕ))
near_slots neither = None
near_slots (one e) = beside (small_of e) (Some (pair 0 0))
near_slots (two e f) = beside (small_of e) (small_of f)

abbrev pub near_of : Expr → Option (Pair (Pair ℕ))
near_of e = near_slots (operands_of e)

-- ---- such slots: there are some, each is a name's, a scope has these values in them

abbrev pub IsPair : Option (Pair ℕ) → Type 0
IsPair None = ⊥
IsPair (Some m) = Unit {0}

abbrev pub PairBelow : Option (Pair ℕ) → Type 0
PairBelow None = Unit {0}
PairBelow (Some m) = (m.first < names) × (m.second < names)

abbrev pub PairHolds : Scope → Option (Pair ℕ) → Pair Slot → Type 0
PairHolds s None v = ⊥
PairHolds s (Some m) v = (slot_of s m.first ≡ v.first.value) × (slot_of s m.second ≡ v.second.value)

abbrev pub IsQuad : Option (Pair (Pair ℕ)) → Type 0
IsQuad None = ⊥
IsQuad (Some m) = Unit {0}

abbrev pub QuadBelow : Option (Pair (Pair ℕ)) → Type 0
QuadBelow None = Unit {0}
QuadBelow (Some m) = PairBelow (Some m.first) × PairBelow (Some m.second)

abbrev pub QuadHolds : Scope → Option (Pair (Pair ℕ)) → Pair (Pair Slot) → Type 0
QuadHolds s None v = ⊥
QuadHolds s (Some m) v = PairHolds s (Some m.first) v.first × PairHolds s (Some m.second) v.second
