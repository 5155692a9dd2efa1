-- Records as the code goes about them: how a record is evaluated, what follows its first operand.
use Rattle.std.specs.Prelude.{ℕ, ◌+◌, ◌≡◌, List, Option, None, Some}
use Rattle.meaning.specs.Expr as Expr
use Rattle.meaning.specs.Expr.{Expr, literal, name, unary, binary, conditional, select, list_of, map_of, comprehension, call, none_call, or_value, LogicalFold}
use Rattle.meaning.specs.Kinds.{Called, to_one, to_none, to_two, numbered, functions}
use Rattle.rooms.specs.Rooms.{Rooms}
use Rattle.table_layout.specs.Layout.{after}
use Rattle.machine.specs.declared.outcome.Outcome.{Outcome}
use Rattle.machine.specs.Outcomes.{Res, with_value}
use Rattle.machine.specs.Literals.{field_value}
use Rattle.machine.specs.Selection.{select_field}
use Rattle.machine.specs.Calls.{called}
use Rattle.machine.specs.Machine.{unary_out, left_of}
use Rattle.eval_outcomes.specs.declared.operators.Unary.{Unary}
use Rattle.eval_outcomes.specs.declared.operators.Fold.{Fold}
use Rattle.eval_outcomes.specs.declared.operators.Arith.{Arith}
use Rattle.eval_outcomes.specs.declared.operators.Comparison.{Comparison}
use Rattle.eval_outcomes.specs.declared.operators.Binary.{Binary}
use Rattle.eval_outcomes.specs.declared.operators.Function.{Function}
use Rattle.eval_shapes.specs.declared.next.Fixed.{Fixed}
use Rattle.eval_shapes.specs.declared.Shape.{Shape}
use Rattle.eval_shapes.specs.declared.next.Next.{Next}
use Rattle.eval_outcomes.specs.Seen.{unary_seen, binary_seen, function_seen}
use Rattle.eval_logic.specs.Conditions.{asked_of}
use Rattle.eval_shapes.specs.Next.{go_next, ask_next, value_next}

-- ---- how a record is evaluated

abbrev pub unary_shape : Expr.Unary → Unary
unary_shape Expr.not_op = Unary.Not
unary_shape Expr.negate_op = Unary.Negate
unary_shape Expr.not_strictly_false = Unary.NotStrictlyFalse

abbrev pub fold_shape : LogicalFold → Fold
fold_shape Expr.And = Fold.And
fold_shape Expr.Or = Fold.Or

abbrev pub arith_shape : Expr.Arith → Arith
arith_shape Expr.add = Arith.Add
arith_shape Expr.sub = Arith.Subtract
arith_shape Expr.div = Arith.Divide
arith_shape Expr.mul = Arith.Multiply
arith_shape Expr.rem = Arith.Remainder

abbrev pub comparison_shape : Expr.Comparison → Comparison
comparison_shape Expr.less = Comparison.Less
comparison_shape Expr.less_equals = Comparison.LessEquals
comparison_shape Expr.greater = Comparison.Greater
comparison_shape Expr.greater_equals = Comparison.GreaterEquals

abbrev pub binary_shape : Expr.Binary → Binary
binary_shape (Expr.logic f) = Binary.Logic (fold_shape f)
binary_shape Expr.equals = Binary.Equals
binary_shape Expr.not_equals = Binary.NotEquals
binary_shape Expr.index = Binary.Index
binary_shape Expr.opt_index = Binary.OptionalIndex
binary_shape Expr.opt_select = Binary.OptionalSelect
binary_shape (Expr.arith o) = Binary.Arithmetic (arith_shape o)
binary_shape (Expr.compare c) = Binary.Order (comparison_shape c)
binary_shape Expr.is_in = Binary.In

abbrev pub function_shape : Expr.Function → Function
function_shape Expr.size_call = Function.Size
function_shape Expr.of_call = Function.Of
function_shape Expr.has_value_call = Function.HasValue
function_shape Expr.value_call = Function.Value

abbrev pub called_shape : Option Called → Shape
called_shape None = Shape.None
called_shape (Some (to_one f)) = Shape.Operands (Fixed.Call (function_shape f))
called_shape (Some to_none) = Shape.None
called_shape (Some to_two) = Shape.Operands Fixed.OrValue

-- by its number
abbrev pub call_shape : ℕ → Shape
call_shape n = called_shape (numbered functions n)

abbrev pub shape_of : Expr → Shape
shape_of (literal p x) = Shape.Leaf
shape_of (name p n) = Shape.Leaf
shape_of (unary p o e) = Shape.Operands (Fixed.Unary (unary_shape o))
shape_of (binary p o e f) = Shape.Operands (Fixed.Binary (binary_shape o))
shape_of (conditional p c e f) = Shape.Operands Fixed.Conditional
shape_of (select p y f e) = Shape.Operands (Fixed.Select y)
shape_of (list_of p es) = Shape.List
shape_of (map_of p es) = Shape.Map
shape_of (comprehension p a i r s c y e) = Shape.Comprehension
shape_of (call p f e) = Shape.Operands (Fixed.Call (function_shape f))
shape_of (none_call p) = Shape.None
shape_of (or_value p e f) = Shape.Operands Fixed.OrValue

-- ---- fixed operands

-- where the operand that is begun first stands
abbrev pub first_at : List ℕ → ℕ → Fixed → ℕ
first_at t p (Fixed.Unary o) = p + 4
first_at t p (Fixed.Binary o) = p + 4
first_at t p Fixed.Conditional = p + 3
first_at t p (Fixed.Select y) = p + 8
first_at t p (Fixed.Call f) = p + 4
first_at t p Fixed.OrValue = after t (p + 4)

abbrev pub stopped : Res → Next × Rooms
stopped x = (Next.Stop x.0, x.1)

-- after the operand that is begun first
abbrev pub next_of : List ℕ → ℕ → ℕ → Fixed → Outcome → Rooms → Next × Rooms
next_of t limit p (Fixed.Unary o) x r = (Next.Stop (unary_out p (unary_seen o) x), r)
next_of t limit p (Fixed.Binary o) x r = (go_next (left_of (binary_seen o) x) (after t (p + 4)) x, r)
next_of t limit p Fixed.Conditional x r = (ask_next (asked_of p x) (after t (p + 3)) (after t (after t (p + 3))), r)
next_of t limit p (Fixed.Select y) x r = stopped (with_value x r (λ v u q. select_field limit p y (field_value t p) v u q))
next_of t limit p (Fixed.Call f) x r = stopped (with_value x r (λ v u q. called p (function_seen f) v u q))
next_of t limit p Fixed.OrValue x r = (value_next x (p + 4), r)

abbrev pub NextIn : Next → Rooms → Next × Rooms → Type 0
NextIn n r m = ◌≡◌ {A = Next × Rooms} (n, r) m
