-- Records as the code goes about them: a literal or a name without a scope; marks.
use Rattle.std.specs.Prelude.{ℕ, ◌+◌, cond, List, ltb, eqb, get_or}
use Rattle.meaning.specs.Expr.{Expr, literal, name, unary, binary, conditional, select, list_of, map_of, comprehension, call, none_call, or_value}
use Rattle.rooms.specs.declared.value.Value.{Value}
use Rattle.machine.specs.declared.outcome.Used.{Used}
use Rattle.machine.specs.declared.outcome.Limit.TheVariants as Limit
use Rattle.machine.specs.declared.outcome.Outcome.{Outcome}
use Rattle.machine.specs.Outcomes.{stepped}
use Rattle.machine.specs.Literals.{literal_value, name_out}

-- ---- literals and names

-- kinds below this one have no operands
abbrev pub leaf_kinds : ℕ
leaf_kinds = 8

-- the name of a name's record; 0 of any other
abbrev pub slot_in : Expr → ℕ
slot_in (literal p x) = 0
slot_in (name p n) = n
slot_in (unary p o e) = 0
slot_in (binary p o e f) = 0
slot_in (conditional p c e f) = 0
slot_in (select p t f e) = 0
slot_in (list_of p es) = 0
slot_in (map_of p es) = 0
slot_in (comprehension p a i r s c t e) = 0
slot_in (call p f e) = 0
slot_in (none_call p) = 0
slot_in (or_value p e f) = 0

-- the value of a literal's record; Null of any other, which nobody asks for
abbrev pub literal_of : List ℕ → Expr → Value
literal_of t (literal p x) = literal_value t p x
literal_of t (name p n) = Value.Null
literal_of t (unary p o e) = Value.Null
literal_of t (binary p o e f) = Value.Null
literal_of t (conditional p c e f) = Value.Null
literal_of t (select p y f e) = Value.Null
literal_of t (list_of p es) = Value.Null
literal_of t (map_of p es) = Value.Null
literal_of t (comprehension p a i r s c y e) = Value.Null
literal_of t (call p f e) = Value.Null
literal_of t (none_call p) = Value.Null
literal_of t (or_value p e f) = Value.Null

-- what a leaf gives after its step, with v in its slot; Null of any other record, which nobody asks for
abbrev pub leaf_out : List ℕ → Expr → Value → Used → Outcome
leaf_out t (literal p x) v u = Outcome.Value (literal_value t p x) u
leaf_out t (name p n) v u = name_out p v u
leaf_out t (unary p o e) v u = Outcome.Value Value.Null u
leaf_out t (binary p o e f) v u = Outcome.Value Value.Null u
leaf_out t (conditional p c e f) v u = Outcome.Value Value.Null u
leaf_out t (select p y f e) v u = Outcome.Value Value.Null u
leaf_out t (list_of p es) v u = Outcome.Value Value.Null u
leaf_out t (map_of p es) v u = Outcome.Value Value.Null u
leaf_out t (comprehension p a i r s c y e) v u = Outcome.Value Value.Null u
leaf_out t (call p f e) v u = Outcome.Value Value.Null u
leaf_out t (none_call p) v u = Outcome.Value Value.Null u
leaf_out t (or_value p e f) v u = Outcome.Value Value.Null u

abbrev pub leaf_step : List ℕ → ℕ → Expr → Value → Used → Outcome
leaf_step t limit e v u = cond (ltb u.steps limit) (leaf_out t e v (stepped u)) (Outcome.Exhausted Limit.Steps u)

-- ---- marks

-- the record that a mark stands on, or the record itself
abbrev pub unmarked_at : List ℕ → ℕ → ℕ
unmarked_at t p = cond (eqb (get_or t p 0) 14) (p + 3) p
