-- Module 6 on rooms: `||`, `&&`, `!`, not-strictly-false and the conditional, from the operands' outcomes.
use Rattle.std.specs.Prelude.{ℕ, Bool, true, false, not, Option, None, Some}
use Rattle.meaning.specs.Expr.{LogicalFold}
use Rattle.meaning.specs.Logic.{absorbing, absorbs}
use Rattle.rooms.specs.declared.value.Value.{Value}
use Rattle.rooms.specs.Rooms.{Rooms}
use Rattle.machine.specs.declared.outcome.Used.{Used}
use Rattle.machine.specs.declared.outcome.Error.{Error}
use Rattle.machine.specs.declared.outcome.Outcome.{Outcome}
use Rattle.machine.specs.Outcomes.{Res, truth_out, no_overload}
use Rattle.machine.specs.Views.{bool_in}

abbrev pub not_out : ℕ → Used → Option Bool → Outcome
not_out p u None = no_overload p u
not_out p u (Some b) = truth_out (not b) u

abbrev pub bool_or_true : Used → Option Bool → Outcome
bool_or_true u None = truth_out true u
bool_or_true u (Some b) = truth_out b u

abbrev pub not_strictly_false : Outcome → Outcome
not_strictly_false (Outcome.Value v u) = bool_or_true u (bool_in v)
not_strictly_false (Outcome.Error e p u) = truth_out true u
not_strictly_false (Outcome.Exhausted x u) = Outcome.Exhausted x u

-- ---- `||` and `&&`

-- the right operand is begun from these counts; none if the left one's outcome is the answer
abbrev pub unless_decided : Bool → Used → Option Used
unless_decided true u = None
unless_decided false u = Some u

abbrev pub logic_left : LogicalFold → Outcome → Option Used
logic_left fold (Outcome.Value v u) = unless_decided (absorbs fold (bool_in v)) u
logic_left fold (Outcome.Error e p u) = Some u
logic_left fold (Outcome.Exhausted x u) = None

abbrev pub left_error : ℕ → Used → Error → ℕ → Outcome
left_error p u Error.UndeclaredReference q = Outcome.Error Error.UndeclaredReference q u
left_error p u Error.BoolWanted q = no_overload p u
left_error p u Error.NoOverload q = Outcome.Error Error.NoOverload q u
left_error p u Error.FunctionError q = Outcome.Error Error.FunctionError q u
left_error p u Error.NoSuchKey q = Outcome.Error Error.NoSuchKey q u
left_error p u (Error.Arithmetic e) q = Outcome.Error (Error.Arithmetic e) q u
left_error p u Error.DuplicateKey q = Outcome.Error Error.DuplicateKey q u
left_error p u Error.IndexOutOfBounds q = Outcome.Error Error.IndexOutOfBounds q u
left_error p u Error.UnsupportedKeyType q = Outcome.Error Error.UnsupportedKeyType q u
left_error p u Error.Unordered q = Outcome.Error Error.Unordered q u
left_error p u Error.IterableWanted q = Outcome.Error Error.IterableWanted q u

-- the right operand is a value that does not decide; both operands are looked at as Bools
abbrev pub both_bools : ℕ → Used → Option Bool → Option Bool → Outcome
both_bools p u None y = no_overload p u
both_bools p u (Some a) None = no_overload p u
both_bools p u (Some a) (Some b) = truth_out b u

abbrev pub undecided : ℕ → Outcome → Used → Option Bool → Outcome
undecided p (Outcome.Value v z) u y = both_bools p u (bool_in v) y
undecided p (Outcome.Error e q z) u y = left_error p u e q
undecided p (Outcome.Exhausted x z) u y = Outcome.Exhausted x u

abbrev pub logic_bool : LogicalFold → ℕ → Outcome → Used → Bool → Option Bool → Outcome
logic_bool fold p left u true y = truth_out (absorbing fold) u
logic_bool fold p left u false y = undecided p left u y

-- the left operand did not decide
abbrev pub logic_right : LogicalFold → ℕ → Outcome → Value → Used → Outcome
logic_right fold p left w u = logic_bool fold p left u (absorbs fold (bool_in w)) (bool_in w)

-- ---- the conditional

abbrev pub branch : ℕ → Used → Rooms → Option Bool → (Used → Rooms → Res) → (Used → Rooms → Res) → Res
branch p u r None if_true if_false = (Outcome.Error Error.BoolWanted p u, r)
branch p u r (Some true) if_true if_false = if_true u r
branch p u r (Some false) if_true if_false = if_false u r
