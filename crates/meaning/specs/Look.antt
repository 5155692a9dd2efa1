-- What a comprehension sees of how its parts are written: enough to tell a `LogicalFold` step and an `AppendStep`.
use Rattle.std.specs.Prelude.{ℕ, Bool, true, false, ◌&&◌, cond, eqb, Option, None, Some, option_map}
use Rattle.meaning.specs.Value.{Values}
use Rattle.meaning.specs.Expr.{LogicalFold, Arith, add, sub, div, mul, rem, Binary, logic, equals, not_equals, index, opt_index, opt_select, arith, compare, is_in}
use Rattle.meaning.specs.Run.{Eval}
use Rattle.meaning.specs.Comprehension.{Scope, Meaning, AppendStep}

-- a name stands before what is seen of it
pub record Look : Type 0 where
  pub is_literal : Bool
  pub is_name : Option ℕ
  -- [..], by its elements
  pub lists : Option (Scope → Eval Values)
  -- name && .., name || ..
  pub folds : Option (ℕ × LogicalFold)
  -- name + [..]
  pub adds : Option (ℕ × (Scope → Eval Values))
  -- name + [..], or guard ? name + [..] : name
  pub appends : Option (ℕ × AppendStep)

abbrev pub nothing_seen : Look
nothing_seen = record { is_literal = false; is_name = None; lists = None; folds = None; adds = None; appends = None }

abbrev pub a_literal : Look
a_literal = record { is_literal = true; is_name = None; lists = None; folds = None; adds = None; appends = None }

abbrev pub a_name : ℕ → Look
a_name n = record { is_literal = false; is_name = Some n; lists = None; folds = None; adds = None; appends = None }

abbrev pub a_list : (Scope → Eval Values) → Look
a_list items = record { is_literal = false; is_name = None; lists = Some items; folds = None; adds = None; appends = None }

unfoldable pub a_fold : LogicalFold → Option ℕ → Look
a_fold fold None = nothing_seen
a_fold fold (Some n) = record { is_literal = false; is_name = None; lists = None; folds = Some (n, fold); adds = None; appends = None }

unfoldable pub a_sum : Option ℕ → Option (Scope → Eval Values) → Look
a_sum None items = nothing_seen
a_sum (Some n) None = nothing_seen
a_sum (Some n) (Some items) =
    record { is_literal = false; is_name = None; lists = None; folds = None; adds = Some (n, items); appends = Some (n, record { guard = None; items = items }) }

-- what is seen of one name
unfoldable pub of_name : {A : Type 0} → ℕ → Option (ℕ × A) → Option A
of_name a None = None
of_name a (Some x) = cond (eqb x.0 a) (Some x.1) None

unfoldable pub guarded_by : Meaning → ℕ → (Scope → Eval Values) → ℕ × AppendStep
guarded_by guard n items = (n, record { guard = Some guard; items = items })

unfoldable pub a_conditional : Meaning → Option (ℕ × (Scope → Eval Values)) → Option ℕ → Look
a_conditional guard sum None = nothing_seen
a_conditional guard sum (Some n) =
    record { is_literal = false; is_name = None; lists = None; folds = None; adds = None; appends = option_map (guarded_by guard n) (of_name n sum) }

unfoldable pub arith_look : Arith → Look → Look → Look
arith_look add l r = a_sum l.is_name r.lists
arith_look sub l r = nothing_seen
arith_look div l r = nothing_seen
arith_look mul l r = nothing_seen
arith_look rem l r = nothing_seen

unfoldable pub binary_look : Binary → Look → Look → Look
binary_look (logic fold) l r = a_fold fold l.is_name
binary_look equals l r = nothing_seen
binary_look not_equals l r = nothing_seen
binary_look index l r = nothing_seen
binary_look opt_index l r = nothing_seen
binary_look opt_select l r = nothing_seen
binary_look (arith o) l r = arith_look o l r
binary_look (compare c) l r = nothing_seen
binary_look is_in l r = nothing_seen

unfoldable pub named : ℕ → Option ℕ → Bool
named a None = false
named a (Some n) = eqb n a

-- the append path is open where the condition is a literal, the step appends to the accumulator, and the result is the accumulator
unfoldable pub append_step : ℕ → Look → Look → Look → Option AppendStep
append_step accumulator condition step result = cond (condition.is_literal && named accumulator result.is_name) (of_name accumulator step.appends) None
