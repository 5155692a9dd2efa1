-- What a comprehension sees of its parts runs alike where they do: the lists, the sums and the append steps that it finds in them.
-- Rests on the congruence of the rules. Assumes nothing.
use Prim.Native.Nat.{ℕ}
use Rattle.std.specs.Prelude.{Option, None, Some, option_map}
use mathlib.Core.Bool.{Bool, true, false, ◌&&◌, cond}
use lib.Dec.{eqb}
use Rattle.meaning.specs.Value.{Values}
use Rattle.meaning.specs.Expr.{LogicalFold, Arith, add, sub, div, mul, rem, Binary, logic, equals, not_equals, index, opt_index, opt_select, arith, compare, is_in}
use Rattle.meaning.specs.Run.{Eval}
use Rattle.meaning.specs.Comprehension.{Scope, Meaning, AppendStep}
use Rattle.meaning.specs.Look.{Look, nothing_seen, a_fold, a_sum, of_name, guarded_by, a_conditional, arith_look, binary_look, named, append_step}
use Rattle.meaning_laws.proofs.Congruence.{Alike, StepAlike, PathAlike}

module _ (these : ℕ → Type 0) where
  abbrev ItemsAlike : Option (Scope → Eval Values) → Type 0
  ItemsAlike None = Unit {0}
  ItemsAlike (Some items) = Alike these items

  abbrev SumAlike : Option (ℕ × (Scope → Eval Values)) → Type 0
  SumAlike None = Unit {0}
  SumAlike (Some x) = Alike these x.1

  abbrev AppendsAlike : Option (ℕ × AppendStep) → Type 0
  AppendsAlike None = Unit {0}
  AppendsAlike (Some x) = StepAlike these x.1

  -- whatever runs in it does so alike
  pub record LookAlike (l : Look) : Type 0 where
    pub lists : ItemsAlike l.lists
    pub adds : SumAlike l.adds
    pub appends : AppendsAlike l.appends

  pub nothing-alike : LookAlike nothing_seen
  nothing-alike = record { lists = tt; adds = tt; appends = tt }

  a_fold-alike : (fold : LogicalFold) (n : Option ℕ) → LookAlike (a_fold fold n)
  unfolding a_fold
  a_fold-alike fold None = nothing-alike
  a_fold-alike fold (Some n) = record { lists = tt; adds = tt; appends = tt }

  a_sum-alike : (n : Option ℕ) (items : Option (Scope → Eval Values)) → ItemsAlike items → LookAlike (a_sum n items)
  unfolding a_sum
  a_sum-alike None items h = nothing-alike
  a_sum-alike (Some n) None h = nothing-alike
  a_sum-alike (Some n) (Some items) h = record { lists = tt; adds = h; appends = (tt, h) }

  arith_look-alike : (o : Arith) (l r : Look) → LookAlike r → LookAlike (arith_look o l r)
  unfolding arith_look
  arith_look-alike add l r h = a_sum-alike l.is_name r.lists h.lists
  arith_look-alike sub l r h = nothing-alike
  arith_look-alike div l r h = nothing-alike
  arith_look-alike mul l r h = nothing-alike
  arith_look-alike rem l r h = nothing-alike

  pub binary_look-alike : (o : Binary) (l r : Look) → LookAlike r → LookAlike (binary_look o l r)
  unfolding binary_look
  binary_look-alike (logic fold) l r h = a_fold-alike fold l.is_name
  binary_look-alike equals l r h = nothing-alike
  binary_look-alike not_equals l r h = nothing-alike
  binary_look-alike index l r h = nothing-alike
  binary_look-alike opt_index l r h = nothing-alike
  binary_look-alike opt_select l r h = nothing-alike
  binary_look-alike (arith o) l r h = arith_look-alike o l r h
  binary_look-alike (compare c) l r h = nothing-alike
  binary_look-alike is_in l r h = nothing-alike

  guarded-alike : (guard : Meaning) → Alike these guard → (n : ℕ) (sum : Option (ℕ × (Scope → Eval Values))) → SumAlike sum
      → AppendsAlike (option_map (guarded_by guard n) (of_name n sum))
  unfolding of_name guarded_by
  guarded-alike guard g n None h = tt
  guarded-alike guard g n (Some x) h = go (eqb x.0 n)
    where
      go : (b : Bool) → AppendsAlike (option_map (guarded_by guard n) (cond b (Some x.1) None))
      go true = (g, h)
      go false = tt

  pub a_conditional-alike : (guard : Meaning) → Alike these guard → (sum : Option (ℕ × (Scope → Eval Values))) → SumAlike sum
      → (n : Option ℕ) → LookAlike (a_conditional guard sum n)
  unfolding a_conditional
  a_conditional-alike guard g sum h None = nothing-alike
  a_conditional-alike guard g sum h (Some n) = record { lists = tt; adds = tt; appends = guarded-alike guard g n sum h }

  of_name-alike : (a : ℕ) (x : Option (ℕ × AppendStep)) → AppendsAlike x → PathAlike these (of_name a x)
  unfolding of_name
  of_name-alike a None h = tt
  of_name-alike a (Some x) h = go (eqb x.0 a)
    where
      go : (b : Bool) → PathAlike these (cond b (Some x.1) None)
      go true = h
      go false = tt

  pub append_step-alike : (a : ℕ) (condition step result : Look) → LookAlike step → PathAlike these (append_step a condition step result)
  unfolding append_step
  append_step-alike a condition step result h =
      go (condition.is_literal && named a result.is_name) (of_name a step.appends) (of_name-alike a step.appends h.appends)
    where
      go : (b : Bool) (path : Option AppendStep) → PathAlike these path → PathAlike these (cond b path None)
      go true path h = h
      go false path h = tt
