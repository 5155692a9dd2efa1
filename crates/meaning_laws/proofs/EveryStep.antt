-- The relation `Begins` is complete: every step of a run begins a part that the relation lists, behind just the charges that it names, or
-- is for a pair that a part compares when its operands are there. Rests on StepOperands, StepParts and StepComprehension. Assumes nothing.
use Prim.Native.Nat.{ℕ}
use mathlib.Core.Path.{refl, subst}
use mathlib.Core.List.{List, [], append_assoc}
use mathlib.Core.Bool.{Bool}
use lib.ListN.{replicate}
use Rattle.meaning.specs.Errors.{UndeclaredReference}
use Rattle.meaning.specs.Value.{Scalar, nil, empty}
use Rattle.meaning.specs.Expr.{Unary, Binary, Function, Expr, literal, name, unary, binary, conditional, select, list_of, map_of, comprehension, call, none_call, or_value, Elements, no_elements, element, marked_element, Pairs, no_pairs, pair, marked_pair}
use Rattle.meaning.specs.Run.{step, Trace, pure, or_fail, operand}
use Rattle.meaning.specs.Optionals.{unwrap_optional, or_value_rule}
use Rattle.meaning.specs.Selection.{select_field}
use Rattle.meaning.specs.Logic.{conditional_rule}
use Rattle.meaning.specs.Calls.{call_rule, or_value_call}
use Rattle.meaning.specs.Comprehension.{Scope}
use Rattle.meaning.specs.Meaning.{run}
use Rattle.meaning_laws.specs.Begins.{of_unary, left_of, right_of, condition_of, if_true, if_false, selected_from, element_of, entry_of, argument_of, default_of, target_of, itself}
use Rattle.meaning_laws.specs.Steps.{StepIn, of_two, of_field, of_keys, StepOf, compares}
use Rattle.meaning_laws.proofs.CoveredSteps.{nothing, silent-any, covered-operand, covered-choice, covered-at}
use Rattle.meaning_laws.proofs.OwnSteps.{or_fail-silent, call-silent, default-silent, select-pairs}
use Rattle.meaning_laws.proofs.StepOrigins.{Accounted, Behind, of-operand, begun-accounted, operand-steps}
use Rattle.meaning_laws.proofs.StepOperands.{pairs-any, one-accounted, unary-accounted, binary-accounted}
use Rattle.meaning_laws.proofs.StepParts.{ElementsAccounted, elements-accounted, PairsAccounted, pairs-accounted, list-accounted, map-accounted}
use Rattle.meaning_laws.proofs.StepComprehension.{InsideAccounted, comprehension-steps}

-- ---- each kind of record

literal-steps : (p : ℕ) (x : Scalar) → Accounted (literal p x)
unfolding run pure
literal-steps p x s = begun-accounted (literal p x) s p _ refl nothing

none-steps : (p : ℕ) → Accounted (none_call p)
unfolding run pure
none-steps p s = begun-accounted (none_call p) s p _ refl nothing

name-steps : (p n : ℕ) → Accounted (name p n)
unfolding run
name-steps p n s =
    begun-accounted (name p n) s p _ refl (silent-any (or_fail UndeclaredReference (s n)).0 (or_fail-silent UndeclaredReference (s n)))

unary-steps : (p : ℕ) (o : Unary) (e : Expr) → Accounted e → Accounted (unary p o e)
unfolding run
unary-steps p o e a s = begun-accounted (unary p o e) s p _ refl (unary-accounted o (run e s) (operand-steps [] of_unary a))

binary-steps : (p : ℕ) (o : Binary) (e f : Expr) → Accounted e → Accounted f → Accounted (binary p o e f)
unfolding run
binary-steps p o e f a b s =
    begun-accounted (binary p o e f) s p _ refl
    (binary-accounted (run e s) (run f s) (operand-steps [] left_of a) o (λ g. operand-steps (run e s).0 (right_of g) b)
    (λ q v w n. subst (λ t. Behind (binary p o e f) s t) (append_assoc (run e s).0 (run f s).0 (replicate n step))
    (λ i. compares itself (of_two q v w n i))))

conditional-steps : (p : ℕ) (c e f : Expr) → Accounted c → Accounted e → Accounted f → Accounted (conditional p c e f)
unfolding run conditional_rule operand
conditional-steps p c e f a b d s =
    begun-accounted (conditional p c e f) s p _ refl
    (covered-choice (run c s) _ _ (operand-steps [] condition_of a) (λ g. operand-steps (run c s).0 (if_true g) b)
    (λ g. operand-steps (run c s).0 (if_false g) d))

select-steps : (p : ℕ) (test : Bool) (field : List ℕ) (e : Expr) → Accounted e → Accounted (select p test field e)
unfolding run
select-steps p test field e a s =
    begun-accounted (select p test field e) s p _ refl
    (one-accounted (run e s) _ (operand-steps [] selected_from a)
    (λ v g. pairs-any (select_field test field v).0 (select-pairs test field v) (λ n i. compares itself (of_field (v, g) n i))))

call-steps : (p : ℕ) (f : Function) (e : Expr) → Accounted e → Accounted (call p f e)
unfolding run
call-steps p f e a s =
    begun-accounted (call p f e) s p _ refl
    (one-accounted (run e s) _ (operand-steps [] argument_of a) (λ v g. silent-any (call_rule f v).0 (call-silent f v)))

default-steps : (p : ℕ) (e f : Expr) → Accounted e → Accounted f → Accounted (or_value p e f)
unfolding run or_value_call
default-steps p e f a b s =
    begun-accounted (or_value p e f) s p _ refl
    (covered-operand (run f s) _ (operand-steps [] default_of b)
    (λ d g. covered-operand (run e s) _ (operand-steps (run f s).0 (target_of (d, g)) a)
    (λ v h. silent-any (or_value_rule d (unwrap_optional v)).0 (default-silent d (unwrap_optional v)))))

list_steps : (p : ℕ) (es : Elements) → ElementsAccounted es → Accounted (list_of p es)
unfolding run
list_steps p es a s =
    begun-accounted (list_of p es) s p _ refl
    (list-accounted s es (elements-accounted s es nil a (λ b f j x o i. of-operand (element_of j) x o)))

map_steps : (p : ℕ) (ps : Pairs) → PairsAccounted ps → Accounted (map_of p ps)
unfolding run
map_steps p ps a s =
    begun-accounted (map_of p ps) s p _ refl
    (map-accounted s ps (pairs-accounted s ps empty a (λ b f j x o i. of-operand (entry_of j) x o) (λ b q i. compares itself (of_keys q))))

-- ---- every record

mutual
  accounted : (e : Expr) → Accounted e
  accounted (literal p x) = literal-steps p x
  accounted (name p n) = name-steps p n
  accounted (unary p o e) = unary-steps p o e (accounted e)
  accounted (binary p o e f) = binary-steps p o e f (accounted e) (accounted f)
  accounted (conditional p c e f) = conditional-steps p c e f (accounted c) (accounted e) (accounted f)
  accounted (select p test field e) = select-steps p test field e (accounted e)
  accounted (list_of p es) = list_steps p es (elements es)
  accounted (map_of p ps) = map_steps p ps (pairs ps)
  accounted (comprehension p a i range init condition next result) =
      comprehension-steps p a i range init condition next result (accounted range) (accounted init) (accounted condition) (accounted next)
      (accounted result) (insides next)
  accounted (call p f e) = call-steps p f e (accounted e)
  accounted (none_call p) = none-steps p
  accounted (or_value p e f) = default-steps p e f (accounted e) (accounted f)

  elements : (es : Elements) → ElementsAccounted es
  elements no_elements = tt
  elements (element e es) = (accounted e, elements es)
  elements (marked_element p e es) = (accounted e, elements es)

  pairs : (ps : Pairs) → PairsAccounted ps
  pairs no_pairs = tt
  pairs (pair k e ps) = (accounted k, accounted e, pairs ps)
  pairs (marked_pair k p e ps) = (accounted k, accounted e, pairs ps)

  insides : (e : Expr) → InsideAccounted e
  insides (literal p x) = tt
  insides (name p n) = tt
  insides (unary p o e) = tt
  insides (binary p o e f) = accounted f
  insides (conditional p c e f) = (accounted c, insides e)
  insides (select p test field e) = tt
  insides (list_of p es) = tt
  insides (map_of p ps) = tt
  insides (comprehension p a i range init condition next result) = tt
  insides (call p f e) = tt
  insides (none_call p) = tt
  insides (or_value p target argument) = tt

-- Wherever a step stands in a run, the charges before it are just those after which the relation begins a part, at some depth, or those
-- after which a part that has its operands compares a pair. Each record begins with a step, so nothing is evaluated but what is listed.
pub every-step : (e : Expr) (s : Scope) (front : Trace) → StepIn front (run e s).0 → StepOf e s front
every-step e s front i = covered-at (accounted e s) i
