-- The definition of evaluation: `run`, what each record charges and what it gives in a scope.
use Rattle.std.specs.Prelude.{true, false}
use Rattle.meaning.specs.Errors.{UndeclaredReference}
use Rattle.meaning.specs.Value.{Value, scalar, list, map, optional_none, Values, nil, Entries, empty}
use Rattle.meaning.specs.Expr.{Unary, not_op, negate_op, not_strictly_false, Binary, logic, equals, not_equals, index, opt_index, opt_select, arith, compare, is_in, Expr, literal, name, unary, binary, conditional, select, list_of, map_of, comprehension, call, none_call, or_value, Elements, no_elements, element, marked_element, Pairs, no_pairs, pair, marked_pair, count_elements, count_pairs}
use Rattle.meaning.specs.Run.{Eval, Rule, pure, ◌>>=◌, or_fail, operand, begin}
use Rattle.meaning.specs.Numbers.{arith_rule, negate_rule, not_rule}
use Rattle.meaning.specs.Comparison.{compare_rule, equal_rule}
use Rattle.meaning.specs.Maps.{in_rule}
use Rattle.meaning.specs.Optionals.{unwrap_optional}
use Rattle.meaning.specs.Selection.{select_field, index_rule, opt_select_rule}
use Rattle.meaning.specs.Logic.{logic_rule, not_strictly_false_rule, conditional_rule}
use Rattle.meaning.specs.Calls.{call_rule, or_value_call}
use Rattle.meaning.specs.Containers.{Making, element_rule, pair_rule, list_rule, map_rule, into}
use Rattle.meaning.specs.Comprehension.{Scope, store, items_of, comprehension_rule}
use Rattle.meaning.specs.Look.{Look, nothing_seen, a_literal, a_name, a_list, a_conditional, binary_look, of_name, append_step}

-- ---- operators

unfoldable pub of_one : Eval Value → (Value → Rule Value) → Rule Value
of_one r rule = do
  v ← operand r
  rule v

unfoldable pub of_two : Eval Value → Eval Value → (Value → Value → Rule Value) → Rule Value
of_two r s rule = do
  v ← operand r
  w ← operand s
  rule v w

unfoldable pub unary_rule : Unary → Eval Value → Rule Value
unary_rule not_op r = of_one r not_rule
unary_rule negate_op r = of_one r negate_rule
unary_rule not_strictly_false r = not_strictly_false_rule r

unfoldable pub binary_rule : Binary → Eval Value → Eval Value → Rule Value
binary_rule (logic fold) r s = logic_rule fold r s
binary_rule equals r s = of_two r s (equal_rule true)
binary_rule not_equals r s = of_two r s (equal_rule false)
binary_rule index r s = of_one r (λ v. index_rule false s (unwrap_optional v))
binary_rule opt_index r s = of_one r (λ v. index_rule true s (unwrap_optional v))
binary_rule opt_select r s = of_two r s (λ v w. opt_select_rule (unwrap_optional v) w)
binary_rule (arith o) r s = of_two r s (arith_rule o)
binary_rule (compare c) r s = of_two r s (compare_rule c)
binary_rule is_in r s = of_two r s in_rule

-- ---- evaluation

unfoldable mutual
  pub run : Expr → Scope → Eval Value
  run (literal p x) s = begin p (pure (scalar x))
  run (name p n) s = begin p (or_fail UndeclaredReference (s n))
  run (unary p o e) s = begin p (unary_rule o (run e s))
  run (binary p o e f) s = begin p (binary_rule o (run e s) (run f s))
  run (conditional p c e f) s = begin p (conditional_rule (run c s) (run e s) (run f s))
  run (select p test field e) s = begin p (of_one (run e s) (select_field test field))
  run (list_of p es) s = begin p (into list (list_rule (count_elements es) (run_elements es s nil)))
  run (map_of p es) s = begin p (into map (map_rule (count_pairs es) (run_pairs es s empty)))
  run (comprehension p a i range init condition step result) s =
      begin p
      (comprehension_rule
      (record {
        items_in = items_of;
        enter = λ v t. store t i v;
        accumulator = a;
        fold = of_name a (look step).folds;
        append = append_step a (look condition) (look step) (look result);
        range = λ t. run range t;
        init = λ t. run init t;
        condition = λ t. run condition t;
        step = λ t. run step t;
        result = λ t. run result t;
      })
      s)
  run (call p f e) s = begin p (of_one (run e s) (call_rule f))
  run (none_call p) s = begin p (pure optional_none)
  run (or_value p target argument) s = begin p (or_value_call (run target s) (run argument s))

  -- from the elements, and the entries, that are ready
  pub run_elements : Elements → Scope → Values → Making Values
  run_elements no_elements s vs = pure vs
  run_elements (element e es) s vs = element_rule false (run e s) (λ ws. run_elements es s ws) vs
  run_elements (marked_element p e es) s vs = element_rule true (run e s) (λ ws. run_elements es s ws) vs

  pub run_pairs : Pairs → Scope → Entries → Making Entries
  run_pairs no_pairs s es = pure es
  run_pairs (pair k e ps) s es = pair_rule false (run k s) (run e s) (λ fs. run_pairs ps s fs) es
  run_pairs (marked_pair k p e ps) s es = pair_rule true (run k s) (run e s) (λ fs. run_pairs ps s fs) es

  -- what a comprehension sees of a part
  pub look : Expr → Look
  look (literal p x) = a_literal
  look (name p n) = a_name n
  look (unary p o e) = nothing_seen
  look (binary p o e f) = binary_look o (look e) (look f)
  look (conditional p c e f) = a_conditional (λ t. run c t) (look e).adds (look f).is_name
  look (select p test field e) = nothing_seen
  look (list_of p es) = a_list (λ t. begin p (list_rule (count_elements es) (run_elements es t nil)))
  look (map_of p es) = nothing_seen
  look (comprehension p a i range init condition step result) = nothing_seen
  look (call p f e) = nothing_seen
  look (none_call p) = nothing_seen
  look (or_value p target argument) = nothing_seen
