-- Evaluation keeps values fine: from fine slots a formed expression gives a fine value and builds fine cells, as long as its charges are
-- modest. By recursion on the expression, a line for each kind of record. Rests on the other Kept files. Assumes nothing.
use Prim.Native.Nat.{ℕ, suc, ◌+◌, ◌≤◌}
use mathlib.Core.Bool.{true, false}
use native.Mathlib.Omega.{arith as linear}
use Rattle.meaning.specs.Value.{Scalar, Value, scalar, list, map, optional_none, Values, nil, count, Entries, empty, count_entries}
use Rattle.meaning.specs.Expr.{Unary, not_op, negate_op, not_strictly_false, Binary, logic, equals, not_equals, index, opt_index, opt_select, arith, compare, is_in, Expr, literal, name, unary, binary, conditional, select, list_of, map_of, comprehension, call, none_call, or_value, Elements, no_elements, element, marked_element, Pairs, no_pairs, pair, marked_pair, count_elements, count_pairs}
use Rattle.meaning.specs.Run.{Eval, Rule}
use Rattle.meaning.specs.Optionals.{unwrap_optional}
use Rattle.meaning.specs.Comprehension.{Scope}
use Rattle.meaning.specs.Meaning.{of_one, of_two, unary_rule, binary_rule, run, run_elements, run_pairs, look}
use Rattle.meaning_laws.specs.Formed.{FormedLiteral, Formed, FormedElements, FormedPairs}
use Rattle.meaning_laws.proofs.Fine.{FineScalar, Fine, FineElements, FineEntries, items-fine}
use Rattle.meaning_laws.proofs.Kept.{Keeps, KeepsRule, KeepsEval, keeps-pure, keeps-bind, keeps-or_fail, keeps-operand, keeps-begin, keeps-weaker}
use Rattle.meaning_laws.proofs.KeptNumbers.{arith-kept, negate-kept, not-kept, compare-kept, equal-kept}
use Rattle.meaning_laws.proofs.KeptRules.{in_kept, unwrapped-fine, select_kept, index_kept, opt_select-kept, logic-kept, not_strictly_false-kept, conditional-kept, call_kept, or_value_call-kept}
use Rattle.meaning_laws.proofs.KeptContainers.{Ready, FewElements, element-kept, FewEntries, pair-kept, list-kept, map-kept, into-kept}
use Rattle.meaning_laws.proofs.KeptLoop.{FineScope, KeepsMeaning, store-fine, comprehension-kept, KeepsLook, unseen, conditional-look, binary-look, path-kept}

literal-fine : (x : Scalar) → FormedLiteral x → FineScalar x
literal-fine x f = (f.0, omega linear)

-- ---- operators

of_one-kept : {r : Eval Value} {rule : Value → Rule Value} → KeepsEval Fine r → ((v : Value) → Fine v → KeepsRule Fine (rule v)) → KeepsRule Fine (of_one r rule)
unfolding of_one
of_one-kept h k = keeps-bind (keeps-operand h) k

of_two-kept : {r s : Eval Value} {rule : Value → Value → Rule Value} → KeepsEval Fine r → KeepsEval Fine s
    → ((v w : Value) → Fine v → Fine w → KeepsRule Fine (rule v w)) → KeepsRule Fine (of_two r s rule)
unfolding of_two
of_two-kept h k l = keeps-bind (keeps-operand h) (λ v f. keeps-bind (keeps-operand k) (λ w g. l v w f g))

unary_kept : (o : Unary) {r : Eval Value} → KeepsEval Fine r → KeepsRule Fine (unary_rule o r)
unfolding unary_rule
unary_kept not_op h = of_one-kept h (λ v f. not-kept v)
unary_kept negate_op h = of_one-kept h negate-kept
unary_kept not_strictly_false h = not_strictly_false-kept h

binary-kept : (o : Binary) {r s : Eval Value} → KeepsEval Fine r → KeepsEval Fine s → KeepsRule Fine (binary_rule o r s)
unfolding binary_rule
binary-kept (logic fold) h k = logic-kept fold h k
binary-kept equals h k = of_two-kept h k (λ v w f g. equal-kept true v w)
binary-kept not_equals h k = of_two-kept h k (λ v w f g. equal-kept false v w)
binary-kept index h k = of_one-kept h (λ v f. index_kept false (unwrap_optional v) k (unwrapped-fine v f))
binary-kept opt_index h k = of_one-kept h (λ v f. index_kept true (unwrap_optional v) k (unwrapped-fine v f))
binary-kept opt_select h k = of_two-kept h k (λ v w f g. opt_select-kept (unwrap_optional v) w (unwrapped-fine v f))
binary-kept (arith o) h k = of_two-kept h k (arith-kept o)
binary-kept (compare c) h k = of_two-kept h k (λ v w f g. compare-kept c v w)
binary-kept is_in h k = of_two-kept h k (λ v w f g. in_kept v w)

-- ---- evaluation

no-elements : FewElements 0 nil
unfolding count
no-elements = record { fine = tt; few = omega linear }

no-entries : FewEntries 0 empty
unfolding count_entries
no-entries = record { fine = tt; few = omega linear }

mutual
  unfolding run count_elements count_pairs

  -- Every expression that a table spells, in every scope of fine values, gives a fine value, if its charges are modest.
  pub run-kept : (e : Expr) → Formed e → KeepsMeaning (run e)
  run-kept (literal p x) w s f = keeps-begin p (keeps-pure (scalar x) (literal-fine x w))
  run-kept (name p n) w s f = keeps-begin p (keeps-or_fail _ (s n) (f n))
  run-kept (unary p o e) w s f = keeps-begin p (unary_kept o (run-kept e w s f))
  run-kept (binary p o e e') w s f = keeps-begin p (binary-kept o (run-kept e w.0 s f) (run-kept e' w.1 s f))
  run-kept (conditional p c e e') w s f = keeps-begin p (conditional-kept (run-kept c w.0 s f) (run-kept e w.1 s f) (run-kept e' w.2 s f))
  run-kept (select p test field e) w s f = keeps-begin p (of_one-kept (run-kept e w.1 s f) (select_kept test field))
  run-kept (list_of p es) w s f =
      keeps-begin p (into-kept list (λ vs g. g) (list-kept (count_elements es) (elements-kept es w s f 0 (count_elements es) nil no-elements (omega linear))))
  run-kept (map_of p es) w s f =
      keeps-begin p (into-kept map (λ vs g. g) (map-kept (count_pairs es) (pairs-kept es w s f 0 (count_pairs es) empty no-entries (omega linear))))
  run-kept (comprehension p a i range init condition step result) w s f =
      keeps-begin p
      (comprehension-kept _
      (record {
        items_fine = items-fine;
        enter_fine = λ v t g h. store-fine t i v h g;
        append_kept = path-kept a (look condition) (look step) (look result) (look-kept step w.5);
        range_kept = λ t g. run-kept range w.2 t g;
        init_kept = λ t g. run-kept init w.3 t g;
        condition_kept = λ t g. run-kept condition w.4 t g;
        step_kept = λ t g. run-kept step w.5 t g;
        result_kept = λ t g. run-kept result w.6 t g;
      })
      s f)
  run-kept (call p c e) w s f = keeps-begin p (of_one-kept (run-kept e w s f) (call_kept c))
  run-kept (none_call p) w s f = keeps-begin p (keeps-pure optional_none tt)
  run-kept (or_value p e e') w s f = keeps-begin p (or_value_call-kept (run-kept e w.0 s f) (run-kept e' w.1 s f))

  -- m elements are ready, and at most n will be
  elements-kept : (es : Elements) → FormedElements es → (s : Scope) → FineScope s → (m n : ℕ) (vs : Values) → FewElements m vs → m + count_elements es ≤ n
      → Keeps (Ready FineElements) (FewElements n) (run_elements es s vs)
  elements-kept no_elements w s f m n vs g le = keeps-pure vs (let k = g.few in record { fine = g.fine; few = omega linear })
  elements-kept (element e es) w s f m n vs g le =
      element-kept m false vs g (run-kept e w.0 s f) (λ ws h. elements-kept es w.1 s f (suc m) n ws h (omega linear))
  elements-kept (marked_element p e es) w s f m n vs g le =
      element-kept m true vs g (run-kept e w.0 s f) (λ ws h. elements-kept es w.1 s f (suc m) n ws h (omega linear))

  pairs-kept : (es : Pairs) → FormedPairs es → (s : Scope) → FineScope s → (m n : ℕ) (fs : Entries) → FewEntries m fs → m + count_pairs es ≤ n
      → Keeps (Ready FineEntries) (FewEntries n) (run_pairs es s fs)
  pairs-kept no_pairs w s f m n fs g le = keeps-pure fs (let k = g.few in record { fine = g.fine; few = omega linear })
  pairs-kept (pair k e es) w s f m n fs g le =
      pair-kept m false fs g (run-kept k w.0 s f) (run-kept e w.1 s f) (λ gs h. pairs-kept es w.2 s f (suc m) n gs h (omega linear))
  pairs-kept (marked_pair k p e es) w s f m n fs g le =
      pair-kept m true fs g (run-kept k w.0 s f) (run-kept e w.1 s f) (λ gs h. pairs-kept es w.2 s f (suc m) n gs h (omega linear))

  look-kept : (e : Expr) → Formed e → KeepsLook (look e)
  look-kept (literal p x) w = unseen
  look-kept (name p n) w = unseen
  look-kept (unary p o e) w = unseen
  look-kept (binary p o e e') w = binary-look o (look e) (look e') (look-kept e' w.1)
  look-kept (conditional p c e e') w = conditional-look (λ t g. run-kept c w.0 t g) (look e).adds (look-kept e w.1).adds_kept (look e').is_name
  look-kept (select p test field e) w = unseen
  look-kept (list_of p es) w =
      record {
        lists_kept = λ s f. keeps-begin p (keeps-weaker (λ vs g. g.2) (list-kept (count_elements es)
            (elements-kept es w s f 0 (count_elements es) nil no-elements (omega linear))));
        adds_kept = tt;
        appends_kept = tt;
      }
  look-kept (map_of p es) w = unseen
  look-kept (comprehension p a i range init condition step result) w = unseen
  look-kept (call p c e) w = unseen
  look-kept (none_call p) w = unseen
  look-kept (or_value p e e') w = unseen
