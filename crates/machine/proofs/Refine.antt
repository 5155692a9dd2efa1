-- The machine refines the meaning: what it does, read out, is what the expression means under the limits. A line for each kind of record.
-- Rests on the laws of each kind. Assumes nothing.
use Prim.Native.Nat.{ℕ, ◌+◌, ◌*◌}
use mathlib.Core.Path.{refl}
use mathlib.Core.List.{List}
use Rattle.std.specs.Prelude.{Option, None, Some}
use mathlib.Core.Bool.{Bool, true, false, cond, ◌&&◌}
use Rattle.meaning.specs.Limits.{Counts}
use Rattle.meaning.specs.Value as Meaning
use Rattle.meaning.specs.Value.{Values, nil, Entries, empty, scalar, list, map, optional_none}
use Rattle.meaning.specs.Errors.{UndeclaredReference}
use Rattle.meaning.specs.Expr.{Arith, add, sub, div, mul, rem, Unary, not_op, negate_op, not_strictly_false, Binary, logic, equals, not_equals, index, opt_index, opt_select, arith, compare, is_in, Expr, literal, name, unary, binary, conditional, select, list_of, map_of, comprehension, call, none_call, or_value, Elements, no_elements, element, marked_element, Pairs, no_pairs, pair, marked_pair, count_elements, count_pairs}
use Rattle.meaning.specs.Run.{Eval, Rule, pure, ◌>>=◌, on_value, or_fail, operand, begin}
use Rattle.meaning.specs.Logic.{conditional_rule}
use Rattle.meaning.specs.Selection.{select_field}
use Rattle.meaning.specs.Calls.{call_rule, or_value_call}
use Rattle.meaning.specs.Containers.{Making, list_rule, map_rule, into, cells_an_entry}
use Rattle.meaning.specs.Comprehension as Comprehension
use Rattle.meaning.specs.Look.{Look, of_name, named}
use Rattle.meaning.specs.Look as Look
use Rattle.meaning.specs.Meaning.{of_one, unary_rule, binary_rule, run, run_elements, run_pairs, look}
use Rattle.rooms.specs.declared.value.Value.{Value}
use Rattle.rooms.specs.declared.scope.Scope.{Scope}
use Rattle.rooms.specs.Rooms.{Rooms}
use Rattle.rooms.specs.Value.{parts_of}
use Rattle.rooms.specs.Scope.{slot_of}
use Rattle.rooms.specs.Stands.{Alive, Holds}
use Rattle.machine.specs.declared.outcome.Used.{Used}
use Rattle.machine.specs.declared.outcome.Outcome.TheVariants as Outcome
use Rattle.machine.specs.Outcomes.{Res, Does, recorded, with_value, taking}
use Rattle.table_layout.specs.Layout.{word_at}
use Rattle.machine.specs.Literals.{literal_value, field_value, name_out}
use Rattle.machine.specs.Numbers.{arithmetic}
use Rattle.machine.specs.Comparison.{equal_out, compare_out}
use Rattle.machine.specs.Selection as Selection
use Rattle.machine.specs.Calls.{called}
use Rattle.machine.specs.Comprehension as Machine2
use Rattle.machine.specs.Machine.{unary_out, unary_does, binary_does, conditional_does, or_value_does, body, elements, entries, append_step, append_sum, items_list, machine}
use Rattle.machine.specs.Accepted.{AcceptedLiteral, Accepted, AcceptedElements, AcceptedPairs}
use Rattle.machine.specs.Refines.{used_of, Start, Refines}
use Rattle.machine.proofs.Match.{Says, value-now, raises}
use Rattle.machine.proofs.Charges.{step_then}
use Rattle.machine.proofs.Operands.{of-operand, value_of}
use Rattle.machine.proofs.Seen.{held_none}
use Rattle.machine.proofs.Logic.{not-says, not-strictly-false, logic-says, conditional-says}
use Rattle.machine.proofs.Arithmetic.{arith-says, negate-says}
use Rattle.machine.proofs.Comparing.{equal-says, compare-says, two-says}
use Rattle.machine.proofs.LookUp.{in-says}
use Rattle.machine.proofs.Selecting.{select-says, opt_select-says, index_of}
use Rattle.machine.proofs.Calls.{call-says, or_value-says}
use Rattle.machine.proofs.Literals.{held-literal, held-string, name-says}
use Rattle.machine.proofs.Lists.{ListFills, list_done_lem, list-more, list-says}
use Rattle.machine.proofs.Maps.{MapFills, map-done, map_more, map-says}
use Rattle.machine.proofs.Comprehending.{PathOk, comprehends-says}
use Rattle.machine.proofs.Paths.{ListedOk, elements-items, conditional-ok, binary-sum, binary-path}

module _ (table src : List ℕ) (l : Counts) where
  -- ---- operators

  unary-says : {L : Alive} {u : Counts} {r : Rooms} {s : Scope} {t : Comprehension.Scope} → Start l src L u r s t → (p : ℕ) (o : Unary) (m : Does) (f : Comprehension.Scope → Eval Meaning.Value) → Refines l src m f → Says l src p L u r (unary_does p o m s (used_of u) r) (unary_rule o (f t))
  unfolding unary_rule of_one ◌>>=◌ on_value
  unary-says {L} {u} {r} {s} {t} st p not_op m f h =
      of-operand l src st p m f h (λ x. (unary_out p not_op x.0, x.1)) (on_value _) (λ M c q b j n v k. not-says l src b p n v k) (λ M c q b j e. raises l src b p e) (λ x z q. refl)
  unary-says {L} {u} {r} {s} {t} st p negate_op m f h =
      of-operand l src st p m f h (λ x. (unary_out p negate_op x.0, x.1)) (on_value _) (λ M c q b j n v k. negate-says l src b p v n k) (λ M c q b j e. raises l src b p e) (λ x z q. refl)
  unary-says st p not_strictly_false m f h = not-strictly-false l src st p m f h

  binary-says : {L : Alive} {u : Counts} {r : Rooms} {s : Scope} {t : Comprehension.Scope} → Start l src L u r s t → (p : ℕ) (o : Binary) (m : Does) (f : Comprehension.Scope → Eval Meaning.Value) → Refines l src m f → (n : Does) (g : Comprehension.Scope → Eval Meaning.Value) → Refines l src n g → Says l src p L u r (binary_does l.steps p o m n s (used_of u) r) (binary_rule o (f t) (g t))
  unfolding binary_rule
  binary-says st p (logic fold) m f h n g k = logic-says l src fold p n g k st m f h
  binary-says st p equals m f h n g k = two-says l src st p m f h n g k (λ v w z q. (equal_out l.steps true v w z q, q)) _ (λ M c q b x y v w i j. equal-says l src b p true x y v w i j)
  binary-says st p not_equals m f h n g k = two-says l src st p m f h n g k (λ v w z q. (equal_out l.steps false v w z q, q)) _ (λ M c q b x y v w i j. equal-says l src b p false x y v w i j)
  binary-says st p index m f h n g k = index_of l src false p n g k st m f h
  binary-says st p opt_index m f h n g k = index_of l src true p n g k st m f h
  binary-says st p opt_select m f h n g k = two-says l src st p m f h n g k (λ v w z q. Selection.opt_select l.steps p v w z q) _ (λ M c q b x y v w i j. opt_select-says l src b p v x i w y j)
  binary-says st p (arith o) m f h n g k = two-says l src st p m f h n g k (λ v w z q. arithmetic p o v w z q) _ (λ M c q b x y v w i j. arith-says l src b p o w y j v x i)
  binary-says st p (compare c) m f h n g k = two-says l src st p m f h n g k (λ v w z q. (compare_out c p v w z q, q)) _ (λ M d q b x y v w i j. compare-says l src b p c x y v w i j)
  binary-says st p is_in m f h n g k = two-says l src st p m f h n g k (λ v w z q. (Selection.in_parts l.steps p q v z (parts_of w), q)) _ (λ M c q b x y v w i j. in-says l src b p v x i w y j)

  -- ---- records

  abbrev does : Expr → Does
  does e = machine table l.steps e

  abbrev means : Expr → Comprehension.Scope → Eval Meaning.Value
  means e t = run e t

  -- a record, from its rule
  record-ok : (p : ℕ) (B : Does) (ρ : Comprehension.Scope → Rule Meaning.Value) → ((L : Alive) (u : Counts) (r : Rooms) (s : Scope) (t : Comprehension.Scope) → Start l src L u r s t → Says l src p L u r (B s (used_of u) r) (ρ t)) → Refines l src (recorded l.steps B) (λ t. begin p (ρ t))
  record-ok p B ρ h L s t u r a = step_then l src a p B (ρ t) (λ b. h L _ r s t b)

  -- an operand's value, then a rule
  one_ok : (p : ℕ) (m : Does) (f : Comprehension.Scope → Eval Meaning.Value) → Refines l src m f → (K : Value → Used → Rooms → Res) (rule : Meaning.Value → Rule Meaning.Value)
      → ((L : Alive) (u : Counts) (r : Rooms) (s : Scope) (t : Comprehension.Scope) → Start l src L u r s t → (y : Value) (v : Meaning.Value) → Holds v L r y → Says l src p L u r (K y (used_of u) r) (rule v))
      → Refines l src (recorded l.steps (λ s u r. with_value (m s u r).0 (m s u r).1 K)) (λ t. begin p (of_one (f t) rule))
  unfolding of_one
  one_ok p m f h K rule g = record-ok p (λ s u r. with_value (m s u r).0 (m s u r).1 K) (λ t. ◌>>=◌ (operand (f t)) rule) (λ L u r s t st. value_of l src st p m f h K rule (λ M c q b j y v k. g M c q s t b y v k))

  literal-ok : (p : ℕ) (x : Meaning.Scalar) → AcceptedLiteral table src p x → Refines l src (recorded l.steps (λ s u r. (Outcome.Value (literal_value table p x) u, r))) (λ t. begin p (pure (scalar x)))
  literal-ok p x w = record-ok p (λ s u r. (Outcome.Value (literal_value table p x) u, r)) (λ t. pure (scalar x)) (λ L u r s t st. value-now l src st p (literal_value table p x) (scalar x) (held-literal table src L r st.literals p x w))

  none-ok : (p : ℕ) → Refines l src (recorded l.steps (λ s u r. (Outcome.Value Value.OptionalNone u, r))) (λ t. begin p (pure optional_none))
  none-ok p = record-ok p (λ s u r. (Outcome.Value Value.OptionalNone u, r)) (λ t. pure optional_none) (λ L u r s t st. value-now l src st p Value.OptionalNone optional_none (held_none L r))

  -- a List record, from its elements
  list-ok : (p n : ℕ) (F : Scope → (base m d : ℕ) → Used → Rooms → Res) (M : Comprehension.Scope → Values → Making Values) → ListFills l src p F M n → Refines l src (recorded l.steps (λ s u r. taking n u r (λ w q. F s u.cells 0 0 w q))) (λ t. begin p (into list (list_rule n (M t nil))))
  list-ok p n F M h = record-ok p (λ s u r. taking n u r (λ w q. F s u.cells 0 0 w q)) (λ t. into list (list_rule n (M t nil))) (λ L u r s t st. list-says l src p F M n h st)

  map-ok : (p n : ℕ) (F : Scope → (base m d : ℕ) → Used → Rooms → Res) (M : Comprehension.Scope → Entries → Making Entries) → MapFills l src p F M n → Refines l src (recorded l.steps (λ s u r. taking (cells_an_entry * n) u r (λ w q. F s u.cells 0 0 w q))) (λ t. begin p (into map (map_rule n (M t empty))))
  map-ok p n F M h = record-ok p (λ s u r. taking (cells_an_entry * n) u r (λ w q. F s u.cells 0 0 w q)) (λ t. into map (map_rule n (M t empty))) (λ L u r s t st. map-says l src p F M n h st)

  -- records that are no append step, no sum and no list
  none-path : (a : ℕ) → PathOk l src None (of_name a None)
  unfolding of_name
  none-path a = tt

  none-sum : (a : ℕ) → ListedOk l src None (of_name a None)
  unfolding of_name
  none-sum a = tt

  conditional-sum : (a : ℕ) (sum : Option (ℕ × (Comprehension.Scope → Eval Values))) (n : Option ℕ) (f : Comprehension.Scope → Eval Meaning.Value) → ListedOk l src None (of_name a (Look.a_conditional f sum n).adds)
  unfolding of_name Look.a_conditional
  conditional-sum a sum None f = tt
  conditional-sum a sum (Some n) f = tt

  no-list-either : (sum : Option (ℕ × (Comprehension.Scope → Eval Values))) (n : Option ℕ) (f : Comprehension.Scope → Eval Meaning.Value) → ListedOk l src None (Look.a_conditional f sum n).lists
  unfolding Look.a_conditional
  no-list-either sum None f = tt
  no-list-either sum (Some n) f = tt

  no-list : (o : Binary) (x y : Look) → ListedOk l src None (Look.binary_look o x y).lists
  unfolding Look.binary_look
  no-list (logic fold) x y = folded x.is_name
    where
      folded : (n : Option ℕ) → ListedOk l src None (Look.a_fold fold n).lists
      folded None = unfold Look.a_fold in tt
      folded (Some n) = unfold Look.a_fold in tt
  no-list equals x y = tt
  no-list not_equals x y = tt
  no-list index x y = tt
  no-list opt_index x y = tt
  no-list opt_select x y = tt
  no-list (arith o) x y = summed o x.is_name y.lists
    where
      added : (n : Option ℕ) (f : Option (Comprehension.Scope → Eval Values)) → ListedOk l src None (Look.a_sum n f).lists
      added None f = unfold Look.a_sum in tt
      added (Some n) None = unfold Look.a_sum in tt
      added (Some n) (Some f) = unfold Look.a_sum in tt

      summed : (o : Arith) (n : Option ℕ) (f : Option (Comprehension.Scope → Eval Values)) → ListedOk l src None (Look.arith_look o x y).lists
      summed add n f = unfold Look.arith_look in added x.is_name y.lists
      summed sub n f = unfold Look.arith_look in tt
      summed div n f = unfold Look.arith_look in tt
      summed mul n f = unfold Look.arith_look in tt
      summed rem n f = unfold Look.arith_look in tt
  no-list (compare c) x y = tt
  no-list is_in x y = tt

  -- the append path is open, or closed, in both
  open-ok : (b : Bool) (path : Option Machine2.AppendStep) (step : Option Comprehension.AppendStep) → PathOk l src path step → PathOk l src (cond b path None) (cond b step None)
  open-ok true path step h = h
  open-ok false path step h = tt

  -- ---- every record

  mutual
    unfolding body run Look.append_step count_elements count_pairs

    -- What the machine does is what the expression means: the same value, the same error at the same record, or the same exhaustion, with equal
    -- counts; nothing below the counts at entry or from those at exit on is changed; and in between the rooms hold what was built, in order.
    pub refines : (e : Expr) → Accepted table src e → Refines l src (does e) (means e)
    refines (literal p x) w = literal-ok p x w
    refines (name p n) w = record-ok p (λ s u r. (name_out p (slot_of s n) u, r)) (λ t. or_fail UndeclaredReference (t n)) (λ L u r s t st. name-says l src st p n)
    refines (unary p o e) w = record-ok p (λ s u r. unary_does p o (does e) s u r) (λ t. unary_rule o (run e t)) (λ L u r s t st. unary-says st p o (does e) (means e) (refines e w))
    refines (binary p o e f) w = record-ok p (λ s u r. binary_does l.steps p o (does e) (does f) s u r) (λ t. binary_rule o (run e t) (run f t)) (λ L u r s t st. binary-says st p o (does e) (means e) (refines e w.0) (does f) (means f) (refines f w.1))
    refines (conditional p c e f) w =
        record-ok p (λ s u r. conditional_does p (does c) (does e) (does f) s u r) (λ t. conditional_rule (run c t) (run e t) (run f t))
        (λ L u r s t st. conditional-says l src st p (does c) (means c) (refines c w.0) (does e) (means e) (refines e w.1) (does f) (means f) (refines f w.2))
    refines (select p test field e) w = one_ok p (does e) (means e) (refines e w.1) (λ v z q. Selection.select_field l.steps p test (field_value table p) v z q) (select_field test field) (λ L u r s t st y v k. select-says l src st p test field (field_value table p) (held-string table src L r st.literals field (word_at table (p + 4)) (word_at table (p + 6)) w.0) v y k)
    refines (list_of p es) w = list-ok p (count_elements es) (λ s base m d u r. elements table l.steps es s base m d u r) (λ t vs. run_elements es t vs) (fills es w p)
    refines (map_of p ps) w = map-ok p (count_pairs ps) (λ s base m d u r. entries table l.steps p ps s base m d u r) (λ t es. run_pairs ps t es) (fills-pairs ps w p)
    refines (comprehension p a i range init condition step result) w =
        record-ok p _ _ (λ L u r s t st. comprehends-says l src p a i w.0 w.1 (of_name a (look step).folds) (does condition) (does step) (does result) (means condition) (means step) (means result) (refines condition w.4) (refines step w.5) (refines result w.6) (does range) (does init) (means range) (means init) (refines range w.2) (refines init w.3)
        (cond ((look condition).is_literal && named a (look result).is_name) (append_step table l.steps a step) None) (Look.append_step a (look condition) (look step) (look result)) (open-ok ((look condition).is_literal && named a (look result).is_name) (append_step table l.steps a step) (of_name a (look step).appends) (paths step w.5 a)) st)
    refines (call p f e) w = one_ok p (does e) (means e) (refines e w) (λ v z q. called p f v z q) (call_rule f) (λ L u r s t st y v k. call-says l src st p f v y k)
    refines (none_call p) w = none-ok p
    refines (or_value p e f) w = record-ok p (λ s u r. or_value_does p (does e) (does f) s u r) (λ t. or_value_call (run e t) (run f t)) (λ L u r s t st. or_value-says l src st p (does e) (means e) (refines e w.0) (does f) (means f) (refines f w.1))

    fills : (es : Elements) → AcceptedElements table src es → (p : ℕ) → ListFills l src p (λ s base m d u r. elements table l.steps es s base m d u r) (λ t vs. run_elements es t vs) (count_elements es)
    fills no_elements w p = list_done_lem l src p
    fills (element e es) w p = list-more l src p (λ s base m d u r. elements table l.steps es s base m d u r) (λ t vs. run_elements es t vs) (count_elements es) (fills es w.1 p) false (does e) (means e) (refines e w.0)
    fills (marked_element q e es) w p = list-more l src p (λ s base m d u r. elements table l.steps es s base m d u r) (λ t vs. run_elements es t vs) (count_elements es) (fills es w.1 p) true (does e) (means e) (refines e w.0)

    fills-pairs : (ps : Pairs) → AcceptedPairs table src ps → (p : ℕ) → MapFills l src p (λ s base m d u r. entries table l.steps p ps s base m d u r) (λ t es. run_pairs ps t es) (count_pairs ps)
    fills-pairs no_pairs w p = map-done l src p
    fills-pairs (pair k e ps) w p = map_more l src p (λ s base m d u r. entries table l.steps p ps s base m d u r) (λ t es. run_pairs ps t es) (count_pairs ps) (fills-pairs ps w.2 p) false (does k) (does e) (means k) (means e) (refines k w.0) (refines e w.1)
    fills-pairs (marked_pair k q e ps) w p = map_more l src p (λ s base m d u r. entries table l.steps p ps s base m d u r) (λ t es. run_pairs ps t es) (count_pairs ps) (fills-pairs ps w.2 p) true (does k) (does e) (means k) (means e) (refines k w.0) (refines e w.1)

    -- the append path that a step opens
    paths : (e : Expr) → Accepted table src e → (a : ℕ) → PathOk l src (append_step table l.steps a e) (of_name a (look e).appends)
    paths (literal p x) w a = none-path a
    paths (name p n) w a = none-path a
    paths (unary p o e) w a = none-path a
    paths (binary p o e f) w a = binary-path l src o a (look e) (look f) (items_list table l.steps f) (listed f w.1)
    paths (conditional p c e f) w a = conditional-ok l src (does c) (means c) (refines c w.0) a (append_sum table l.steps a e) (look e).adds (look f).is_name (sums e w.1 a)
    paths (select p test field e) w a = none-path a
    paths (list_of p es) w a = none-path a
    paths (map_of p ps) w a = none-path a
    paths (comprehension p b i range init condition step result) w a = none-path a
    paths (call p f e) w a = none-path a
    paths (none_call p) w a = none-path a
    paths (or_value p e f) w a = none-path a

    sums : (e : Expr) → Accepted table src e → (a : ℕ) → ListedOk l src (append_sum table l.steps a e) (of_name a (look e).adds)
    sums (literal p x) w a = none-sum a
    sums (name p n) w a = none-sum a
    sums (unary p o e) w a = none-sum a
    sums (binary p o e f) w a = binary-sum l src o a (look e) (look f) (items_list table l.steps f) (listed f w.1)
    sums (conditional p c e f) w a = conditional-sum a (look e).adds (look f).is_name (means c)
    sums (select p test field e) w a = none-sum a
    sums (list_of p es) w a = none-sum a
    sums (map_of p ps) w a = none-sum a
    sums (comprehension p b i range init condition step result) w a = none-sum a
    sums (call p f e) w a = none-sum a
    sums (none_call p) w a = none-sum a
    sums (or_value p e f) w a = none-sum a

    listed : (e : Expr) → Accepted table src e → ListedOk l src (items_list table l.steps e) (look e).lists
    listed (literal p x) w = tt
    listed (name p n) w = tt
    listed (unary p o e) w = tt
    listed (binary p o e f) w = no-list o (look e) (look f)
    listed (conditional p c e f) w = no-list-either (look e).adds (look f).is_name (means c)
    listed (select p test field e) w = tt
    listed (list_of p es) w = elements-items l src p es (recorded l.steps (λ s u r. taking (count_elements es) u r (λ z q. elements table l.steps es s u.cells 0 0 z q))) (list-ok p (count_elements es) (λ s base m d u r. elements table l.steps es s base m d u r) (λ t vs. run_elements es t vs) (fills es w p))
    listed (map_of p ps) w = tt
    listed (comprehension p b i range init condition step result) w = tt
    listed (call p f e) w = tt
    listed (none_call p) w = tt
    listed (or_value p e f) w = tt
