-- The machine: what each record does on rooms, under a limit on steps. Cells and text are limited by the rooms' lengths, up to document 01's limits.
use Rattle.std.specs.Prelude.{ℕ, ◌*◌, List, Bool, true, false, cond, ◌&&◌, Option, None, Some}
use Rattle.meaning.specs.Expr.{Unary, not_op, negate_op, not_strictly_false, Arith, add, sub, div, mul, rem, Binary, logic, equals, not_equals, index, opt_index, opt_select, arith, compare, is_in, Function, Expr, literal, name, unary, binary, conditional, select, list_of, map_of, comprehension, call, none_call, or_value, Elements, no_elements, element, marked_element, Pairs, no_pairs, pair, marked_pair, count_elements, count_pairs}
use Rattle.meaning.specs.Containers.{cells_an_entry}
use Rattle.meaning.specs.Look.{of_name, named}
use Rattle.meaning.specs.Meaning.{look}
use Rattle.rooms.specs.declared.value.Value.{Value}
use Rattle.rooms.specs.declared.scope.Scope.{Scope}
use Rattle.rooms.specs.Value.{plain_of, parts_of}
use Rattle.rooms.specs.Rooms.{Rooms}
use Rattle.rooms.specs.Scope.{slot_of}
use Rattle.machine.specs.declared.outcome.Used.{Used}
use Rattle.machine.specs.declared.outcome.Outcome.{Outcome}
use Rattle.machine.specs.Outcomes.{Res, Does, on_value, with_value, recorded, taking}
use Rattle.machine.specs.Views.{bool_in, Optional, not_optional, none_present, optional_in}
use Rattle.machine.specs.Views as Views
use Rattle.machine.specs.Literals.{literal_value, field_value, name_out}
use Rattle.machine.specs.Numbers.{negate_plain, arithmetic}
use Rattle.machine.specs.Comparison.{equal_out, compare_out}
use Rattle.machine.specs.Selection as Selection
use Rattle.machine.specs.Selection.{in_parts, select_field}
use Rattle.machine.specs.Logic as Logic
use Rattle.machine.specs.Logic.{not_out, logic_left, logic_right, branch}
use Rattle.machine.specs.Calls.{or_value_out, called}
use Rattle.machine.specs.Containers as Containers
use Rattle.machine.specs.Containers.{list_done, map_done}
use Rattle.machine.specs.Comprehension.{AppendStep, comprehends}

-- ---- operators, from what operands do

abbrev pub unary_out : ℕ → Unary → Outcome → Outcome
unary_out p not_op o = on_value o (λ v u. not_out p u (bool_in v))
unary_out p negate_op o = on_value o (λ v u. negate_plain p u (plain_of v))
unary_out p not_strictly_false o = Logic.not_strictly_false o

abbrev pub unary_does : ℕ → Unary → Does → Does
unary_does p o operand s u r =
    let x : Res = operand s u r in
    (unary_out p o x.0, x.1)

-- whether the right operand is begun, and from which counts
abbrev pub wants_value : Outcome → Option Used
wants_value (Outcome.Value v u) = Some u
wants_value (Outcome.Error e p u) = None
wants_value (Outcome.Exhausted x u) = None

abbrev pub unless_none : Optional → Used → Option Used
unless_none not_optional u = Some u
unless_none none_present u = None
unless_none (Views.present s a) u = Some u

abbrev pub index_left : Outcome → Option Used
index_left (Outcome.Value v u) = unless_none (optional_in v) u
index_left (Outcome.Error e p u) = None
index_left (Outcome.Exhausted x u) = None

abbrev pub left_of : Binary → Outcome → Option Used
left_of (logic fold) o = logic_left fold o
left_of equals o = wants_value o
left_of not_equals o = wants_value o
left_of index o = index_left o
left_of opt_index o = index_left o
left_of opt_select o = wants_value o
left_of (arith a) o = wants_value o
left_of (compare c) o = wants_value o
left_of is_in o = wants_value o

-- goes on if the left operand is a value; its counts are not used, since those of the right one come after
abbrev pub both : Outcome → Rooms → (Value → Res) → Res
both (Outcome.Value v z) r k = k v
both (Outcome.Error e p z) r k = (Outcome.Error e p z, r)
both (Outcome.Exhausted x z) r k = (Outcome.Exhausted x z, r)

-- of two values. `||` and `&&` are decided in `right_of`, from the left operand's outcome and the right value, so their arm is never taken
abbrev pub values_out : (limit : ℕ) → ℕ → Binary → Value → Value → Used → Rooms → Res
values_out limit p (logic fold) v w u r = (Outcome.Value w u, r)
values_out limit p equals v w u r = (equal_out limit true v w u r, r)
values_out limit p not_equals v w u r = (equal_out limit false v w u r, r)
values_out limit p index v w u r = Selection.index limit p false v w u r
values_out limit p opt_index v w u r = Selection.index limit p true v w u r
values_out limit p opt_select v w u r = Selection.opt_select limit p v w u r
values_out limit p (arith o) v w u r = arithmetic p o v w u r
values_out limit p (compare c) v w u r = (compare_out c p v w u r, r)
values_out limit p is_in v w u r = (in_parts limit p r v u (parts_of w), r)

abbrev pub right_of : (limit : ℕ) → ℕ → Binary → Outcome → Value → Used → Rooms → Res
right_of limit p (logic fold) left w u r = (logic_right fold p left w u, r)
right_of limit p equals left w u r = both left r (λ v. values_out limit p equals v w u r)
right_of limit p not_equals left w u r = both left r (λ v. values_out limit p not_equals v w u r)
right_of limit p index left w u r = both left r (λ v. values_out limit p index v w u r)
right_of limit p opt_index left w u r = both left r (λ v. values_out limit p opt_index v w u r)
right_of limit p opt_select left w u r = both left r (λ v. values_out limit p opt_select v w u r)
right_of limit p (arith o) left w u r = both left r (λ v. values_out limit p (arith o) v w u r)
right_of limit p (compare c) left w u r = both left r (λ v. values_out limit p (compare c) v w u r)
right_of limit p is_in left w u r = both left r (λ v. values_out limit p is_in v w u r)

abbrev pub on_left : Option Used → Outcome → Rooms → (Used → Rooms → Res) → Res
on_left None left r k = (left, r)
on_left (Some u) left r k = k u r

abbrev pub binary_does : (limit : ℕ) → ℕ → Binary → Does → Does → Does
binary_does limit p o left right s u r =
    let x : Res = left s u r in
    on_left (left_of o x.0) x.0 x.1 (λ w q.
    let y : Res = right s w q in
    with_value y.0 y.1 (λ v z d. right_of limit p o x.0 v z d))

abbrev pub conditional_does : ℕ → Does → Does → Does → Does
conditional_does p condition if_true if_false s u r =
    let x : Res = condition s u r in
    with_value x.0 x.1 (λ v w q. branch p w q (bool_in v) (λ z d. if_true s z d) (λ z d. if_false s z d))

abbrev pub select_does : (limit : ℕ) → ℕ → Bool → Value → Does → Does
select_does limit p test field operand s u r =
    let x : Res = operand s u r in
    with_value x.0 x.1 (λ v w q. select_field limit p test field v w q)

abbrev pub call_does : ℕ → Function → Does → Does
call_does p f operand s u r =
    let x : Res = operand s u r in
    with_value x.0 x.1 (λ v w q. called p f v w q)

-- the argument comes before the target
abbrev pub or_value_does : ℕ → Does → Does → Does
or_value_does p target argument s u r =
    let x : Res = argument s u r in
    with_value x.0 x.1 (λ default w q.
    let y : Res = target s w q in
    with_value y.0 y.1 (λ v z d. (or_value_out p default z d (optional_in v), d)))

-- ---- the append path

-- the items list of `accumulator + [..]`
abbrev pub added_to : ℕ → Arith → Option ℕ → Option Does → Option Does
added_to a add n items = cond (named a n) items None
added_to a sub n items = None
added_to a div n items = None
added_to a mul n items = None
added_to a rem n items = None

abbrev pub sum_to : ℕ → Binary → Option ℕ → Option Does → Option Does
sum_to a (logic fold) n items = None
sum_to a equals n items = None
sum_to a not_equals n items = None
sum_to a index n items = None
sum_to a opt_index n items = None
sum_to a opt_select n items = None
sum_to a (arith o) n items = added_to a o n items
sum_to a (compare c) n items = None
sum_to a is_in n items = None

abbrev pub appending : Option Does → Option Does → Option AppendStep
appending guard None = None
appending guard (Some items) = Some (record { guard = guard; items = items })

-- ---- records

module _ (table : List ℕ) (limit : ℕ) where
  unfoldable mutual
    -- what a record does after its step
    pub body : Expr → Does
    body (literal p x) s u r = (Outcome.Value (literal_value table p x) u, r)
    body (name p n) s u r = (name_out p (slot_of s n) u, r)
    body (unary p o e) s u r = unary_does p o (recorded limit (λ t w q. body e t w q)) s u r
    body (binary p o e f) s u r = binary_does limit p o (recorded limit (λ t w q. body e t w q)) (recorded limit (λ t w q. body f t w q)) s u r
    body (conditional p c e f) s u r =
        conditional_does p (recorded limit (λ t w q. body c t w q)) (recorded limit (λ t w q. body e t w q))
        (recorded limit (λ t w q. body f t w q)) s u r
    body (select p test field e) s u r = select_does limit p test (field_value table p) (recorded limit (λ t w q. body e t w q)) s u r
    body (list_of p es) s u r = taking (count_elements es) u r (λ w q. elements es s u.cells 0 0 w q)
    body (map_of p es) s u r = taking (cells_an_entry * count_pairs es) u r (λ w q. entries p es s u.cells 0 0 w q)
    body (comprehension p a i range init condition step result) s u r =
        comprehends
        (record {
          place = p;
          accumulator = a;
          item = i;
          fold = of_name a (look step).folds;
          condition = recorded limit (λ t w q. body condition t w q);
          step = recorded limit (λ t w q. body step t w q);
          result = recorded limit (λ t w q. body result t w q);
        })
        (cond ((look condition).is_literal && named a (look result).is_name) (append_step a step) None)
        (recorded limit (λ t w q. body init t w q)) (recorded limit (λ t w q. body range t w q)) s u r
    body (call p f e) s u r = call_does p f (recorded limit (λ t w q. body e t w q)) s u r
    body (none_call p) s u r = (Outcome.Value Value.OptionalNone u, r)
    body (or_value p target argument) s u r = or_value_does p (recorded limit (λ t w q. body target t w q)) (recorded limit (λ t w q. body argument t w q)) s u r

    -- the elements that are left, and the entries
    pub elements : Elements → Scope → (base m d : ℕ) → Used → Rooms → Res
    elements no_elements s base m d u r = list_done base m d u r
    elements (element e es) s base m d u r =
        Containers.element false (recorded limit (λ t w q. body e t w q)) s base m d u r (λ m' d' w q. elements es s base m' d' w q)
    elements (marked_element p e es) s base m d u r =
        Containers.element true (recorded limit (λ t w q. body e t w q)) s base m d u r (λ m' d' w q. elements es s base m' d' w q)

    pub entries : ℕ → Pairs → Scope → (base m d : ℕ) → Used → Rooms → Res
    entries p no_pairs s base m d u r = map_done base m d u r
    entries p (pair k e ps) s base m d u r =
        Containers.entry limit p false (recorded limit (λ t w q. body k t w q)) (recorded limit (λ t w q. body e t w q)) s base m d u r
        (λ m' d' w q. entries p ps s base m' d' w q)
    entries p (marked_pair k mark e ps) s base m d u r =
        Containers.entry limit p true (recorded limit (λ t w q. body k t w q)) (recorded limit (λ t w q. body e t w q)) s base m d u r
        (λ m' d' w q. entries p ps s base m' d' w q)

    -- the append path that a step opens
    pub append_step : ℕ → Expr → Option AppendStep
    append_step a (literal p x) = None
    append_step a (name p n) = None
    append_step a (unary p o e) = None
    append_step a (binary p o e f) = appending None (sum_to a o (look e).is_name (items_list f))
    append_step a (conditional p c e f) = cond (named a (look f).is_name) (appending (Some (recorded limit (λ t w q. body c t w q))) (append_sum a e)) None
    append_step a (select p test field e) = None
    append_step a (list_of p es) = None
    append_step a (map_of p es) = None
    append_step a (comprehension p b i range init condition step result) = None
    append_step a (call p f e) = None
    append_step a (none_call p) = None
    append_step a (or_value p target argument) = None

    -- what the list of `accumulator + [..]` does
    pub append_sum : ℕ → Expr → Option Does
    append_sum a (literal p x) = None
    append_sum a (name p n) = None
    append_sum a (unary p o e) = None
    append_sum a (binary p o e f) = sum_to a o (look e).is_name (items_list f)
    append_sum a (conditional p c e f) = None
    append_sum a (select p test field e) = None
    append_sum a (list_of p es) = None
    append_sum a (map_of p es) = None
    append_sum a (comprehension p b i range init condition step result) = None
    append_sum a (call p f e) = None
    append_sum a (none_call p) = None
    append_sum a (or_value p target argument) = None

    -- what a List record does
    pub items_list : Expr → Option Does
    items_list (literal p x) = None
    items_list (name p n) = None
    items_list (unary p o e) = None
    items_list (binary p o e f) = None
    items_list (conditional p c e f) = None
    items_list (select p test field e) = None
    items_list (list_of p es) = Some (recorded limit (λ s u r. taking (count_elements es) u r (λ w q. elements es s u.cells 0 0 w q)))
    items_list (map_of p es) = None
    items_list (comprehension p a i range init condition step result) = None
    items_list (call p f e) = None
    items_list (none_call p) = None
    items_list (or_value p target argument) = None

  -- a record
  abbrev pub machine : Expr → Does
  machine e = recorded limit (λ t w q. body e t w q)
