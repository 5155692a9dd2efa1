-- Which operands a record begins, in which scope, and after which charges: one line for each kind of record and each operand.
-- `Begins e s before f t`: evaluating e in the scope s makes the charges `before` and then begins f in the scope t.
-- It repeats only the part of the definition of evaluation that comes before an operand. proofs/Begun (`reached`) proves that it says nothing
-- wrong, proofs/EveryStep that it leaves no operand out.
use Rattle.std.specs.Prelude.{ℕ, ◌*◌, ◌≡◌, List, [], ◌∷◌, ◌++◌, Bool, true, false, Option, None, Some}
use Rattle.meaning.specs.Errors.{ErrorAt}
use Rattle.meaning.specs.Value.{Scalar, Key, Value, list, Values, nil, Entries, empty, bool_of, key_of, is_none}
use Rattle.meaning.specs.Expr.{Unary, LogicalFold, add, Binary, logic, equals, not_equals, index, opt_index, opt_select, arith, compare, is_in, Function, Expr, literal, name, unary, binary, conditional, select, list_of, map_of, comprehension, call, or_value, Elements, element, marked_element, Pairs, pair, marked_pair, count_elements, count_pairs}
use Rattle.meaning.specs.Run.{Charge, step, cells, Trace, Result, value, error, Eval}
use Rattle.meaning.specs.Logic.{absorbing, absorbs}
use Rattle.meaning.specs.Containers.{ready_in, pad, cells_an_entry, entry_cells, entry_rule}
use Rattle.meaning.specs.Comprehension.{Scope, store, items_of, AppendStep, Pending, is_empty_list}
use Rattle.meaning.specs.Look.{of_name, append_step}
use Rattle.meaning.specs.Meaning.{run, run_elements, run_pairs, look}

-- ---- what an earlier operand gave

abbrev pub GaveValue : Eval Value → Type 0
GaveValue r = (v : Value) × (r.1 ≡ value v)

abbrev pub GaveBool : Eval Value → Bool → Type 0
GaveBool r b = (v : Value) × (r.1 ≡ value v) × (bool_of v ≡ Some b)

-- after this left operand the right one is begun: for `||` and `&&` if the left does not decide, for an index if it is not none, for others if it
-- is a value
abbrev pub LeavesOpen : Binary → Eval Value → Type 0
LeavesOpen (logic fold) r = ¬ GaveBool r (absorbing fold)
LeavesOpen equals r = GaveValue r
LeavesOpen not_equals r = GaveValue r
LeavesOpen index r = (v : Value) × (r.1 ≡ value v) × (is_none v ≡ false)
LeavesOpen opt_index r = (v : Value) × (r.1 ≡ value v) × (is_none v ≡ false)
LeavesOpen opt_select r = GaveValue r
LeavesOpen (arith o) r = GaveValue r
LeavesOpen (compare c) r = GaveValue r
LeavesOpen is_in r = GaveValue r

-- ---- elements and entries

-- the charge of a List record as it begins, and of a Map record
unfoldable pub list_cells : Elements → Scope → Charge
list_cells es s = cells (pad (count_elements es) (ready_in (run_elements es s nil).1))

unfoldable pub map_cells : Pairs → Scope → Charge
map_cells ps s = cells (pad (cells_an_entry * count_pairs ps) (entry_cells (ready_in (run_pairs ps s empty).1)))

-- a key is a value that may stand as one
abbrev pub GaveKey : Eval Value → Type 0
GaveKey r = (v : Value) × (k : Key) × (r.1 ≡ value v) × (key_of v ≡ Some k)

module _ (s : Scope) where
  -- the first element, or one behind an element that gave a value
  pub data BeginsElement : Elements → Trace → Expr → Type 0 where
    first_element : {e : Expr} {es : Elements} → BeginsElement (element e es) [] e
    first_marked : {p : ℕ} {e : Expr} {es : Elements} → BeginsElement (marked_element p e es) [] e
    after_element : {e f : Expr} {es : Elements} {before : Trace} →
        GaveValue (run e s) → BeginsElement es before f → BeginsElement (element e es) ((run e s).0 ++ before) f
    after_marked : {p : ℕ} {e f : Expr} {es : Elements} {before : Trace} →
        GaveValue (run e s) → BeginsElement es before f → BeginsElement (marked_element p e es) ((run e s).0 ++ before) f

  -- a key, its value, or a part of an entry behind one that was made; from the entries that are ready
  pub data BeginsEntry : Pairs → Entries → Trace → Expr → Type 0 where
    first_key : {k e : Expr} {ps : Pairs} {ready : Entries} → BeginsEntry (pair k e ps) ready [] k
    first_marked_key : {p : ℕ} {k e : Expr} {ps : Pairs} {ready : Entries} → BeginsEntry (marked_pair k p e ps) ready [] k
    its_value : {k e : Expr} {ps : Pairs} {ready : Entries} → GaveKey (run k s) → BeginsEntry (pair k e ps) ready (run k s).0 e
    its_marked_value : {p : ℕ} {k e : Expr} {ps : Pairs} {ready : Entries} → GaveKey (run k s) → BeginsEntry (marked_pair k p e ps) ready (run k s).0 e
    after_entry : {k e f : Expr} {ps : Pairs} {ready more : Entries} {before : Trace} →
        (entry_rule false (run k s) (run e s) ready).1 ≡ value more →
        BeginsEntry ps more before f →
        BeginsEntry (pair k e ps) ready ((entry_rule false (run k s) (run e s) ready).0 ++ before) f
    after_marked_entry : {p : ℕ} {k e f : Expr} {ps : Pairs} {ready more : Entries} {before : Trace} →
        (entry_rule true (run k s) (run e s) ready).1 ≡ value more →
        BeginsEntry ps more before f →
        BeginsEntry (marked_pair k p e ps) ready ((entry_rule true (run k s) (run e s) ready).0 ++ before) f

-- ---- the loop of a comprehension

module _ (accumulator : ℕ) where
  -- after a step with this result, with an error pending or not, the loop goes on from this scope and this pending error
  pub data GoesOn : Option LogicalFold → Scope → Pending → Result ErrorAt Value → Scope → Pending → Type 0 where
    plain : {s : Scope} {pending : Pending} {v : Value} → GoesOn None s pending (value v) (store s accumulator v) None
    folded : {fold : LogicalFold} {s : Scope} {v : Value} → GoesOn (Some fold) s None (value v) (store s accumulator v) None
    cleared : {fold : LogicalFold} {s : Scope} {e : ErrorAt} {v : Value} →
        absorbs fold (bool_of v) ≡ true → GoesOn (Some fold) s (Some e) (value v) (store s accumulator v) None
    still_held : {fold : LogicalFold} {s : Scope} {e : ErrorAt} {v : Value} →
        absorbs fold (bool_of v) ≡ false → GoesOn (Some fold) s (Some e) (value v) s (Some e)
    held : {fold : LogicalFold} {s : Scope} {pending : Pending} {e : ErrorAt} → GoesOn (Some fold) s pending (error e) s (Some e)

module _ (accumulator item : ℕ) (fold : Option LogicalFold) (condition next result : Expr) where
  -- over the items left, from a scope and a pending error
  pub data InLoop : List Value → Scope → Pending → Trace → Expr → Scope → Type 0 where
    result_at_end : {s : Scope} → InLoop [] s None [] result s
    condition_of_item : {x : Value} {xs : List Value} {s : Scope} {pending : Pending} → InLoop (x ∷ xs) s pending [] condition s
    result_at_false : {x : Value} {xs : List Value} {s : Scope} →
        GaveBool (run condition s) false → InLoop (x ∷ xs) s None (run condition s).0 result s
    step_of_item : {x : Value} {xs : List Value} {s : Scope} {pending : Pending} →
        GaveBool (run condition s) true → InLoop (x ∷ xs) s pending (run condition s).0 next (store s item x)
    later_item : {x : Value} {xs : List Value} {s t u : Scope} {pending still : Pending} {before : Trace} {f : Expr} →
        GaveBool (run condition s) true →
        GoesOn accumulator fold (store s item x) pending (run next (store s item x)).1 t still →
        InLoop xs t still before f u →
        InLoop (x ∷ xs) s pending ((run condition s).0 ++ ((run next (store s item x)).0 ++ before)) f u

-- the ordinary loop is taken, with init's value v: there is no append step, or v is no empty list
pub data TakesLoop : Option AppendStep → Value → Type 0 where
  no_append : {v : Value} → TakesLoop None v
  not_empty : {path : AppendStep} {v : Value} → is_empty_list v ≡ false → TakesLoop (Some path) v

-- ---- the append path

module _ (accumulator : ℕ) where
  -- a step `accumulator + [..]`, or `guard ? accumulator + [..] : accumulator`: its guard, and its items list
  pub data Appends : Expr → Option Expr → Expr → Type 0 where
    always : {p q r : ℕ} {es : Elements} → Appends (binary p (arith add) (name q accumulator) (list_of r es)) None (list_of r es)
    guarded : {o p q r n : ℕ} {guard : Expr} {es : Elements} →
        Appends (conditional o guard (binary p (arith add) (name q accumulator) (list_of r es)) (name n accumulator)) (Some guard) (list_of r es)

-- the guard, if there is one, lets the item in, after these charges
pub data LetsIn : Option Expr → Scope → Trace → Type 0 where
  unguarded : {s : Scope} → LetsIn None s []
  guard_holds : {guard : Expr} {s : Scope} → GaveBool (run guard s) true → LetsIn (Some guard) s (run guard s).0

module _ (item : ℕ) (condition : Expr) (guard : Option Expr) (items : Expr) where
  -- over the items left, from a scope; an items list is followed at once by the charge of a cell for each of its elements
  pub data InAppend : List Value → Scope → Trace → Expr → Scope → Type 0 where
    condition_of_item : {x : Value} {xs : List Value} {s : Scope} → InAppend (x ∷ xs) s [] condition s
    guard_of_item : {x : Value} {xs : List Value} {s : Scope} {g : Expr} → guard ≡ Some g →
        GaveBool (run condition s) true → InAppend (x ∷ xs) s (run condition s).0 g (store s item x)
    items_of_item : {x : Value} {xs : List Value} {s : Scope} {asked : Trace} →
        GaveBool (run condition s) true →
        LetsIn guard (store s item x) asked →
        InAppend (x ∷ xs) s ((run condition s).0 ++ asked) items (store s item x)
    after_items : {x : Value} {xs : List Value} {vs : Values} {s u : Scope} {asked before : Trace} {f : Expr} →
        GaveBool (run condition s) true →
        LetsIn guard (store s item x) asked →
        (run items (store s item x)).1 ≡ value (list vs) →
        InAppend xs (store s item x) before f u →
        InAppend (x ∷ xs) s ((run condition s).0 ++ (asked ++ ((run items (store s item x)).0 ++ (cells vs ∷ before)))) f u
    after_no_items : {x : Value} {xs : List Value} {s u : Scope} {g : Expr} {before : Trace} {f : Expr} → guard ≡ Some g →
        GaveBool (run condition s) true →
        GaveBool (run g (store s item x)) false →
        InAppend xs (store s item x) before f u →
        InAppend (x ∷ xs) s ((run condition s).0 ++ ((run g (store s item x)).0 ++ before)) f u

-- ---- every record

pub data Begins : Expr → Scope → Trace → Expr → Scope → Type 0 where
  of_unary : {p : ℕ} {o : Unary} {e : Expr} {s : Scope} → Begins (unary p o e) s (step ∷ []) e s
  left_of : {p : ℕ} {o : Binary} {e f : Expr} {s : Scope} → Begins (binary p o e f) s (step ∷ []) e s
  right_of : {p : ℕ} {o : Binary} {e f : Expr} {s : Scope} → LeavesOpen o (run e s) → Begins (binary p o e f) s (step ∷ (run e s).0) f s
  condition_of : {p : ℕ} {c e f : Expr} {s : Scope} → Begins (conditional p c e f) s (step ∷ []) c s
  if_true : {p : ℕ} {c e f : Expr} {s : Scope} → GaveBool (run c s) true → Begins (conditional p c e f) s (step ∷ (run c s).0) e s
  if_false : {p : ℕ} {c e f : Expr} {s : Scope} → GaveBool (run c s) false → Begins (conditional p c e f) s (step ∷ (run c s).0) f s
  selected_from : {p : ℕ} {test : Bool} {field : List ℕ} {e : Expr} {s : Scope} → Begins (select p test field e) s (step ∷ []) e s
  element_of : {p : ℕ} {es : Elements} {s : Scope} {before : Trace} {e : Expr} →
      BeginsElement s es before e → Begins (list_of p es) s (step ∷ list_cells es s ∷ before) e s
  entry_of : {p : ℕ} {ps : Pairs} {s : Scope} {before : Trace} {e : Expr} →
      BeginsEntry s ps empty before e → Begins (map_of p ps) s (step ∷ map_cells ps s ∷ before) e s
  init_of : {p a i : ℕ} {range init condition next result : Expr} {s : Scope} →
      Begins (comprehension p a i range init condition next result) s (step ∷ []) init s
  range_of : {p a i : ℕ} {range init condition next result : Expr} {s : Scope} →
      GaveValue (run init s) → Begins (comprehension p a i range init condition next result) s (step ∷ (run init s).0) range s
  -- a part begun at an item, or the result
  loop_of : {p a i : ℕ} {range init condition next result f : Expr} {s t : Scope} {v w : Value} {xs : List Value} {before : Trace} →
      (run init s).1 ≡ value v →
      (run range s).1 ≡ value w →
      items_of w ≡ Some xs →
      TakesLoop (append_step a (look condition) (look next) (look result)) v →
      InLoop a i (of_name a (look next).folds) condition next result xs (store s a v) None before f t →
      Begins (comprehension p a i range init condition next result) s (step ∷ ((run init s).0 ++ ((run range s).0 ++ before))) f t
  -- on the append path: a literal condition, a step that appends, the accumulator as the result, and an empty list as init
  append_of : {p a i q n : ℕ} {x : Scalar} {range init next items f : Expr} {guard : Option Expr} {s t : Scope} {w : Value} {xs : List Value}
      {before : Trace} →
      (run init s).1 ≡ value (list nil) →
      (run range s).1 ≡ value w →
      items_of w ≡ Some xs →
      Appends a next guard items →
      InAppend i (literal q x) guard items xs s before f t →
      Begins (comprehension p a i range init (literal q x) next (name n a)) s (step ∷ ((run init s).0 ++ ((run range s).0 ++ before))) f t
  argument_of : {p : ℕ} {g : Function} {e : Expr} {s : Scope} → Begins (call p g e) s (step ∷ []) e s
  default_of : {p : ℕ} {target argument : Expr} {s : Scope} → Begins (or_value p target argument) s (step ∷ []) argument s
  target_of : {p : ℕ} {target argument : Expr} {s : Scope} → GaveValue (run argument s) →
      Begins (or_value p target argument) s (step ∷ (run argument s).0) target s

-- parts at any depth
pub data Reaches : Expr → Scope → Trace → Expr → Scope → Type 0 where
  itself : {e : Expr} {s : Scope} → Reaches e s [] e s
  inside : {e f g : Expr} {s t u : Scope} {before more : Trace} →
      Begins e s before f t → Reaches f t more g u → Reaches e s (before ++ more) g u
