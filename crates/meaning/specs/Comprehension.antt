-- Module 9, comprehension: scopes, the loop with its pending errors, and the append path. A part of a comprehension is given here as
-- the function from a scope to what it means there.
use Rattle.std.specs.Prelude.{ℕ, List, [], ◌∷◌, Bool, true, false, cond, eqb, Option, None, Some}
use Rattle.meaning.specs.Errors.{UnexpectedType, an_iterable, ErrorAt}
use Rattle.meaning.specs.Value.{Value, scalar, list, map, optional_none, optional_of, Values, nil, cons, Entries, empty, entry, join, value_list, key_scalar, bool_of}
use Rattle.meaning.specs.Expr.{LogicalFold}
use Rattle.meaning.specs.Logic.{absorbs}
use Rattle.meaning.specs.Run.{cells, Result, value, error, by_operand, Eval, Rule, charged, after, ◌>>=◌, or_fail, operand, try_bool, choose, built}

-- ---- scopes

-- a slot for each name: its value, or none where it is absent
abbrev pub Scope : Type 0
Scope = ℕ → Option Value

unfoldable pub empty_scope : Scope
empty_scope name = None

unfoldable pub store : Scope → ℕ → Value → Scope
store s name v other = cond (eqb other name) (Some v) (s other)

abbrev pub Meaning : Type 0
Meaning = Scope → Eval Value

-- ---- what is iterated over

unfoldable pub key_list : Entries → List Value
key_list empty = []
key_list (entry k v es) = scalar (key_scalar k) ∷ key_list es

unfoldable pub items_of : Value → Option (List Value)
items_of (scalar x) = None
items_of (list vs) = Some (value_list vs)
items_of (map es) = Some (key_list es)
items_of optional_none = None
items_of (optional_of v) = None

-- ---- a comprehension and its parts

-- a step that appends a List record to the accumulator, under a guard if it has one
pub record AppendStep : Type 0 where
  pub guard : Option Meaning
  pub items : Scope → Eval Values

-- `enter` is how an item is stored in a scope
pub record Comprehension (Item : Type 0) : Type 0 where
  pub items_in : Value → Option (List Item)
  pub enter : Item → Scope → Scope
  pub accumulator : ℕ
  pub fold : Option LogicalFold
  pub append : Option AppendStep
  pub range : Meaning
  pub init : Meaning
  pub condition : Meaning
  pub step : Meaning
  pub result : Meaning

-- ---- the loop

-- an error that a later item may still clear
abbrev pub Pending : Type 0
Pending = Option ErrorAt

-- the rest of a loop
abbrev pub Onward : Type 0
Onward = Scope → Pending → Rule Value

unfoldable pub finish : Meaning → Onward
finish result s None = operand (result s)
finish result s (Some e) = ([], error (by_operand e))

-- the value of a fold's step becomes the accumulator, unless an error is pending that it does not clear
unfoldable pub fold_step : (accumulator : ℕ) → LogicalFold → Onward → Scope → Pending → Value → Rule Value
fold_step accumulator fold rest s None v = rest (store s accumulator v) None
fold_step accumulator fold rest s (Some e) v = choose (rest (store s accumulator v) None) (rest s (Some e)) (absorbs fold (bool_of v))

-- only a fold holds an error of its step pending
unfoldable pub after_step : (accumulator : ℕ) → Option LogicalFold → Onward → Scope → Pending → Result ErrorAt Value → Rule Value
after_step accumulator None rest s pending (value v) = rest (store s accumulator v) None
after_step accumulator None rest s pending (error e) = ([], error (by_operand e))
after_step accumulator (Some fold) rest s pending (value v) = fold_step accumulator fold rest s pending v
after_step accumulator (Some fold) rest s pending (error e) = rest s (Some e)

-- one item, whose condition held
unfoldable pub turn : {Item : Type 0} → Comprehension Item → Item → Onward → Onward
turn c x rest s pending = after (c.step (c.enter x s)) (after_step c.accumulator c.fold rest (c.enter x s) pending)

-- the condition of an item sees the item before it
unfoldable pub loop : {Item : Type 0} → Comprehension Item → List Item → Onward
loop c [] s pending = finish c.result s pending
loop c (x ∷ xs) s pending = do
  holds ← try_bool (c.condition s)
  choose (turn c x (λ t p. loop c xs t p) s pending) (finish c.result s pending) holds

-- ---- the append path

-- the rest of it, from the elements gathered so far
abbrev pub Gathering : Type 0
Gathering = Scope → Values → Rule Value

-- what the item adds, and at once as many cells
unfoldable pub append_items : (Scope → Eval Values) → Gathering → Gathering
append_items items rest s out = do
  vs ← operand (items s)
  charged (cells vs ∷ []) (rest s (join out vs))

unfoldable pub append_turn : Option Meaning → (Scope → Eval Values) → Gathering → Gathering
append_turn None items rest s out = append_items items rest s out
append_turn (Some guard) items rest s out = do
  b ← try_bool (guard s)
  choose (append_items items rest s out) (rest s out) b

-- the accumulator is never stored, and the step and the result are not begun
unfoldable pub append_loop : {Item : Type 0} → Comprehension Item → AppendStep → List Item → Gathering
append_loop c path [] s out = built out (list out)
append_loop c path (x ∷ xs) s out = do
  goes_on ← try_bool (c.condition s)
  choose (append_turn path.guard path.items (λ t more. append_loop c path xs t more) (c.enter x s) out) (built out (list out)) goes_on

unfoldable pub is_empty_list : Value → Bool
is_empty_list (scalar x) = false
is_empty_list (list nil) = true
is_empty_list (list (cons v vs)) = false
is_empty_list (map es) = false
is_empty_list optional_none = false
is_empty_list (optional_of v) = false

-- ---- the rule

-- the append path is taken only from an empty list
unfoldable pub loop_from : {Item : Type 0} → Comprehension Item → Option AppendStep → Value → List Item → Scope → Rule Value
loop_from c None v xs s = loop c xs (store s c.accumulator v) None
loop_from c (Some path) v xs s = choose (append_loop c path xs s nil) (loop c xs (store s c.accumulator v) None) (is_empty_list v)

unfoldable pub comprehension_rule : {Item : Type 0} → Comprehension Item → Scope → Rule Value
comprehension_rule c s = do
  v ← operand (c.init s)
  w ← operand (c.range s)
  xs ← or_fail (UnexpectedType an_iterable) (c.items_in w)
  loop_from c c.append v xs s
