-- Comprehensions keep what evaluation keeps, whichever path they take, if their parts do: the slots of every scope that they make are fine.
-- Rests on Kept. Assumes nothing.
use Prim.Native.Nat.{ℕ}
use mathlib.Core.List.{List, [], ◌∷◌}
use Rattle.std.specs.Prelude.{Option, None, Some, option_map}
use mathlib.Core.Bool.{Bool, true, false, ◌&&◌, cond}
use native.Mathlib.Omega.{arith}
use lib.Dec.{eqb}
use Rattle.meaning.specs.Errors.{ErrorAt}
use Rattle.meaning.specs.Value.{Value, list, Values, nil, join, bool_of}
use Rattle.meaning.specs.Expr.{LogicalFold, Arith, add, sub, div, mul, rem, Binary, logic, equals, not_equals, index, opt_index, opt_select, arith as arith_op, compare, is_in}
use Rattle.meaning.specs.Run.{cells, Result, value, error, Eval, built}
use Rattle.meaning.specs.Logic.{absorbs}
use Rattle.meaning.specs.Comprehension.{Scope, store, Meaning, AppendStep, Comprehension, Pending, Onward, finish, fold_step, after_step, turn, loop, Gathering, append_items, append_turn, append_loop, is_empty_list, loop_from, comprehension_rule}
use Rattle.meaning.specs.Look.{Look, a_fold, a_sum, of_name, guarded_by, a_conditional, arith_look, binary_look, named, append_step}
use Rattle.meaning_laws.specs.Each.{Each}
use Rattle.meaning_laws.proofs.Fine.{Fine, FineElements, Perhaps, join-fine}
use Rattle.meaning_laws.proofs.Kept.{Any, Gives, KeepsRule, KeepsEval, keeps-error, keeps-charged, keeps-after, keeps-bind, keeps-or_fail, keeps-operand, keeps-try_bool, keeps-choose, keeps-built}

-- ---- scopes, and what parts mean in them

abbrev pub FineScope : Scope → Type 0
FineScope s = (n : ℕ) → Perhaps Fine (s n)

abbrev pub KeepsMeaning : Meaning → Type 0
KeepsMeaning m = (s : Scope) → FineScope s → KeepsEval Fine (m s)

abbrev pub KeepsItems : (Scope → Eval Values) → Type 0
KeepsItems m = (s : Scope) → FineScope s → KeepsEval FineElements (m s)

-- A fine value may be stored under any name.
pub store-fine : (s : Scope) (n : ℕ) (v : Value) → FineScope s → Fine v → FineScope (store s n v)
unfolding store
store-fine s n v f g m = go (eqb m n)
  where
    go : (t : Bool) → Perhaps Fine (cond t (Some v) (s m))
    go true = g
    go false = f m

-- the parts of an append step, and of a comprehension, keep what evaluation keeps
pub record KeepsAppend (path : AppendStep) : Type 0 where
  pub guard_kept : Perhaps KeepsMeaning path.guard
  pub items_kept : KeepsItems path.items

pub record KeepsParts {Item : Type 0} (I : Item → Type 0) (c : Comprehension Item) : Type 0 where
  pub items_fine : (v : Value) → Fine v → Perhaps (Each I) (c.items_in v)
  pub enter_fine : (x : Item) (s : Scope) → I x → FineScope s → FineScope (c.enter x s)
  pub append_kept : Perhaps KeepsAppend c.append
  pub range_kept : KeepsMeaning c.range
  pub init_kept : KeepsMeaning c.init
  pub condition_kept : KeepsMeaning c.condition
  pub step_kept : KeepsMeaning c.step
  pub result_kept : KeepsMeaning c.result

-- ---- the loop

abbrev GoesOn : Onward → Type 0
GoesOn k = (s : Scope) (p : Pending) → FineScope s → KeepsRule Fine (k s p)

finish-kept : {result : Meaning} → KeepsMeaning result → GoesOn (finish result)
unfolding finish
finish-kept h s None f = keeps-operand (h s f)
finish-kept h s (Some e) f = keeps-error tt

fold_step-kept : (a : ℕ) (fold : LogicalFold) {rest : Onward} (s : Scope) (p : Pending) (v : Value) → GoesOn rest → FineScope s → Fine v
    → KeepsRule Fine (fold_step a fold rest s p v)
unfolding fold_step
fold_step-kept a fold s None v k f g = k (store s a v) None (store-fine s a v f g)
fold_step-kept a fold s (Some e) v k f g = keeps-choose (absorbs fold (bool_of v)) (k (store s a v) None (store-fine s a v f g)) (k s (Some e) f)

after_step-kept : (a : ℕ) (fold : Option LogicalFold) {rest : Onward} (s : Scope) (p : Pending) (x : Result ErrorAt Value) → GoesOn rest → FineScope s
    → Gives Any Fine x
    → KeepsRule Fine (after_step a fold rest s p x)
unfolding after_step
after_step-kept a None s p (value v) k f g = k (store s a v) None (store-fine s a v f g)
after_step-kept a None s p (error e) k f g = keeps-error tt
after_step-kept a (Some fold) s p (value v) k f g = fold_step-kept a fold s p v k f g
after_step-kept a (Some fold) s p (error e) k f g = k s (Some e) f

-- ---- the append path

abbrev Gathers : Gathering → Type 0
Gathers k = (s : Scope) (out : Values) → FineScope s → FineElements out → KeepsRule Fine (k s out)

append_items-kept : {items : Scope → Eval Values} {rest : Gathering} → KeepsItems items → Gathers rest → Gathers (append_items items rest)
unfolding append_items
append_items-kept h k s out f g =
    keeps-bind (keeps-operand (h s f)) (λ vs i. keeps-charged (cells vs ∷ []) (i, tt) (λ m. k s (join out vs) f (join-fine out vs g i)))

append_turn-kept : (guard : Option Meaning) {items : Scope → Eval Values} {rest : Gathering} → Perhaps KeepsMeaning guard → KeepsItems items
    → Gathers rest → Gathers (append_turn guard items rest)
unfolding append_turn
append_turn-kept None h i k s out f g = append_items-kept i k s out f g
append_turn-kept (Some guard) h i k s out f g = keeps-bind (keeps-try_bool (h s f)) (λ b j. keeps-choose b (append_items-kept i k s out f g) (k s out f g))

gathered-kept : (out : Values) → FineElements out → KeepsRule Fine (built out (list out))
gathered-kept out g = keeps-built out (list out) g (λ c d. (d, omega arith, g))

-- ---- the rule

module _ {Item : Type 0} {I : Item → Type 0} (c : Comprehension Item) (h : KeepsParts I c) where
  loop-kept : (xs : List Item) → Each I xs → GoesOn (loop c xs)
  unfolding loop turn
  loop-kept [] is s p f = finish-kept h.result_kept s p f
  loop-kept (x ∷ xs) is s p f =
      let entered = h.enter_fine x s is.0 f in
      keeps-bind (keeps-try_bool (h.condition_kept s f))
      (λ b j. keeps-choose b
      (keeps-after (h.step_kept (c.enter x s) entered) (λ y g. after_step-kept c.accumulator c.fold (c.enter x s) p y (loop-kept xs is.1) entered g))
      (finish-kept h.result_kept s p f))

  append_loop-kept : (path : AppendStep) → KeepsAppend path → (xs : List Item) → Each I xs → Gathers (append_loop c path xs)
  unfolding append_loop
  append_loop-kept path k [] is s out f g = gathered-kept out g
  append_loop-kept path k (x ∷ xs) is s out f g =
      keeps-bind (keeps-try_bool (h.condition_kept s f))
      (λ b j. keeps-choose b
      (append_turn-kept path.guard k.guard_kept k.items_kept (append_loop-kept path k xs is.1) (c.enter x s) out (h.enter_fine x s is.0 f) g)
      (gathered-kept out g))

  loop_from-kept : (path : Option AppendStep) → Perhaps KeepsAppend path → (v : Value) (xs : List Item) (s : Scope) → Fine v → Each I xs → FineScope s
      → KeepsRule Fine (loop_from c path v xs s)
  unfolding loop_from
  loop_from-kept None k v xs s g is f = loop-kept xs is (store s c.accumulator v) None (store-fine s c.accumulator v f g)
  loop_from-kept (Some path) k v xs s g is f =
      keeps-choose (is_empty_list v) (append_loop-kept path k xs is s nil f tt)
      (loop-kept xs is (store s c.accumulator v) None (store-fine s c.accumulator v f g))

  -- A comprehension whose parts keep it keeps it.
  pub comprehension-kept : (s : Scope) → FineScope s → KeepsRule Fine (comprehension_rule c s)
  unfolding comprehension_rule
  comprehension-kept s f =
      keeps-bind (keeps-operand (h.init_kept s f))
      (λ v g. keeps-bind (keeps-operand (h.range_kept s f))
      (λ w g'. keeps-bind (keeps-or_fail _ (c.items_in w) (h.items_fine w g')) (λ xs is. loop_from-kept c.append h.append_kept v xs s g is f)))

-- ---- what a comprehension sees of its step

abbrev KeepsNamed : {A : Type 0} → (A → Type 0) → ℕ × A → Type 0
KeepsNamed P x = P x.1

-- what is seen of a part, so far as the append path runs it
pub record KeepsLook (l : Look) : Type 0 where
  pub lists_kept : Perhaps KeepsItems l.lists
  pub adds_kept : Perhaps (KeepsNamed KeepsItems) l.adds
  pub appends_kept : Perhaps (KeepsNamed KeepsAppend) l.appends

-- nothing that bears on the append path
pub unseen : {is_literal : Bool} {is_name : Option ℕ} {folds : Option (ℕ × LogicalFold)}
    → KeepsLook (record { is_literal = is_literal; is_name = is_name; lists = None; folds = folds; adds = None; appends = None })
unseen = record { lists_kept = tt; adds_kept = tt; appends_kept = tt }

fold-look : (fold : LogicalFold) (o : Option ℕ) → KeepsLook (a_fold fold o)
unfolding a_fold
fold-look fold None = unseen
fold-look fold (Some n) = unseen

sum-look : (o : Option ℕ) (p : Option (Scope → Eval Values)) → Perhaps KeepsItems p → KeepsLook (a_sum o p)
unfolding a_sum
sum-look None p h = unseen
sum-look (Some n) None h = unseen
sum-look (Some n) (Some items) h = record { lists_kept = tt; adds_kept = h; appends_kept = record { guard_kept = tt; items_kept = h } }

of_name-kept : {A : Type 0} (P : A → Type 0) (a : ℕ) (o : Option (ℕ × A)) → Perhaps (KeepsNamed P) o → Perhaps P (of_name a o)
unfolding of_name
of_name-kept P a None h = tt
of_name-kept P a (Some x) h = go (eqb x.0 a)
  where
    go : (t : Bool) → Perhaps P (cond t (Some x.1) None)
    go true = h
    go false = tt

guarded-kept : {guard : Meaning} → KeepsMeaning guard → (n : ℕ) (o : Option (Scope → Eval Values)) → Perhaps KeepsItems o
    → Perhaps (KeepsNamed KeepsAppend) (option_map (guarded_by guard n) o)
unfolding guarded_by
guarded-kept h n None k = tt
guarded-kept h n (Some items) k = record { guard_kept = h; items_kept = k }

pub conditional-look : {guard : Meaning} → KeepsMeaning guard → (sum : Option (ℕ × (Scope → Eval Values))) → Perhaps (KeepsNamed KeepsItems) sum
    → (o : Option ℕ) → KeepsLook (a_conditional guard sum o)
unfolding a_conditional
conditional-look h sum k None = unseen
conditional-look h sum k (Some n) = record { lists_kept = tt; adds_kept = tt; appends_kept = guarded-kept h n (of_name n sum) (of_name-kept KeepsItems n sum k) }

arith-look : (o : Arith) (l r : Look) → KeepsLook r → KeepsLook (arith_look o l r)
unfolding arith_look
arith-look add l r h = sum-look l.is_name r.lists h.lists_kept
arith-look sub l r h = unseen
arith-look div l r h = unseen
arith-look mul l r h = unseen
arith-look rem l r h = unseen

pub binary-look : (o : Binary) (l r : Look) → KeepsLook r → KeepsLook (binary_look o l r)
unfolding binary_look
binary-look (logic fold) l r h = fold-look fold l.is_name
binary-look equals l r h = unseen
binary-look not_equals l r h = unseen
binary-look index l r h = unseen
binary-look opt_index l r h = unseen
binary-look opt_select l r h = unseen
binary-look (arith_op o) l r h = arith-look o l r h
binary-look (compare c) l r h = unseen
binary-look is_in l r h = unseen

-- The append path, where it is open, runs only what keeps it.
pub path-kept : (a : ℕ) (condition step result : Look) → KeepsLook step → Perhaps KeepsAppend (append_step a condition step result)
unfolding append_step
path-kept a condition step result h = go (condition.is_literal && named a result.is_name)
  where
    go : (t : Bool) → Perhaps KeepsAppend (cond t (of_name a step.appends) None)
    go true = of_name-kept KeepsAppend a step.appends h.appends_kept
    go false = tt
