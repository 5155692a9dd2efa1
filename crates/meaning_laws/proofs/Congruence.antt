-- Rules see a scope only through what their operands run to in it: where the parts of a comprehension run alike in two scopes, so does the
-- comprehension, along its loop and along the append path.
-- Rests on the definition's comprehension. Assumes nothing.
use Prim.Native.Nat.{ℕ}
use mathlib.Core.Path.{◌≡◌, refl, ap, ap₂, fun_ext}
use mathlib.Core.List.{List, [], ◌∷◌}
use Rattle.std.specs.Prelude.{Option, None, Some}
use mathlib.Core.Bool.{Bool, cond}
use lib.Dec.{eqb}
use Rattle.meaning.specs.Errors.{ErrorAt}
use Rattle.meaning.specs.Value.{Value, Values, nil, Entries, join, bool_of}
use Rattle.meaning.specs.Expr.{LogicalFold}
use Rattle.meaning.specs.Run.{cells, Result, value, error, Run, Eval, Rule, charged, after, ◌>>=◌, operand, try_bool, choose}
use Rattle.meaning.specs.Logic.{absorbs, conditional_rule}
use Rattle.meaning.specs.Containers.{Making, element_rule, pair_rule}
use Rattle.meaning.specs.Comprehension.{Scope, store, Meaning, AppendStep, Comprehension, Pending, Onward, finish, fold_step, after_step, turn, loop, Gathering, append_items, append_turn, append_loop, is_empty_list, loop_from, comprehension_rule}
use Rattle.meaning_laws.specs.Names.{Agree}

-- ---- runs one after the other

after_same : {E F A B : Type 0} {r q : Run E A} {k l : Result E A → Run F B} → r ≡ q → ((x : Result E A) → k x ≡ l x) → after r k ≡ after q l
after_same r k = ap₂ after r (fun_ext k)

bind-same : {E A B : Type 0} {r q : Run E A} {k l : A → Run E B} → r ≡ q → ((a : A) → k a ≡ l a) → ◌>>=◌ r k ≡ ◌>>=◌ q l
bind-same r k = ap₂ ◌>>=◌ r (fun_ext k)

choose-same : {A : Type 0} {r q r' q' : Rule A} → r ≡ q → r' ≡ q' → (b : Bool) → choose r r' b ≡ choose q q' b
choose-same r s b = ap₂ (λ x y. choose x y b) r s

-- ---- rules of three parts

pub conditional-same : {c c' e e' f f' : Eval Value} → c ≡ c' → e ≡ e' → f ≡ f' → conditional_rule c e f ≡ conditional_rule c' e' f'
conditional-same c e f i = conditional_rule (c i) (e i) (f i)

pub element-same : (marked : Bool) {e e' : Eval Value} {k l : Values → Making Values} → e ≡ e' → ((vs : Values) → k vs ≡ l vs)
    → (vs : Values) → element_rule marked e k vs ≡ element_rule marked e' l vs
element-same marked e k vs i = element_rule marked (e i) (fun_ext k i) vs

pub pair_same : (marked : Bool) {k k' e e' : Eval Value} {r q : Entries → Making Entries} → k ≡ k' → e ≡ e' → ((es : Entries) → r es ≡ q es)
    → (es : Entries) → pair_rule marked k e r es ≡ pair_rule marked k' e' q es
pair_same marked k e r es i = pair_rule marked (k i) (e i) (fun_ext r i) es

module _ (these : ℕ → Type 0) where
  -- ---- two scopes that agree on these names

  pub record Both : Type 0 where
    pub one : Scope
    pub other : Scope
    pub agree : Agree these one other

  -- storing one value under one name in both keeps them so
  pub store-agree : (n : ℕ) (v : Value) (g : Both) → Agree these (store g.one n v) (store g.other n v)
  unfolding store
  store-agree n v g m h = ap (cond (eqb m n) (Some v)) (g.agree m h)

  abbrev stored : ℕ → Value → Both → Both
  stored n v g = record { one = store g.one n v; other = store g.other n v; agree = store-agree n v g }

  -- ---- what runs alike in any two such scopes

  abbrev pub Alike : {A : Type 0} → (Scope → Eval A) → Type 0
  Alike m = (g : Both) → m g.one ≡ m g.other

  abbrev GuardAlike : Option Meaning → Type 0
  GuardAlike None = Unit {0}
  GuardAlike (Some guard) = Alike guard

  abbrev pub StepAlike : AppendStep → Type 0
  StepAlike path = GuardAlike path.guard × Alike path.items

  abbrev pub PathAlike : Option AppendStep → Type 0
  PathAlike None = Unit {0}
  PathAlike (Some path) = StepAlike path

  -- the rest of a loop, and of the append path
  abbrev OnwardAlike : Onward → Type 0
  OnwardAlike rest = (g : Both) (pending : Pending) → rest g.one pending ≡ rest g.other pending

  abbrev GatheringAlike : Gathering → Type 0
  GatheringAlike rest = (g : Both) (out : Values) → rest g.one out ≡ rest g.other out

  -- the parts of a comprehension
  pub record PartsAlike {Item : Type 0} (c : Comprehension Item) : Type 0 where
    pub entered : (x : Item) (g : Both) → Agree these (c.enter x g.one) (c.enter x g.other)
    pub append : PathAlike c.append
    pub range : Alike c.range
    pub init : Alike c.init
    pub condition : Alike c.condition
    pub step : Alike c.step
    pub result : Alike c.result

  -- ---- a turn of the loop, and of the append path

  finish-alike : (result : Meaning) → Alike result → OnwardAlike (finish result)
  unfolding finish
  finish-alike result r g None = ap operand (r g)
  finish-alike result r g (Some e) = refl

  fold_step-alike : (a : ℕ) (fold : LogicalFold) (rest : Onward) → OnwardAlike rest
      → (v : Value) → OnwardAlike (λ s pending. fold_step a fold rest s pending v)
  unfolding fold_step
  fold_step-alike a fold rest r v g None = r (stored a v g) None
  fold_step-alike a fold rest r v g (Some e) = choose-same (r (stored a v g) None) (r g (Some e)) (absorbs fold (bool_of v))

  after_step-alike : (a : ℕ) (fold : Option LogicalFold) (rest : Onward) → OnwardAlike rest
      → (x : Result ErrorAt Value) → OnwardAlike (λ s pending. after_step a fold rest s pending x)
  unfolding after_step
  after_step-alike a None rest r (value v) g pending = r (stored a v g) None
  after_step-alike a None rest r (error e) g pending = refl
  after_step-alike a (Some fold) rest r (value v) g pending = fold_step-alike a fold rest r v g pending
  after_step-alike a (Some fold) rest r (error e) g pending = r g (Some e)

  append_items-alike : (items : Scope → Eval Values) → Alike items → (rest : Gathering) → GatheringAlike rest
      → GatheringAlike (append_items items rest)
  unfolding append_items
  append_items-alike items i rest r g out = bind-same (ap operand (i g)) (λ vs. ap (charged (cells vs ∷ [])) (r g (join out vs)))

  append_turn-alike : (path : AppendStep) → StepAlike path → (rest : Gathering) → GatheringAlike rest
      → GatheringAlike (append_turn path.guard path.items rest)
  unfolding append_turn
  append_turn-alike path h rest r = turned path.guard h.0
    where
      turned : (guard : Option Meaning) → GuardAlike guard → GatheringAlike (append_turn guard path.items rest)
      turned None k g out = append_items-alike path.items h.1 rest r g out
      turned (Some guard) k g out = bind-same (ap try_bool (k g)) (choose-same (append_items-alike path.items h.1 rest r g out) (r g out))

  -- ---- a comprehension whose parts run alike

  module _ {Item : Type 0} (c : Comprehension Item) (parts : PartsAlike c) where
    abbrev with_item : Item → Both → Both
    with_item x g = record { one = c.enter x g.one; other = c.enter x g.other; agree = parts.entered x g }

    turn-alike : (x : Item) (rest : Onward) → OnwardAlike rest → OnwardAlike (turn c x rest)
    unfolding turn
    turn-alike x rest r g pending =
        after_same (parts.step (with_item x g)) (λ y. after_step-alike c.accumulator c.fold rest r y (with_item x g) pending)

    loop-alike : (xs : List Item) → OnwardAlike (loop c xs)
    unfolding loop
    loop-alike [] g pending = finish-alike c.result parts.result g pending
    loop-alike (x ∷ xs) g pending =
        bind-same (ap try_bool (parts.condition g))
        (choose-same (turn-alike x (loop c xs) (loop-alike xs) g pending) (finish-alike c.result parts.result g pending))

    append_loop-alike : (path : AppendStep) → StepAlike path → (xs : List Item) → GatheringAlike (append_loop c path xs)
    unfolding append_loop
    append_loop-alike path h [] g out = refl
    append_loop-alike path h (x ∷ xs) g out =
        bind-same (ap try_bool (parts.condition g))
        (choose-same (append_turn-alike path h (append_loop c path xs) (append_loop-alike path h xs) (with_item x g) out) refl)

    loop_from-alike : (path : Option AppendStep) → PathAlike path → (v : Value) (xs : List Item) (g : Both)
        → loop_from c path v xs g.one ≡ loop_from c path v xs g.other
    unfolding loop_from
    loop_from-alike None h v xs g = loop-alike xs (stored c.accumulator v g) None
    loop_from-alike (Some path) h v xs g =
        choose-same (append_loop-alike path h xs g nil) (loop-alike xs (stored c.accumulator v g) None) (is_empty_list v)

    pub comprehension-alike : (g : Both) → comprehension_rule c g.one ≡ comprehension_rule c g.other
    unfolding comprehension_rule
    comprehension-alike g =
        bind-same (ap operand (parts.init g))
        (λ v. bind-same (ap operand (parts.range g)) (λ w. bind-same refl (λ xs. loop_from-alike c.append parts.append v xs g)))
