-- What a comprehension sees of an operand, by the kind of its record: a literal, a name, a fold, the append path. Assumes nothing.
use Prim.Native.Nat.{ℕ}
use mathlib.Core.Path.{◌≡◌, refl}
use mathlib.Core.Bool.{Bool, true, false, cond}
use mathlib.Core.List.{List}
use Rattle.std.specs.Prelude.{Option, None, Some}
use native.Mathlib.Omega.{arith}
use lib.Dec.{eqb}
use Rattle.meaning.specs.Value.{Values}
use Rattle.meaning.specs.Run.{Eval}
use Rattle.meaning.specs.Comprehension.{Scope, Meaning}
use Rattle.meaning.specs.Expr.{Expr, literal, name, unary, binary, conditional, select, list_of, map_of, comprehension, call, none_call, or_value, LogicalFold, Arith, add, sub, div, mul, rem, Binary, logic, equals, not_equals, index, opt_index, opt_select, compare, is_in}
use Rattle.meaning.specs.Expr as Expr
use Rattle.meaning.specs.Kinds.{numbered, binaries}
use Rattle.meaning.specs.Look.{Look, a_fold, a_sum, a_conditional, arith_look, binary_look, of_name, named}
use Rattle.meaning.specs.Meaning.{look}
use Rattle.table_check.specs.Records.{or_else, binary_of}
use Rattle.machine.specs.Outcomes.{Does}
use Rattle.machine.specs.Machine.{body, machine, appending, sum_to, append_step, append_sum, items_list}
use Rattle.eval_shapes.specs.Comprehensions.{fold_in}
use Rattle.eval_shapes.proofs.KindLaws.{kind_in}
use Rattle.eval_shapes.proofs.Numbered.{by_number}

-- ---- an operator is neither a literal nor a name

abbrev Plain : Look → Type 0
Plain l = (l.is_name ≡ None) × (l.is_literal ≡ false)

fold-plain : (f : LogicalFold) (n : Option ℕ) → Plain (a_fold f n)
unfolding a_fold
fold-plain f None = (refl, refl)
fold-plain f (Some n) = (refl, refl)

sum-plain : (n : Option ℕ) (items : Option (Scope → Eval Values)) → Plain (a_sum n items)
unfolding a_sum
sum-plain None items = (refl, refl)
sum-plain (Some n) None = (refl, refl)
sum-plain (Some n) (Some items) = (refl, refl)

arith-plain : (o : Arith) (l r : Look) → Plain (arith_look o l r)
unfolding arith_look
arith-plain add l r = sum-plain l.is_name r.lists
arith-plain sub l r = (refl, refl)
arith-plain div l r = (refl, refl)
arith-plain mul l r = (refl, refl)
arith-plain rem l r = (refl, refl)

binary-plain : (o : Binary) (l r : Look) → Plain (binary_look o l r)
unfolding binary_look
binary-plain (logic f) l r = fold-plain f l.is_name
binary-plain equals l r = (refl, refl)
binary-plain not_equals l r = (refl, refl)
binary-plain index l r = (refl, refl)
binary-plain opt_index l r = (refl, refl)
binary-plain opt_select l r = (refl, refl)
binary-plain (Expr.arith o) l r = arith-plain o l r
binary-plain (compare c) l r = (refl, refl)
binary-plain is_in l r = (refl, refl)

conditional-plain : (guard : Meaning) (sum : Option (ℕ × (Scope → Eval Values))) (n : Option ℕ) → Plain (a_conditional guard sum n)
unfolding a_conditional
conditional-plain guard sum None = (refl, refl)
conditional-plain guard sum (Some n) = (refl, refl)

pub no_name : (e : Expr) → (kind_in e ≡ 7 → ⊥) → (look e).is_name ≡ None
unfolding look
no_name (literal p x) h = refl
no_name (name p n) h = absurd (h refl)
no_name (unary p o e) h = refl
no_name (binary p o e f) h = (binary-plain o (look e) (look f)).0
no_name (conditional p c e f) h = (conditional-plain _ (look e).adds (look f).is_name).0
no_name (select p t f e) h = refl
no_name (list_of p es) h = refl
no_name (map_of p es) h = refl
no_name (comprehension p a i r s c t e) h = refl
no_name (call p f e) h = refl
no_name (none_call p) h = refl
no_name (or_value p e f) h = refl

pub is-literal : (e : Expr) → (look e).is_literal ≡ eqb (kind_in e) 0
unfolding look
is-literal (literal p x) = refl
is-literal (name p n) = refl
is-literal (unary p o e) = refl
is-literal (binary p o e f) = (binary-plain o (look e) (look f)).1
is-literal (conditional p c e f) = (conditional-plain _ (look e).adds (look f).is_name).1
is-literal (select p t f e) = refl
is-literal (list_of p es) = refl
is-literal (map_of p es) = refl
is-literal (comprehension p a i r s c t e) = refl
is-literal (call p f e) = refl
is-literal (none_call p) = refl
is-literal (or_value p e f) = refl

-- ---- folds

nothing-either : {A : Type 0} (b : Bool) → ◌≡◌ {A = Option A} None (cond b None None)
nothing-either true = refl
nothing-either false = refl

sum-folds : (n : Option ℕ) (items : Option (Scope → Eval Values)) → (a_sum n items).folds ≡ None
unfolding a_sum
sum-folds None items = refl
sum-folds (Some n) None = refl
sum-folds (Some n) (Some items) = refl

arith-folds : (o : Arith) (l r : Look) → (arith_look o l r).folds ≡ None
unfolding arith_look
arith-folds add l r = sum-folds l.is_name r.lists
arith-folds sub l r = refl
arith-folds div l r = refl
arith-folds mul l r = refl
arith-folds rem l r = refl

fold-of : (a : ℕ) (f : LogicalFold) (n : Option ℕ) → of_name a (a_fold f n).folds ≡ cond (named a n) (Some f) None
unfolding a_fold of_name named
fold-of a f None = refl
fold-of a f (Some n) = refl

binary-folds : (a : ℕ) (o : Binary) (l r : Look) → of_name a (binary_look o l r).folds ≡ cond (named a l.is_name) (fold_in o) None
unfolding binary_look of_name
binary-folds a (logic f) l r = fold-of a f l.is_name
binary-folds a equals l r = nothing-either (named a l.is_name)
binary-folds a not_equals l r = nothing-either (named a l.is_name)
binary-folds a index l r = nothing-either (named a l.is_name)
binary-folds a opt_index l r = nothing-either (named a l.is_name)
binary-folds a opt_select l r = nothing-either (named a l.is_name)
binary-folds a (Expr.arith o) l r = rw (arith-folds o l r) (nothing-either (named a l.is_name))
binary-folds a (compare c) l r = nothing-either (named a l.is_name)
binary-folds a is_in l r = nothing-either (named a l.is_name)

pub folds-binary : (a p : ℕ) (o : Binary) (e f : Expr) → of_name a (look (binary p o e f)).folds ≡ cond (named a (look e).is_name) (fold_in o) None
unfolding look
folds-binary a p o e f = binary-folds a o (look e) (look f)

conditional-folds : (guard : Meaning) (sum : Option (ℕ × (Scope → Eval Values))) (n : Option ℕ) → (a_conditional guard sum n).folds ≡ None
unfolding a_conditional
conditional-folds guard sum None = refl
conditional-folds guard sum (Some n) = refl

no-folds : (e : Expr) → (kind_in e ≡ 9 → ⊥) → (look e).folds ≡ None
unfolding look
no-folds (literal p x) h = refl
no-folds (name p n) h = refl
no-folds (unary p o e) h = refl
no-folds (binary p o e f) h = absurd (h refl)
no-folds (conditional p c e f) h = conditional-folds _ (look e).adds (look f).is_name
no-folds (select p t f e) h = refl
no-folds (list_of p es) h = refl
no-folds (map_of p es) h = refl
no-folds (comprehension p a i r s c t e) h = refl
no-folds (call p f e) h = refl
no-folds (none_call p) h = refl
no-folds (or_value p e f) h = refl

pub folds-other : (a : ℕ) (e : Expr) → (kind_in e ≡ 9 → ⊥) → of_name a (look e).folds ≡ None
unfolding of_name
folds-other a e h = rw (no-folds e h)

-- ---- the append path

module _ (t : List ℕ) (limit : ℕ) where
  pub no-sum : (a : ℕ) (e : Expr) → (kind_in e ≡ 9 → ⊥) → append_sum t limit a e ≡ None
  unfolding append_sum
  no-sum a (literal p x) h = refl
  no-sum a (name p n) h = refl
  no-sum a (unary p o e) h = refl
  no-sum a (binary p o e f) h = absurd (h refl)
  no-sum a (conditional p c e f) h = refl
  no-sum a (select p y f e) h = refl
  no-sum a (list_of p es) h = refl
  no-sum a (map_of p es) h = refl
  no-sum a (comprehension p b i r s c y e) h = refl
  no-sum a (call p f e) h = refl
  no-sum a (none_call p) h = refl
  no-sum a (or_value p e f) h = refl

  -- a step without a guard
  pub plain-path : (a : ℕ) (e : Expr) → (kind_in e ≡ 10 → ⊥) → append_step t limit a e ≡ appending None (append_sum t limit a e)
  unfolding append_step append_sum
  plain-path a (literal p x) h = refl
  plain-path a (name p n) h = refl
  plain-path a (unary p o e) h = refl
  plain-path a (binary p o e f) h = refl
  plain-path a (conditional p c e f) h = absurd (h refl)
  plain-path a (select p y f e) h = refl
  plain-path a (list_of p es) h = refl
  plain-path a (map_of p es) h = refl
  plain-path a (comprehension p b i r s c y e) h = refl
  plain-path a (call p f e) h = refl
  plain-path a (none_call p) h = refl
  plain-path a (or_value p e f) h = refl

  pub list-items : (e : Expr) → kind_in e ≡ 12 → items_list t limit e ≡ Some (machine t limit e)
  unfolding items_list body
  list-items (literal p x) h = absurd (omega (arith, h))
  list-items (name p n) h = absurd (omega (arith, h))
  list-items (unary p o e) h = absurd (omega (arith, h))
  list-items (binary p o e f) h = absurd (omega (arith, h))
  list-items (conditional p c e f) h = absurd (omega (arith, h))
  list-items (select p y f e) h = absurd (omega (arith, h))
  list-items (list_of p es) h = refl
  list-items (map_of p es) h = absurd (omega (arith, h))
  list-items (comprehension p b i r s c y e) h = absurd (omega (arith, h))
  list-items (call p f e) h = absurd (omega (arith, h))
  list-items (none_call p) h = absurd (omega (arith, h))
  list-items (or_value p e f) h = absurd (omega (arith, h))

  pub no_items : (e : Expr) → (kind_in e ≡ 12 → ⊥) → items_list t limit e ≡ None
  unfolding items_list
  no_items (literal p x) h = refl
  no_items (name p n) h = refl
  no_items (unary p o e) h = refl
  no_items (binary p o e f) h = refl
  no_items (conditional p c e f) h = refl
  no_items (select p y f e) h = refl
  no_items (list_of p es) h = absurd (h refl)
  no_items (map_of p es) h = refl
  no_items (comprehension p b i r s c y e) h = refl
  no_items (call p f e) h = refl
  no_items (none_call p) h = refl
  no_items (or_value p e f) h = refl

-- only `+` appends
abbrev NoPlus : ℕ → Option Binary → Type 0
NoPlus n o = (n ≡ 8 → ⊥) → (a : ℕ) (m : Option ℕ) (items : Option Does) → sum_to a (or_else equals o) m items ≡ None

pub no_plus : (n : ℕ) → NoPlus n (numbered binaries n)
unfolding binaries
no_plus =
    by_number NoPlus binaries (λ n h a m items. refl) (λ h a m items. refl, (λ h a m items. refl, (λ h a m items. refl, (λ h a m items. refl, (λ h a m items. refl, (λ h a m items. refl, (λ h a m items. refl, (λ h a m items. absurd (h refl), (λ h a m items. refl, (λ h a m items. refl, (λ h a m items. refl, (λ h a m items. refl, (λ h a m items. refl, (λ h a m items. refl, (λ h a m items. refl, (λ h a m items. refl, (λ h a m items. refl, tt)))))))))))))))))

pub plus : (a : ℕ) (m : Option ℕ) (items : Option Does) → sum_to a (binary_of 8) m items ≡ cond (named a m) items None
unfolding numbered binaries
plus a m items = refl

-- only `||` and `&&` fold
abbrev NoFold : ℕ → Option Binary → Type 0
NoFold n o = (n ≡ 1 → ⊥) → (n ≡ 2 → ⊥) → None ≡ fold_in (or_else equals o)

pub no-fold : (n : ℕ) → NoFold n (numbered binaries n)
unfolding binaries
no-fold = by_number NoFold binaries (λ n g h. refl) (λ g h. absurd (g refl), (λ g h. absurd (h refl), (λ g h. refl, (λ g h. refl, (λ g h. refl, (λ g h. refl, (λ g h. refl, (λ g h. refl, (λ g h. refl, (λ g h. refl, (λ g h. refl, (λ g h. refl, (λ g h. refl, (λ g h. refl, (λ g h. refl, (λ g h. refl, (λ g h. refl, tt)))))))))))))))))

pub or-fold : {n : ℕ} → n ≡ 1 → Some Expr.Or ≡ fold_in (binary_of n)
unfolding numbered binaries
or-fold e = rw e

pub and-fold : {n : ℕ} → n ≡ 2 → Some Expr.And ≡ fold_in (binary_of n)
unfolding numbered binaries
and-fold e = rw e
