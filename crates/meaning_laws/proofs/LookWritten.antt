-- What a comprehension sees of a part tells how the part is written: a literal, a name, and a step that appends to the accumulator.
-- Rests on the definition's `look`. Assumes nothing.
use Prim.Native.Nat.{ℕ}
use mathlib.Core.Path.{◌≡◌, refl, sym, ◌∙◌, ap, subst}
use Rattle.std.specs.Prelude.{Option, None, Some, option_map}
use mathlib.Core.Bool.{Bool, true, false, ◌&&◌, cond}
use native.Mathlib.Omega.{arith}
use lib.Dec.{T, eqb, eqb→eq}
use Rattle.meaning.specs.Value.{Scalar, Values}
use Rattle.meaning.specs.Expr.{LogicalFold, Arith, add, sub, div, mul, rem, Binary, logic, equals, not_equals, index, opt_index, opt_select, arith as arith_op, compare, is_in, Expr, literal, name, unary, binary, conditional, select, list_of, map_of, comprehension, call, none_call, or_value, Elements}
use Rattle.meaning.specs.Run.{Eval}
use Rattle.meaning.specs.Comprehension.{Scope, Meaning, AppendStep}
use Rattle.meaning.specs.Look.{Look, nothing_seen, a_fold, a_sum, of_name, guarded_by, a_conditional, arith_look, binary_look, named, append_step}
use Rattle.meaning.specs.Meaning.{run, look}
use Rattle.meaning_laws.specs.Begins.{Appends, always, guarded}

-- a comprehension written for the append path
pub record WrittenAppend (a : ℕ) (condition next result : Expr) : Type 0 where
  pub condition_place : ℕ
  pub constant : Scalar
  pub result_place : ℕ
  pub guard : Option Expr
  pub items : Expr
  pub condition_is : condition ≡ literal condition_place constant
  pub result_is : result ≡ name result_place a
  pub appends : Appends a next guard items

-- ---- what is seen tells how a part is written

-- a look at a record with operands that is no list: neither a literal nor a name nor a list
record Composite (l : Look) : Type 0 where
  literal : l.is_literal ≡ false
  name : l.is_name ≡ None
  lists : l.lists ≡ None

nothing-composite : Composite nothing_seen
nothing-composite = record { literal = refl; name = refl; lists = refl }

fold-composite : (fold : LogicalFold) (n : Option ℕ) → Composite (a_fold fold n)
unfolding a_fold
fold-composite fold None = nothing-composite
fold-composite fold (Some n) = record { literal = refl; name = refl; lists = refl }

sum-composite : (n : Option ℕ) (items : Option (Scope → Eval Values)) → Composite (a_sum n items)
unfolding a_sum
sum-composite None items = nothing-composite
sum-composite (Some n) None = nothing-composite
sum-composite (Some n) (Some items) = record { literal = refl; name = refl; lists = refl }

conditional-composite : (guard : Meaning) (sum : Option (ℕ × (Scope → Eval Values))) (n : Option ℕ) → Composite (a_conditional guard sum n)
unfolding a_conditional
conditional-composite guard sum None = nothing-composite
conditional-composite guard sum (Some n) = record { literal = refl; name = refl; lists = refl }

arith-composite : (o : Arith) (l r : Look) → Composite (arith_look o l r)
unfolding arith_look
arith-composite add l r = sum-composite l.is_name r.lists
arith-composite sub l r = nothing-composite
arith-composite div l r = nothing-composite
arith-composite mul l r = nothing-composite
arith-composite rem l r = nothing-composite

binary-composite : (o : Binary) (l r : Look) → Composite (binary_look o l r)
unfolding binary_look
binary-composite (logic fold) l r = fold-composite fold l.is_name
binary-composite equals l r = nothing-composite
binary-composite not_equals l r = nothing-composite
binary-composite index l r = nothing-composite
binary-composite opt_index l r = nothing-composite
binary-composite opt_select l r = nothing-composite
binary-composite (arith_op o) l r = arith-composite o l r
binary-composite (compare c) l r = nothing-composite
binary-composite is_in l r = nothing-composite

-- every expression is a literal, a name, a list, or none of them
data Form : Expr → Type 0 where
  a_literal : {p : ℕ} {x : Scalar} → Form (literal p x)
  a_name : {p n : ℕ} → Form (name p n)
  a_list : {p : ℕ} {es : Elements} → Form (list_of p es)
  other : {e : Expr} → Composite (look e) → Form e

form : (e : Expr) → Form e
unfolding look
form (literal p x) = a_literal
form (name p n) = a_name
form (unary p o e) = other nothing-composite
form (binary p o e f) = other (binary-composite o (look e) (look f))
form (conditional p c e f) = other (conditional-composite (λ t. run c t) (look e).adds (look f).is_name)
form (select p test field e) = other nothing-composite
form (list_of p es) = a_list
form (map_of p es) = other nothing-composite
form (comprehension p a i range init condition next result) = other nothing-composite
form (call p f e) = other nothing-composite
form (none_call p) = other nothing-composite
form (or_value p target argument) = other nothing-composite

pub clash-bool : {b : Bool} → b ≡ false → b ≡ true → ⊥
clash-bool p q = let z : ◌≡◌ {A = ℕ} 0 1 = cc in omega arith

clash-option : {A : Type 0} {o : Option A} {a : A} → o ≡ None → o ≡ Some a → ⊥
clash-option p q = let z : ◌≡◌ {A = ℕ} 0 1 = cc in omega arith

literal-written : {e : Expr} → Form e → (look e).is_literal ≡ true → (q : ℕ) × (x : Scalar) × (e ≡ literal q x)
unfolding look
literal-written (a_literal {p} {x}) h = (p, x, refl)
literal-written a_name h = absurd (clash-bool refl h)
literal-written a_list h = absurd (clash-bool refl h)
literal-written (other c) h = absurd (clash-bool c.literal h)

name-written : {e : Expr} → Form e → (n : ℕ) → (look e).is_name ≡ Some n → (q : ℕ) × (e ≡ name q n)
unfolding look
name-written a_literal n h = absurd (clash-option refl h)
name-written (a_name {p} {n = m}) n h = (p, (let k : m ≡ n = cc in ap (name p) k))
name-written a_list n h = absurd (clash-option refl h)
name-written (other c) n h = absurd (clash-option c.name h)

list_written : {e : Expr} → Form e → (m : Scope → Eval Values) → (look e).lists ≡ Some m → (q : ℕ) × (es : Elements) × (e ≡ list_of q es)
unfolding look
list_written a_literal m h = absurd (clash-option refl h)
list_written a_name m h = absurd (clash-option refl h)
list_written (a_list {p} {es}) m h = (p, es, refl)
list_written (other c) m h = absurd (clash-option c.lists h)

-- ---- steps that append

-- every expression is a sum, a conditional, or shows no appending
data Shape : Expr → Type 0 where
  addition : {p : ℕ} {e f : Expr} → Shape (binary p (arith_op add) e f)
  choice : {p : ℕ} {c e f : Expr} → Shape (conditional p c e f)
  unseen : {e : Expr} → (look e).adds ≡ None → (look e).appends ≡ None → Shape e

fold-unseen : (fold : LogicalFold) (n : Option ℕ) → ((a_fold fold n).adds ≡ None) × ((a_fold fold n).appends ≡ None)
unfolding a_fold
fold-unseen fold None = (refl, refl)
fold-unseen fold (Some n) = (refl, refl)

binary-shape : (p : ℕ) (o : Binary) (e f : Expr) → Shape (binary p o e f)
unfolding look binary_look arith_look
binary-shape p (logic fold) e f = let u = fold-unseen fold (look e).is_name in unseen u.0 u.1
binary-shape p equals e f = unseen refl refl
binary-shape p not_equals e f = unseen refl refl
binary-shape p index e f = unseen refl refl
binary-shape p opt_index e f = unseen refl refl
binary-shape p opt_select e f = unseen refl refl
binary-shape p (arith_op add) e f = addition
binary-shape p (arith_op sub) e f = unseen refl refl
binary-shape p (arith_op div) e f = unseen refl refl
binary-shape p (arith_op mul) e f = unseen refl refl
binary-shape p (arith_op rem) e f = unseen refl refl
binary-shape p (compare c) e f = unseen refl refl
binary-shape p is_in e f = unseen refl refl

shape : (e : Expr) → Shape e
unfolding look
shape (literal p x) = unseen refl refl
shape (name p n) = unseen refl refl
shape (unary p o e) = unseen refl refl
shape (binary p o e f) = binary-shape p o e f
shape (conditional p c e f) = choice
shape (select p test field e) = unseen refl refl
shape (list_of p es) = unseen refl refl
shape (map_of p es) = unseen refl refl
shape (comprehension p a i range init condition next result) = unseen refl refl
shape (call p f e) = unseen refl refl
shape (none_call p) = unseen refl refl
shape (or_value p target argument) = unseen refl refl

-- `name + [..]`
abbrev IsSum : Expr → ℕ → Type 0
IsSum e n = (p : ℕ) × (q : ℕ) × (r : ℕ) × (es : Elements) × (e ≡ binary p (arith_op add) (name q n) (list_of r es))

same_first : {A : Type 0} {x y : ℕ × A} → Some x ≡ Some y → x.0 ≡ y.0
same_first {A} {x} {y} h = let k : x ≡ y = cc in ap (λ (z : ℕ × A). z.0) k

sum-parts : (a : Option ℕ) (b : Option (Scope → Eval Values)) (n : ℕ) →
    ((x : Scope → Eval Values) → (a_sum a b).adds ≡ Some (n, x) → (a ≡ Some n) × (m : Scope → Eval Values) × (b ≡ Some m)) ×
    ((x : AppendStep) → (a_sum a b).appends ≡ Some (n, x) → (a ≡ Some n) × (m : Scope → Eval Values) × (b ≡ Some m))
unfolding a_sum
sum-parts None b n = (λ x h. absurd (clash-option refl h), λ x h. absurd (clash-option refl h))
sum-parts (Some k) None n = (λ x h. absurd (clash-option refl h), λ x h. absurd (clash-option refl h))
sum-parts (Some k) (Some m) n = (λ x h. (ap Some (same_first h), m, refl), λ x h. (ap Some (same_first h), m, refl))

is_sum : (p : ℕ) (e f : Expr) (n : ℕ) → ((look e).is_name ≡ Some n) × (m : Scope → Eval Values) × ((look f).lists ≡ Some m) →
    IsSum (binary p (arith_op add) e f) n
is_sum p e f n h =
    let l = name-written (form e) n h.0 in
    let r = list_written (form f) h.1 h.2 in
    (p, l.0, r.0, r.1, λ i. binary p (arith_op add) (l.1 i) (r.2 i))

conditional-adds : (guard : Meaning) (sum : Option (ℕ × (Scope → Eval Values))) (n : Option ℕ) → (a_conditional guard sum n).adds ≡ None
unfolding a_conditional
conditional-adds guard sum None = refl
conditional-adds guard sum (Some n) = refl

adds-written : {e : Expr} → Shape e → (n : ℕ) (x : Scope → Eval Values) → (look e).adds ≡ Some (n, x) → IsSum e n
unfolding look binary_look arith_look
adds-written (addition {p} {e} {f}) n x h = is_sum p e f n ((sum-parts (look e).is_name (look f).lists n).0 x h)
adds-written (choice {p} {c} {e} {f}) n x h = absurd (clash-option (conditional-adds (λ t. run c t) (look e).adds (look f).is_name) h)
adds-written (unseen a b) n x h = absurd (clash-option a h)

same_number : (m n : ℕ) → eqb m n ≡ true → m ≡ n
same_number m n e = eqb→eq m n (subst T (sym e) tt)

-- what is seen under a name has that name
of-name : {A : Type 0} (a : ℕ) (o : Option (ℕ × A)) (x : A) → of_name a o ≡ Some x → o ≡ Some (a, x)
unfolding of_name
of-name a None x h = absurd (clash-option refl h)
of-name a (Some y) x h = go (eqb y.0 a) refl h
  where
    go : (b : Bool) → eqb y.0 a ≡ b → cond b (Some y.1) None ≡ Some x → Some y ≡ Some (a, x)
    go true e q = let k : y.1 ≡ x = cc in (λ i. Some (same_number y.0 a e i, k i))
    go false e q = absurd (clash-option refl q)

-- a guarded sum, by what is seen of it
guarded-parts : (guard : Meaning) (sum : Option (ℕ × (Scope → Eval Values))) (o : Option ℕ) (n : ℕ) (x : AppendStep) →
    (a_conditional guard sum o).appends ≡ Some (n, x) → (o ≡ Some n) × (m : Scope → Eval Values) × (sum ≡ Some (n, m))
unfolding a_conditional guarded_by
guarded-parts guard sum None n x h = absurd (clash-option refl h)
guarded-parts guard sum (Some k) n x h = go (of_name k sum) refl h
  where
    go : (q : Option (Scope → Eval Values)) → of_name k sum ≡ q → option_map (guarded_by guard k) q ≡ Some (n, x) → (Some k ≡ Some n) ×
        (m : Scope → Eval Values) × (sum ≡ Some (n, m))
    go None e r = absurd (clash-option refl r)
    go (Some m) e r = let j : k ≡ n = same_first r in (ap Some j, m, of-name k sum m e ∙ ap (λ i. Some (i, m)) j)

appends-written : {e : Expr} → Shape e → (n : ℕ) (x : AppendStep) → (look e).appends ≡ Some (n, x) → (guard : Option Expr) × (items : Expr) ×
    Appends n e guard items
unfolding look binary_look arith_look
appends-written (addition {p} {e} {f}) n x h =
    let s = is_sum p e f n ((sum-parts (look e).is_name (look f).lists n).1 x h) in
    (None, list_of s.2 s.3, subst (λ z. Appends n z None (list_of s.2 s.3)) (sym s.4) always)
appends-written (choice {p} {c} {e} {f}) n x h =
    let g = guarded-parts (λ t. run c t) (look e).adds (look f).is_name n x h in
    let s = adds-written (shape e) n g.1 g.2 in
    let l = name-written (form f) n g.0 in
    let same : conditional p c (binary s.0 (arith_op add) (name s.1 n) (list_of s.2 s.3)) (name l.0 n) ≡
    conditional p c e f = λ i. conditional p c (sym s.4 i) (sym l.1 i) in
    (Some c, list_of s.2 s.3, subst (λ z. Appends n z (Some c) (list_of s.2 s.3)) same guarded)
appends-written (unseen a b) n x h = absurd (clash-option b h)

-- ---- the append path

named-so : (a : ℕ) (o : Option ℕ) → named a o ≡ true → o ≡ Some a
unfolding named
named-so a None h = absurd (clash-bool refl h)
named-so a (Some n) h = ap Some (same_number n a h)

both : (b c : Bool) → (b && c) ≡ true → (b ≡ true) × (c ≡ true)
both true c h = (refl, h)
both false c h = absurd (clash-bool refl h)

-- A comprehension whose append path is open is written for it.
pub written : (a : ℕ) (condition next result : Expr) (x : AppendStep) → append_step a (look condition) (look next) (look result) ≡ Some x →
    WrittenAppend a condition next result
unfolding append_step
written a condition next result x h = go ((look condition).is_literal && named a (look result).is_name) refl h
  where
    go : (b : Bool) → ((look condition).is_literal && named a (look result).is_name) ≡ b → cond b (of_name a (look next).appends) None ≡ Some x →
        WrittenAppend a condition next result
    go true e q =
        let p = both (look condition).is_literal (named a (look result).is_name) e in
        let c = literal-written (form condition) p.0 in
        let r = name-written (form result) a (named-so a (look result).is_name p.1) in
        let s = appends-written (shape next) a x (of-name a (look next).appends x q) in
        record {
          condition_place = c.0;
          constant = c.1;
          result_place = r.0;
          guard = s.0;
          items = s.1;
          condition_is = c.2;
          result_is = r.1;
          appends = s.2;
        }
    go false e q = absurd (clash-option refl q)
