-- A record of fixed operands: where its operands stand, that each is accepted and smaller than the record, and that the machine begins one,
-- decides, and may begin another, as the code does. Assumes nothing.
use Prim.Native.Nat.{ℕ, ◌+◌, ◌≤◌, ◌<◌}
use mathlib.Core.Path.{◌≡◌, refl, sym, ◌∙◌, ap}
use mathlib.Core.Bool.{Bool}
use mathlib.Core.List.{List}
use Rattle.std.specs.Prelude.{Option, None, Some}
use native.Mathlib.Omega.{arith}
use lib.Dec.{eqb}
use lib.ListN.{length, get_or}
use Rattle.meaning.specs.Expr as Expr
use Rattle.meaning.specs.Kinds.{unary_kind, select_kind, function_kind, Called, to_one, to_none, to_two, numbered, functions}
use Rattle.rooms.specs.declared.scope.Scope.{Scope}
use Rattle.rooms.specs.Rooms.{Rooms}
use Rattle.table_layout.specs.Layout.{head_bytes, word_at, after}
use Rattle.table_check.specs.declared.faults.Marks.TheVariants.{Nowhere}
use Rattle.table_check.specs.Records.{expr_of, Sound, Row, unary_of, binary_of, call_of}
use Rattle.table_check.proofs.Opened.{opened}
use Rattle.machine.specs.declared.outcome.Used.{Used}
use Rattle.machine.specs.declared.outcome.Outcome.{Outcome}
use Rattle.machine.specs.Outcomes.{Res, with_value}
use Rattle.machine.specs.Views.{optional_in}
use Rattle.machine.specs.Calls.{or_value_out}
use Rattle.machine.specs.Machine as Machine
use Rattle.machine.specs.Machine.{on_left, left_of, machine}
use Rattle.eval_outcomes.specs.Seen.{binary_seen}
use Rattle.eval_outcomes.specs.declared.operators.Unary.{Unary}
use Rattle.eval_outcomes.specs.declared.operators.Binary.{Binary}
use Rattle.eval_outcomes.specs.declared.operators.Function.{Function}
use Rattle.eval_logic.specs.declared.conditions.Asked.{Asked}
use Rattle.eval_logic.specs.Conditions.{asked_of, on_asked}
use Rattle.eval_logic.proofs.ConditionLaws.{asked}
use Rattle.eval_shapes.specs.declared.next.Fixed.{Fixed}
use Rattle.eval_shapes.specs.declared.next.Next.{Next}
use Rattle.eval_shapes.specs.Next.{go_next, ask_next, value_next, join_of}
use Rattle.eval_shapes.specs.declared.Shape.TheVariants as Shape
use Rattle.eval_shapes.specs.Shapes.{unary_shape, binary_shape, function_shape, shape_of, first_at, next_of}
use Rattle.eval_shapes.proofs.ShapeLaws.{unary-back, binary-back, function-back, shape-byte}
use Rattle.eval_shapes.proofs.SeenOfRecords.{binary-at, conditional-at}

-- from the record's place to its first operand
abbrev pub head_of : Fixed → ℕ
head_of (Fixed.Unary o) = 4
head_of (Fixed.Binary o) = 4
head_of Fixed.Conditional = 3
head_of (Fixed.Select y) = 8
head_of (Fixed.Call f) = 4
head_of Fixed.OrValue = 4

-- goes on with the other operand, or stops with an outcome
abbrev pub on_next : Next → Rooms → (ℕ → Used → Rooms → Res) → Res
on_next (Next.At q u) r k = k q u r
on_next (Next.Stop o) r k = (o, r)

-- one operand, what follows it, and the other one
abbrev pub fixed_does : (t x : List ℕ) (limit p : ℕ) → Fixed → Scope → Used → Rooms → Res
fixed_does t x limit p f s u r =
    let a : Res = machine t limit (expr_of t x (first_at t p f)) s u r in
    let n : Next × Rooms = next_of t limit p f a.0 a.1 in
    on_next n.0 n.1 (λ q w d.
    let b : Res = machine t limit (expr_of t x q) s w d in
    join_of limit p f a.0 b.0 b.1)

pub record FixedAt (t x : List ℕ) (p : ℕ) (f : Fixed) : Type 0 where
  -- its fields lie in the table, and `first_operand` says where the operands begin
  pub body : p + head_of f ≤ length t
  pub head : p + head_bytes (get_or t p 0) ≡ p + head_of f
  pub operand : Sound t x (p + head_of f)
  -- the operand that is begun first
  pub first : Sound t x (first_at t p f)
  pub smaller : word_at t (first_at t p f + 1) < word_at t (p + 1)
  -- the other one
  pub next : (limit : ℕ) (o : Outcome) (r : Rooms) (q : ℕ) (u : Used) → (next_of t limit p f o r).0 ≡ Next.At q u →
      Sound t x q × (word_at t (q + 1) < word_at t (p + 1))
  pub does : (limit : ℕ) (s : Scope) (u : Used) (r : Rooms) → Machine.body t limit (expr_of t x p) s u r ≡ fixed_does t x limit p f s u r

-- ---- what is begun next

pub go-at : (P : ℕ → Type 0) (o : Option Used) (q : ℕ) (x : Outcome) {n : ℕ} {u : Used} → P q → go_next o q x ≡ Next.At n u → P n
go-at P None q x h e = let z : ◌≡◌ {A = ℕ} 0 1 = cc in absurd (omega arith)
go-at P (Some w) q x {n} h e = let f : q ≡ n = cc in rw (sym f) h

ask-at : (P : ℕ → Type 0) (a : Asked) (q s : ℕ) {n : ℕ} {u : Used} → P q → P s → ask_next a q s ≡ Next.At n u → P n
ask-at P (Asked.Holds w) q s {n} h k e = let f : q ≡ n = cc in rw (sym f) h
ask-at P (Asked.Fails w) q s {n} h k e = let f : s ≡ n = cc in rw (sym f) k
ask-at P (Asked.Ends o) q s h k e = let z : ◌≡◌ {A = ℕ} 0 1 = cc in absurd (omega arith)

value-at : (P : ℕ → Type 0) (x : Outcome) (q : ℕ) {n : ℕ} {u : Used} → P q → value_next x q ≡ Next.At n u → P n
value-at P (Outcome.Value v w) q {n} h e = let f : q ≡ n = cc in rw (sym f) h
value-at P (Outcome.Error r p w) q h e = let z : ◌≡◌ {A = ℕ} 0 1 = cc in absurd (omega arith)
value-at P (Outcome.Exhausted r w) q h e = let z : ◌≡◌ {A = ℕ} 0 1 = cc in absurd (omega arith)

pub no-next : {A : Type 0} {o : Outcome} {n : ℕ} {u : Used} → Next.Stop o ≡ Next.At n u → A
no-next e = let z : ◌≡◌ {A = ℕ} 0 1 = cc in absurd (omega arith)

-- ---- and what the machine makes of it

go-does : (o : Option Used) (q : ℕ) (x : Outcome) (r : Rooms) (k : ℕ → Used → Rooms → Res) →
    on_next (go_next o q x) r k ≡ on_left o x r (λ w d. k q w d)
go-does None q x r k = refl
go-does (Some u) q x r k = refl

ask-does : (a : Asked) (q s : ℕ) (r : Rooms) (k : ℕ → Used → Rooms → Res) →
    on_next (ask_next a q s) r k ≡ on_asked a r (λ w d. k q w d) (λ w d. k s w d)
ask-does (Asked.Holds u) q s r k = refl
ask-does (Asked.Fails u) q s r k = refl
ask-does (Asked.Ends o) q s r k = refl

-- the default before the Optional
value-does : (x : Outcome) (limit p q : ℕ) (r : Rooms) (target : ℕ → Used → Rooms → Res) →
    on_next (value_next x q) r (λ n w d. join_of limit p Fixed.OrValue x (target n w d).0 (target n w d).1) ≡
    with_value x r (λ default w d. with_value (target q w d).0 (target q w d).1 (λ v u o. (or_value_out p default u o (optional_in v), o)))
value-does (Outcome.Value v u) limit p q r target = refl
value-does (Outcome.Error e n u) limit p q r target = refl
value-does (Outcome.Exhausted e u) limit p q r target = refl

-- ---- functions

module _ (t x : List ℕ) (p : ℕ) where
  called-one : (f : Function) (c : Option Called) → shape_of (call_of t x p c) ≡ Shape.Operands (Fixed.Call f) →
      (g : Expr.Function) × (c ≡ Some (to_one g)) × (function_shape g ≡ f)
  called-one f None e = let z : ◌≡◌ {A = ℕ} 0 1 = cc in absurd (omega arith)
  called-one f (Some (to_one g)) e = let h : function_shape g ≡ f = cc in (g, refl, h)
  called-one f (Some to_none) e = let z : ◌≡◌ {A = ℕ} 0 1 = cc in absurd (omega arith)
  called-one f (Some to_two) e = let z : ◌≡◌ {A = ℕ} 0 1 = cc in absurd (omega arith)

  called-two : (c : Option Called) → shape_of (call_of t x p c) ≡ Shape.Operands Fixed.OrValue → c ≡ Some to_two
  called-two None e = let z : ◌≡◌ {A = ℕ} 0 1 = cc in absurd (omega arith)
  called-two (Some (to_one g)) e = let z : ◌≡◌ {A = ℕ} 0 1 = cc in absurd (omega arith)
  called-two (Some to_none) e = let z : ◌≡◌ {A = ℕ} 0 1 = cc in absurd (omega arith)
  called-two (Some to_two) e = refl

  call-does : (g : Expr.Function) (f : Function) → function_shape g ≡ f → expr_of t x p ≡ Expr.call p g (expr_of t x (p + 4)) →
      (limit : ℕ) (s : Scope) (u : Used) (r : Rooms) → Machine.body t limit (expr_of t x p) s u r ≡ fixed_does t x limit p (Fixed.Call f) s u r
  unfolding Machine.body
  call-does g f h i limit s u r = rw (i, sym h, function-back g)

  module _ (limit : ℕ) (s : Scope) where
    -- what follows the operand at q, whose outcome and rooms are these
    abbrev then : Fixed → Res → ℕ → Used → Rooms → Res
    then f a q w d =
        let b : Res = machine t limit (expr_of t x q) s w d in
        join_of limit p f a.0 b.0 b.1

  binary-does : (m : Expr.Binary) (o : Binary) → binary_seen o ≡ m →
      expr_of t x p ≡ Expr.binary p m (expr_of t x (p + 4)) (expr_of t x (after t (p + 4))) → (limit : ℕ) (s : Scope) (u : Used) (r : Rooms) →
      Machine.body t limit (expr_of t x p) s u r ≡ fixed_does t x limit p (Fixed.Binary o) s u r
  unfolding Machine.body
  binary-does m o h i limit s u r =
      let a : Res = machine t limit (expr_of t x (p + 4)) s u r in
      rw (i, sym h) (sym (go-does (left_of (binary_seen o) a.0) (after t (p + 4)) a.0 a.1 (λ q w d. then limit s (Fixed.Binary o) a q w d)))

  conditional-does : expr_of t x p ≡ Expr.conditional p (expr_of t x (p + 3)) (expr_of t x (after t (p + 3))) (expr_of t x (after t (after t (p + 3)))) →
      (limit : ℕ) (s : Scope) (u : Used) (r : Rooms) → Machine.body t limit (expr_of t x p) s u r ≡ fixed_does t x limit p Fixed.Conditional s u r
  unfolding Machine.body
  conditional-does i limit s u r =
      let a : Res = machine t limit (expr_of t x (p + 3)) s u r in
      let k : ℕ → Used → Rooms → Res = λ q w d. then limit s Fixed.Conditional a q w d in
      let q : ℕ = after t (p + 3) in
      rw i (asked p (λ w d. k q w d) (λ w d. k (after t q) w d) a ∙ sym (ask-does (asked_of p a.0) q (after t q) a.1 k))

  or-value-does : expr_of t x p ≡ Expr.or_value p (expr_of t x (p + 4)) (expr_of t x (after t (p + 4))) →
      (limit : ℕ) (s : Scope) (u : Used) (r : Rooms) → Machine.body t limit (expr_of t x p) s u r ≡ fixed_does t x limit p Fixed.OrValue s u r
  unfolding Machine.body
  or-value-does i limit s u r =
      let a : Res = machine t limit (expr_of t x (after t (p + 4))) s u r in
      rw i (sym (value-does a.0 limit p (p + 4) a.1 (λ q w d. machine t limit (expr_of t x q) s w d)))

  -- ---- each shape

  module _ (s : Sound t x p) where
    unary-fixed : (o : Unary) → shape_of (expr_of t x p) ≡ Shape.Operands (Fixed.Unary o) → FixedAt t x p (Fixed.Unary o)
    unfolding Machine.body
    unary-fixed o e =
        let b = shape-byte t x p s (Shape.Operands (Fixed.Unary o)) e (omega arith) in
        let k = opened t x p unary_kind b s in
        let m : Expr.Unary = unary_of (get_or t (p + 3) 0) in
        let f : Shape.Operands (Fixed.Unary (unary_shape m)) ≡ Shape.Operands (Fixed.Unary o) = rw k.is at e in
        let g : unary_shape m ≡ o = cc in
        record {
          body = k.body;
          head = k.first;
          operand = k.row.0;
          first = k.row.0;
          smaller = omega (arith, k.row.1);
          next = λ limit y r q u h. no-next h;
          does = λ limit c u r. rw (k.is, sym g, unary-back m);
        }

    binary-fixed : (o : Binary) → shape_of (expr_of t x p) ≡ Shape.Operands (Fixed.Binary o) → FixedAt t x p (Fixed.Binary o)
    unfolding Machine.body
    binary-fixed o e =
        let b = shape-byte t x p s (Shape.Operands (Fixed.Binary o)) e (omega arith) in
        let k = binary-at t x p s b in
        let m : Expr.Binary = binary_of (get_or t (p + 3) 0) in
        let f : Shape.Operands (Fixed.Binary (binary_shape m)) ≡ Shape.Operands (Fixed.Binary o) = rw k.is at e in
        let g : binary_shape m ≡ o = cc in
        record {
          body = k.body;
          head = k.first;
          operand = k.one;
          first = k.one;
          smaller = omega (arith, k.extents);
          next = λ limit y r q u h. go-at (λ n. Sound t x n × (word_at t (n + 1) < word_at t (p + 1))) (left_of (binary_seen o) y) (after t (p + 4)) y (k.two, omega (arith, k.extents)) h;
          does = binary-does m o (sym (ap binary_seen g) ∙ binary-back m) k.is;
        }

    conditional-fixed : shape_of (expr_of t x p) ≡ Shape.Operands Fixed.Conditional → FixedAt t x p Fixed.Conditional
    unfolding Machine.body
    conditional-fixed e =
        let b = shape-byte t x p s (Shape.Operands Fixed.Conditional) e (omega arith) in
        let k = conditional-at t x p s b in
        record {
          body = k.body;
          head = k.first;
          operand = k.condition;
          first = k.condition;
          smaller = omega (arith, k.extents);
          next = λ limit y r q u h. ask-at (λ n. Sound t x n × (word_at t (n + 1) < word_at t (p + 1))) (asked_of p y) (after t (p + 3)) (after t (after t (p + 3)))
              (k.then, omega (arith, k.extents)) (k.else, omega (arith, k.extents)) h;
          does = conditional-does k.is;
        }

    select-fixed : (y : Bool) → shape_of (expr_of t x p) ≡ Shape.Operands (Fixed.Select y) → FixedAt t x p (Fixed.Select y)
    unfolding Machine.body
    select-fixed y e =
        let b = shape-byte t x p s (Shape.Operands (Fixed.Select y)) e (omega arith) in
        let k = opened t x p select_kind b s in
        let m : Bool = eqb (get_or t (p + 3) 0) 1 in
        let f : Shape.Operands (Fixed.Select m) ≡ Shape.Operands (Fixed.Select y) = rw k.is at e in
        let g : m ≡ y = cc in
        record {
          body = k.body;
          head = k.first;
          operand = k.row.0;
          first = k.row.0;
          smaller = omega (arith, k.row.1);
          next = λ limit o r q u h. no-next h;
          does = λ limit c u r. rw (k.is, g);
        }

    call-fixed : (f : Function) → shape_of (expr_of t x p) ≡ Shape.Operands (Fixed.Call f) → FixedAt t x p (Fixed.Call f)
    unfolding Machine.body
    call-fixed f e =
        let b = shape-byte t x p s (Shape.Operands (Fixed.Call f)) e (omega arith) in
        let k = opened t x p function_kind b s in
        let d = called-one f (numbered functions (get_or t (p + 3) 0)) (rw k.is at e) in
        let row : Row t x Nowhere (after t p) 1 (p + 4) = rw d.1 at k.row in
        record {
          body = k.body;
          head = k.first;
          operand = row.0;
          first = row.0;
          smaller = omega (arith, row.1);
          next = λ limit o r q u h. no-next h;
          does = call-does d.0 f d.2 (k.is ∙ ap (λ (c : Option Called). call_of t x p c) d.1);
        }

    or-value-fixed : shape_of (expr_of t x p) ≡ Shape.Operands Fixed.OrValue → FixedAt t x p Fixed.OrValue
    unfolding Machine.body
    or-value-fixed e =
        let b = shape-byte t x p s (Shape.Operands Fixed.OrValue) e (omega arith) in
        let k = opened t x p function_kind b s in
        let d = called-two (numbered functions (get_or t (p + 3) 0)) (rw k.is at e) in
        let row : Row t x Nowhere (after t p) 2 (p + 4) = rw d at k.row in
        record {
          body = k.body;
          head = k.first;
          operand = row.0;
          first = row.1.0;
          smaller = omega (arith, row.1.1);
          next = λ limit o r q u h. value-at (λ n. Sound t x n × (word_at t (n + 1) < word_at t (p + 1))) o (p + 4) (row.0, omega (arith, row.1.1)) h;
          does = or-value-does (k.is ∙ ap (λ (c : Option Called). call_of t x p c) d);
        }

    pub fixed-at : (f : Fixed) → shape_of (expr_of t x p) ≡ Shape.Operands f → FixedAt t x p f
    fixed-at (Fixed.Unary o) e = unary-fixed o e
    fixed-at (Fixed.Binary o) e = binary-fixed o e
    fixed-at Fixed.Conditional e = conditional-fixed e
    fixed-at (Fixed.Select y) e = select-fixed y e
    fixed-at (Fixed.Call f) e = call-fixed f e
    fixed-at Fixed.OrValue e = or-value-fixed e
