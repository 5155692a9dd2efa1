-- How a record is evaluated, by its kind; and operators and functions as the code and as the machine have them. Assumes nothing.
use Prim.Native.Nat.{ℕ, ◌+◌, ◌≤◌, ◌<◌}
use mathlib.Core.Path.{◌≡◌, refl, sym, ◌∙◌, ap}
use mathlib.Core.List.{List}
use Rattle.std.specs.Prelude.{Option, None, Some}
use native.Mathlib.Omega.{arith}
use lib.ListN.{get_or}
use Rattle.meaning.specs.Expr as Expr
use Rattle.meaning.specs.Expr.{Expr, literal, name, unary, binary, conditional, select, list_of, map_of, comprehension, call, none_call, or_value, LogicalFold}
use Rattle.meaning.specs.Kinds.{unary_kind, binary_kind, function_kind, Called, to_one, to_none, to_two, numbered, unaries, binaries, functions}
use Rattle.rooms.specs.declared.value.Value.TheVariants as Value
use Rattle.rooms.specs.declared.scope.Scope.{Scope}
use Rattle.rooms.specs.Rooms.{Rooms}
use Rattle.machine.specs.declared.outcome.Used.{Used}
use Rattle.machine.specs.declared.outcome.Outcome.TheVariants as Outcome
use Rattle.machine.specs.Machine.{body}
use Rattle.table_check.specs.Records.{expr_of, Sound, or_else, unary_of, binary_of, call_of}
use Rattle.eval_outcomes.specs.declared.operators.Unary.{Unary}
use Rattle.eval_outcomes.specs.declared.operators.Fold.{Fold}
use Rattle.eval_outcomes.specs.declared.operators.Arith.{Arith}
use Rattle.eval_outcomes.specs.declared.operators.Comparison.{Comparison}
use Rattle.eval_outcomes.specs.declared.operators.Binary.{Binary}
use Rattle.eval_outcomes.specs.Seen.{fold_seen, arith_seen, comparison_seen, unary_seen, binary_seen, function_seen}
use Rattle.eval_shapes.specs.declared.next.Fixed.TheVariants as Fixed
use Rattle.eval_shapes.specs.declared.Shape.{Shape}
use Rattle.eval_shapes.specs.Shapes.{unary_shape, fold_shape, arith_shape, comparison_shape, binary_shape, function_shape, called_shape, call_shape, shape_of}
use Rattle.eval_shapes.proofs.Numbered.{by_number}
use Rattle.eval_shapes.proofs.KindLaws.{kind_in, kind-here, here-is}

-- ---- the code's operators and the definition's, there and back

pub unary-shape : (o : Unary) → unary_shape (unary_seen o) ≡ o
unary-shape Unary.Not = refl
unary-shape Unary.Negate = refl
unary-shape Unary.NotStrictlyFalse = refl

pub unary-back : (o : Expr.Unary) → unary_seen (unary_shape o) ≡ o
unary-back Expr.not_op = refl
unary-back Expr.negate_op = refl
unary-back Expr.not_strictly_false = refl

fold-shape : (o : Fold) → fold_shape (fold_seen o) ≡ o
fold-shape Fold.And = refl
fold-shape Fold.Or = refl

fold-back : (o : LogicalFold) → fold_seen (fold_shape o) ≡ o
fold-back Expr.And = refl
fold-back Expr.Or = refl

arith-shape : (o : Arith) → arith_shape (arith_seen o) ≡ o
arith-shape Arith.Add = refl
arith-shape Arith.Subtract = refl
arith-shape Arith.Divide = refl
arith-shape Arith.Multiply = refl
arith-shape Arith.Remainder = refl

arith-back : (o : Expr.Arith) → arith_seen (arith_shape o) ≡ o
arith-back Expr.add = refl
arith-back Expr.sub = refl
arith-back Expr.div = refl
arith-back Expr.mul = refl
arith-back Expr.rem = refl

comparison-shape : (o : Comparison) → comparison_shape (comparison_seen o) ≡ o
comparison-shape Comparison.Less = refl
comparison-shape Comparison.LessEquals = refl
comparison-shape Comparison.Greater = refl
comparison-shape Comparison.GreaterEquals = refl

comparison-back : (o : Expr.Comparison) → comparison_seen (comparison_shape o) ≡ o
comparison-back Expr.less = refl
comparison-back Expr.less_equals = refl
comparison-back Expr.greater = refl
comparison-back Expr.greater_equals = refl

pub binary-shape : (o : Binary) → binary_shape (binary_seen o) ≡ o
binary-shape (Binary.Logic f) = rw (fold-shape f)
binary-shape Binary.Equals = refl
binary-shape Binary.NotEquals = refl
binary-shape Binary.Index = refl
binary-shape Binary.OptionalIndex = refl
binary-shape Binary.OptionalSelect = refl
binary-shape (Binary.Arithmetic o) = rw (arith-shape o)
binary-shape (Binary.Order o) = rw (comparison-shape o)
binary-shape Binary.In = refl

pub binary-back : (o : Expr.Binary) → binary_seen (binary_shape o) ≡ o
binary-back (Expr.logic f) = rw (fold-back f)
binary-back Expr.equals = refl
binary-back Expr.not_equals = refl
binary-back Expr.index = refl
binary-back Expr.opt_index = refl
binary-back Expr.opt_select = refl
binary-back (Expr.arith o) = rw (arith-back o)
binary-back (Expr.compare o) = rw (comparison-back o)
binary-back Expr.is_in = refl

pub function-back : (f : Expr.Function) → function_seen (function_shape f) ≡ f
function-back Expr.size_call = refl
function-back Expr.of_call = refl
function-back Expr.has_value_call = refl
function-back Expr.value_call = refl

-- ---- numbers that are none of those

abbrev NoUnary : ℕ → Option Expr.Unary → Type 0
NoUnary n o = (n ≡ 2 → ⊥) → (n ≡ 3 → ⊥) → Expr.not_op ≡ or_else Expr.not_op o

pub no-unary : (n : ℕ) → NoUnary n (numbered unaries n)
unfolding unaries
no-unary = by_number NoUnary unaries (λ n a b. refl) (λ a b. refl, (λ a b. absurd (a refl), (λ a b. absurd (b refl), tt)))

abbrev NoBinary : ℕ → Option Expr.Binary → Type 0
NoBinary n o = (n ≡ 1 → ⊥) → (n ≡ 2 → ⊥) → (n ≡ 4 → ⊥) → (n ≡ 5 → ⊥) → (n ≡ 6 → ⊥) → (n ≡ 7 → ⊥) → (n ≡ 8 → ⊥) → (n ≡ 9 → ⊥) → (n ≡ 10 → ⊥) → (n ≡ 11 → ⊥) → (n ≡ 12 → ⊥) → (n ≡ 13 → ⊥) → (n ≡ 14 → ⊥) → (n ≡ 15 → ⊥) → (n ≡ 16 → ⊥) → (n ≡ 17 → ⊥) → Expr.equals ≡ or_else Expr.equals o

pub no-binary : (n : ℕ) → NoBinary n (numbered binaries n)
unfolding binaries
no-binary = by_number NoBinary binaries (λ n a1 a2 a3 a4 a5 a6 a7 a8 a9 a10 a11 a12 a13 a14 a15 a16. refl) (λ a1 a2 a3 a4 a5 a6 a7 a8 a9 a10 a11 a12 a13 a14 a15 a16. absurd (a1 refl), (λ a1 a2 a3 a4 a5 a6 a7 a8 a9 a10 a11 a12 a13 a14 a15 a16. absurd (a2 refl), (λ a1 a2 a3 a4 a5 a6 a7 a8 a9 a10 a11 a12 a13 a14 a15 a16. refl, (λ a1 a2 a3 a4 a5 a6 a7 a8 a9 a10 a11 a12 a13 a14 a15 a16. absurd (a3 refl), (λ a1 a2 a3 a4 a5 a6 a7 a8 a9 a10 a11 a12 a13 a14 a15 a16. absurd (a4 refl), (λ a1 a2 a3 a4 a5 a6 a7 a8 a9 a10 a11 a12 a13 a14 a15 a16. absurd (a5 refl), (λ a1 a2 a3 a4 a5 a6 a7 a8 a9 a10 a11 a12 a13 a14 a15 a16. absurd (a6 refl), (λ a1 a2 a3 a4 a5 a6 a7 a8 a9 a10 a11 a12 a13 a14 a15 a16. absurd (a7 refl), (λ a1 a2 a3 a4 a5 a6 a7 a8 a9 a10 a11 a12 a13 a14 a15 a16. absurd (a8 refl), (λ a1 a2 a3 a4 a5 a6 a7 a8 a9 a10 a11 a12 a13 a14 a15 a16. absurd (a9 refl), (λ a1 a2 a3 a4 a5 a6 a7 a8 a9 a10 a11 a12 a13 a14 a15 a16. absurd (a10 refl), (λ a1 a2 a3 a4 a5 a6 a7 a8 a9 a10 a11 a12 a13 a14 a15 a16. absurd (a11 refl), (λ a1 a2 a3 a4 a5 a6 a7 a8 a9 a10 a11 a12 a13 a14 a15 a16. absurd (a12 refl), (λ a1 a2 a3 a4 a5 a6 a7 a8 a9 a10 a11 a12 a13 a14 a15 a16. absurd (a13 refl), (λ a1 a2 a3 a4 a5 a6 a7 a8 a9 a10 a11 a12 a13 a14 a15 a16. absurd (a14 refl), (λ a1 a2 a3 a4 a5 a6 a7 a8 a9 a10 a11 a12 a13 a14 a15 a16. absurd (a15 refl), (λ a1 a2 a3 a4 a5 a6 a7 a8 a9 a10 a11 a12 a13 a14 a15 a16. absurd (a16 refl), tt)))))))))))))))))

abbrev NoCall : ℕ → Option Called → Type 0
NoCall n o = (n ≡ 1 → ⊥) → (n ≡ 2 → ⊥) → (n ≡ 4 → ⊥) → (n ≡ 5 → ⊥) → (n ≡ 6 → ⊥) → Shape.None ≡ called_shape o

pub no_call : (n : ℕ) → NoCall n (numbered functions n)
unfolding functions
no_call =
    by_number NoCall functions (λ n a b c d e. refl) (
      λ a b c d e. absurd (a refl),
      (
        λ a b c d e. absurd (b refl),
        (
          λ a b c d e. refl,
          (λ a b c d e. absurd (c refl), (λ a b c d e. absurd (d refl), (λ a b c d e. absurd (e refl), tt))),
        ),
      ),
    )

-- ---- the record at a place

leaf-shape : (e : Expr) → kind_in e < 8 → Shape.Leaf ≡ shape_of e
leaf-shape (literal p x) h = refl
leaf-shape (name p n) h = refl
leaf-shape (unary p o e) h = absurd (omega (arith, h))
leaf-shape (binary p o e f) h = absurd (omega (arith, h))
leaf-shape (conditional p c e f) h = absurd (omega (arith, h))
leaf-shape (select p t f e) h = absurd (omega (arith, h))
leaf-shape (list_of p es) h = absurd (omega (arith, h))
leaf-shape (map_of p es) h = absurd (omega (arith, h))
leaf-shape (comprehension p a i r s c t e) h = absurd (omega (arith, h))
leaf-shape (call p f e) h = absurd (omega (arith, h))
leaf-shape (none_call p) h = absurd (omega (arith, h))
leaf-shape (or_value p e f) h = absurd (omega (arith, h))

-- the shape names the kind
abbrev pub shape_kind : Shape → ℕ
shape_kind Shape.Leaf = 0
shape_kind Shape.List = 12
shape_kind Shape.Map = 13
shape_kind Shape.Comprehension = 15
shape_kind Shape.None = 16
shape_kind (Shape.Operands (Fixed.Unary o)) = 8
shape_kind (Shape.Operands (Fixed.Binary o)) = 9
shape_kind (Shape.Operands Fixed.Conditional) = 10
shape_kind (Shape.Operands (Fixed.Select y)) = 11
shape_kind (Shape.Operands (Fixed.Call f)) = 16
shape_kind (Shape.Operands Fixed.OrValue) = 16

shape-kind : (e : Expr) → 7 ≤ shape_kind (shape_of e) → kind_in e ≡ shape_kind (shape_of e)
shape-kind (literal p x) h = refl
shape-kind (name p n) h = absurd (omega (arith, h))
shape-kind (unary p o e) h = refl
shape-kind (binary p o e f) h = refl
shape-kind (conditional p c e f) h = refl
shape-kind (select p t f e) h = refl
shape-kind (list_of p es) h = refl
shape-kind (map_of p es) h = refl
shape-kind (comprehension p a i r s c t e) h = refl
shape-kind (call p f e) h = refl
shape-kind (none_call p) h = refl
shape-kind (or_value p e f) h = refl

leaf-kind : (e : Expr) → shape_kind (shape_of e) ≡ 0 → kind_in e < 8
leaf-kind (literal q y) h = omega arith
leaf-kind (name q n) h = omega arith
leaf-kind (unary q o e) h = absurd (omega (arith, h))
leaf-kind (binary q o e f) h = absurd (omega (arith, h))
leaf-kind (conditional q c e f) h = absurd (omega (arith, h))
leaf-kind (select q y f e) h = absurd (omega (arith, h))
leaf-kind (list_of q es) h = absurd (omega (arith, h))
leaf-kind (map_of q es) h = absurd (omega (arith, h))
leaf-kind (comprehension q a i r v c y e) h = absurd (omega (arith, h))
leaf-kind (call q f e) h = absurd (omega (arith, h))
leaf-kind (none_call q) h = absurd (omega (arith, h))
leaf-kind (or_value q e f) h = absurd (omega (arith, h))

-- optional.none
module _ (t : List ℕ) (limit : ℕ) (s : Scope) (u : Used) (r : Rooms) where
  pub none-body : (e : Expr) → shape_of e ≡ Shape.None → body t limit e s u r ≡ (Outcome.Value Value.OptionalNone u, r)
  unfolding body
  none-body (literal q y) h = let z : ◌≡◌ {A = ℕ} 0 1 = cc in absurd (omega arith)
  none-body (name q n) h = let z : ◌≡◌ {A = ℕ} 0 1 = cc in absurd (omega arith)
  none-body (unary q o e) h = let z : ◌≡◌ {A = ℕ} 0 1 = cc in absurd (omega arith)
  none-body (binary q o e f) h = let z : ◌≡◌ {A = ℕ} 0 1 = cc in absurd (omega arith)
  none-body (conditional q c e f) h = let z : ◌≡◌ {A = ℕ} 0 1 = cc in absurd (omega arith)
  none-body (select q y f e) h = let z : ◌≡◌ {A = ℕ} 0 1 = cc in absurd (omega arith)
  none-body (list_of q es) h = let z : ◌≡◌ {A = ℕ} 0 1 = cc in absurd (omega arith)
  none-body (map_of q es) h = let z : ◌≡◌ {A = ℕ} 0 1 = cc in absurd (omega arith)
  none-body (comprehension q a i range init c y e) h = let z : ◌≡◌ {A = ℕ} 0 1 = cc in absurd (omega arith)
  none-body (call q f e) h = let z : ◌≡◌ {A = ℕ} 0 1 = cc in absurd (omega arith)
  none-body (none_call q) h = refl
  none-body (or_value q e f) h = let z : ◌≡◌ {A = ℕ} 0 1 = cc in absurd (omega arith)

module _ (t x : List ℕ) (p : ℕ) where
  called-shape : (c : Option Called) → called_shape c ≡ shape_of (call_of t x p c)
  called-shape None = refl
  called-shape (Some (to_one f)) = refl
  called-shape (Some to_none) = refl
  called-shape (Some to_two) = refl

  module _ (s : Sound t x p) where
    pub call-here : get_or t p 0 ≡ 16 → call_shape (get_or t (p + 3) 0) ≡ shape_of (expr_of t x p)
    call-here b = rw (here-is t x p s function_kind b) (called-shape (numbered functions (get_or t (p + 3) 0)))

    pub unary-here : get_or t p 0 ≡ 8 → (o : Unary) → unary_seen o ≡ unary_of (get_or t (p + 3) 0) → Shape.Operands (Fixed.Unary o) ≡ shape_of (expr_of t x p)
    unary-here b o e = rw (here-is t x p s unary_kind b) (ap (λ (q : Unary). Shape.Operands (Fixed.Unary q)) (sym (unary-shape o) ∙ ap unary_shape e))

    pub binary-here : get_or t p 0 ≡ 9 → (o : Binary) → binary_seen o ≡ binary_of (get_or t (p + 3) 0) → Shape.Operands (Fixed.Binary o) ≡ shape_of (expr_of t x p)
    binary-here b o e = rw (here-is t x p s binary_kind b) (ap (λ (q : Binary). Shape.Operands (Fixed.Binary q)) (sym (binary-shape o) ∙ ap binary_shape e))

    pub leaf-shape-here : get_or t p 0 < 8 → Shape.Leaf ≡ shape_of (expr_of t x p)
    leaf-shape-here h = leaf-shape (expr_of t x p) ((kind-here t x p s).leaf h)

    -- a leaf is of a kind below 8; any other shape names its kind
    pub leaf-byte : shape_of (expr_of t x p) ≡ Shape.Leaf → get_or t p 0 < 8
    leaf-byte h = (kind-here t x p s).below (leaf-kind (expr_of t x p) (ap shape_kind h))

    pub shape-byte : (w : Shape) → shape_of (expr_of t x p) ≡ w → 7 ≤ shape_kind w → get_or t p 0 ≡ shape_kind w
    shape-byte w h l =
        (kind-here t x p s).known (shape_kind w) l (shape-kind (expr_of t x p) (rw h l) ∙ ap shape_kind h)
