-- What follows the operand that is begun first, as the functions find it. Assumes nothing.
use Prim.Native.Nat.{ℕ, ◌+◌, ◌≤◌}
use mathlib.Core.Path.{◌≡◌, refl, sym, ◌∙◌, ap}
use mathlib.Core.Bool.{Bool}
use mathlib.Core.List.{List, [], ◌∷◌}
use native.Mathlib.Omega.{arith}
use lib.ListN.{length, get_or}
use types.Run.{OneOf, miss}
use denote.Enum.Declared.{tag_of}
use Rattle.rooms.specs.declared.value.Value.{Value}
use Rattle.rooms.specs.Rooms.{Rooms}
use Rattle.table_layout.specs.Layout.{head_bytes, after}
use Rattle.table_check.specs.Records.{expr_of, Sound}
use Rattle.machine.specs.declared.outcome.Outcome.{Outcome}
use Rattle.machine.specs.Outcomes.{Res, with_value}
use Rattle.machine.specs.Literals.{field_value}
use Rattle.machine.specs.Selection.{select_field}
use Rattle.machine.specs.Calls.{called}
use Rattle.machine.specs.Machine.{unary_out, left_of}
use Rattle.eval_outcomes.specs.declared.operators.Unary.{Unary}
use Rattle.eval_outcomes.specs.declared.operators.Binary.{Binary}
use Rattle.eval_outcomes.specs.declared.operators.Function.{Function}
use Rattle.eval_outcomes.specs.Seen.{unary_seen, binary_seen, function_seen}
use Rattle.eval_logic.specs.Conditions.{asked_of}
use Rattle.eval_shapes.specs.declared.next.Fixed.{Fixed}
use Rattle.eval_shapes.specs.declared.next.Next.{Next}
use Rattle.eval_shapes.specs.contracts.next.Fixed.{the_type}
use Rattle.eval_shapes.specs.Next.{go_next, ask_next, value_next}
use Rattle.eval_shapes.specs.declared.Shape.TheVariants as Shape
use Rattle.eval_shapes.specs.Shapes.{shape_of, first_at, next_of, stopped, NextIn}
use Rattle.eval_shapes.proofs.KindLaws.{sound-stands}
use Rattle.eval_shapes.proofs.ShapeLaws.{shape-byte}
use Rattle.eval_shapes.proofs.SeenOfRecords.{conditional-at}
use Rattle.eval_shapes.proofs.Operands.{head_of, fixed-at}

-- ---- places

first_by : (t : List ℕ) (p : ℕ) (f : Fixed) → OneOf (0 ∷ 1 ∷ 2 ∷ 3 ∷ 4 ∷ []) (tag_of the_type f) → p + head_of f ≡ first_at t p f
first_by t p (Fixed.Unary o) h = refl
first_by t p (Fixed.Binary o) h = refl
first_by t p Fixed.Conditional h = refl
first_by t p (Fixed.Select y) h = refl
first_by t p (Fixed.Call f) h = refl
first_by t p Fixed.OrValue h = absurd (miss (0 ∷ 1 ∷ 2 ∷ 3 ∷ 4 ∷ []) 5 tt h)

module _ (t x : List ℕ) (p : ℕ) (s : Sound t x p) (f : Fixed) (e : shape_of (expr_of t x p) ≡ Shape.Operands f) (q : ℕ)
    (i : q ≡ p + head_bytes (get_or t p 0)) where
  pub first-place : OneOf (0 ∷ 1 ∷ 2 ∷ 3 ∷ 4 ∷ []) (tag_of the_type f) → q ≡ first_at t p f
  first-place h = i ∙ ((fixed-at t x p s f e).head ∙ first_by t p f h)

  pub operand-start : q + 3 ≤ length t
  operand-start = let a = fixed-at t x p s f e in rw (i ∙ a.head) (sound-stands t x (p + head_of f) a.operand).start

  pub operand-is : (g : Fixed) → f ≡ g → q ≡ p + head_of g
  operand-is g h = i ∙ ((fixed-at t x p s f e).head ∙ ap (λ (k : Fixed). p + head_of k) h)

  pub default-place : f ≡ Fixed.OrValue → (n : ℕ) → n ≡ after t q → n ≡ first_at t p f
  default-place h n j = rw (h, j) (ap (λ (m : ℕ). after t m) (operand-is Fixed.OrValue h))

  pub second-start : f ≡ Fixed.Conditional → (n : ℕ) → n ≡ after t q → n + 3 ≤ length t
  second-start h n j =
      let b = shape-byte t x p s (Shape.Operands Fixed.Conditional) (e ∙ ap (λ (g : Fixed). Shape.Operands g) h) (omega arith) in
      rw (j ∙ ap (λ (m : ℕ). after t m) (operand-is Fixed.Conditional h)) (sound-stands t x (after t (p + 3)) (conditional-at t x p s b).then).start

pub select-body : (t x : List ℕ) (p : ℕ) → Sound t x p → (f : Fixed) → shape_of (expr_of t x p) ≡ Shape.Operands f → (g : Bool) → f ≡ Fixed.Select g → p + 8 ≤ length t
select-body t x p s f e g h = (fixed-at t x p s (Fixed.Select g) (e ∙ ap (λ (k : Fixed). Shape.Operands k) h)).body

-- ---- the answer

module _ (t : List ℕ) (limit p : ℕ) (f : Fixed) (o : Outcome) (r : Rooms) where
  pub next-unary : (g : Unary) → f ≡ Fixed.Unary g → {y : Outcome} → y ≡ unary_out p (unary_seen g) o → NextIn (Next.Stop y) r (next_of t limit p f o r)
  next-unary g e h = rw (e, h)

  pub next-binary : (g : Binary) → f ≡ Fixed.Binary g → (q : ℕ) → q ≡ p + 4 → (n : ℕ) → n ≡ after t q → {y : Next} →
      y ≡ go_next (left_of (binary_seen g) o) n o → NextIn y r (next_of t limit p f o r)
  next-binary g e q i n j h = rw (e, h, j, i)

  pub next-conditional : f ≡ Fixed.Conditional → (q : ℕ) → q ≡ p + 3 → (n : ℕ) → n ≡ after t q → (m : ℕ) → m ≡ after t n → {y : Next} →
      y ≡ ask_next (asked_of p o) n m → NextIn y r (next_of t limit p f o r)
  next-conditional e q i n j m k h = rw (e, h, k, j, i)

  pub next-select : (g : Bool) → f ≡ Fixed.Select g → {v : Value} → v ≡ field_value t p → {y : Outcome} {d : Rooms} →
      ◌≡◌ {A = Res} (y, d) (with_value o r (λ w u c. select_field limit p g v w u c)) → NextIn (Next.Stop y) d (next_of t limit p f o r)
  next-select g e i h = rw (e, sym i) (ap stopped h)

  pub next-call : (g : Function) → f ≡ Fixed.Call g → {y : Outcome} {d : Rooms} →
      ◌≡◌ {A = Res} (y, d) (with_value o r (λ w u c. called p (function_seen g) w u c)) → NextIn (Next.Stop y) d (next_of t limit p f o r)
  next-call g e h = rw e (ap stopped h)

  pub next-default : f ≡ Fixed.OrValue → (q : ℕ) → q ≡ p + 4 → {y : Next} → y ≡ value_next o q → NextIn y r (next_of t limit p f o r)
  next-default e q i h = rw (e, h, i)
