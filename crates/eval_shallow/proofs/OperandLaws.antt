-- What is known of each operand of a record of one operand or two, as the machine begins them; and what the slots of such a record tell of its
-- operands. Assumes nothing.
use Prim.Native.Nat.{ℕ, ◌+◌}
use mathlib.Core.Path.{◌≡◌, refl}
use mathlib.Core.Bool.{Bool, true, false, cond}
use mathlib.Core.List.{List}
use Rattle.meaning.specs.Expr.{Expr}
use Rattle.std.specs.Prelude.{Option, None, Some}
use Rattle.rooms.specs.declared.scope.Slot.{Slot}
use Rattle.rooms.specs.declared.scope.Scope.{Scope}
use Rattle.rooms.specs.Rooms.{Rooms}
use Rattle.rooms.specs.Scope.{slot_of}
use Rattle.table_layout.specs.Layout.{after}
use Rattle.table_check.specs.Records.{expr_of, Sound}
use Rattle.machine.specs.declared.outcome.Used.{Used}
use Rattle.machine.specs.declared.outcome.Outcome.{Outcome}
use Rattle.machine.specs.Machine.{left_of}
use Rattle.eval_outcomes.specs.Seen.{binary_seen}
use Rattle.eval_shapes.specs.declared.next.Fixed.{Fixed}
use Rattle.eval_shapes.specs.declared.next.Next.TheVariants as Next
use Rattle.eval_shapes.specs.declared.Shape.TheVariants as Shape
use Rattle.eval_shapes.specs.Shapes.{shape_of, first_at, next_of}
use Rattle.eval_shapes.proofs.Operands.{go-at, no-next}
use Rattle.eval_shapes.specs.Leaves.{slot_in}
use Rattle.eval_shallow.specs.declared.slots.Pair.{Pair}
use Rattle.eval_shallow.specs.Slots.{Operands, neither, one, two, operands_of, is_leaf, pair, flat_slots, small_of, beside, near_slots, IsPair, PairHolds, IsQuad, QuadHolds}
use Rattle.eval_shallow.proofs.SideLaws.{sides_with, operands-at}

abbrev pub Each : (P Q : Expr → Type 0) → Operands → Type 0
Each P Q neither = ⊥
Each P Q (one e) = P e
Each P Q (two e f) = P e × Q f

pub record Begins (P Q : Expr → Type 0) (t x : List ℕ) (p : ℕ) (f : Fixed) : Type 0 where
  pub first : P (expr_of t x (first_at t p f))
  pub next : (limit : ℕ) (o : Outcome) (r : Rooms) (q : ℕ) (u : Used) → (next_of t limit p f o r).0 ≡ Next.At q u → Q (expr_of t x q)

module _ (P Q : Expr → Type 0) (t x : List ℕ) (p : ℕ) where
  by_form : (f : Fixed) → Each P Q (sides_with t x p f) → Begins P Q t x p f
  by_form (Fixed.Unary o) h = record { first = h; next = λ limit y r q u e. no-next e }
  by_form (Fixed.Binary o) h =
      record { first = h.0; next = λ limit y r q u e. go-at (λ n. Q (expr_of t x n)) (left_of (binary_seen o) y) (after t (p + 4)) y h.1 e }
  by_form Fixed.Conditional h = absurd h
  by_form (Fixed.Select y) h = record { first = h; next = λ limit y r q u e. no-next e }
  by_form (Fixed.Call f) h = record { first = h; next = λ limit y r q u e. no-next e }
  by_form Fixed.OrValue h = absurd h

  pub begins-at : Sound t x p → (f : Fixed) → shape_of (expr_of t x p) ≡ Shape.Operands f → Each P Q (operands_of (expr_of t x p)) → Begins P Q t x p f
  begins-at s f e h = by_form f (rw (operands-at t x p s f e) at h)

-- ---- literals and names below

if-pair : (b : Bool) (m : Option (Pair ℕ)) → IsPair (cond b m None) → (b ≡ true) × IsPair m
if-pair true m h = (refl, h)
if-pair false m h = absurd h

pub flat-leaves : (m : Operands) → IsPair (flat_slots m) → Each (λ e. is_leaf e ≡ true) (λ e. is_leaf e ≡ true) m
flat-leaves neither h = h
flat-leaves (one e) h = (if-pair (is_leaf e) (Some (pair (slot_in e) 0)) h).0
flat-leaves (two e f) h =
    let k = if-pair (is_leaf e) (cond (is_leaf f) (Some (pair (slot_in e) (slot_in f))) None) h in
    (k.0, (if-pair (is_leaf f) (Some (pair (slot_in e) (slot_in f))) k.1).0)

module _ (c : Scope) (v : Pair Slot) where
  if-holds : (b : Bool) (m : Option (Pair ℕ)) → PairHolds c (cond b m None) v → PairHolds c m v
  if-holds true m h = h
  if-holds false m h = absurd h

  pub flat-holds : (m : Operands) → PairHolds c (flat_slots m) v → Each (λ e. slot_of c (slot_in e) ≡ v.first.value) (λ e. slot_of c (slot_in e) ≡ v.second.value) m
  flat-holds neither h = h
  flat-holds (one e) h = (if-holds (is_leaf e) (Some (pair (slot_in e) 0)) h).0
  flat-holds (two e f) h =
      if-holds (is_leaf f) (Some (pair (slot_in e) (slot_in f))) (if-holds (is_leaf e) (cond (is_leaf f) (Some (pair (slot_in e) (slot_in f))) None) h)

-- ---- small records below

beside-both : (m n : Option (Pair ℕ)) → IsQuad (beside m n) → IsPair m × IsPair n
beside-both None n h = absurd h
beside-both (Some a) None h = absurd h
beside-both (Some a) (Some b) h = (tt, tt)

pub near-small : (m : Operands) → IsQuad (near_slots m) → Each (λ e. IsPair (small_of e)) (λ e. IsPair (small_of e)) m
near-small neither h = h
near-small (one e) h = (beside-both (small_of e) (Some (pair 0 0)) h).0
near-small (two e f) h = beside-both (small_of e) (small_of f) h

module _ (c : Scope) (v : Pair (Pair Slot)) where
  beside-holds : (m n : Option (Pair ℕ)) → QuadHolds c (beside m n) v → PairHolds c m v.first × PairHolds c n v.second
  beside-holds None n h = absurd h
  beside-holds (Some a) None h = absurd h
  beside-holds (Some a) (Some b) h = h

  pub near-holds : (m : Operands) → QuadHolds c (near_slots m) v → Each (λ e. PairHolds c (small_of e) v.first) (λ e. PairHolds c (small_of e) v.second) m
  near-holds neither h = h
  near-holds (one e) h = (beside-holds (small_of e) (Some (pair 0 0)) h).0
  near-holds (two e f) h = beside-holds (small_of e) (small_of f) h
