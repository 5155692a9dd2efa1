-- Literals and names: such a record needs no scope but its own slot, and gives what the machine gives. Assumes nothing.
use Prim.Native.Nat.{ℕ, zero, suc, ◌+◌, ◌≤◌, ◌<◌}
use mathlib.Core.Path.{◌≡◌, refl, ap}
use mathlib.Core.Bool.{Bool, true, false, cond}
use mathlib.Core.List.{List, [], ◌∷◌}
use native.Mathlib.Omega.{arith}
use lib.Dec.{ltb, eqb}
use borrow.Author.Tests.{lt-ltb, le-ltb, eqb-true}
use Rattle.table_layout.proofs.WordLaws.{word_is}
use Rattle.table_layout.proofs.KindLaws.{head-is}
use lib.ListN.{get_or}
use types.Run.{OneOf, miss}
use denote.Enum.Declared.{tag_of}
use Rattle.meaning.specs.Expr.{Expr, literal, name, unary, binary, conditional, select, list_of, map_of, comprehension, call, none_call, or_value}
use Rattle.meaning.specs.Kinds.{name_kind}
use Rattle.rooms.specs.declared.value.Value.{Value}
use Rattle.rooms.specs.contracts.value.Value.{the_type}
use Rattle.rooms.specs.declared.scope.Scope.{Scope}
use Rattle.rooms.specs.Rooms.{Rooms}
use Rattle.rooms.specs.Scope.{slot_of}
use Rattle.table_layout.specs.Layout.{word_at, head_bytes}
use Rattle.table_check.specs.Records.{expr_of, Sound}
use Rattle.table_check.proofs.Opened.{opened}
use Rattle.table_check.proofs.FieldLaws.{name_below}
use Rattle.machine.specs.declared.outcome.Used.{Used}
use Rattle.machine.specs.declared.outcome.Limit.TheVariants as Limit
use Rattle.machine.specs.declared.outcome.Outcome.{Outcome}
use Rattle.machine.specs.Outcomes.{Res, stepped, after_step}
use Rattle.machine.specs.Literals.{name_out}
use Rattle.machine.specs.Machine.{body, machine}
use Rattle.eval_shapes.specs.Leaves.{leaf_kinds, slot_in, literal_of, leaf_out, leaf_step, unmarked_at}
use Rattle.eval_shapes.proofs.KindLaws.{kind_in, kind-here, here-is}

-- ---- by the expression

pub slot-other : (e : Expr) → (kind_in e ≡ 7 → ⊥) → slot_in e ≡ 0
slot-other (literal p x) h = refl
slot-other (name p n) h = absurd (h refl)
slot-other (unary p o e) h = refl
slot-other (binary p o e f) h = refl
slot-other (conditional p c e f) h = refl
slot-other (select p t f e) h = refl
slot-other (list_of p es) h = refl
slot-other (map_of p es) h = refl
slot-other (comprehension p a i r s c t e) h = refl
slot-other (call p f e) h = refl
slot-other (none_call p) h = refl
slot-other (or_value p e f) h = refl

literal-out : (t : List ℕ) (e : Expr) → kind_in e ≡ 0 → (v : Value) (u : Used) → leaf_out t e v u ≡ Outcome.Value (literal_of t e) u
literal-out t (literal p x) h v u = refl
literal-out t (name p n) h v u = absurd (omega (arith, h))
literal-out t (unary p o e) h v u = absurd (omega (arith, h))
literal-out t (binary p o e f) h v u = absurd (omega (arith, h))
literal-out t (conditional p c e f) h v u = absurd (omega (arith, h))
literal-out t (select p y f e) h v u = absurd (omega (arith, h))
literal-out t (list_of p es) h v u = absurd (omega (arith, h))
literal-out t (map_of p es) h v u = absurd (omega (arith, h))
literal-out t (comprehension p a i r s c y e) h v u = absurd (omega (arith, h))
literal-out t (call p f e) h v u = absurd (omega (arith, h))
literal-out t (none_call p) h v u = absurd (omega (arith, h))
literal-out t (or_value p e f) h v u = absurd (omega (arith, h))

module _ (t : List ℕ) (limit : ℕ) (s : Scope) (u : Used) (r : Rooms) where
  body-out : (e : Expr) → kind_in e < 8 → body t limit e s u r ≡ (leaf_out t e (slot_of s (slot_in e)) u, r)
  unfolding body
  body-out (literal p x) h = refl
  body-out (name p n) h = refl
  body-out (unary p o e) h = absurd (omega (arith, h))
  body-out (binary p o e f) h = absurd (omega (arith, h))
  body-out (conditional p c e f) h = absurd (omega (arith, h))
  body-out (select p y f e) h = absurd (omega (arith, h))
  body-out (list_of p es) h = absurd (omega (arith, h))
  body-out (map_of p es) h = absurd (omega (arith, h))
  body-out (comprehension p a i range init c y e) h = absurd (omega (arith, h))
  body-out (call p f e) h = absurd (omega (arith, h))
  body-out (none_call p) h = absurd (omega (arith, h))
  body-out (or_value p e f) h = absurd (omega (arith, h))

step-out : (b : Bool) (u : Used) (r : Rooms) (o : Outcome) (k : Used → Res) → k (stepped u) ≡ (o, r) →
    after_step b u r k ≡ (cond b o (Outcome.Exhausted Limit.Steps u), r)
step-out true u r o k e = e
step-out false u r o k e = refl

-- ---- at a place

module _ (t x : List ℕ) (p : ℕ) (s : Sound t x p) where
  pub literal-gives : get_or t p 0 < 7 → (v : Value) (u : Used) → leaf_out t (expr_of t x p) v u ≡ Outcome.Value (literal_of t (expr_of t x p)) u
  literal-gives h = literal-out t (expr_of t x p) ((kind-here t x p s).low h)

  pub name-gives : get_or t p 0 ≡ 7 → (v : Value) (u : Used) → leaf_out t (expr_of t x p) v u ≡ name_out p v u
  name-gives b v u = rw (here-is t x p s name_kind b)

  pub name-slot : get_or t p 0 ≡ 7 → slot_in (expr_of t x p) ≡ get_or t (p + 3) 0
  name-slot b = ap slot_in (here-is t x p s name_kind b)

  pub no-name-slot : (get_or t p 0 ≡ 7 → ⊥) → slot_in (expr_of t x p) ≡ 0
  no-name-slot h = slot-other (expr_of t x p) ((kind-here t x p s).other 7 (omega arith) h)

  pub name-number : get_or t p 0 ≡ 7 → get_or t (p + 3) 0 < 128
  name-number b = name_below (get_or t (p + 3) 0) (opened t x p name_kind b s).fits

  -- a leaf after its step, and with it
  pub leaf-body : get_or t p 0 < leaf_kinds → (limit : ℕ) (c : Scope) (u : Used) (r : Rooms) →
      body t limit (expr_of t x p) c u r ≡ (leaf_out t (expr_of t x p) (slot_of c (slot_in (expr_of t x p))) u, r)
  leaf-body h limit c u r = body-out t limit c u r (expr_of t x p) ((kind-here t x p s).leaf h)

  pub leaf-machine : get_or t p 0 < leaf_kinds → (limit : ℕ) (c : Scope) (u : Used) (r : Rooms) →
      machine t limit (expr_of t x p) c u r ≡ (leaf_step t limit (expr_of t x p) (slot_of c (slot_in (expr_of t x p))) u, r)
  leaf-machine h limit c u r = step-out (ltb u.steps limit) u r _ (λ w. body t limit (expr_of t x p) c w r) (leaf-body h limit c (stepped u) r)

-- ---- the steps of the functions

-- what a limit on steps leaves
pub leaf-out-of-steps : (t : List ℕ) (limit : ℕ) (e : Expr) (v : Value) (u : Used) → limit ≤ u.steps → leaf_step t limit e v u ≡ Outcome.Exhausted Limit.Steps u
leaf-out-of-steps t limit e v u h = rw (le-ltb u.steps limit h)

pub leaf-in-steps : (t : List ℕ) (limit : ℕ) (e : Expr) (v : Value) (u : Used) → u.steps < limit → leaf_step t limit e v u ≡ leaf_out t e v (stepped u)
leaf-in-steps t limit e v u h = rw (lt-ltb u.steps limit h)

pub word_fits : (t : List ℕ) → ((i : ℕ) → get_or t i 0 < 256) → (q : ℕ) {n : ℕ} → n ≡ word_at t q → n < 65536
word_fits t small q e = omega (arith, e, word_is t q, small q, small (q + 1))

pub marked-unmarked : (t : List ℕ) (q : ℕ) → eqb (get_or t q 0) 14 ≡ true → q + head_bytes (get_or t q 0) ≡ unmarked_at t q
marked-unmarked t q e = rw (e, head-is 14 (omega arith) (eqb-true (get_or t q 0) 14 e))

pub bare-unmarked : (t : List ℕ) (q : ℕ) → eqb (get_or t q 0) 14 ≡ false → q ≡ unmarked_at t q
bare-unmarked t q e = rw e

pub only_null : (n : ℕ) → n < 7 → (n ≡ 1 → ⊥) → (n ≡ 2 → ⊥) → (n ≡ 3 → ⊥) → (n ≡ 4 → ⊥) → (n ≡ 5 → ⊥) → (n ≡ 6 → ⊥) → n ≡ 0
only_null zero h a b c d e f = refl
only_null (suc zero) h a b c d e f = absurd (a refl)
only_null (suc (suc zero)) h a b c d e f = absurd (b refl)
only_null (suc (suc (suc zero))) h a b c d e f = absurd (c refl)
only_null (suc (suc (suc (suc zero)))) h a b c d e f = absurd (d refl)
only_null (suc (suc (suc (suc (suc zero))))) h a b c d e f = absurd (e refl)
only_null (suc (suc (suc (suc (suc (suc zero)))))) h a b c d e f = absurd (f refl)
only_null (suc (suc (suc (suc (suc (suc (suc n))))))) h a b c d e f = absurd (omega (arith, h))

-- a slot that is not absent
pub name-has : (p : ℕ) (v : Value) (u : Used) → OneOf (0 ∷ 1 ∷ 2 ∷ 3 ∷ 4 ∷ 5 ∷ 6 ∷ 7 ∷ 8 ∷ 9 ∷ 10 ∷ 11 ∷ []) (tag_of the_type v) → Outcome.Value v u ≡ name_out p v u
name-has p Value.Null u h = refl
name-has p (Value.Bool b) u h = refl
name-has p (Value.Int z) u h = refl
name-has p (Value.Uint n) u h = refl
name-has p (Value.Double x) u h = refl
name-has p (Value.Nan b) u h = refl
name-has p (Value.String sp) u h = refl
name-has p (Value.Bytes sp) u h = refl
name-has p (Value.List d ro) u h = refl
name-has p (Value.Map d ro) u h = refl
name-has p Value.OptionalNone u h = refl
name-has p (Value.OptionalOf d s a) u h = refl
name-has p Value.Absent u h = absurd (miss (0 ∷ 1 ∷ 2 ∷ 3 ∷ 4 ∷ 5 ∷ 6 ∷ 7 ∷ 8 ∷ 9 ∷ 10 ∷ 11 ∷ []) 12 tt h)
