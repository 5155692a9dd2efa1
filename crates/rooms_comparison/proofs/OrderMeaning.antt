-- The order of values, as the code decides it, is the definition's. Assumes nothing.
use Prim.Native.Nat.{ℕ}
use mathlib.Core.Path.{◌≡◌, refl, sym, ap, ◌∙◌}
use mathlib.Core.Bool.{Bool, true, false, cond, ◌&&◌}
use Rattle.std.specs.Prelude.{Option, None, Some}
use mathlib.Core.List.{List}
use native.Mathlib.Omega.{arith}
use lib.Dec.{eqb}
use Rattle.std.specs.declared.cmp.Ordering.{Ordering}
use Rattle.numbers.specs.declared.order.Number.{Number}
use Rattle.numbers.specs.Order.{order_of, number_point}
use Rattle.numbers_laws.proofs.WholeLaws.{int-uint-equal, uint-less, uint-greater}
use Rattle.text.specs.Bytes as Bytes
use Rattle.meaning.specs.Errors.{NoOverload}
use Rattle.meaning.specs.Run.{pure, charged, after, on_value, ◌>>=◌, fail, or_fail}
use Rattle.meaning.specs.Value as Meaning
use Rattle.meaning.specs.Value.{Scalar, null, bool, string, bytes, scalar, list, map, optional_none, optional_of, scalar_of}
use Rattle.meaning.specs.Comparison.{rank, then_text, rank_order, same_class, scalar_order, ordered, compare_values}
use Rattle.rooms_comparison.specs.declared.ordering.Compared.TheVariants as Compared
use Rattle.rooms.specs.declared.value.Plain.{Plain}
use Rattle.rooms.specs.declared.value.Value.{Value}
use Rattle.rooms.specs.Rooms.{Rooms, part, text_of}
use Rattle.rooms.specs.Stands.{Alive, Stands}
use Rattle.rooms_comparison.specs.Seen.{number_scalar, Seen, seen_scalar, seen_none, seen_other, seen_of, seen_in}
use Rattle.rooms_comparison.specs.Order.{order_seen, compared_of, order_rule}
use Rattle.std.specs.Ordering.{bool_cmp}
use Rattle.rooms_comparison.proofs.ScalarLaws.{then_equal, number-class}
use Rattle.rooms_comparison.proofs.Classes.{class_of}
use Rattle.rooms_comparison.proofs.SeenMeaning.{seen_value, seen-stands}

-- scalars of two classes have no order
pub no-order : (x y : Scalar) → eqb (rank x).class (rank y).class ≡ false → Compared.Unlike ≡ compared_of (scalar_order (rank x) (rank y))
unfolding scalar_order same_class
no-order x y e = rw e refl

pub no-order-number : (x : Scalar) (y : Number) → eqb (rank x).class 2 ≡ false → Compared.Unlike ≡ compared_of (scalar_order (rank x) (rank (number_scalar y)))
no-order-number x y e = no-order x (number_scalar y) (rw (number-class y) e)

-- and Null has none
pub null_order : (y : Seen) → Compared.Unlike ≡ compared_of (order_seen (seen_scalar null) y)
unfolding scalar_order rank
null_order (seen_scalar y) = go (same_class (rank null) (rank y))
  where
    go : (b : Bool) → Compared.Unlike ≡ compared_of (cond (b && false) (Some (rank_order (rank null) (rank y))) None)
    go true = refl
    go false = refl
null_order seen_none = refl
null_order seen_other = refl

pub bool-order : (x y : Bool) → Compared.Is (Some (bool_cmp x y)) ≡ compared_of (scalar_order (rank (bool x)) (rank (bool y)))
unfolding scalar_order same_class rank_order rank Bytes.order_of then_text
bool-order true true = rw (int-uint-equal 1) refl
bool-order true false = rw (uint-greater 1 0 (omega arith)) refl
bool-order false true = rw (uint-less 0 1 (omega arith)) refl
bool-order false false = rw (int-uint-equal 0) refl

pub number-order : (x y : Number) → Compared.Is (order_of (number_point x) (number_point y)) ≡ compared_of (scalar_order (rank (number_scalar x)) (rank (number_scalar y)))
unfolding scalar_order same_class rank_order rank Bytes.order_of
number-order (Number.Int a) (Number.Int b) = ap Compared.Is (sym (then_equal _))
number-order (Number.Int a) (Number.Uint b) = ap Compared.Is (sym (then_equal _))
number-order (Number.Int a) (Number.Double b) = ap Compared.Is (sym (then_equal _))
number-order (Number.Uint a) (Number.Int b) = ap Compared.Is (sym (then_equal _))
number-order (Number.Uint a) (Number.Uint b) = ap Compared.Is (sym (then_equal _))
number-order (Number.Uint a) (Number.Double b) = ap Compared.Is (sym (then_equal _))
number-order (Number.Double a) (Number.Int b) = ap Compared.Is (sym (then_equal _))
number-order (Number.Double a) (Number.Uint b) = ap Compared.Is (sym (then_equal _))
number-order (Number.Double a) (Number.Double b) = ap Compared.Is (sym (then_equal _))

pub string-order : (s t : List ℕ) → Compared.Is (Some (Bytes.order_of s t)) ≡ compared_of (scalar_order (rank (string s)) (rank (string t)))
unfolding scalar_order same_class rank_order rank then_text
string-order s t = rw (int-uint-equal 0) refl

pub bytes-order : (s t : List ℕ) → Compared.Is (Some (Bytes.order_of s t)) ≡ compared_of (scalar_order (rank (bytes s)) (rank (bytes t)))
unfolding scalar_order same_class rank_order rank then_text
bytes-order s t = rw (int-uint-equal 0) refl

-- ---- values that stand

ruled : (o : Option (Option Ordering)) → order_rule (compared_of o) ≡ ◌>>=◌ (or_fail NoOverload o) ordered
unfolding or_fail ◌>>=◌ after charged on_value pure fail ordered
ruled None = refl
ruled (Some None) = refl
ruled (Some (Some o)) = refl

seen-order : (v w : Meaning.Value) → order_rule (compared_of (order_seen (seen_value v) (seen_value w))) ≡ compare_values v w
unfolding compare_values scalar_of or_fail ◌>>=◌ after charged on_value pure fail
seen-order (scalar x) (scalar y) = ruled (scalar_order (rank x) (rank y))
seen-order (scalar x) (list ws) = refl
seen-order (scalar x) (map es) = refl
seen-order (scalar x) optional_none = refl
seen-order (scalar x) (optional_of w) = refl
seen-order (list vs) w = refl
seen-order (map es) w = refl
seen-order optional_none w = refl
seen-order (optional_of v) w = refl

-- `ordering::compare` answers what the definition's `compare_values` does, of any two values that stand.
pub order-ok : (L : Alive) (r : Rooms) (v w : Meaning.Value) (x y : Value) → Stands v L r x → Stands w L r y → order_rule (compared_of (order_seen (seen_in r x) (seen_in r y))) ≡ compare_values v w
order-ok L r v w x y h i = (λ k. order_rule (compared_of (order_seen (seen-stands L r v x h k) (seen-stands L r w y i k)))) ∙ seen-order v w

-- a scalar of another class is in no order: what an arm for all other kinds leaves
module _ (l b t : List ℕ) where
  pub no-order-seen : (x : Scalar) (p : Plain) → eqb (rank x).class (class_of p) ≡ false → Compared.Unlike ≡ compared_of (order_seen (seen_scalar x) (seen_of l b t p))
  unfolding rank
  no-order-seen x Plain.Null e = no-order x null e
  no-order-seen x (Plain.Bool y) e = no-order x (bool y) e
  no-order-seen x (Plain.Number n) e = no-order-number x n e
  no-order-seen x (Plain.String sp) e = no-order x (string (part (text_of l b t sp.space) sp.first sp.length)) e
  no-order-seen x (Plain.Bytes sp) e = no-order x (bytes (part (text_of l b t sp.space) sp.first sp.length)) e
  no-order-seen x Plain.OptionalNone e = refl
  no-order-seen x Plain.Other e = refl

  pub number-no-order-seen : (x : Number) (p : Plain) → eqb 2 (class_of p) ≡ false → Compared.Unlike ≡ compared_of (order_seen (seen_scalar (number_scalar x)) (seen_of l b t p))
  number-no-order-seen x p e = no-order-seen (number_scalar x) p (rw (number-class x) e)
