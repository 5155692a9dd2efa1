-- Equality of scalars, as the code decides it, is the definition's. Assumes nothing.
use Prim.Native.Nat.{ℕ}
use mathlib.Core.Path.{◌≡◌, refl, sym, ap}
use mathlib.Core.Bool.{Bool, true, false, beq}
use mathlib.Core.List.{List}
use native.Mathlib.Omega.{arith}
use lib.Dec.{eqb}
use Rattle.std.specs.Prelude.{Option, None, Some}
use Rattle.std.specs.declared.cmp.Ordering.{Ordering}
use Rattle.numbers.specs.declared.order.Number.{Number}
use Rattle.numbers.specs.Order.{order_of, is_equal, number_point}
use Rattle.numbers_laws.proofs.WholeLaws.{int-uint-equal, uint-less, uint-greater}
use Rattle.text.specs.Bytes as Bytes
use Rattle.meaning.specs.Value.{Scalar, null, bool, string, bytes}
use Rattle.meaning.specs.Comparison.{rank, then_text, rank_order, same_class, scalar_equal}
use Rattle.rooms_comparison.specs.Seen.{number_scalar}

pub then_equal : (o : Option Ordering) → then_text o Ordering.Equal ≡ o
unfolding then_text
then_equal None = refl
then_equal (Some Ordering.Less) = refl
then_equal (Some Ordering.Equal) = refl
then_equal (Some Ordering.Greater) = refl

pub number_same : (x y : Number) → is_equal (order_of (number_point x) (number_point y)) ≡ scalar_equal (number_scalar x) (number_scalar y)
unfolding scalar_equal same_class rank_order rank Bytes.order_of
number_same (Number.Int a) (Number.Int b) = sym (ap is_equal (then_equal _))
number_same (Number.Int a) (Number.Uint b) = sym (ap is_equal (then_equal _))
number_same (Number.Int a) (Number.Double b) = sym (ap is_equal (then_equal _))
number_same (Number.Uint a) (Number.Int b) = sym (ap is_equal (then_equal _))
number_same (Number.Uint a) (Number.Uint b) = sym (ap is_equal (then_equal _))
number_same (Number.Uint a) (Number.Double b) = sym (ap is_equal (then_equal _))
number_same (Number.Double a) (Number.Int b) = sym (ap is_equal (then_equal _))
number_same (Number.Double a) (Number.Uint b) = sym (ap is_equal (then_equal _))
number_same (Number.Double a) (Number.Double b) = sym (ap is_equal (then_equal _))

-- scalars of two classes are never equal
pub apart : (x y : Scalar) → eqb (rank x).class (rank y).class ≡ false → false ≡ scalar_equal x y
unfolding scalar_equal same_class
apart x y e = rw e refl

pub number-class : (x : Number) → (rank (number_scalar x)).class ≡ 2
unfolding rank
number-class (Number.Int z) = refl
number-class (Number.Uint n) = refl
number-class (Number.Double d) = refl

pub number-apart : (x : Number) (y : Scalar) → eqb 2 (rank y).class ≡ false → false ≡ scalar_equal (number_scalar x) y
number-apart x y e = apart (number_scalar x) y (rw (number-class x) e)

pub apart-number : (x : Scalar) (y : Number) → eqb (rank x).class 2 ≡ false → false ≡ scalar_equal x (number_scalar y)
apart-number x y e = apart x (number_scalar y) (rw (number-class y) e)

pub null-same : true ≡ scalar_equal null null
unfolding scalar_equal same_class rank_order rank Bytes.order_of then_text
null-same = rw (int-uint-equal 0) refl

pub bool_same : (x y : Bool) → beq x y ≡ scalar_equal (bool x) (bool y)
unfolding scalar_equal same_class rank_order rank Bytes.order_of then_text
bool_same true true = rw (int-uint-equal 1) refl
bool_same true false = rw (uint-greater 1 0 (omega arith)) refl
bool_same false true = rw (uint-less 0 1 (omega arith)) refl
bool_same false false = rw (int-uint-equal 0) refl

pub string-same : (s t : List ℕ) → is_equal (Some (Bytes.order_of s t)) ≡ scalar_equal (string s) (string t)
unfolding scalar_equal same_class rank_order rank then_text
string-same s t = rw (int-uint-equal 0) refl

pub bytes_same : (s t : List ℕ) → is_equal (Some (Bytes.order_of s t)) ≡ scalar_equal (bytes s) (bytes t)
unfolding scalar_equal same_class rank_order rank then_text
bytes_same s t = rw (int-uint-equal 0) refl
