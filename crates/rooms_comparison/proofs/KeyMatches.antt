-- When a look-up finds a key: by kind and value, or an Int and a Uint by one number. Assumes nothing.
use Prim.Native.Nat.{ℕ}
use mathlib.Core.Path.{◌≡◌, refl, sym, ap, ◌∙◌}
use mathlib.Core.Bool.{Bool, true, false, true≢false, beq}
use lib.Dec.{eqb}
use lib.IntN.{ℤ, nat_abs}
use Rattle.std.specs.Prelude.{Option, None, Some}
use Rattle.std.specs.declared.cmp.Ordering.{Ordering}
use Rattle.numbers.specs.declared.order.Number.TheVariants as Number
use Rattle.numbers.specs.Order.{order_of, is_equal, flipped, below_zero, whole_point, int_point, uint_point}
use Rattle.numbers_laws.proofs.OrderLaws.{order-swap}
use Rattle.numbers_laws.proofs.SignedOrder.{signed_is}
use Rattle.numbers_laws.proofs.WholeLaws.{whole-order, int-uint-equal, int-uint-only, int-only, uint-only}
use Rattle.text.specs.Bytes as Bytes
use Rattle.text.proofs.BytesLaws.{order-equal}
use Rattle.meaning.specs.Value.{Scalar, int, uint, bool, string, Key, int_key, uint_key, bool_key, string_key, key_scalar}
use Rattle.meaning.specs.Comparison.{rank, scalar_equal}
use Rattle.rooms_comparison.specs.Matches.{Matches}
use Rattle.rooms_comparison.proofs.ScalarLaws.{apart, number_same, bool_same, string-same}

never : (x y : Scalar) → eqb (rank x).class (rank y).class ≡ false → scalar_equal x y ≡ true → ⊥
never x y e h = true≢false (sym h ∙ sym (apart x y e))

itself : (s : Bool) (a : ℕ) → order_of (whole_point s a) (whole_point s a) ≡ Some Ordering.Equal
itself true a = whole-order true a true a ∙ ap Some (signed_is Ordering.Equal true a true a refl)
itself false a = whole-order false a false a ∙ ap Some (signed_is Ordering.Equal false a false a refl)

-- which side is which does not matter
turned : (n : ℕ) (z : ℤ) → is_equal (order_of (uint_point n) (int_point z)) ≡ is_equal (order_of (int_point z) (uint_point n))
turned n z = ap is_equal (order-swap (uint_point n) (int_point z)) ∙ either_way (order_of (int_point z) (uint_point n))
  where
    either_way : (o : Option Ordering) → is_equal (flipped o) ≡ is_equal o
    either_way None = refl
    either_way (Some Ordering.Less) = refl
    either_way (Some Ordering.Equal) = refl
    either_way (Some Ordering.Greater) = refl

bools : (a b : Bool) → beq a b ≡ true → a ≡ b
bools true true e = refl
bools true false e = sym e
bools false true e = e
bools false false e = refl

is-equal : (o : Ordering) → is_equal (Some o) ≡ true → o ≡ Ordering.Equal
is-equal Ordering.Less e = absurd (true≢false (sym e))
is-equal Ordering.Equal e = refl
is-equal Ordering.Greater e = absurd (true≢false (sym e))

-- Only a key that matches is found.
pub found-matches : (j k : Key) → scalar_equal (key_scalar j) (key_scalar k) ≡ true → Matches j k
unfolding key_scalar rank
found-matches (int_key y) (int_key z) h = int-only y z (number_same (Number.Int y) (Number.Int z) ∙ h)
found-matches (int_key z) (uint_key n) h = int-uint-only z n (number_same (Number.Int z) (Number.Uint n) ∙ h)
found-matches (int_key z) (bool_key b) h = never (int z) (bool b) refl h
found-matches (int_key z) (string_key s) h = never (int z) (string s) refl h
found-matches (uint_key n) (int_key z) h = int-uint-only z n (sym (turned n z) ∙ number_same (Number.Uint n) (Number.Int z) ∙ h)
found-matches (uint_key m) (uint_key n) h = uint-only m n (number_same (Number.Uint m) (Number.Uint n) ∙ h)
found-matches (uint_key n) (bool_key b) h = never (uint n) (bool b) refl h
found-matches (uint_key n) (string_key s) h = never (uint n) (string s) refl h
found-matches (bool_key b) (int_key z) h = never (bool b) (int z) refl h
found-matches (bool_key b) (uint_key n) h = never (bool b) (uint n) refl h
found-matches (bool_key a) (bool_key b) h = bools a b (bool_same a b ∙ h)
found-matches (bool_key b) (string_key s) h = never (bool b) (string s) refl h
found-matches (string_key s) (int_key z) h = never (string s) (int z) refl h
found-matches (string_key s) (uint_key n) h = never (string s) (uint n) refl h
found-matches (string_key s) (bool_key b) h = never (string s) (bool b) refl h
found-matches (string_key s) (string_key t) h = (order-equal s t).0 (is-equal (Bytes.order_of s t) (string-same s t ∙ h))

-- Every key that matches is.
pub matches-found : (j k : Key) → Matches j k → scalar_equal (key_scalar j) (key_scalar k) ≡ true
unfolding key_scalar
matches-found (int_key y) (int_key z) h = sym (number_same (Number.Int y) (Number.Int z)) ∙ ap (λ x. is_equal (order_of (int_point x) (int_point z))) h ∙ ap is_equal (itself (below_zero z) (nat_abs z))
matches-found (int_key z) (uint_key n) h = sym (number_same (Number.Int z) (Number.Uint n)) ∙ ap (λ y. is_equal (order_of (int_point y) (uint_point n))) h ∙ ap is_equal (int-uint-equal n)
matches-found (int_key z) (bool_key b) h = absurd h
matches-found (int_key z) (string_key s) h = absurd h
matches-found (uint_key n) (int_key z) h = sym (number_same (Number.Uint n) (Number.Int z)) ∙ turned n z ∙ ap (λ y. is_equal (order_of (int_point y) (uint_point n))) h ∙ ap is_equal (int-uint-equal n)
matches-found (uint_key m) (uint_key n) h = sym (number_same (Number.Uint m) (Number.Uint n)) ∙ ap (λ x. is_equal (order_of (uint_point x) (uint_point n))) h ∙ ap is_equal (itself false n)
matches-found (uint_key n) (bool_key b) h = absurd h
matches-found (uint_key n) (string_key s) h = absurd h
matches-found (bool_key b) (int_key z) h = absurd h
matches-found (bool_key b) (uint_key n) h = absurd h
matches-found (bool_key a) (bool_key b) h = sym (bool_same a b) ∙ ap (λ c. beq c b) h ∙ same b
  where
    same : (b : Bool) → beq b b ≡ true
    same true = refl
    same false = refl
matches-found (bool_key b) (string_key s) h = absurd h
matches-found (string_key s) (int_key z) h = absurd h
matches-found (string_key s) (uint_key n) h = absurd h
matches-found (string_key s) (bool_key b) h = absurd h
matches-found (string_key s) (string_key t) h = sym (string-same s t) ∙ ap (λ o. is_equal (Some o)) ((order-equal s t).1 h) ∙ refl
