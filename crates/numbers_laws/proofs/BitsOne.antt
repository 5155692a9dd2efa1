-- Two patterns of 64 bits that stand for one point, no NaN, are the same. Assumes nothing.
use mathlib.Core.Path.{◌≡◌, refl, sym, ap, ◌∙◌, subst}
use mathlib.Core.Logic.{⊎_elim}
use mathlib.Core.Bool.{Bool, true, false}
use Prim.Native.Nat.{ℕ, ◌%◌, ◌^◌, ◌≤◌, ◌<◌}
use native.Mathlib.Omega.{arith}
use lib.Dec.{leb}
use borrow.Author.Tests.{leb-true, leb-false}
use Rattle.std.specs.Prelude.{Some}
use Rattle.std.specs.declared.cmp.Ordering.{Ordering}
use Rattle.std.specs.declared.cmp.Ordering.TheVariants.{Equal}
use Rattle.numbers.specs.Double.{Point, nan, infinite, finite, negative, point_of, is_nan}
use Rattle.numbers.specs.Order.{order_of}
use Rattle.numbers_laws.proofs.OrderLaws.{just, order-self}
use Rattle.numbers_laws.proofs.PointLaws.{bits-sized, bits-order}
use Rattle.numbers_laws.proofs.SignedOrder.{SaysSigned, signed-says}

abbrev sign : Point → Bool
sign nan = false
sign (infinite s) = s
sign (finite s n) = s

abbrev IsNumber : Point → Type 0
IsNumber nan = ⊥
IsNumber (infinite s) = Unit {0}
IsNumber (finite s n) = Unit {0}

sign-is : (b : ℕ) → is_nan b ≡ false → sign (point_of b) ≡ negative b
sign-is b h = ⊎_elim (λ p. ap sign p.0) (λ p. ap sign p.0) (bits-sized b h)

pub is_number : (b : ℕ) → is_nan b ≡ false → point_of b ≡ nan → ⊥
is_number b h e = ⊎_elim (λ p. subst IsNumber (sym p.0 ∙ e) tt) (λ p. subst IsNumber (sym p.0 ∙ e) tt) (bits-sized b h)

like : (s : Bool) (a b : ℕ) → SaysSigned Equal s a s b → a ≡ b
like false a b h = h
like true a b h = sym h

whole : (b c : ℕ) → b < 2 ^ 64 → c < 2 ^ 64 → leb (2 ^ 63) b ≡ leb (2 ^ 63) c → b % 2 ^ 63 ≡ c % 2 ^ 63 → b ≡ c
whole b c h k e m = go (leb (2 ^ 63) b) (leb-true (2 ^ 63) b) (leb-false (2 ^ 63) b) (λ (t : leb (2 ^ 63) b ≡ true). leb-true (2 ^ 63) c (sym e ∙ t)) (λ (t : leb (2 ^ 63) b ≡ false). leb-false (2 ^ 63) c (sym e ∙ t))
  where
    go : (t : Bool) → (t ≡ true → 2 ^ 63 ≤ b) → (t ≡ false → b < 2 ^ 63) → (t ≡ true → 2 ^ 63 ≤ c) → (t ≡ false → c < 2 ^ 63) → b ≡ c
    go true p q u v = let x = p refl in let y = u refl in omega arith
    go false p q u v = let x = q refl in let y = v refl in omega arith

pub bits-one : (b c : ℕ) → b < 2 ^ 64 → c < 2 ^ 64 → is_nan b ≡ false → is_nan c ≡ false → point_of b ≡ point_of c → b ≡ c
bits-one b c h k n m e =
    let s : negative b ≡ negative c = sym (sign-is b n) ∙ ap sign e ∙ sign-is c m in
    let o : order_of (point_of b) (point_of c) ≡ Some Equal = ap (order_of (point_of b)) (sym e) ∙ order-self (point_of b) (is_number b n) in
    let says : SaysSigned Equal (negative b) (b % 2 ^ 63) (negative c) (c % 2 ^ 63) =
    subst (λ (r : Ordering). SaysSigned r (negative b) (b % 2 ^ 63) (negative c) (c % 2 ^ 63)) (just (sym (bits-order b c n m) ∙ o)) (signed-says (negative b) (b % 2 ^ 63) (negative c) (c % 2 ^ 63)) in
    whole b c h k s (like (negative b) (b % 2 ^ 63) (c % 2 ^ 63) (subst (λ (t : Bool). SaysSigned Equal (negative b) (b % 2 ^ 63) t (c % 2 ^ 63)) (sym s) says))
