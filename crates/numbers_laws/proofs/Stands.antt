-- A float of the kit's logic stands for a point: `Stands x r` says which, and the point of a float's bits is that one. Assumes nothing.
use mathlib.Core.Path.{◌≡◌, refl, sym, ap, ◌∙◌, subst}
use mathlib.Core.Bool.{Bool, true, false, cond}
use Prim.Native.Nat.{ℕ, zero, suc, ◌+◌, ◌*◌, ◌/◌, ◌%◌, ◌^◌}
use native.Mathlib.Nat.{mul-one, eq_of_mul-eq-mul_right}
use lib.Dec.{T, leb, eqb}
use lib.Ieee as Ieee
use lib.Ieee.{Float, inf, fin, binary64, to_bits, of_bits, of_fields, fits, odd, up, down}
use lib.Ieee.Bits.{of_bits-to_bits}
use lib.Ieee.Exact.{HasValue, odd_sign}
use lib.Ieee.Fits.{down_pos}
use Rattle.numbers.specs.Double.{Point, nan, infinite, finite, units, size_of, point_of}

-- the float x stands for the point r: of a finite one, its size is m * 2 ^ e in units of 2 ^ -1074
abbrev pub Stands : Float → Point → Type 0
Stands Ieee.nan r = r ≡ nan
Stands (inf s) r = r ≡ infinite s
Stands (fin s m e) r = (a : ℕ) × (r ≡ finite s a) × (m * up e * 2 ^ 1074 ≡ a * down e)

pub stands_one : (x : Float) (r q : Point) → Stands x r → Stands x q → r ≡ q
stands_one Ieee.nan r q h k = h ∙ sym k
stands_one (inf s) r q h k = h ∙ sym k
stands_one (fin s m e) r q (a, h, u) (b, k, v) = h ∙ ap (finite s) (eq_of_mul-eq-mul_right (down e) (down_pos e) a b (sym u ∙ v)) ∙ sym k

pub value-stands : (x : Float) (s : Bool) (a : ℕ) → HasValue x s a (2 ^ 1074) → Stands x (finite s a)
value-stands Ieee.nan s a v = absurd v
value-stands (inf t) s a v = absurd v
value-stands (fin t m e) s a v = (a, ap (λ (u : Bool). finite u a) (sym v.0), v.1)

fields-stand : (s : Bool) (x t : ℕ) → Stands (of_fields binary64 s x t) (cond (eqb x 2047) (cond (eqb t 0) (infinite s) nan) (finite s (units x t)))
unfolding of_fields units
fields-stand s zero t = subst (λ (n : ℕ). Stands (odd 53 s t 0 1074) (finite s n)) (mul-one t) (value-stands (odd 53 s t 0 1074) s (t * 2 ^ 0) (odd_sign 53 s t 0 1074))
fields-stand s (suc x) t = go (eqb (suc x) 2047) (eqb t 0)
  where
    go : (e z : Bool) → Stands (cond e (cond z (inf s) Ieee.nan) (odd 53 s (2 ^ 52 + t) x 1074)) (cond e (cond z (infinite s) nan) (finite s ((2 ^ 52 + t) * 2 ^ x)))
    go true true = refl
    go true false = refl
    go false z = value-stands (odd 53 s (2 ^ 52 + t) x 1074) s ((2 ^ 52 + t) * 2 ^ x) (odd_sign 53 s (2 ^ 52 + t) x 1074)

-- The float of some bits stands for their point,
pub bits-stand : (b : ℕ) → Stands (of_bits binary64 b) (point_of b)
unfolding of_bits point_of size_of
bits-stand b = fields-stand (leb (2 ^ 63) b) (b % 2 ^ 63 / 2 ^ 52) (b % 2 ^ 52)

-- and a float for the point of its bits.
pub float-stands : (x : Float) → T (fits binary64 x) → Stands x (point_of (to_bits binary64 x))
float-stands x f = subst (λ (y : Float). Stands y (point_of (to_bits binary64 x))) (of_bits-to_bits binary64 x f) (bits-stand (to_bits binary64 x))
