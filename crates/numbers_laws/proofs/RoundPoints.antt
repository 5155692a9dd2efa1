-- lib.Ieee's `round` is the rounding of specs/Rounding.antt. Assumes nothing.
use mathlib.Core.Path.{◌≡◌, refl, sym, subst}
use mathlib.Core.Bool.{Bool, true, false, cond}
use Prim.Native.Nat.{ℕ, ◌*◌, ◌^◌, ◌<◌}
use lib.Dec.{ltb}
use lib.Ieee.{Float, inf, binary64, odd, units, round}
use lib.Ieee.Exact.{odd_sign}
use lib.Ieee.Fits.{round_is}
use lib.Ieee.Order.{drop, kept}
use Rattle.numbers.specs.Double.{Point, infinite, finite}
use Rattle.numbers_laws.specs.Rounding.{or_infinite, Rounded}
use Rattle.numbers_laws.proofs.Nearest.{kept-nearest}
use Rattle.numbers_laws.proofs.NearestScale.{nearest-same}
use Rattle.numbers_laws.proofs.Stands.{Stands, stands_one, value-stands}

-- the unit, by a name
abbrev pub U : ℕ
U = 2 ^ 1074

units-stand : (s : Bool) (q k : ℕ) → Stands (units binary64 s q k) (or_infinite s (q * 2 ^ k))
unfolding units
units-stand s q k = go (ltb (q * 2 ^ k) (2 ^ 2098))
  where
    go : (t : Bool) → Stands (cond t (odd 54 s q k 1074) (inf s)) (cond t (finite s (q * 2 ^ k)) (infinite s))
    go true = value-stands (odd 54 s q k 1074) s (q * 2 ^ k) (odd_sign 54 s q k 1074)
    go false = refl

-- `round` of num / den is ± n / d units rounded, where the two are one number
pub round-points : (s : Bool) (num den n d : ℕ) → 0 < den → 0 < d → num * U * d ≡ n * den → (r : Point) → Stands (round binary64 s num den) r → Rounded s n d r
round-points s num den n d D E same r h =
    let g = kept 53 (num * U) den * 2 ^ drop 53 (num * U) den in
    record {
      size = g;
      nearest = nearest-same (num * U) den n d D E same g (kept-nearest (num * U) den D);
      point = stands_one (round binary64 s num den) r (or_infinite s g) h (subst (λ (x : Float). Stands x (or_infinite s g)) (sym (round_is binary64 s num den)) (units-stand s (kept 53 (num * U) den) (drop 53 (num * U) den)));
    }
