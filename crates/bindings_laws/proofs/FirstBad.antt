-- The first bad cell is bad, and every cell before it is good. Assumes nothing.
use Prim.Native.Nat.{ℕ, zero, suc, ◌+◌, ◌≤◌, ◌<◌}
use mathlib.Core.Path.{◌≡◌, refl, subst}
use mathlib.Core.List.{List}
use mathlib.Core.Bool.{Bool, true, false, cond}
use native.Mathlib.Omega.{arith}
use lib.Dec.{eqb}
use borrow.Author.Tests.{eqb-true, eqb-false}
use Rattle.std.specs.Prelude.{Option, Some}
use Rattle.bindings_sound.specs.Sound.{cell_fits, first_bad}

module _ (w t : List ℕ) (used bytes : ℕ) where
  abbrev Fit : ℕ → Bool
  Fit i = cell_fits w t used bytes i

  abbrev Bad : ℕ → ℕ → Option ℕ
  Bad i n = first_bad w t used bytes i n

  -- of n cells from i on, the one at p
  pub record First (i n p : ℕ) : Type 0 where
    pub inside : p < i + n
    pub bad : Fit p ≡ false
    pub before : (j : ℕ) → i ≤ j → j < p → Fit j ≡ true

  pub first-bad : (i n p : ℕ) → Bad i n ≡ Some p → First i n p
  unfolding first_bad
  first-bad i zero p e = cc
  first-bad i (suc n) p e = by-cell (Fit i) refl e (first-bad (suc i) n p)
    where
      earlier : Fit i ≡ true → First (suc i) n p → (j : ℕ) → i ≤ j → j < p → (d : Bool) → eqb i j ≡ d → Fit j ≡ true
      earlier good rest j h k true f = subst (λ (x : ℕ). Fit x ≡ true) (eqb-true i j f) good
      earlier good rest j h k false f = rest.before j (omega (arith, eqb-false i j f)) k

      by-cell : (c : Bool) → Fit i ≡ c → cond c (Bad (suc i) n) (Some i) ≡ Some p → (Bad (suc i) n ≡ Some p → First (suc i) n p) → First i (suc n) p
      by-cell true good l rest =
          let r = rest l in record { inside = omega (arith, r.inside); bad = r.bad; before = λ j h k. earlier good r j h k (eqb i j) refl }
      by-cell false wrong l rest =
          let same : i ≡ p = cc in
          record { inside = omega (arith, same); bad = rw same at wrong; before = λ j h k. absurd (omega (arith, same, h, k)) }
