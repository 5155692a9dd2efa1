-- Operators and functions by their numbers: what holds of each that is listed, and where there is none, holds of every number.
-- Assumes nothing.
use Prim.Native.Nat.{ℕ, zero, suc}
use mathlib.Core.List.{List, [], ◌∷◌}
use Rattle.std.specs.Prelude.{Option, None, Some}
use Rattle.std.specs.Prelude.{slice_get}
use Rattle.meaning.specs.Kinds.{numbered}

module _ {A : Type 0} where
  abbrev pub Each : (ℕ → Option A → Type 0) → List A → Type 0
  Each P [] = Unit {0}
  Each P (a ∷ l) = P 0 (Some a) × Each (λ n. P (suc n)) l

  by_index : (P : ℕ → Option A → Type 0) (l : List A) → ((n : ℕ) → P n None) → Each P l → (n : ℕ) → P n (slice_get l n)
  by_index P [] none-holds each n = none-holds n
  by_index P (a ∷ l) none-holds each zero = each.0
  by_index P (a ∷ l) none-holds each (suc n) = by_index (λ m. P (suc m)) l (λ m. none-holds (suc m)) each.1 n

  pub by_number : (P : ℕ → Option A → Type 0) (l : List A) → ((n : ℕ) → P n None) → Each (λ n. P (suc n)) l → (n : ℕ) → P n (numbered l n)
  unfolding numbered
  by_number P l none-holds each zero = none-holds 0
  by_number P l none-holds each (suc n) = by_index (λ m. P (suc m)) l (λ m. none-holds (suc m)) each n
