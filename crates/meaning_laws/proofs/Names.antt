-- The names of a part are among those of the whole. Assumes nothing.
use Prim.Native.Nat.{ℕ}
use mathlib.Core.Logic.{◌⊎◌, inl, inr}
use Rattle.meaning_laws.specs.Names.{Among}

-- the names of the first part, and of the others
pub first : {these those all : ℕ → Type 0} → Among (λ n. these n ⊎ those n) all → Among these all
first h n i = h n (inl i)

pub rest : {these those all : ℕ → Type 0} → Among (λ n. these n ⊎ those n) all → Among those all
rest h n i = h n (inr i)
