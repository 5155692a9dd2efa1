-- What holds of each element of a list, and of what is read.
use Rattle.std.specs.Prelude.{List, [], ◌∷◌}
use Rattle.meaning.specs.Heads.{Got, got, refused}

-- of each element of a list
abbrev pub Each : {A : Type 0} → (A → Type 0) → List A → Type 0
Each P [] = Unit {0}
Each P (a ∷ rest) = P a × Each P rest

-- of what was read, if it was not refused
abbrev pub Only : {A : Type 0} → (A → Type 0) → Got A → Type 0
Only P (got a) = P a
Only P (refused r p) = Unit {0}

-- the same as a record, so that P can be inferred
pub record Reads {A : Type 0} (P : A → Type 0) (g : Got A) : Type 0 where
  pub only : Only P g
