-- Bools compared, and what becomes of a Bool that is known. Assumes nothing.
use mathlib.Core.Path.{◌≡◌, refl}
use mathlib.Core.Bool.{Bool, true, false, not, beq}

pub same_true : (b : Bool) → beq b true ≡ b
same_true true = refl
same_true false = refl

pub same_false : (b : Bool) → beq b false ≡ not b
same_false true = refl
same_false false = refl
