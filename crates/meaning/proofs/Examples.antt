-- The worked examples P1 to P8, over the bytes of their tables: reading is included. x is the name 0, y 1, i 2 and r 3. Assumes nothing.
use mathlib.Core.Path.{refl}
use mathlib.Core.List.{List, [], ◌∷◌}
use mathlib.Core.Bool.{true, false}
use lib.IntN.{pos}
use Rattle.meaning.specs.Errors.{Steps}
use Rattle.meaning.specs.Rows.{Row, Hold, gives, fails, exhausts}
use Rattle.meaning.proofs.Sample.{row, counts, ample, number, truth, elements, True, Int, Below, Name, Not, NotStrictlyFalse, Or, And, Equals, Plus, Over, Rem, ListOf, Fold}
use Rattle.meaning.proofs.Compute.{compute}

-- the examples, and the one that a program prints
unfoldable pub examples : List Row
examples =
    -- P1: true || x
    row (Or True (Name 0)) [] [] ample
    (gives (truth true) (counts 2 0 0) [] [])
    -- P2: x || true
    ∷ row (Or (Name 0) True) [] [] ample
    (gives (truth true) (counts 3 0 0) [] [])
    -- P3: P2 with 2 steps lent
    ∷ row (Or (Name 0) True) [] [] (counts 2 4096 16384)
    (exhausts Steps (counts 2 0 0))
    -- P4: x || y
    ∷ row (Or (Name 0) (Name 1)) [] [] ample
    (fails 1 8 (counts 3 0 0))
    -- P5: -2 ^ 63 % -1
    ∷ row (Rem (Below 9223372036854775807) (Below 0)) [] [] ample
    (fails 6 0 (counts 3 0 0))
    -- P5: -2 ^ 63 % 0
    ∷ row (Rem (Below 9223372036854775807) (Int 0)) [] [] ample
    (fails 8 0 (counts 3 0 0))
    -- P6: [0, 2].all(i, 4 / i == 3)
    ∷ row (Fold 3 2 (ListOf (Int 0 ∷ Int 2 ∷ [])) True (NotStrictlyFalse (Name 3)) (And (Name 3) (Equals (Over (Int 4) (Name 2)) (Int 3))) (Name 3)) [] [] ample
    (gives (truth false) (counts 24 2 0) (number (pos 0) ∷ number (pos 2) ∷ []) [])
    -- P6: [0, 2].all(i, 4 / i == 2)
    ∷ row (Fold 3 2 (ListOf (Int 0 ∷ Int 2 ∷ [])) True (NotStrictlyFalse (Name 3)) (And (Name 3) (Equals (Over (Int 4) (Name 2)) (Int 2))) (Name 3)) [] [] ample
    (fails 7 56 (counts 23 2 0))
    -- P7: [1, 2] == [1, 3]
    ∷ row (Equals (ListOf (Int 1 ∷ Int 2 ∷ [])) (ListOf (Int 1 ∷ Int 3 ∷ []))) [] [] ample
    (gives (truth false) (counts 10 4 0) (number (pos 1) ∷ number (pos 2) ∷ number (pos 1) ∷ number (pos 3) ∷ []) [])
    -- P8: over [7], from [], while true, r + [r], r
    ∷ row (Fold 3 2 (ListOf (Int 7 ∷ [])) (ListOf []) True (Plus (Name 3) (ListOf (Name 3 ∷ []))) (Name 3)) [] [] ample
    (fails 1 43 (counts 7 2 0))
    -- P8: the same from [0]
    ∷ row (Fold 3 2 (ListOf (Int 7 ∷ [])) (ListOf (Int 0 ∷ [])) True (Plus (Name 3) (ListOf (Name 3 ∷ []))) (Name 3)) [] [] ample
    (gives (elements (number (pos 0) ∷ elements (number (pos 0) ∷ []) ∷ [])) (counts 11 5 0) (number (pos 0) ∷ number (pos 7) ∷ elements (number (pos 0) ∷ []) ∷ number (pos 0) ∷ elements (number (pos 0) ∷ []) ∷ []) [])
    -- `ask`: !true
    ∷ row (Not True) [] [] ample
    (gives (truth false) (counts 2 0 0) [] [])
    ∷ []

-- Every example answers what it should, with its counts and what the rooms hold.
pub examples-hold : Hold examples
unfolding compute examples
examples-hold = refl
