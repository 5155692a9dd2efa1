-- Comprehensions and limits: what each row shows is said above it. x is the name 0, y 1, i 2, the accumulator 3. Assumes nothing.
use mathlib.Core.Path.{refl}
use mathlib.Core.List.{List, [], ◌∷◌}
use mathlib.Core.Bool.{true}
use lib.IntN.{pos}
use Rattle.meaning.specs.Errors.{Steps, Cells, Text, Nesting}
use Rattle.meaning.specs.Rows.{Row, Hold, gives, fails, exhausts}
use Rattle.meaning.proofs.Sample.{row, nested, counts, ample, number, truth, elements, True, False, Int, String, Name, Not, NotStrictlyFalse, Or, And, Equals, Differs, OptIndex, Plus, Minus, Over, More, If, ListOf, MapOf, Fold, Size, Some}
use Rattle.meaning.proofs.Compute.{compute}

-- comprehensions, then exhaustion
unfoldable pub loops : List Row
loops =
    -- the condition sees the item before: over [1, 2] while i != 1
    row (Fold 3 2 (ListOf (Int 1 ∷ Int 2 ∷ [])) (Int 0) (Differs (Name 2) (Int 1)) (Plus (Name 3) (Int 1)) (Name 3)) [] ((2, (number (pos 0))) ∷ []) ample
    (gives (number (pos 1)) (counts 17 2 0) (number (pos 1) ∷ number (pos 2) ∷ []) [])
    -- over an empty range no condition is begun
    ∷ row (Fold 3 2 (ListOf []) (Int 5) (Name 0) (Name 0) (Name 3)) [] [] ample
    (gives (number (pos 5)) (counts 4 0 0) [] [])
    -- a range that cannot be iterated over
    ∷ row (Fold 3 2 (Int 1) (Int 5) True (Name 3) (Name 3)) [] [] ample
    (fails 13 0 (counts 3 0 0))
    -- init comes before the range
    ∷ row (Fold 3 2 (Name 0) (Name 1) True (Name 3) (Name 3)) [] [] ample
    (fails 1 9 (counts 2 0 0))
    -- a pending error outlives a Bool that decides nothing: [0, 1].all(i, 1 / i > 0)
    ∷ row (Fold 3 2 (ListOf (Int 0 ∷ Int 1 ∷ [])) True (NotStrictlyFalse (Name 3)) (And (Name 3) (More (Over (Int 1) (Name 2)) (Int 0))) (Name 3)) [] [] ample
    (fails 7 56 (counts 22 2 0))
    -- a later true clears it: [0, 1].exists(i, 1 / i == 1)
    ∷ row (Fold 3 2 (ListOf (Int 0 ∷ Int 1 ∷ [])) False (NotStrictlyFalse (Not (Name 3))) (Or (Name 3) (Equals (Over (Int 1) (Name 2)) (Int 1))) (Name 3)) [] [] ample
    (gives (truth true) (counts 26 2 0) (number (pos 0) ∷ number (pos 1) ∷ []) [])
    -- the newest error is the pending one: 3 for the first item, 7 for the second
    ∷ row (Fold 3 2 (ListOf (Int 0 ∷ Int 1 ∷ [])) True True (And (Name 3) (Over (Int 1) (Minus (Int 1) (Name 2)))) (Name 3)) [] [] ample
    (fails 7 48 (counts 21 2 0))
    -- a condition that fails while an error is pending
    ∷ row (Fold 3 2 (ListOf (Int 0 ∷ Int 1 ∷ [])) True (If (Equals (Name 2) (Int 0)) (Int 1) True) (And (Name 3) (Over (Int 1) (Name 2))) (Name 3)) [] ((2, (number (pos 5))) ∷ []) ample
    (fails 2 0 (counts 22 2 0))
    -- item and accumulator under one name: the item, then the step's value
    ∷ row (Fold 2 2 (ListOf (Int 7 ∷ [])) (Int 0) True (Plus (Name 2) (Int 1)) (Name 2)) [] [] ample
    (gives (number (pos 8)) (counts 9 1 0) (number (pos 7) ∷ []) [])
    -- [1, 2].map(i, i): the append path
    ∷ row (Fold 3 2 (ListOf (Int 1 ∷ Int 2 ∷ [])) (ListOf []) True (Plus (Name 3) (ListOf (Name 2 ∷ []))) (Name 3)) [] [] ample
    (gives (elements (number (pos 1) ∷ number (pos 2) ∷ [])) (counts 11 8 0) (number (pos 1) ∷ number (pos 2) ∷ number (pos 1) ∷ number (pos 1) ∷ number (pos 2) ∷ number (pos 2) ∷ number (pos 1) ∷ number (pos 2) ∷ []) [])
    -- [1, 2].filter(i, i > 1): its guard
    ∷ row (Fold 3 2 (ListOf (Int 1 ∷ Int 2 ∷ [])) (ListOf []) True (If (More (Name 2) (Int 1)) (Plus (Name 3) (ListOf (Name 2 ∷ []))) (Name 3)) (Name 3)) [] [] ample
    (gives (elements (number (pos 2) ∷ [])) (counts 15 5 0) (number (pos 1) ∷ number (pos 2) ∷ number (pos 2) ∷ number (pos 2) ∷ number (pos 2) ∷ []) [])
    -- a guard that is no Bool
    ∷ row (Fold 3 2 (ListOf (Int 1 ∷ [])) (ListOf []) True (If (Name 2) (Plus (Name 3) (ListOf (Name 2 ∷ []))) (Name 3)) (Name 3)) [] [] ample
    (fails 2 0 (counts 6 1 0))
    -- an outer value under the accumulator's name shows through the append path
    ∷ row (Fold 3 2 (ListOf (Int 1 ∷ [])) (ListOf []) True (Plus (Name 3) (ListOf (Name 3 ∷ []))) (Name 3)) [] ((3, (number (pos 9))) ∷ []) ample
    (gives (elements (number (pos 9) ∷ [])) (counts 7 4 0) (number (pos 1) ∷ number (pos 9) ∷ number (pos 9) ∷ number (pos 9) ∷ []) [])
    -- a literal condition that is no Bool
    ∷ row (Fold 3 2 (ListOf (Int 1 ∷ [])) (Int 0) (Int 1) (Name 3) (Name 3)) [] [] ample
    (fails 2 0 (counts 5 1 0))
    -- one step lent, two to make
    ∷ row (ListOf (True ∷ [])) [] [] (counts 1 4096 16384)
    (exhausts Steps (counts 1 1 0))
    -- cells come after the step and before the parts
    ∷ row (ListOf (True ∷ [])) [] [] (counts 1000000 0 16384)
    (exhausts Cells (counts 1 0 0))
    -- text: none of it where not all fits
    ∷ row (Plus (String 0 2) (String 2 1)) (97 ∷ 98 ∷ 99 ∷ []) [] (counts 1000000 4096 2)
    (exhausts Text (counts 3 0 0))
    -- cells come before nesting
    ∷ row (Some (Name 4)) [] ((4, (nested 32 (number (pos 1)))) ∷ []) (counts 1000000 0 16384)
    (exhausts Cells (counts 2 0 0))
    -- nesting above 32
    ∷ row (Some (Name 4)) [] ((4, (nested 32 (number (pos 1)))) ∷ []) ample
    (exhausts Nesting (counts 2 1 0))
    -- exhaustion is no error to `||`
    ∷ row (Or (ListOf (True ∷ [])) True) [] [] (counts 1000000 0 16384)
    (exhausts Cells (counts 2 0 0))
    -- nor to an optional index
    ∷ row (OptIndex (MapOf (String 0 1 ∷ Int 1 ∷ [])) (String 1 1)) (97 ∷ 98 ∷ []) [] (counts 5 4096 16384)
    (exhausts Steps (counts 5 2 0))
    -- over a Map, its keys: {5: 6}.map(i, i)
    ∷ row (Fold 3 2 (MapOf (Int 5 ∷ Int 6 ∷ [])) (ListOf []) True (Plus (Name 3) (ListOf (Name 2 ∷ []))) (Name 3)) [] [] ample
    (gives (elements (number (pos 5) ∷ [])) (counts 8 5 0) (number (pos 5) ∷ number (pos 6) ∷ number (pos 5) ∷ number (pos 5) ∷ number (pos 5) ∷ []) [])
    -- a false condition ends the loop, and a pending error is the answer
    ∷ row (Fold 3 2 (ListOf (Int 0 ∷ Int 1 ∷ [])) True (Equals (Name 2) (Int 5)) (And (Name 3) (Over (Int 1) (Name 2))) (Name 3)) [] ((2, (number (pos 5))) ∷ []) ample
    (fails 7 63 (counts 18 2 0))
    -- the result sees the last item
    ∷ row (Fold 3 2 (ListOf (Int 1 ∷ Int 2 ∷ [])) (Int 0) True (Name 3) (Name 2)) [] [] ample
    (gives (number (pos 2)) (counts 10 2 0) (number (pos 1) ∷ number (pos 2) ∷ []) [])
    -- afterwards the outer scope is back: [over [1] .., i]
    ∷ row (ListOf (Fold 3 2 (ListOf (Int 1 ∷ [])) (Int 0) True (Name 2) (Name 3) ∷ Name 2 ∷ [])) [] ((2, (number (pos 9))) ∷ []) ample
    (gives (elements (number (pos 1) ∷ number (pos 9) ∷ [])) (counts 9 3 0) (number (pos 1) ∷ number (pos 9) ∷ number (pos 1) ∷ []) [])
    -- a step that fails outside a fold ends the loop
    ∷ row (Fold 3 2 (ListOf (Int 1 ∷ Int 2 ∷ [])) (Int 0) True (Plus (Name 0) (Name 3)) (Name 3)) [] [] ample
    (fails 1 51 (counts 8 2 0))
    -- the accumulator on the right is no fold
    ∷ row (Fold 3 2 (ListOf (Int 0 ∷ Int 1 ∷ [])) True True (And (Equals (Over (Int 1) (Name 2)) (Int 1)) (Name 3)) (Name 3)) [] [] ample
    (fails 7 48 (counts 12 2 0))
    -- a guard without the accumulator behind it is no append
    ∷ row (Fold 3 2 (ListOf (Int 1 ∷ [])) (ListOf []) True (If True (Plus (Name 3) (ListOf (Name 2 ∷ []))) (ListOf [])) (Name 3)) [] [] ample
    (gives (elements (number (pos 1) ∷ [])) (counts 12 3 0) (number (pos 1) ∷ number (pos 1) ∷ number (pos 1) ∷ []) [])
    -- a result that is not the accumulator is no append
    ∷ row (Fold 3 2 (ListOf (Int 1 ∷ [])) (ListOf []) True (Plus (Name 3) (ListOf (Name 2 ∷ []))) (Size (Name 3))) [] [] ample
    (gives (number (pos 1)) (counts 11 3 0) (number (pos 1) ∷ number (pos 1) ∷ number (pos 1) ∷ []) [])
    -- a condition that is no literal is no append
    ∷ row (Fold 3 2 (ListOf (Int 1 ∷ [])) (ListOf []) (NotStrictlyFalse True) (Plus (Name 3) (ListOf (Name 2 ∷ []))) (Name 3)) [] [] ample
    (gives (elements (number (pos 1) ∷ [])) (counts 11 3 0) (number (pos 1) ∷ number (pos 1) ∷ number (pos 1) ∷ []) [])
    -- an empty list by another spelling takes the append path
    ∷ row (Fold 3 2 (ListOf (Int 7 ∷ [])) (Plus (ListOf []) (ListOf [])) True (Plus (Name 3) (ListOf (Name 3 ∷ []))) (Name 3)) [] [] ample
    (fails 1 52 (counts 9 2 0))
    -- the gathered cells come at once: all or none
    ∷ row (Fold 3 2 (ListOf (Int 1 ∷ [])) (ListOf []) True (Plus (Name 3) (ListOf (Name 2 ∷ Name 2 ∷ []))) (Name 3)) [] [] (counts 1000000 4 16384)
    (exhausts Cells (counts 8 3 0))
    -- and the result's at the end
    ∷ row (Fold 3 2 (ListOf (Int 1 ∷ [])) (ListOf []) True (Plus (Name 3) (ListOf (Name 2 ∷ []))) (Name 3)) [] [] (counts 1000000 3 16384)
    (exhausts Cells (counts 7 3 0))
    -- bindings do not count
    ∷ row (Name 4) [] ((4, (elements (number (pos 1) ∷ number (pos 2) ∷ []))) ∷ []) (counts 1 0 0)
    (gives (elements (number (pos 1) ∷ number (pos 2) ∷ [])) (counts 1 0 0) [] [])
    -- an unbound name
    ∷ row (Name 0) [] [] ample
    (fails 1 0 (counts 1 0 0))
    ∷ []

-- Each is as it is said, with its counts and what the rooms hold.
pub loops-hold : Hold loops
unfolding compute loops
loops-hold = refl
