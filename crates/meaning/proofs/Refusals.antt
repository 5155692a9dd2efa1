-- Tables that are refused, and some that nearly are: the number and the place. Assumes nothing.
use mathlib.Core.Path.{refl}
use mathlib.Core.List.{List, [], ◌∷◌}
use mathlib.Core.Bool.{false}
use lib.ListN.{replicate}
use Rattle.meaning.specs.Value.{string, bytes, scalar}
use Rattle.meaning.specs.Rows.{Row, Hold, gives, refuses}
use Rattle.meaning.proofs.Sample.{row, wrapped, MarkedList, counts, ample, truth, Null, True, Not}
use Rattle.meaning.proofs.Compute.{compute}

-- tables by their bytes
unfoldable pub refusals : List Row
refusals =
    -- no table at all
    row [] [] [] ample
    (refuses 1 0)
    -- a byte too many, before anything is read; one fewer
    ∷ row (replicate 16385 0) [] [] ample
    (refuses 1 0)
    ∷ row (replicate 16384 0) [] [] ample
    (refuses 3 0)
    -- an operand behind its parent's end, of an unknown kind
    ∷ row (8 ∷ 4 ∷ 0 ∷ 1 ∷ 255 ∷ []) [] [] ample
    (refuses 2 4)
    -- an operand behind its parent's end, of a known kind
    ∷ row (8 ∷ 4 ∷ 0 ∷ 1 ∷ 0 ∷ []) [] [] ample
    (refuses 3 4)
    -- an operand at the table's end
    ∷ row (8 ∷ 4 ∷ 0 ∷ 1 ∷ []) [] [] ample
    (refuses 3 4)
    -- an extent smaller than the head
    ∷ row (8 ∷ 3 ∷ 0 ∷ 1 ∷ 1 ∷ 4 ∷ 0 ∷ 1 ∷ []) [] [] ample
    (refuses 3 0)
    -- a second operand that cannot fit is missed where it would begin
    ∷ row (9 ∷ 7 ∷ 0 ∷ 1 ∷ 0 ∷ 3 ∷ 0 ∷ []) [] [] ample
    (refuses 3 7)
    -- an extent larger than the sum of the parts
    ∷ row (8 ∷ 8 ∷ 0 ∷ 1 ∷ 0 ∷ 3 ∷ 0 ∷ 0 ∷ []) [] [] ample
    (refuses 3 0)
    -- a fault in an operand comes before that
    ∷ row (8 ∷ 9 ∷ 0 ∷ 1 ∷ 1 ∷ 4 ∷ 0 ∷ 5 ∷ 0 ∷ []) [] [] ample
    (refuses 5 4)
    -- an unknown function
    ∷ row (16 ∷ 5 ∷ 0 ∷ 7 ∷ 0 ∷ []) [] [] ample
    (refuses 5 0)
    -- an empty span behind the text's end
    ∷ row (5 ∷ 7 ∷ 0 ∷ 1 ∷ 0 ∷ 0 ∷ 0 ∷ []) [] [] ample
    (refuses 5 0)
    -- an empty span at the text's end
    ∷ row (5 ∷ 7 ∷ 0 ∷ 1 ∷ 0 ∷ 0 ∷ 0 ∷ []) (97 ∷ []) [] ample
    (gives (scalar (string [])) (counts 1 0 0) [] [])
    -- a name above 127
    ∷ row (7 ∷ 4 ∷ 0 ∷ 128 ∷ []) [] [] ample
    (refuses 5 0)
    -- a mark as the root
    ∷ row (14 ∷ 6 ∷ 0 ∷ 0 ∷ 3 ∷ 0 ∷ []) [] [] ample
    (refuses 6 0)
    -- a mark as a map's key
    ∷ row (13 ∷ 14 ∷ 0 ∷ 1 ∷ 0 ∷ 14 ∷ 6 ∷ 0 ∷ 0 ∷ 3 ∷ 0 ∷ 0 ∷ 3 ∷ 0 ∷ []) [] [] ample
    (refuses 6 5)
    -- a String that is not UTF-8
    ∷ row (5 ∷ 7 ∷ 0 ∷ 0 ∷ 0 ∷ 1 ∷ 0 ∷ []) (255 ∷ []) [] ample
    (refuses 5 0)
    -- Bytes that are not UTF-8
    ∷ row (6 ∷ 7 ∷ 0 ∷ 0 ∷ 0 ∷ 1 ∷ 0 ∷ []) (255 ∷ []) [] ample
    (gives (scalar (bytes (255 ∷ []))) (counts 1 0 0) [] [])
    -- a byte after the root
    ∷ row (0 ∷ 3 ∷ 0 ∷ 0 ∷ []) [] [] ample
    (refuses 7 3)
    -- 64 records inside one another
    ∷ row (wrapped 63 Not True) [] [] ample
    (gives (truth false) (counts 64 0 0) [] [])
    -- 65 are one too many
    ∷ row (wrapped 64 Not True) [] [] ample
    (refuses 4 256)
    -- a wrong extent comes before nesting
    ∷ row (wrapped 64 Not (16 ∷ 5 ∷ 0 ∷ 3 ∷ 0 ∷ [])) [] [] ample
    (refuses 3 256)
    -- .. an empty List's and an empty Map's own too
    ∷ row (wrapped 64 Not (12 ∷ 6 ∷ 0 ∷ 0 ∷ 0 ∷ 0 ∷ [])) [] [] ample
    (refuses 3 256)
    ∷ row (wrapped 64 Not (13 ∷ 6 ∷ 0 ∷ 0 ∷ 0 ∷ 0 ∷ [])) [] [] ample
    (refuses 3 256)
    -- nesting comes before a wrong field
    ∷ row (wrapped 64 Not (1 ∷ 4 ∷ 0 ∷ 2 ∷ [])) [] [] ample
    (refuses 4 256)
    -- .. and before a misplaced mark
    ∷ row (wrapped 64 Not (14 ∷ 6 ∷ 0 ∷ 0 ∷ 3 ∷ 0 ∷ [])) [] [] ample
    (refuses 4 256)
    -- marks count as records: 32 lists of a mark and a Null
    ∷ row (wrapped 32 MarkedList Null) [] [] ample
    (refuses 4 256)
    -- a kind above 16
    ∷ row (17 ∷ 3 ∷ 0 ∷ []) [] [] ample
    (refuses 2 0)
    -- a Bool that is neither
    ∷ row (1 ∷ 4 ∷ 0 ∷ 2 ∷ []) [] [] ample
    (refuses 5 0)
    -- an unknown unary
    ∷ row (8 ∷ 7 ∷ 0 ∷ 4 ∷ 0 ∷ 3 ∷ 0 ∷ []) [] [] ample
    (refuses 5 0)
    -- an unknown binary
    ∷ row (9 ∷ 10 ∷ 0 ∷ 18 ∷ 0 ∷ 3 ∷ 0 ∷ 0 ∷ 3 ∷ 0 ∷ []) [] [] ample
    (refuses 5 0)
    -- operators and functions are numbered from 1
    ∷ row (8 ∷ 7 ∷ 0 ∷ 0 ∷ 0 ∷ 3 ∷ 0 ∷ []) [] [] ample
    (refuses 5 0)
    ∷ row (9 ∷ 10 ∷ 0 ∷ 0 ∷ 0 ∷ 3 ∷ 0 ∷ 0 ∷ 3 ∷ 0 ∷ []) [] [] ample
    (refuses 5 0)
    ∷ row (16 ∷ 7 ∷ 0 ∷ 0 ∷ 0 ∷ 3 ∷ 0 ∷ []) [] [] ample
    (refuses 5 0)
    -- a test that is neither
    ∷ row (11 ∷ 11 ∷ 0 ∷ 2 ∷ 0 ∷ 0 ∷ 0 ∷ 0 ∷ 0 ∷ 3 ∷ 0 ∷ []) [] [] ample
    (refuses 5 0)
    -- a field that is not UTF-8
    ∷ row (11 ∷ 11 ∷ 0 ∷ 0 ∷ 0 ∷ 0 ∷ 1 ∷ 0 ∷ 0 ∷ 3 ∷ 0 ∷ []) (128 ∷ []) [] ample
    (refuses 5 0)
    -- a span over the text's end
    ∷ row (6 ∷ 7 ∷ 0 ∷ 0 ∷ 0 ∷ 2 ∷ 0 ∷ []) (97 ∷ []) [] ample
    (refuses 5 0)
    -- an accumulator above 127
    ∷ row (15 ∷ 20 ∷ 0 ∷ 128 ∷ 0 ∷ 0 ∷ 3 ∷ 0 ∷ 0 ∷ 3 ∷ 0 ∷ 0 ∷ 3 ∷ 0 ∷ 0 ∷ 3 ∷ 0 ∷ 0 ∷ 3 ∷ 0 ∷ []) [] [] ample
    (refuses 5 0)
    -- an item above 127
    ∷ row (15 ∷ 20 ∷ 0 ∷ 0 ∷ 128 ∷ 0 ∷ 3 ∷ 0 ∷ 0 ∷ 3 ∷ 0 ∷ 0 ∷ 3 ∷ 0 ∷ 0 ∷ 3 ∷ 0 ∷ 0 ∷ 3 ∷ 0 ∷ []) [] [] ample
    (refuses 5 0)
    -- a second element that is missing
    ∷ row (12 ∷ 8 ∷ 0 ∷ 2 ∷ 0 ∷ 0 ∷ 3 ∷ 0 ∷ []) [] [] ample
    (refuses 3 8)
    -- a record that leaves its parent
    ∷ row (8 ∷ 7 ∷ 0 ∷ 1 ∷ 0 ∷ 4 ∷ 0 ∷ []) [] [] ample
    (refuses 3 4)
    ∷ []

-- Each is refused for the reason and at the place that the order of the tests gives, or read.
pub refusals-hold : Hold refusals
unfolding compute refusals
refusals-hold = refl
