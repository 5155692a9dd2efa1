-- Corners of containers, comparison, look-ups, logic and calls: what each row shows is said above it. x is the name 0, y 1.
-- Assumes nothing.
use mathlib.Core.Path.{refl}
use mathlib.Core.List.{List, [], ◌∷◌}
use mathlib.Core.Bool.{true, false}
use lib.IntN.{pos}
use Rattle.meaning.specs.Value.{null, string, int_key, scalar, map, optional_none, optional_of, empty, entry}
use Rattle.meaning.specs.Rows.{Row, Hold, gives, fails}
use Rattle.meaning.proofs.Sample.{row, counts, ample, number, truth, elements, Null, True, False, Int, Below, Uint, Double, String, Name, NotStrictlyFalse, Or, Equals, Index, OptIndex, Less, In, If, Select, Has, ListOf, MapOf, Mark, Size, Some, None, ValueOf, OrValue}
use Rattle.meaning.proofs.Compute.{compute}

-- what is easily got wrong
unfoldable pub corners : List Row
corners =
    -- [true, x] || true: the part that was ready is kept
    row (Or (ListOf (True ∷ Name 0 ∷ [])) True) [] [] ample
    (gives (truth true) (counts 5 2 0) (truth true ∷ scalar null ∷ []) [])
    -- {1: true, 2: x} || true: an entry that was ready is kept
    ∷ row (Or (MapOf (Int 1 ∷ True ∷ Int 2 ∷ Name 0 ∷ [])) True) [] [] ample
    (gives (truth true) (counts 7 4 0) (number (pos 1) ∷ truth true ∷ scalar null ∷ scalar null ∷ []) [])
    -- [?optional.none(), 5]: what a mark drops leaves Null behind
    ∷ row (ListOf (Mark None ∷ Int 5 ∷ [])) [] [] ample
    (gives (elements (number (pos 5) ∷ [])) (counts 3 2 0) (number (pos 5) ∷ scalar null ∷ []) [])
    -- {1: 5, 1: ?optional.none()}: a marked none is not tested
    ∷ row (MapOf (Int 1 ∷ Int 5 ∷ Int 1 ∷ Mark None ∷ [])) [] [] ample
    (gives (map (entry (int_key (pos 1)) (number (pos 5)) empty)) (counts 5 4 0) (number (pos 1) ∷ number (pos 5) ∷ scalar null ∷ scalar null ∷ []) [])
    -- {1: 5, 1u: 6}: keys match across Int and Uint
    ∷ row (MapOf (Int 1 ∷ Int 5 ∷ Uint 1 ∷ Int 6 ∷ [])) [] [] ample
    (fails 9 0 (counts 6 4 0))
    -- {null: x}: the key's kind comes before the value
    ∷ row (MapOf (Null ∷ Name 0 ∷ [])) [] [] ample
    (fails 11 0 (counts 2 2 0))
    -- {'a': 1} == {'a': 1}: a pair of maps, a look-up, a pair of values
    ∷ row (Equals (MapOf (String 0 1 ∷ Int 1 ∷ [])) (MapOf (String 0 1 ∷ Int 1 ∷ []))) (97 ∷ []) [] ample
    (gives (truth true) (counts 10 4 0) (scalar (string (97 ∷ [])) ∷ number (pos 1) ∷ scalar (string (97 ∷ [])) ∷ number (pos 1) ∷ []) [])
    -- [1] == [1, 2]: lengths decide with one pair
    ∷ row (Equals (ListOf (Int 1 ∷ [])) (ListOf (Int 1 ∷ Int 2 ∷ []))) [] [] ample
    (gives (truth false) (counts 7 3 0) (number (pos 1) ∷ number (pos 1) ∷ number (pos 2) ∷ []) [])
    -- 1 == 1u
    ∷ row (Equals (Int 1) (Uint 1)) [] [] ample
    (gives (truth true) (counts 4 0 0) [] [])
    -- 2 ^ 53 + 1 == 2 ^ 53 as a Double
    ∷ row (Equals (Int 9007199254740993) (Double 0x4340000000000000)) [] [] ample
    (gives (truth false) (counts 4 0 0) [] [])
    -- NaN == NaN
    ∷ row (Equals (Double 0x7ff8000000000000) (Double 0x7ff8000000000000)) [] [] ample
    (gives (truth false) (counts 4 0 0) [] [])
    -- NaN < 1
    ∷ row (Less (Double 0x7ff8000000000000) (Int 1)) [] [] ample
    (fails 12 0 (counts 3 0 0))
    -- NaN < true
    ∷ row (Less (Double 0x7ff8000000000000) True) [] [] ample
    (fails 3 0 (counts 3 0 0))
    -- 1 in [2, 1, 3]: up to the first that is equal
    ∷ row (In (Int 1) (ListOf (Int 2 ∷ Int 1 ∷ Int 3 ∷ []))) [] [] ample
    (gives (truth true) (counts 8 3 0) (number (pos 2) ∷ number (pos 1) ∷ number (pos 3) ∷ []) [])
    -- 1.0 in {}: a Double is no key
    ∷ row (In (Double 0x3ff0000000000000) (MapOf [])) [] [] ample
    (fails 3 0 (counts 3 0 0))
    -- [7][-1]
    ∷ row (Index (ListOf (Int 7 ∷ [])) (Below 0)) [] [] ample
    (fails 10 0 (counts 4 1 0))
    -- optional.none()[x]: the index is not begun
    ∷ row (Index None (Name 0)) [] [] ample
    (gives optional_none (counts 2 0 0) [] [])
    -- [7][?3]: none for any error of the look-up
    ∷ row (OptIndex (ListOf (Int 7 ∷ [])) (Int 3)) [] [] ample
    (gives optional_none (counts 4 1 0) (number (pos 7) ∷ []) [])
    -- [7][?x]: an error inside the index stays
    ∷ row (OptIndex (ListOf (Int 7 ∷ [])) (Name 0)) [] [] ample
    (fails 1 20 (counts 4 1 0))
    -- optional.of(optional.of(1))[0]
    ∷ row (Index (Some (Some (Int 1))) (Int 0)) [] [] ample
    (gives optional_none (counts 5 2 0) (number (pos 1) ∷ optional_of (number (pos 1)) ∷ []) [])
    -- optional.of(optional.of(1)).a
    ∷ row (Select (Some (Some (Int 1))) 0 1) (97 ∷ []) [] ample
    (fails 5 0 (counts 4 2 0))
    -- has(optional.none().a)
    ∷ row (Has None 0 1) (97 ∷ []) [] ample
    (gives (truth false) (counts 2 0 0) [] [])
    -- {}.a
    ∷ row (Select (MapOf []) 0 1) (97 ∷ []) [] ample
    (fails 5 0 (counts 2 0 0))
    -- 1 || true: a left operand that is no Bool
    ∷ row (Or (Int 1) True) [] [] ample
    (gives (truth true) (counts 3 0 0) [] [])
    -- 1 || false
    ∷ row (Or (Int 1) False) [] [] ample
    (fails 3 0 (counts 3 0 0))
    -- (1 ? x : y) || false: a Bool wanted further down
    ∷ row (Or (If (Int 1) (Name 0) (Name 1)) False) [] [] ample
    (fails 3 0 (counts 4 0 0))
    -- false || 1
    ∷ row (Or False (Int 1)) [] [] ample
    (fails 3 0 (counts 3 0 0))
    -- 1 ? x : y
    ∷ row (If (Int 1) (Name 0) (Name 1)) [] [] ample
    (fails 2 0 (counts 2 0 0))
    -- not-strictly-false of an error
    ∷ row (NotStrictlyFalse (Name 0)) [] [] ample
    (gives (truth true) (counts 2 0 0) [] [])
    -- x.orValue(y): the default comes first
    ∷ row (OrValue (Name 0) (Name 1)) [] [] ample
    (fails 1 8 (counts 2 0 0))
    -- optional.none().value()
    ∷ row (ValueOf None) [] [] ample
    (fails 4 0 (counts 2 0 0))
    -- size of text counts code points
    ∷ row (Size (String 0 2)) (195 ∷ 169 ∷ []) [] ample
    (gives (number (pos 1)) (counts 2 0 0) [] [])
    ∷ []

-- Each corner is as it is said, with its counts and what the rooms hold.
pub corners-hold : Hold corners
unfolding compute corners
corners-hold = refl
