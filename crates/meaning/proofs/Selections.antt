-- Selection, Optionals, calls, marks, logic: a row for each clause. x is the name 0, y 1. Assumes nothing.
use mathlib.Core.Path.{refl}
use mathlib.Core.List.{List, [], ◌∷◌}
use mathlib.Core.Bool.{true, false}
use lib.IntN.{pos}
use Rattle.meaning.specs.Value.{string, int_key, scalar, map, optional_none, optional_of, empty, entry, string_key}
use Rattle.meaning.specs.Rows.{Row, Hold, gives, fails}
use Rattle.meaning.proofs.Sample.{row, counts, ample, number, truth, elements, True, False, Int, String, Bytes, Name, NotStrictlyFalse, Or, And, Index, OptIndex, OptSelect, If, Select, Has, ListOf, MapOf, Mark, Size, Some, None, HasValue, ValueOf, OrValue}
use Rattle.meaning.proofs.Compute.{compute}

-- selections and calls
unfoldable pub selections : List Row
selections =
    -- {'a': 5}.a
    row (Select (MapOf (String 0 1 ∷ Int 5 ∷ [])) 0 1) (97 ∷ []) [] ample
    (gives (number (pos 5)) (counts 5 2 0) (scalar (string (97 ∷ [])) ∷ number (pos 5) ∷ []) [])
    -- has({'a': 5}.a)
    ∷ row (Has (MapOf (String 0 1 ∷ Int 5 ∷ [])) 0 1) (97 ∷ []) [] ample
    (gives (truth true) (counts 5 2 0) (scalar (string (97 ∷ [])) ∷ number (pos 5) ∷ []) [])
    -- has({}.a)
    ∷ row (Has (MapOf []) 0 1) (97 ∷ []) [] ample
    (gives (truth false) (counts 2 0 0) [] [])
    -- [].a
    ∷ row (Select (ListOf []) 0 1) (97 ∷ []) [] ample
    (fails 3 0 (counts 2 0 0))
    -- 1.a
    ∷ row (Select (Int 1) 0 1) (97 ∷ []) [] ample
    (fails 3 0 (counts 2 0 0))
    -- optional.none().a
    ∷ row (Select None 0 1) (97 ∷ []) [] ample
    (gives optional_none (counts 2 0 0) [] [])
    -- optional.of({'a': 5}).a
    ∷ row (Select (Some (MapOf (String 0 1 ∷ Int 5 ∷ []))) 0 1) (97 ∷ []) [] ample
    (gives (optional_of (number (pos 5))) (counts 6 4 0) (scalar (string (97 ∷ [])) ∷ number (pos 5) ∷ map (entry (string_key (97 ∷ [])) (number (pos 5)) empty) ∷ number (pos 5) ∷ []) [])
    -- optional.of({}).a
    ∷ row (Select (Some (MapOf [])) 0 1) (97 ∷ []) [] ample
    (gives optional_none (counts 3 1 0) (map empty ∷ []) [])
    -- has(optional.of({'a': 5}).a)
    ∷ row (Has (Some (MapOf (String 0 1 ∷ Int 5 ∷ []))) 0 1) (97 ∷ []) [] ample
    (gives (truth true) (counts 6 3 0) (scalar (string (97 ∷ [])) ∷ number (pos 5) ∷ map (entry (string_key (97 ∷ [])) (number (pos 5)) empty) ∷ []) [])
    -- optional.of([1]).a: looked up in a List, none
    ∷ row (Select (Some (ListOf (Int 1 ∷ []))) 0 1) (97 ∷ []) [] ample
    (gives optional_none (counts 4 2 0) (number (pos 1) ∷ elements (number (pos 1) ∷ []) ∷ []) [])
    -- optional.of(1).a
    ∷ row (Select (Some (Int 1)) 0 1) (97 ∷ []) [] ample
    (fails 5 0 (counts 3 1 0))
    -- optional.of([7])[0]
    ∷ row (Index (Some (ListOf (Int 7 ∷ []))) (Int 0)) [] [] ample
    (gives (optional_of (number (pos 7))) (counts 5 3 0) (number (pos 7) ∷ elements (number (pos 7) ∷ []) ∷ number (pos 7) ∷ []) [])
    -- [7][?0]
    ∷ row (OptIndex (ListOf (Int 7 ∷ [])) (Int 0)) [] [] ample
    (gives (optional_of (number (pos 7))) (counts 4 2 0) (number (pos 7) ∷ number (pos 7) ∷ []) [])
    -- optional.none()[?x]
    ∷ row (OptIndex None (Name 0)) [] [] ample
    (gives optional_none (counts 2 0 0) [] [])
    -- {'a': 5}.?a
    ∷ row (OptSelect (MapOf (String 0 1 ∷ Int 5 ∷ [])) (String 0 1)) (97 ∷ []) [] ample
    (gives (optional_of (number (pos 5))) (counts 6 3 0) (scalar (string (97 ∷ [])) ∷ number (pos 5) ∷ number (pos 5) ∷ []) [])
    -- optional.of({'a': 5}).?a
    ∷ row (OptSelect (Some (MapOf (String 0 1 ∷ Int 5 ∷ []))) (String 0 1)) (97 ∷ []) [] ample
    (gives (optional_of (number (pos 5))) (counts 7 4 0) (scalar (string (97 ∷ [])) ∷ number (pos 5) ∷ map (entry (string_key (97 ∷ [])) (number (pos 5)) empty) ∷ number (pos 5) ∷ []) [])
    -- optional.none().?a: both operands are evaluated
    ∷ row (OptSelect None (Name 0)) [] [] ample
    (fails 1 8 (counts 3 0 0))
    -- {}.?(1): the field is no String
    ∷ row (OptSelect (MapOf []) (Int 1)) [] [] ample
    (fails 4 0 (counts 3 0 0))
    -- 1.?a
    ∷ row (OptSelect (Int 1) (String 0 1)) (97 ∷ []) [] ample
    (gives optional_none (counts 3 0 0) [] [])
    -- optional.of(1).hasValue()
    ∷ row (HasValue (Some (Int 1))) [] [] ample
    (gives (truth true) (counts 3 1 0) (number (pos 1) ∷ []) [])
    -- optional.none().hasValue()
    ∷ row (HasValue None) [] [] ample
    (gives (truth false) (counts 2 0 0) [] [])
    -- 1.hasValue()
    ∷ row (HasValue (Int 1)) [] [] ample
    (fails 3 0 (counts 2 0 0))
    -- optional.of(1).value()
    ∷ row (ValueOf (Some (Int 1))) [] [] ample
    (gives (number (pos 1)) (counts 3 1 0) (number (pos 1) ∷ []) [])
    -- 1.value()
    ∷ row (ValueOf (Int 1)) [] [] ample
    (fails 3 0 (counts 2 0 0))
    -- optional.of(1).orValue(2)
    ∷ row (OrValue (Some (Int 1)) (Int 2)) [] [] ample
    (gives (number (pos 1)) (counts 4 1 0) (number (pos 1) ∷ []) [])
    -- optional.none().orValue(2)
    ∷ row (OrValue None (Int 2)) [] [] ample
    (gives (number (pos 2)) (counts 3 0 0) [] [])
    -- 1.orValue(2)
    ∷ row (OrValue (Int 1) (Int 2)) [] [] ample
    (fails 3 0 (counts 3 0 0))
    -- size of Bytes
    ∷ row (Size (Bytes 0 2)) (195 ∷ 169 ∷ []) [] ample
    (gives (number (pos 2)) (counts 2 0 0) [] [])
    -- size of a List
    ∷ row (Size (ListOf (Int 1 ∷ Int 2 ∷ []))) [] [] ample
    (gives (number (pos 2)) (counts 4 2 0) (number (pos 1) ∷ number (pos 2) ∷ []) [])
    -- size of a Map
    ∷ row (Size (MapOf (Int 1 ∷ Int 2 ∷ []))) [] [] ample
    (gives (number (pos 1)) (counts 4 2 0) (number (pos 1) ∷ number (pos 2) ∷ []) [])
    -- size of 1
    ∷ row (Size (Int 1)) [] [] ample
    (fails 3 0 (counts 2 0 0))
    -- [?optional.of(5), ?6]: present gives its part, another value itself
    ∷ row (ListOf (Mark (Some (Int 5)) ∷ Mark (Int 6) ∷ [])) [] [] ample
    (gives (elements (number (pos 5) ∷ number (pos 6) ∷ [])) (counts 4 3 0) (number (pos 5) ∷ number (pos 6) ∷ number (pos 5) ∷ []) [])
    -- {1: ?optional.of(5)}
    ∷ row (MapOf (Int 1 ∷ Mark (Some (Int 5)) ∷ [])) [] [] ample
    (gives (map (entry (int_key (pos 1)) (number (pos 5)) empty)) (counts 4 3 0) (number (pos 1) ∷ number (pos 5) ∷ number (pos 5) ∷ []) [])
    -- true && false
    ∷ row (And True False) [] [] ample
    (gives (truth false) (counts 3 0 0) [] [])
    -- false && x: the right is not begun
    ∷ row (And False (Name 0)) [] [] ample
    (gives (truth false) (counts 2 0 0) [] [])
    -- x && false
    ∷ row (And (Name 0) False) [] [] ample
    (gives (truth false) (counts 3 0 0) [] [])
    -- true || x || y: the outer right is not begun
    ∷ row (Or (Or True (Name 0)) (Name 1)) [] [] ample
    (gives (truth true) (counts 3 0 0) [] [])
    -- not-strictly-false of false
    ∷ row (NotStrictlyFalse False) [] [] ample
    (gives (truth false) (counts 2 0 0) [] [])
    -- true ? 1 : x
    ∷ row (If True (Int 1) (Name 0)) [] [] ample
    (gives (number (pos 1)) (counts 3 0 0) [] [])
    -- false ? x : 2
    ∷ row (If False (Name 0) (Int 2)) [] [] ample
    (gives (number (pos 2)) (counts 3 0 0) [] [])
    ∷ []

-- Each gives what it should, with its counts and what the rooms hold.
pub selections-hold : Hold selections
unfolding compute selections
selections-hold = refl
