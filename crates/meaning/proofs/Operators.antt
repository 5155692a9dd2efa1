-- Arithmetic, comparison, equality, look-ups: a row for each clause. Assumes nothing.
use mathlib.Core.Path.{refl}
use mathlib.Core.List.{List, [], ◌∷◌}
use mathlib.Core.Bool.{true, false}
use lib.IntN.{pos, negsuc}
use Rattle.meaning.specs.Value.{uint, double, string, bytes, scalar}
use Rattle.meaning.specs.Rows.{Row, Hold, gives, fails}
use Rattle.meaning.proofs.Sample.{row, counts, ample, number, truth, elements, Null, True, False, Int, Below, Uint, Double, String, Bytes, Not, Negate, Equals, Differs, Index, Plus, Minus, Over, Times, Rem, Less, AtMost, More, AtLeast, In, ListOf, MapOf, Some, None}
use Rattle.meaning.proofs.Compute.{compute}

-- operators
unfoldable pub operators : List Row
operators =
    -- 1 <= 1
    row (AtMost (Int 1) (Int 1)) [] [] ample
    (gives (truth true) (counts 3 0 0) [] [])
    -- 2 <= 1
    ∷ row (AtMost (Int 2) (Int 1)) [] [] ample
    (gives (truth false) (counts 3 0 0) [] [])
    -- 1 < 2
    ∷ row (Less (Int 1) (Int 2)) [] [] ample
    (gives (truth true) (counts 3 0 0) [] [])
    -- 2 > 1
    ∷ row (More (Int 2) (Int 1)) [] [] ample
    (gives (truth true) (counts 3 0 0) [] [])
    -- 1 >= 2
    ∷ row (AtLeast (Int 1) (Int 2)) [] [] ample
    (gives (truth false) (counts 3 0 0) [] [])
    -- 1 >= 1u
    ∷ row (AtLeast (Int 1) (Uint 1)) [] [] ample
    (gives (truth true) (counts 3 0 0) [] [])
    -- false < true
    ∷ row (Less False True) [] [] ample
    (gives (truth true) (counts 3 0 0) [] [])
    -- null < null has no order
    ∷ row (Less Null Null) [] [] ample
    (fails 3 0 (counts 3 0 0))
    -- 'a' < 'ab'
    ∷ row (Less (String 0 1) (String 1 2)) (97 ∷ 97 ∷ 98 ∷ []) [] ample
    (gives (truth true) (counts 3 0 0) [] [])
    -- b'b' < b'ab'
    ∷ row (Less (Bytes 0 1) (Bytes 1 2)) (98 ∷ 97 ∷ 98 ∷ []) [] ample
    (gives (truth false) (counts 3 0 0) [] [])
    -- [] < []
    ∷ row (Less (ListOf []) (ListOf [])) [] [] ample
    (fails 3 0 (counts 3 0 0))
    -- 3 * 4
    ∷ row (Times (Int 3) (Int 4)) [] [] ample
    (gives (number (pos 12)) (counts 3 0 0) [] [])
    -- 3u + 4u
    ∷ row (Plus (Uint 3) (Uint 4)) [] [] ample
    (gives (scalar (uint 7)) (counts 3 0 0) [] [])
    -- 3u - 4u
    ∷ row (Minus (Uint 3) (Uint 4)) [] [] ample
    (fails 6 0 (counts 3 0 0))
    -- 7 - 9
    ∷ row (Minus (Int 7) (Int 9)) [] [] ample
    (gives (number (negsuc 1)) (counts 3 0 0) [] [])
    -- -7 / 2 rounds toward zero
    ∷ row (Over (Below 6) (Int 2)) [] [] ample
    (gives (number (negsuc 2)) (counts 3 0 0) [] [])
    -- -7 % 2 has the dividend's sign
    ∷ row (Rem (Below 6) (Int 2)) [] [] ample
    (gives (number (negsuc 0)) (counts 3 0 0) [] [])
    -- 7u % 2u
    ∷ row (Rem (Uint 7) (Uint 2)) [] [] ample
    (gives (scalar (uint 1)) (counts 3 0 0) [] [])
    -- 1.5 + 0.25
    ∷ row (Plus (Double 0x3ff8000000000000) (Double 0x3fd0000000000000)) [] [] ample
    (gives (scalar (double 0x3ffc000000000000)) (counts 3 0 0) [] [])
    -- 1.5 - 0.25
    ∷ row (Minus (Double 0x3ff8000000000000) (Double 0x3fd0000000000000)) [] [] ample
    (gives (scalar (double 0x3ff4000000000000)) (counts 3 0 0) [] [])
    -- 1.5 * 2.0
    ∷ row (Times (Double 0x3ff8000000000000) (Double 0x4000000000000000)) [] [] ample
    (gives (scalar (double 0x4008000000000000)) (counts 3 0 0) [] [])
    -- 1.0 / 0.0
    ∷ row (Over (Double 0x3ff0000000000000) (Double 0x0000000000000000)) [] [] ample
    (gives (scalar (double 0x7ff0000000000000)) (counts 3 0 0) [] [])
    -- 1.0 % 1.0: there is none
    ∷ row (Rem (Double 0x3ff0000000000000) (Double 0x3ff0000000000000)) [] [] ample
    (fails 3 0 (counts 3 0 0))
    -- 1 + 1u: unlike kinds
    ∷ row (Plus (Int 1) (Uint 1)) [] [] ample
    (fails 3 0 (counts 3 0 0))
    -- -(5)
    ∷ row (Negate (Int 5)) [] [] ample
    (gives (number (negsuc 4)) (counts 2 0 0) [] [])
    -- -(1.5)
    ∷ row (Negate (Double 0x3ff8000000000000)) [] [] ample
    (gives (scalar (double 0xbff8000000000000)) (counts 2 0 0) [] [])
    -- -(1u): there is none
    ∷ row (Negate (Uint 1)) [] [] ample
    (fails 3 0 (counts 2 0 0))
    -- !1
    ∷ row (Not (Int 1)) [] [] ample
    (fails 3 0 (counts 2 0 0))
    -- 'ab' + 'c'
    ∷ row (Plus (String 0 2) (String 2 1)) (97 ∷ 98 ∷ 99 ∷ []) [] ample
    (gives (scalar (string (97 ∷ 98 ∷ 99 ∷ []))) (counts 3 0 3) [] (97 ∷ 98 ∷ 99 ∷ []))
    -- b'ab' + b'c'
    ∷ row (Plus (Bytes 0 2) (Bytes 2 1)) (97 ∷ 98 ∷ 99 ∷ []) [] ample
    (gives (scalar (bytes (97 ∷ 98 ∷ 99 ∷ []))) (counts 3 0 3) [] (97 ∷ 98 ∷ 99 ∷ []))
    -- 'a' - 'a'
    ∷ row (Minus (String 0 1) (String 0 1)) (97 ∷ []) [] ample
    (fails 3 0 (counts 3 0 0))
    -- 'a' + b'a'
    ∷ row (Plus (String 0 1) (Bytes 0 1)) (97 ∷ []) [] ample
    (fails 3 0 (counts 3 0 0))
    -- [1] + [2]
    ∷ row (Plus (ListOf (Int 1 ∷ [])) (ListOf (Int 2 ∷ []))) [] [] ample
    (gives (elements (number (pos 1) ∷ number (pos 2) ∷ [])) (counts 5 4 0) (number (pos 1) ∷ number (pos 2) ∷ number (pos 1) ∷ number (pos 2) ∷ []) [])
    -- [1] + []: the whole result is charged
    ∷ row (Plus (ListOf (Int 1 ∷ [])) (ListOf [])) [] [] ample
    (gives (elements (number (pos 1) ∷ [])) (counts 4 2 0) (number (pos 1) ∷ number (pos 1) ∷ []) [])
    -- [] + {}
    ∷ row (Plus (ListOf []) (MapOf [])) [] [] ample
    (fails 3 0 (counts 3 0 0))
    -- null == null
    ∷ row (Equals Null Null) [] [] ample
    (gives (truth true) (counts 4 0 0) [] [])
    -- 1 == true: unlike kinds
    ∷ row (Equals (Int 1) True) [] [] ample
    (gives (truth false) (counts 4 0 0) [] [])
    -- 1 != 2
    ∷ row (Differs (Int 1) (Int 2)) [] [] ample
    (gives (truth true) (counts 4 0 0) [] [])
    -- optional.of(1) == optional.of(2)
    ∷ row (Equals (Some (Int 1)) (Some (Int 2))) [] [] ample
    (gives (truth false) (counts 7 2 0) (number (pos 1) ∷ number (pos 2) ∷ []) [])
    -- optional.none() == optional.none()
    ∷ row (Equals None None) [] [] ample
    (gives (truth true) (counts 4 0 0) [] [])
    -- {1: 2, 3: 4} == {3: 4, 1u: 2}: in any order
    ∷ row (Equals (MapOf (Int 1 ∷ Int 2 ∷ Int 3 ∷ Int 4 ∷ [])) (MapOf (Int 3 ∷ Int 4 ∷ Uint 1 ∷ Int 2 ∷ []))) [] [] ample
    (gives (truth true) (counts 19 8 0) (number (pos 1) ∷ number (pos 2) ∷ number (pos 3) ∷ number (pos 4) ∷ number (pos 3) ∷ number (pos 4) ∷ scalar (uint 1) ∷ number (pos 2) ∷ []) [])
    -- [1] in [[1, 2], [1]]: the pairs that decide
    ∷ row (In (ListOf (Int 1 ∷ [])) (ListOf (ListOf (Int 1 ∷ Int 2 ∷ []) ∷ ListOf (Int 1 ∷ []) ∷ []))) [] [] ample
    (gives (truth true) (counts 12 6 0) (number (pos 1) ∷ elements (number (pos 1) ∷ number (pos 2) ∷ []) ∷ elements (number (pos 1) ∷ []) ∷ number (pos 1) ∷ number (pos 2) ∷ number (pos 1) ∷ []) [])
    -- {1: 5}[1u]
    ∷ row (Index (MapOf (Int 1 ∷ Int 5 ∷ [])) (Uint 1)) [] [] ample
    (gives (number (pos 5)) (counts 6 2 0) (number (pos 1) ∷ number (pos 5) ∷ []) [])
    -- {1: 5}[2]
    ∷ row (Index (MapOf (Int 1 ∷ Int 5 ∷ [])) (Int 2)) [] [] ample
    (fails 5 0 (counts 6 2 0))
    -- {1: 5}[null]
    ∷ row (Index (MapOf (Int 1 ∷ Int 5 ∷ [])) Null) [] [] ample
    (fails 3 0 (counts 5 2 0))
    -- 2u in {1: 5, 2: 6}
    ∷ row (In (Uint 2) (MapOf (Int 1 ∷ Int 5 ∷ Int 2 ∷ Int 6 ∷ []))) [] [] ample
    (gives (truth true) (counts 10 4 0) (number (pos 1) ∷ number (pos 5) ∷ number (pos 2) ∷ number (pos 6) ∷ []) [])
    -- 1 in 1
    ∷ row (In (Int 1) (Int 1)) [] [] ample
    (fails 3 0 (counts 3 0 0))
    -- [7][0u]
    ∷ row (Index (ListOf (Int 7 ∷ [])) (Uint 0)) [] [] ample
    (gives (number (pos 7)) (counts 4 1 0) (number (pos 7) ∷ []) [])
    -- [7][true]
    ∷ row (Index (ListOf (Int 7 ∷ [])) True) [] [] ample
    (fails 3 0 (counts 4 1 0))
    -- 1[0]
    ∷ row (Index (Int 1) (Int 0)) [] [] ample
    (fails 3 0 (counts 3 0 0))
    ∷ []

-- Each operator gives what it should on values of each kind, with its counts and what the rooms hold.
pub operators-hold : Hold operators
unfolding compute operators
operators-hold = refl
