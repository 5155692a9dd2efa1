-- Bindings: what is brought in, what is refused and in which order, and what the room holds then. Assumes nothing.
use mathlib.Core.Path.{refl}
use mathlib.Core.List.{List, [], ◌∷◌}
use lib.IntN.{pos}
use Rattle.meaning.specs.Value.{double, string, bytes, string_key, scalar, map, empty, entry}
use Rattle.meaning.proofs.Sample.{BindingRow, binding, HoldBindings, brings, empties, emptied, brought, declined, number, elements, nested, wrapped, Null, Int, Uint, Double, String, Bytes, Name, ListOf, MapOf, Mark}
use Rattle.meaning.proofs.Compute.{compute}

-- bindings brought in, refused and emptied
unfoldable pub bringing : List BindingRow
bringing =
    -- a Map with a List and text: bits and the order of entries are kept
    binding 4096 16384 (brings 5 (MapOf (String 0 1 ∷ ListOf (Int 1 ∷ Double 0xfff8000000000001 ∷ []) ∷ String 1 1 ∷ Bytes 2 1 ∷ [])) (98 ∷ 97 ∷ 255 ∷ []) ∷ [])
    (brought ∷ []) ((5, (map (entry (string_key (98 ∷ [])) (elements (number (pos 1) ∷ scalar (double 0xfff8000000000001) ∷ [])) (entry (string_key (97 ∷ [])) (scalar (bytes (255 ∷ []))) empty)))) ∷ []) 6 3
    -- two names, each keeps its value
    ∷ binding 4096 16384 (brings 0 (Int 7) [] ∷ brings 127 (String 0 2) (97 ∷ 98 ∷ []) ∷ [])
    (brought ∷ brought ∷ []) ((127, (scalar (string (97 ∷ 98 ∷ [])))) ∷ (0, (number (pos 7))) ∷ []) 0 2
    -- a name above 127
    ∷ binding 4096 16384 (brings 128 (Int 7) [] ∷ [])
    (declined 5 0 ∷ []) [] 0 0
    -- a name that is bound
    ∷ binding 4096 16384 (brings 5 (Int 7) [] ∷ brings 5 (Int 8) [] ∷ [])
    (brought ∷ declined 11 0 ∷ []) ((5, (number (pos 7))) ∷ []) 0 0
    -- bound comes before a fault of the table
    ∷ binding 4096 16384 (brings 5 (Int 7) [] ∷ brings 5 (255 ∷ []) [] ∷ [])
    (brought ∷ declined 11 0 ∷ []) ((5, (number (pos 7))) ∷ []) 0 0
    -- a fault of the table, with its place
    ∷ binding 4096 16384 (brings 5 (8 ∷ 4 ∷ 0 ∷ 1 ∷ 255 ∷ []) [] ∷ [])
    (declined 2 4 ∷ []) [] 0 0
    -- a name is no literal
    ∷ binding 4096 16384 (brings 5 (ListOf (Int 1 ∷ Name 0 ∷ [])) [] ∷ [])
    (declined 9 16 ∷ []) [] 0 0
    -- nor is a marked element
    ∷ binding 4096 16384 (brings 5 (ListOf (Mark (Int 1) ∷ [])) [] ∷ [])
    (declined 9 5 ∷ []) [] 0 0
    -- another kind comes before a wrong key
    ∷ binding 4096 16384 (brings 5 (MapOf (Null ∷ Int 1 ∷ Int 1 ∷ Name 0 ∷ [])) [] ∷ [])
    (declined 9 30 ∷ []) [] 0 0
    -- a key of a wrong kind
    ∷ binding 4096 16384 (brings 5 (MapOf (Int 1 ∷ Int 1 ∷ Null ∷ Int 1 ∷ [])) [] ∷ [])
    (declined 8 27 ∷ []) [] 0 0
    -- a later key that matches, Int and Uint too
    ∷ binding 4096 16384 (brings 5 (MapOf (Int 1 ∷ Int 1 ∷ Uint 1 ∷ Int 2 ∷ [])) [] ∷ [])
    (declined 8 27 ∷ []) [] 0 0
    -- nesting 32
    ∷ binding 4096 16384 (brings 5 (wrapped 32 (λ e. ListOf (e ∷ [])) (Int 1)) [] ∷ [])
    (brought ∷ []) ((5, (nested 32 (number (pos 1)))) ∷ []) 32 0
    -- nesting 33
    ∷ binding 4096 16384 (brings 5 (wrapped 33 (λ e. ListOf (e ∷ [])) (Int 1)) [] ∷ [])
    (declined 8 0 ∷ []) [] 0 0
    -- no cells left: nothing is taken
    ∷ binding 3 16384 (brings 5 (ListOf (Int 1 ∷ Int 2 ∷ [])) [] ∷ brings 6 (ListOf (Int 1 ∷ Int 2 ∷ [])) [] ∷ brings 7 (ListOf (Int 3 ∷ [])) [] ∷ [])
    (brought ∷ declined 10 0 ∷ brought ∷ []) ((7, (elements (number (pos 3) ∷ []))) ∷ (5, (elements (number (pos 1) ∷ number (pos 2) ∷ []))) ∷ []) 3 0
    -- no bytes left
    ∷ binding 4096 2 (brings 5 (String 0 2) (97 ∷ 98 ∷ []) ∷ brings 6 (String 0 1) (99 ∷ []) ∷ brings 7 (String 0 0) [] ∷ [])
    (brought ∷ declined 10 0 ∷ brought ∷ []) ((7, (scalar (string []))) ∷ (5, (scalar (string (97 ∷ 98 ∷ [])))) ∷ []) 0 2
    -- emptied, all of it serves again
    ∷ binding 2 0 (brings 5 (ListOf (Int 1 ∷ Int 2 ∷ [])) [] ∷ brings 6 (ListOf (Int 3 ∷ [])) [] ∷ empties ∷ brings 5 (ListOf (Int 3 ∷ Int 4 ∷ [])) [] ∷ [])
    (brought ∷ declined 10 0 ∷ emptied ∷ brought ∷ []) ((5, (elements (number (pos 3) ∷ number (pos 4) ∷ []))) ∷ []) 2 0
    ∷ []

-- Each step is answered as it should be, and the room holds what its bindings spell.
pub bringing-hold : HoldBindings bringing
unfolding compute bringing
bringing-hold = refl
