-- The look-up of a key among a map's entries, as the code does it: with a count of pairs that stops at a limit.
use Rattle.std.specs.Prelude.{ℕ, zero, suc, Bool, true, false, cond, ltb}
use Rattle.rooms.specs.declared.value.Value.{Value}
use Rattle.rooms.specs.declared.value.CellSpace.{CellSpace}
use Rattle.rooms.specs.Rooms.{Rooms, cell_at}
use Rattle.rooms_comparison.specs.declared.lookup.Found.{Found}
use Rattle.rooms_comparison.specs.Seen.{same_seen, seen_in}

-- a pair is charged
abbrev pub pair_found : Bool → ℕ → Found → Found
pair_found true k f = f
pair_found false k f = Found.Out k

-- of n entries from cell a on the first whose key is equal to x
unfoldable pub find_in : ℕ → Rooms → Value → CellSpace → (a n k : ℕ) → Found
find_in limit r x space a zero k = Found.Missing k
find_in limit r x space a (suc n) k =
    pair_found (ltb k limit) k
    (cond (same_seen (seen_in r x) (seen_in r (cell_at r space a))) (Found.At (suc a) (suc k)) (find_in limit r x space (suc (suc a)) n (suc k)))
