-- Equality of values where they lie, as the code does it: with a count of pairs that stops at a limit.
-- In order: two values with their parts; `in` a list; the charge of several pairs.
use Rattle.std.specs.Prelude.{ℕ, zero, suc, Bool, true, false, cond, ltb, eqb}
use Rattle.meaning.specs.Comparison.{Tally}
use Rattle.rooms.specs.declared.value.Value.{Value}
use Rattle.rooms.specs.declared.value.Parts.{Parts}
use Rattle.rooms.specs.declared.value.CellSpace.{CellSpace}
use Rattle.rooms_comparison.specs.declared.pairs.Pairs.{Pairs}
use Rattle.rooms_comparison.specs.declared.lookup.Found.{Found}
use Rattle.rooms.specs.Value.{parts_of, nesting_of}
use Rattle.rooms.specs.Rooms.{Rooms, cell_at}
use Rattle.rooms_comparison.specs.Seen.{same_seen, seen_in}
use Rattle.rooms_comparison.specs.LookUp.{pair_found, find_in}

-- ---- values with their parts

abbrev pub pair : Bool → ℕ → Pairs → Pairs
pair true k p = p
pair false k p = Pairs.Out k

abbrev pub decided : Bool → ℕ → Pairs
decided true k = Pairs.Same k
decided false k = Pairs.Unlike k

-- what follows where the pair so far is equal
abbrev pub and_then : Pairs → (ℕ → Pairs) → Pairs
and_then (Pairs.Same k) f = f k
and_then (Pairs.Unlike k) f = Pairs.Unlike k
and_then (Pairs.Out k) f = Pairs.Out k

abbrev pub where_found : Found → (ℕ → ℕ → Pairs) → Pairs
where_found (Found.At c k) f = f c k
where_found (Found.Missing k) f = Pairs.Unlike k
where_found (Found.Out k) f = Pairs.Out k

-- how two parts are compared
abbrev pub Compare : Type 0
Compare = Value → Value → ℕ → Pairs

-- n elements from cells a and b on
unfoldable pub elements_equal : Compare → Rooms → CellSpace → ℕ → CellSpace → ℕ → (n k : ℕ) → Pairs
elements_equal f r s a t b zero k = Pairs.Same k
elements_equal f r s a t b (suc n) k = and_then (f (cell_at r s a) (cell_at r t b) k) (λ j. elements_equal f r s (suc a) t (suc b) n j)

-- each of n entries from cell a on is looked up among the m from cell b on, then the values are compared
unfoldable pub entries_equal : Compare → ℕ → Rooms → CellSpace → ℕ → CellSpace → ℕ → (m n k : ℕ) → Pairs
entries_equal f limit r s a t b m zero k = Pairs.Same k
entries_equal f limit r s a t b m (suc n) k =
    where_found (find_in limit r (cell_at r s a) t b m k)
    (λ c j. and_then (f (cell_at r s (suc a)) (cell_at r t c) j) (λ i. entries_equal f limit r s (suc (suc a)) t b m n i))

abbrev pub elements_against : Compare → Rooms → CellSpace → ℕ → ℕ → Parts → ℕ → Pairs
elements_against f r s a n (Parts.Elements ro) k = cond (eqb n ro.length) (elements_equal f r s a ro.space ro.first n k) (Pairs.Unlike k)
elements_against f r s a n (Parts.Entries ro) k = Pairs.Unlike k
elements_against f r s a n (Parts.Present t b) k = Pairs.Unlike k
elements_against f r s a n Parts.Nothing k = Pairs.Unlike k

abbrev pub entries_against : Compare → ℕ → Rooms → CellSpace → ℕ → ℕ → Parts → ℕ → Pairs
entries_against f limit r s a n (Parts.Elements ro) k = Pairs.Unlike k
entries_against f limit r s a n (Parts.Entries ro) k = cond (eqb n ro.length) (entries_equal f limit r s a ro.space ro.first ro.length n k) (Pairs.Unlike k)
entries_against f limit r s a n (Parts.Present t b) k = Pairs.Unlike k
entries_against f limit r s a n Parts.Nothing k = Pairs.Unlike k

abbrev pub present_against : Compare → Rooms → CellSpace → ℕ → Parts → ℕ → Pairs
present_against f r s a (Parts.Elements ro) k = Pairs.Unlike k
present_against f r s a (Parts.Entries ro) k = Pairs.Unlike k
present_against f r s a (Parts.Present t b) k = f (cell_at r s a) (cell_at r t b) k
present_against f r s a Parts.Nothing k = Pairs.Unlike k

-- by what the left value is made of
abbrev pub parts_equal : Compare → ℕ → Rooms → Value → Value → Parts → ℕ → Pairs
parts_equal f limit r x y (Parts.Elements ro) k = elements_against f r ro.space ro.first ro.length (parts_of y) k
parts_equal f limit r x y (Parts.Entries ro) k = entries_against f limit r ro.space ro.first ro.length (parts_of y) k
parts_equal f limit r x y (Parts.Present s a) k = present_against f r s a (parts_of y) k
parts_equal f limit r x y Parts.Nothing k = decided (same_seen (seen_in r x) (seen_in r y)) k

-- One pair, and the pairs inside it. The left value's nesting is below the depth, so for values that stand the depth is never used up
unfoldable pub equal_in : (depth limit : ℕ) → Rooms → Value → Value → ℕ → Pairs
equal_in zero limit r x y k = Pairs.Unlike k
equal_in (suc n) limit r x y k = pair (ltb k limit) k (parts_equal (λ v w j. equal_in n limit r v w j) limit r x y (parts_of x) (suc k))

unfoldable pub equal_pairs : ℕ → Rooms → Value → Value → ℕ → Pairs
equal_pairs limit r x y k = equal_in (suc (nesting_of x)) limit r x y k

-- ---- `in` a list

-- what follows where the pair so far is not equal
abbrev pub or_else : Pairs → (ℕ → Pairs) → Pairs
or_else (Pairs.Same k) f = Pairs.Same k
or_else (Pairs.Unlike k) f = f k
or_else (Pairs.Out k) f = Pairs.Out k

-- up to the first of n elements from cell a on that is equal
unfoldable pub among_in : ℕ → Rooms → Value → CellSpace → (a n k : ℕ) → Pairs
among_in limit r x space a zero k = Pairs.Unlike k
among_in limit r x space a (suc n) k = or_else (equal_pairs limit r x (cell_at r space a) k) (λ j. among_in limit r x space (suc a) n j)

-- ---- what a count of pairs comes to, from k on and under a limit

-- n pairs are charged, the first at count k; then f gives the result
abbrev pub pays : (limit k n : ℕ) → (ℕ → Pairs) → Pairs
pays limit k zero f = f k
pays limit k (suc n) f = pair (ltb k limit) k (pays limit (suc k) n f)

unfoldable pub paid : (limit k : ℕ) → Tally Bool → Pairs
paid limit k t = pays limit k t.0 (decided t.1)

abbrev pub pays_found : (limit k n : ℕ) → (ℕ → Found) → Found
pays_found limit k zero f = f k
pays_found limit k (suc n) f = pair_found (ltb k limit) k (pays_found limit (suc k) n f)
