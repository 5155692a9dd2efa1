-- The keys of a Map where they lie: an entry is two cells, its key and its value.
use Rattle.std.specs.Prelude.{ℕ, zero, suc, List, [], Bool, true, false, not, ◌&&◌, ◌||◌}
use Rattle.rooms.specs.declared.value.Value.{Value}
use Rattle.rooms.specs.Value.{plain_of, is_key}
use Rattle.rooms.specs.Cells.{cell_in}
use Rattle.rooms_comparison.specs.Seen.{seen_of, same_seen}

module _ (words text : List ℕ) where
  -- an Int and a Uint of one number match, as in every look-up; of a span that leaves the room the part inside is compared
  unfoldable pub match : Value → Value → Bool
  match v w = same_seen (seen_of [] text [] (plain_of v)) (seen_of [] text [] (plain_of w))

  -- one of n keys from cell a on matches
  unfoldable pub repeated_in : Value → (a n : ℕ) → Bool
  repeated_in v a zero = false
  repeated_in v a (suc n) = match v (cell_in words a) || repeated_in v (suc (suc a)) n

  -- n entries from cell a on have keys, and none matches one behind it
  unfoldable pub keys_fit : (a n : ℕ) → Bool
  keys_fit a zero = true
  keys_fit a (suc n) = is_key (cell_in words a) && (not (repeated_in (cell_in words a) (suc (suc a)) n) && keys_fit (suc (suc a)) n)
