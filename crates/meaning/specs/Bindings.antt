-- Bindings: rooms of them, bringing one in, and the scope that a room gives.
use Rattle.std.specs.Prelude.{ℕ, suc, ◌+◌, min, List, [], ◌∷◌, not, ◌&&◌, length, leb}
use Rattle.meaning.specs.Limits.{most_cells, most_bytes}
use Rattle.meaning.specs.declared.refusal.Reason.TheVariants.{WrongField, BindingRoomFull, NameBound}
use Rattle.meaning.specs.Value.{Scalar, null, bool, int, uint, double, string, bytes, key_scalar, Value, scalar, list, map, optional_none, optional_of, Values, nil, cons, Entries, empty, entry}
use Rattle.meaning.specs.Maps.{is_found}
use Rattle.meaning.specs.Containers.{cells_an_entry}
use Rattle.meaning.specs.Comprehension.{Scope, empty_scope, store}
use Rattle.meaning.specs.Kinds.{name_of}
use Rattle.meaning.specs.Heads.{Got, got, ◌>>=◌, ◌>>◌, demand, or_refuse, start}
use Rattle.meaning.specs.Table.{read_table}
use Rattle.meaning.specs.Spelling.{literal_of, spelled_root}

-- ---- what a value takes in a room: a cell for each element, key, entry's value and present Optional, and the bytes of its text

unfoldable pub text_bytes : Scalar → ℕ
text_bytes null = 0
text_bytes (bool b) = 0
text_bytes (int z) = 0
text_bytes (uint n) = 0
text_bytes (double d) = 0
text_bytes (string s) = length s
text_bytes (bytes s) = length s

unfoldable mutual
  pub cells_of : Value → ℕ
  cells_of (scalar x) = 0
  cells_of (list vs) = cells_in vs
  cells_of (map es) = cells_over es
  cells_of optional_none = 0
  cells_of (optional_of v) = suc (cells_of v)

  pub cells_in : Values → ℕ
  cells_in nil = 0
  cells_in (cons v vs) = suc (cells_of v + cells_in vs)

  pub cells_over : Entries → ℕ
  cells_over empty = 0
  cells_over (entry k v es) = cells_an_entry + cells_of v + cells_over es

unfoldable mutual
  pub bytes_of : Value → ℕ
  bytes_of (scalar x) = text_bytes x
  bytes_of (list vs) = bytes_in vs
  bytes_of (map es) = bytes_over es
  bytes_of optional_none = 0
  bytes_of (optional_of v) = bytes_of v

  pub bytes_in : Values → ℕ
  bytes_in nil = 0
  bytes_in (cons v vs) = bytes_of v + bytes_in vs

  pub bytes_over : Entries → ℕ
  bytes_over empty = 0
  bytes_over (entry k v es) = text_bytes (key_scalar k) + bytes_of v + bytes_over es

-- ---- binding rooms

-- the names that are bound, and how much of the lent memory they use
pub record BindingRoom : Type 0 where
  pub bound : List (ℕ × Value)
  pub used_cells : ℕ
  pub used_bytes : ℕ

-- a fresh room, and any room when it is emptied
abbrev pub empty_room : BindingRoom
empty_room = record { bound = []; used_cells = 0; used_bytes = 0 }

unfoldable pub bound_in : List (ℕ × Value) → Scope
bound_in [] = empty_scope
bound_in (b ∷ bs) = store (bound_in bs) b.0 b.1

unfoldable pub scope_of : BindingRoom → Scope
scope_of room = bound_in room.bound

-- bringing in a binding, into a room of lent_cells cells and lent_bytes bytes
unfoldable pub bring : (lent_cells lent_bytes : ℕ) → BindingRoom → (number : ℕ) → (table text : List ℕ) → Got BindingRoom
bring lent_cells lent_bytes room number table text = do
  n ← or_refuse WrongField start (name_of number)
  demand (not (is_found (scope_of room n))) NameBound start
  e ← read_table table text
  l ← literal_of e
  v ← spelled_root l
  let cells = room.used_cells + cells_of v
  let bytes = room.used_bytes + bytes_of v
  demand (leb cells (min lent_cells most_cells) && leb bytes (min lent_bytes most_bytes)) BindingRoomFull start
  got (record { bound = (n, v) ∷ room.bound; used_cells = cells; used_bytes = bytes })
