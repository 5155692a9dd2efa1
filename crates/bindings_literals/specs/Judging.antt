-- What a table comes to as a binding, in the order in which it is judged: the first record that is no literal, List or Map; how deep it
-- nests; the first key that is none or that matches one before it; and how many cells and bytes it takes.
use Rattle.std.specs.Prelude.{ℕ, zero, suc, ◌+◌, ◌*◌, ◌≤◌, max, List, [], ◌∷◌, ◌++◌, Bool, false, not, ◌&&◌, ◌||◌, cond, Option, None, Some}
use Rattle.std.specs.Option.{option_or}
use Rattle.meaning.specs.Value.{Scalar, key_in}
use Rattle.meaning.specs.Comparison.{scalar_equal}
use Rattle.meaning.specs.Expr.{Expr, Elements, Pairs}
use Rattle.meaning.specs.Heads.{Got, got, refused}
use Rattle.meaning.specs.Table.{Part, bare, marked}
use Rattle.meaning.specs.Bindings.{text_bytes}
use Rattle.meaning.specs.Spelling.{Literal, scalar_at, list_at, map_at, Literals, no_literals, literals, LiteralPairs, no_literal_pairs, literal_pairs, literal_of, literals_of, literal_pairs_of, literal_nesting, literals_nesting, literal_pairs_nesting}
use Rattle.bindings_literals.specs.declared.judgement.Judged.{Judged}
use Rattle.bindings_literals.specs.Literals.{literal_in, literals_in, literal_pairs_in, literal_value, text_length}
use Rattle.table_check.specs.Fits.{is_some}
use Rattle.table_layout.specs.Layout.{after}
use Rattle.rooms.specs.declared.value.Value.{Value}
use Rattle.rooms.specs.Value.{plain_of}
use Rattle.rooms_comparison.specs.Seen.{seen_of, same_seen}
use Rattle.bindings_sound.specs.Fits.{is_absent}

abbrev pub fault_in : {A : Type 0} → Got A → Option ℕ
fault_in (got a) = None
fault_in (refused r p) = Some p

-- ---- keys

-- a key and one before it
unfoldable pub matches : Scalar → Literal → Bool
matches x (scalar_at p y) = scalar_equal x y
matches x (list_at p ls) = false
matches x (map_at p ls) = false

unfoldable pub is_among : Scalar → List Literal → Bool
is_among x [] = false
is_among x (l ∷ ls) = matches x l || is_among x ls

-- the fault of a key, behind others
unfoldable pub key_fault : List Literal → Literal → Option ℕ
key_fault before (scalar_at p x) = cond (is_some (key_in x) && not (is_among x before)) None (Some p)
key_fault before (list_at p ls) = Some p
key_fault before (map_at p ls) = Some p

-- the first in the order of the table
unfoldable mutual
  pub keys_in : Literal → Option ℕ
  keys_in (scalar_at p x) = None
  keys_in (list_at p ls) = keys_among ls
  keys_in (map_at p ls) = keys_over [] ls

  pub keys_among : Literals → Option ℕ
  keys_among no_literals = None
  keys_among (literals l ls) = option_or (keys_in l) (keys_among ls)

  -- of entries behind those whose keys are given
  pub keys_over : List Literal → LiteralPairs → Option ℕ
  keys_over before no_literal_pairs = None
  keys_over before (literal_pairs l m ls) = option_or (key_fault before l) (option_or (keys_in l) (option_or (keys_in m) (keys_over (before ++ (l ∷ [])) ls)))

-- ---- room

unfoldable mutual
  pub cells_for : Literal → ℕ
  cells_for (scalar_at p x) = 0
  cells_for (list_at p ls) = cells_among ls
  cells_for (map_at p ls) = cells_over ls

  pub cells_among : Literals → ℕ
  cells_among no_literals = 0
  cells_among (literals l ls) = suc (cells_for l + cells_among ls)

  pub cells_over : LiteralPairs → ℕ
  cells_over no_literal_pairs = 0
  cells_over (literal_pairs l m ls) = suc (cells_for l + suc (cells_for m + cells_over ls))

unfoldable mutual
  pub bytes_for : Literal → ℕ
  bytes_for (scalar_at p x) = text_bytes x
  bytes_for (list_at p ls) = bytes_among ls
  bytes_for (map_at p ls) = bytes_over ls

  pub bytes_among : Literals → ℕ
  bytes_among no_literals = 0
  bytes_among (literals l ls) = bytes_for l + bytes_among ls

  pub bytes_over : LiteralPairs → ℕ
  bytes_over no_literal_pairs = 0
  bytes_over (literal_pairs l m ls) = bytes_for l + (bytes_for m + bytes_over ls)

-- ---- what records come to together

abbrev pub nothing_judged : Judged
nothing_judged = record { other = None; key = None; nesting = 0; cells = 0; bytes = 0 }

-- one part more
abbrev pub joined_of : Judged → Judged → Judged
joined_of s j =
    record {
      other = option_or s.other j.other;
      key = option_or s.key j.key;
      nesting = max s.nesting j.nesting;
      cells = s.cells + j.cells + 1;
      bytes = s.bytes + j.bytes;
    }

abbrev pub with_key : Judged → Option ℕ → Judged
with_key s f = record s { key = option_or s.key f }

-- the container of these parts
abbrev pub deepened_of : Judged → Judged
deepened_of s = record s { nesting = s.nesting + 1 }

abbrev pub other_fault : Value → ℕ → Option ℕ
other_fault v p = cond (is_absent v) (Some p) None

abbrev pub without_parts : Value → ℕ → Judged
without_parts v p = record nothing_judged { other = other_fault v p; bytes = text_length v }

-- bounded by the bytes that the records take
pub record Small (j : Judged) (n : ℕ) : Type 0 where
  pub cells : j.cells ≤ n
  pub nesting : j.nesting ≤ n
  pub bytes : j.bytes ≤ 65535 * n

-- a key is equal to one of the first so many, from a place on
unfoldable pub repeated_in : (t x : List ℕ) → Value → (count place : ℕ) → Bool
repeated_in t x v zero q = false
repeated_in t x v (suc n) q = same_seen (seen_of x [] [] (plain_of v)) (seen_of x [] [] (plain_of (literal_value t q))) || repeated_in t x v n (after t (after t q))

-- ---- all of it

unfoldable pub judged_of : Expr → Judged
judged_of e =
    record {
      other = fault_in (literal_of e);
      key = keys_in (literal_in e);
      nesting = literal_nesting (literal_in e);
      cells = cells_for (literal_in e);
      bytes = bytes_for (literal_in e);
    }

-- a mark is no literal
unfoldable pub judged_part : Part → Judged
judged_part (bare e) = judged_of e
judged_part (marked p e) = record nothing_judged { other = Some p }

-- without the container that they are in
unfoldable pub judged_elements : Elements → Judged
judged_elements es =
    record {
      other = fault_in (literals_of es);
      key = keys_among (literals_in es);
      nesting = literals_nesting (literals_in es);
      cells = cells_among (literals_in es);
      bytes = bytes_among (literals_in es);
    }

unfoldable pub judged_pairs : List Literal → Pairs → Judged
judged_pairs before ps =
    record {
      other = fault_in (literal_pairs_of ps);
      key = keys_over before (literal_pairs_in ps);
      nesting = literal_pairs_nesting (literal_pairs_in ps);
      cells = cells_over (literal_pairs_in ps);
      bytes = bytes_over (literal_pairs_in ps);
    }
