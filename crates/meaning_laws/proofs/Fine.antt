-- Values that are sound, nest at most 32 deep and have fewer than 2 ^ 63 parts anywhere, so that their sizes are Ints; every part of one
-- is one. What evaluation keeps is said of these. Rests on MatchingKeys. Assumes nothing.
use Prim.Native.Nat.{ℕ, zero, suc, ◌+◌, ◌^◌, ◌≤◌, ◌<◌}
use mathlib.Core.Path.{◌≡◌, refl}
use Rattle.std.specs.Prelude.{Option, None, Some}
use mathlib.Core.Bool.{Bool, true, false, cond}
use native.Mathlib.Omega.{arith}
use lib.IntN.{ℤ, pos, negsuc}
use Rattle.meaning.specs.Limits.{deepest_value}
use Rattle.meaning.specs.Value.{Scalar, null, bool, int, uint, double, string, bytes, Key, key_scalar, key_in, Value, scalar, list, map, optional_none, optional_of, Values, nil, cons, Entries, empty, entry, nesting, count, count_entries, join, nth, add_entry, value_list}
use Rattle.meaning.specs.Comparison.{scalar_equal, tick, find}
use Rattle.meaning.specs.Maps.{element_at}
use Rattle.meaning.specs.Containers.{pad, entry_cells}
use Rattle.meaning.specs.Comprehension.{key_list, items_of}
use Rattle.meaning.specs.Bindings.{text_bytes}
use Rattle.meaning.specs.WellFormed.{SoundScalar, Sound, SoundElements, SoundEntries, WellFormed}
use Rattle.meaning_laws.specs.Each.{Each}
use Rattle.meaning_laws.proofs.MatchingKeys.{not_found, added-not-found}

-- an Int can count this many
abbrev pub Countable : ℕ → Type 0
Countable n = n < 2 ^ 63

abbrev pub FineScalar : Scalar → Type 0
FineScalar x = SoundScalar x × Countable (text_bytes x)

abbrev mutual
  -- bounds hold at every depth, so that a part of a fine value is fine
  pub Fine : Value → Type 0
  Fine (scalar x) = FineScalar x
  Fine (list vs) = (nesting (list vs) ≤ deepest_value) × Countable (count vs) × FineElements vs
  Fine (map es) = (nesting (map es) ≤ deepest_value) × Countable (count_entries es) × FineEntries es
  Fine optional_none = Unit {0}
  Fine (optional_of v) = (nesting (optional_of v) ≤ deepest_value) × Fine v

  pub FineElements : Values → Type 0
  FineElements nil = Unit {0}
  FineElements (cons v vs) = Fine v × FineElements vs

  pub FineEntries : Entries → Type 0
  FineEntries empty = Unit {0}
  FineEntries (entry k v es) = FineScalar (key_scalar k) × Fine v × ((find (key_scalar k) es).1 ≡ None) × FineEntries es

-- of what is there, if something is
abbrev pub Perhaps : {A : Type 0} → (A → Type 0) → Option A → Type 0
Perhaps P None = Unit {0}
Perhaps P (Some a) = P a

-- ---- fine values are well formed

mutual
  fine-sound : (v : Value) → Fine v → Sound v
  fine-sound (scalar x) f = f.0
  fine-sound (list vs) f = elements-sound vs f.2
  fine-sound (map es) f = entries-sound es f.2
  fine-sound optional_none f = tt
  fine-sound (optional_of v) f = fine-sound v f.1

  elements-sound : (vs : Values) → FineElements vs → SoundElements vs
  elements-sound nil f = tt
  elements-sound (cons v vs) f = (fine-sound v f.0, elements-sound vs f.1)

  entries-sound : (es : Entries) → FineEntries es → SoundEntries es
  entries-sound empty f = tt
  entries-sound (entry k v es) f = (f.0.0, fine-sound v f.1, f.2, entries-sound es f.3)

fine-nests : (v : Value) → Fine v → nesting v ≤ deepest_value
unfolding nesting
fine-nests (scalar x) f = omega arith
fine-nests (list vs) f = f.0
fine-nests (map es) f = f.0
fine-nests optional_none f = omega arith
fine-nests (optional_of v) f = f.0

-- What is fine is well formed.
pub fine-well-formed : (v : Value) → Fine v → WellFormed v
fine-well-formed v f = record { sound = fine-sound v f; nests = fine-nests v f }

-- ---- scalars

pub fine-bool : (b : Bool) → FineScalar (bool b)
unfolding text_bytes
fine-bool b = (tt, omega arith)

pub fine-null : FineScalar null
unfolding text_bytes
fine-null = (tt, omega arith)

-- the key of a fine scalar
pub key-fine : (x : Scalar) → FineScalar x → Perhaps (λ k. FineScalar (key_scalar k)) (key_in x)
unfolding key_in key_scalar
key-fine null f = tt
key-fine (bool b) f = f
key-fine (int z) f = f
key-fine (uint n) f = f
key-fine (double d) f = tt
key-fine (string s) f = f
key-fine (bytes s) f = tt

-- ---- elements

-- Two lists of fine elements, one after the other, are one.
pub join-fine : (vs ws : Values) → FineElements vs → FineElements ws → FineElements (join vs ws)
unfolding join
join-fine nil ws f g = g
join-fine (cons v vs) ws f g = (f.0, join-fine vs ws f.1 g)

nth-fine : (vs : Values) (n : ℕ) → FineElements vs → Perhaps Fine (nth vs n)
unfolding nth
nth-fine nil n f = tt
nth-fine (cons v vs) zero f = f.0
nth-fine (cons v vs) (suc n) f = nth-fine vs n f.1

pub element-fine : (vs : Values) (z : ℤ) → FineElements vs → Perhaps Fine (element_at vs z)
unfolding element_at
element-fine vs (pos n) f = nth-fine vs n f
element-fine vs (negsuc n) f = tt

-- A record's cells hold what is ready, then Null.
pub pad-fine : (n : ℕ) (vs : Values) → FineElements vs → FineElements (pad n vs)
unfolding pad
pad-fine zero vs f = tt
pad-fine (suc n) nil f = (fine-null, pad-fine n nil tt)
pad-fine (suc n) (cons v vs) f = (f.0, pad-fine n vs f.1)

pub pad-count : (n : ℕ) (vs : Values) → count (pad n vs) ≡ n
unfolding pad count
pad-count zero vs = omega arith
pad-count (suc n) nil = let e = pad-count n nil in omega arith
pad-count (suc n) (cons v vs) = let e = pad-count n vs in omega arith

pub join-count : (vs ws : Values) → count (join vs ws) ≡ count vs + count ws
unfolding join count
join-count nil ws = omega arith
join-count (cons v vs) ws = let e = join-count vs ws in omega arith

-- ---- entries

-- What is found in a map is fine.
pub find-fine : (x : Scalar) (es : Entries) → FineEntries es → Perhaps Fine (find x es).1
unfolding find tick
find-fine x empty f = tt
find-fine x (entry k v es) f = go (scalar_equal x (key_scalar k)) (find-fine x es f.3)
  where
    go : (t : Bool) → Perhaps Fine (find x es).1 → Perhaps Fine (cond t (0, Some v) (find x es)).1
    go true below = f.1
    go false below = below

pub cells-fine : (es : Entries) → FineEntries es → FineElements (entry_cells es)
unfolding entry_cells
cells-fine empty f = tt
cells-fine (entry k v es) f = (f.0, (f.1, cells-fine es f.3))

-- A map in which a key was not found may have an entry with that key added: still no two keys match.
pub add-fine : (es : Entries) (k : Key) (v : Value) → FineEntries es → FineScalar (key_scalar k) → Fine v → (find (key_scalar k) es).1 ≡ None
    → FineEntries (add_entry es k v)
unfolding add_entry find
add-fine empty k v f g h e = (g, h, refl, tt)
add-fine (entry j w es) k v f g h e =
    let apart = not_found (key_scalar k) j w es e in
    (f.0, f.1, added-not-found j k v es apart.0 f.2, add-fine es k v f.3 g h apart.1)

pub add-count : (es : Entries) (k : Key) (v : Value) → count_entries (add_entry es k v) ≡ suc (count_entries es)
unfolding add_entry count_entries
add-count empty k v = omega arith
add-count (entry j w es) k v = let e = add-count es k v in omega arith

-- ---- items

list-items : (vs : Values) → FineElements vs → Each Fine (value_list vs)
unfolding value_list
list-items nil f = tt
list-items (cons v vs) f = (f.0, list-items vs f.1)

key-items : (es : Entries) → FineEntries es → Each Fine (key_list es)
unfolding key_list
key-items empty f = tt
key-items (entry k v es) f = (f.0, key-items es f.3)

-- What is iterated over is fine.
pub items-fine : (v : Value) → Fine v → Perhaps (Each Fine) (items_of v)
unfolding items_of
items-fine (scalar x) f = tt
items-fine (list vs) f = list-items vs f.2
items-fine (map es) f = key-items es f.2
items-fine optional_none f = tt
items-fine (optional_of v) f = tt
