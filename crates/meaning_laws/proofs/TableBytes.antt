-- Numbers in the bytes of a table: what is written little-endian is read back, and what is read was written so.
-- It rests on the writing rules and on the definition's reading of numbers. Assumes nothing.
use Prim.Native.Nat.{ℕ, zero, suc, ◌+◌, ◌*◌, ◌^◌, ◌/◌, ◌%◌, ◌≤◌, ◌<◌}
use native.Mathlib.Omega.{arith}
use native.Mathlib.Nat.{add-zero, add-suc, suc-add}
use mathlib.Core.Path.{◌≡◌, refl, sym, ap, ◌∙◌}
use mathlib.Core.List.{List, [], ◌∷◌, ◌++◌}
use Rattle.std.specs.Prelude.{Some}
use lib.ListN.{length, get_or, length-append, take, take-append-drop}
use Rattle.std.specs.Prelude.{slice_get}
use lib.Seq.{slice, slice-cons, slice_empty, length-take-le, drop-append-le, take-take}
use Rattle.meaning.specs.Kinds.{Field, byte, word, long}
use Rattle.meaning.specs.Heads.{field_bytes, fields_bytes, little_endian, numbers_at}
use Rattle.meaning.specs.WellFormed.{AllBytes}
use Rattle.meaning_laws.specs.Written.{Number, little, spelled, Fit}

-- from what cannot be, anything
pub nonsense : {C : Type 0} → ◌≡◌ {A = ℕ} 0 1 → C
nonsense e = absurd (omega arith)

-- ---- sizes

-- A number takes as many bytes as it is given.
pub length-little : (size n : ℕ) → length (little size n) ≡ size
length-little zero n = refl
length-little (suc size) n = ap suc (length-little size (n / 256))

-- the bytes of a field
abbrev pub size_of : ℕ → Field → ℕ
size_of width byte = 1
size_of width word = width
size_of width long = 8

-- the bytes of fields
abbrev pub sizes_of : ℕ → List Field → ℕ
sizes_of width [] = 0
sizes_of width (f ∷ fs) = size_of width f + sizes_of width fs

-- fields with the numbers in them
abbrev pub measured : ℕ → List Field → List ℕ → List Number
measured width [] ns = []
measured width (f ∷ fs) [] = []
measured width (f ∷ fs) (n ∷ ns) = record { size = size_of width f; value = n } ∷ measured width fs ns

module _ (width : ℕ) where
  -- Fields take the bytes of their kinds, whatever the numbers in them.
  pub length-spelled : (fs : List Field) (ns : List ℕ) → length fs ≡ length ns → length (spelled (measured width fs ns)) ≡ sizes_of width fs
  length-spelled [] ns e = refl
  length-spelled (f ∷ fs) [] e = omega arith
  length-spelled (f ∷ fs) (n ∷ ns) e =
      let h = length-spelled fs ns (omega arith) in
      simp (length-append, length-little) (omega arith)

  -- The reader counts the same bytes for a field.
  pub field-bytes : (f : Field) → field_bytes width f ≡ size_of width f
  unfolding field_bytes
  field-bytes byte = refl
  field-bytes word = refl
  field-bytes long = refl

  -- The reader counts the same bytes for fields.
  pub bytes-of : (fs : List Field) → fields_bytes width fs ≡ sizes_of width fs
  unfolding fields_bytes
  bytes-of [] = refl
  bytes-of (f ∷ fs) = let h = bytes-of fs in let k = field-bytes f in cc

-- ---- what is written is read

module _ (table : List ℕ) where
  -- the bytes stand in the table from a place on
  abbrev pub Stands : ℕ → List ℕ → Type 0
  Stands p [] = Unit {0}
  Stands p (b ∷ bs) = (slice_get table p ≡ Some b) × Stands (suc p) bs

  -- Of what stands in the table the beginning stands there.
  pub stands-first : (xs ys : List ℕ) (p : ℕ) → Stands p (xs ++ ys) → Stands p xs
  stands-first [] ys p s = tt
  stands-first (x ∷ xs) ys p s = (s.0, stands-first xs ys (suc p) s.1)

  -- Of what stands in the table the rest stands behind the beginning.
  pub stands-second : (xs ys : List ℕ) (p : ℕ) → Stands p (xs ++ ys) → Stands (p + length xs) ys
  stands-second [] ys p s = rw add-zero s
  stands-second (x ∷ xs) ys p s = rw (add-suc, ← suc-add) (stands-second xs ys (suc p) s.1)

-- A byte that is there is the one that is read.
pub byte-there : (table : List ℕ) (i b : ℕ) → slice_get table i ≡ Some b → get_or table i 0 ≡ b
byte-there [] i b e = nonsense (cc)
byte-there (x ∷ xs) zero b e = cc
byte-there (x ∷ xs) (suc i) b e = byte-there xs i b e

module _ (width : ℕ) (table : List ℕ) where
  -- A number that fits is read back from its bytes.
  pub little-read : (size n i : ℕ) → n < 256 ^ size → Stands table i (little size n) → little_endian width table size i ≡ n
  unfolding little_endian
  little-read zero n i h s = omega arith
  little-read (suc size) n i h s =
      let b = byte-there table i (n % 256) s.0 in
      let k = little-read size (n / 256) (suc i) (omega arith) s.1 in
      omega arith

  -- Numbers that fit are read back from the bytes of their fields.
  pub numbers-read : (fs : List Field) (ns : List ℕ) (i : ℕ) → length fs ≡ length ns → Fit (measured width fs ns)
      → Stands table i (spelled (measured width fs ns)) → numbers_at width table fs i ≡ ns
  unfolding numbers_at
  numbers-read [] [] i e h s = refl
  numbers-read [] (n ∷ ns) i e h s = nonsense (omega arith)
  numbers-read (f ∷ fs) [] i e h s = nonsense (omega arith)
  numbers-read (f ∷ fs) (n ∷ ns) i e h s =
      let bs = little (size_of width f) n in
      let p = little-read (size_of width f) n i h.0 (stands-first table bs (spelled (measured width fs ns)) i s) in
      let there = rw length-little at (stands-second table bs (spelled (measured width fs ns)) i s) in
      rw (field-bytes, p, numbers-read fs ns (i + size_of width f) (omega arith) h.1 there)

-- ---- what is read was written

-- A part of a table and the part where it ends are one part.
pub joined : (l : List ℕ) (p q r : ℕ) → p ≤ q → q ≤ r → q ≤ length l → slice p q l ++ slice q r l ≡ slice p r l
joined l p q r h k b =
    let n : p ≤ length (take q l) = rw (length-take-le q l b) h in
    sym (drop-append-le p (take q l) (slice q r l) n) ∙ rw (← take-take q r l k, take-append-drop q (take r l))

byte-below : (table : List ℕ) (i : ℕ) → AllBytes table → get_or table i 0 < 256
byte-below [] i a = omega arith
byte-below (x ∷ xs) zero a = a.0
byte-below (x ∷ xs) (suc i) a = byte-below xs i a.1

module _ (width : ℕ) (table : List ℕ) (all : AllBytes table) where
  -- A number that is read from bytes fits into as many.
  pub read_below : (size i : ℕ) → little_endian width table size i < 256 ^ size
  unfolding little_endian
  read_below zero i = omega arith
  read_below (suc size) i = let b = byte-below table i all in let k = read_below size (suc i) in omega arith

  -- A number that is read stands there as its bytes.
  pub read-little : (size i : ℕ) → i + size ≤ length table → slice i (i + size) table ≡ little size (little_endian width table size i)
  unfolding little_endian
  read-little zero i h = rw add-zero (slice_empty i table)
  read-little (suc size) i h =
      let b = byte-below table i all in
      let n = get_or table i 0 + 256 * little_endian width table size (suc i) in
      let low : n % 256 ≡ get_or table i 0 = omega arith in
      let high : n / 256 ≡ little_endian width table size (suc i) = omega arith in
      let moved : i + suc size ≡ suc i + size = omega arith in
      slice-cons i (i + suc size) table 0 (omega arith) h ∙ rw (low, high, moved, read-little size (suc i) (omega arith))

  -- A number is read for each field.
  pub numbers-many : (fs : List Field) (i : ℕ) → length fs ≡ length (numbers_at width table fs i)
  unfolding numbers_at
  numbers-many [] i = refl
  numbers-many (f ∷ fs) i = ap suc (numbers-many fs (i + field_bytes width f))

  -- Numbers that are read fit into their fields.
  pub numbers_fit : (fs : List Field) (i : ℕ) → Fit (measured width fs (numbers_at width table fs i))
  unfolding numbers_at
  numbers_fit [] i = tt
  numbers_fit (f ∷ fs) i = (rw field-bytes (read_below (size_of width f) i), numbers_fit fs (i + field_bytes width f))

  -- Numbers that are read stand there as the bytes of their fields.
  pub read-numbers : (fs : List Field) (i : ℕ) → i + sizes_of width fs ≤ length table
      → slice i (i + sizes_of width fs) table ≡ spelled (measured width fs (numbers_at width table fs i))
  unfolding numbers_at
  read-numbers [] i h = rw add-zero (slice_empty i table)
  read-numbers (f ∷ fs) i h =
      let s = size_of width f in
      let t = sizes_of width fs in
      let moved : i + (s + t) ≡ (i + s) + t = omega arith in
      rw (field-bytes, ← read-little s i (omega arith), ← read-numbers fs (i + s) (omega arith), moved)
      (sym (joined table i (i + s) ((i + s) + t) (omega arith) (omega arith) (omega arith)))
