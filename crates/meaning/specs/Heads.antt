-- Heads of records: the kind, the extent and the fields, with the two refusals that they can meet. Every place in a table is worked out
-- here, from the width of the layout's words.
use Rattle.std.specs.Prelude.{ℕ, zero, suc, ◌+◌, ◌*◌, List, [], ◌∷◌, Bool, true, false, ◌&&◌, cond, get_or, leb, eqb, Option, None, Some}
use Rattle.std.specs.Prelude.{slice_get}
use Rattle.meaning.specs.Limits.{byte_numbers}
use Rattle.meaning.specs.declared.refusal.Reason.{Reason}
use Rattle.meaning.specs.declared.refusal.Reason.TheVariants.{UnknownKind, WrongExtent}
use Rattle.meaning.specs.Kinds.{Kind, Field, byte, word, long, Row, kinds, is_leaf}

-- ---- something read, or a refusal with its place

pub data Got (A : Type 0) : Type 0 where
  got : A → Got A
  refused : Reason → ℕ → Got A

-- go on from what was read: `x ← g` in a `do`
unfoldable pub ◌>>=◌ : {A B : Type 0} → Got A → (A → Got B) → Got B
◌>>=◌ (got a) k = k a
◌>>=◌ (refused r p) k = refused r p

unfoldable pub ◌>>◌ : {A B : Type 0} → Got A → Got B → Got B
◌>>◌ g h = ◌>>=◌ g (λ a. h)

unfoldable pub demand : Bool → Reason → ℕ → Got (Unit {0})
demand true r p = got tt
demand false r p = refused r p

unfoldable pub or_refuse : {A : Type 0} → Reason → ℕ → Option A → Got A
or_refuse r p None = refused r p
or_refuse r p (Some a) = got a

-- where a table starts, and the place of what is no record's fault
abbrev pub start : ℕ
start = 0

-- ---- heads of records

-- what stands before a record's operands: its kind, the numbers in its fields; where its operands begin and where it ends
pub record Head : Type 0 where
  pub kind : Kind
  pub numbers : List ℕ
  pub operands_at : ℕ
  pub end : ℕ

abbrev pub first : List ℕ → ℕ
first ns = get_or ns 0 0

abbrev pub second : List ℕ → ℕ
second ns = get_or ns 1 0

abbrev pub third : List ℕ → ℕ
third ns = get_or ns 2 0

-- a word has `width` bytes
module _ (width : ℕ) where
  unfoldable pub field_bytes : Field → ℕ
  field_bytes byte = 1
  field_bytes word = width
  field_bytes long = 8

  unfoldable pub fields_bytes : List Field → ℕ
  fields_bytes [] = 0
  fields_bytes (f ∷ fs) = field_bytes f + fields_bytes fs

module _ (width : ℕ) (table : List ℕ) where
  -- n bytes from a place on, the lowest first
  unfoldable pub little_endian : ℕ → ℕ → ℕ
  little_endian zero i = 0
  little_endian (suc n) i = get_or table i 0 + byte_numbers * little_endian n (suc i)

  unfoldable pub numbers_at : List Field → ℕ → List ℕ
  numbers_at [] i = []
  numbers_at (f ∷ fs) i = little_endian (field_bytes width f) i ∷ numbers_at fs (i + field_bytes width f)

  -- the kind is read where there is a byte, even outside the parent
  unfoldable pub row_at : ℕ → Got Row
  row_at p = do
    b ← or_refuse WrongExtent p (slice_get table p)
    or_refuse UnknownKind p (slice_get kinds b)

  -- without operands the extent is exactly the head; with operands it is at least the head
  unfoldable pub extent_fits : Row → List ℕ → (head extent : ℕ) → Bool
  extent_fits r ns head extent = cond (is_leaf r.operands (first ns)) (eqb extent head) (leb head extent)

  -- the record at p, inside a parent that ends at `end`: its kind, then its extent
  unfoldable pub head_at : ℕ → ℕ → Got Head
  head_at p end = do
    r ← row_at p
    let head = fields_bytes width (byte ∷ word ∷ r.fields)
    let extent = little_endian (field_bytes width word) (p + field_bytes width byte)
    let ns = numbers_at r.fields (p + fields_bytes width (byte ∷ word ∷ []))
    demand (leb (p + head) end && leb (p + extent) end && extent_fits r ns head extent) WrongExtent p
    got (record { kind = r.kind; numbers = ns; operands_at = p + head; end = p + extent })
