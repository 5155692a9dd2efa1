-- The numbers in a table's fields: those of 8 bytes are below 2 ^ 64, those of two below 2 ^ 16; every head that is read has such numbers.
-- Rests on Reading. Assumes nothing.
use Prim.Native.Nat.{ℕ, zero, suc, ◌+◌, ◌^◌, ◌<◌}
use mathlib.Core.List.{List, [], ◌∷◌}
use native.Mathlib.Nat.{pow-suc}
use native.Mathlib.Omega.{arith}
use lib.ListN.{get_or, drop}
use Rattle.std.specs.Prelude.{slice_get}
use Rattle.meaning.specs.Limits.{byte_numbers}
use Rattle.meaning.specs.declared.refusal.Reason.TheVariants.{WrongExtent, UnknownKind}
use Rattle.meaning.specs.Kinds.{Field, byte, word, long, Row, kinds}
use Rattle.meaning.specs.Heads.{or_refuse, first, second, third, field_bytes, little_endian, numbers_at, row_at, head_at}
use Rattle.meaning.specs.Table.{word_bytes}
use Rattle.meaning.specs.WellFormed.{AllBytes}
use Rattle.meaning_laws.specs.Formed.{spans}
use Rattle.meaning_laws.specs.Each.{Each, Reads}
use Rattle.meaning_laws.proofs.Fine.{Perhaps}
use Rattle.meaning_laws.proofs.Reading.{reads-got, reads-bind, reads-bind-any, reads-demand, reads-or_refuse}

pub byte_at : (bs : List ℕ) (i : ℕ) → AllBytes bs → get_or bs i 0 < byte_numbers
byte_at [] i h = omega arith
byte_at (b ∷ bs) zero h = h.0
byte_at (b ∷ bs) (suc i) h = byte_at bs i h.1

little-endian-below : (width : ℕ) (table : List ℕ) → AllBytes table → (n i : ℕ) → little_endian width table n i < byte_numbers ^ n
unfolding little_endian
little-endian-below width table h zero i = omega arith
little-endian-below width table h (suc n) i =
    let b = byte_at table i h in
    let k = little-endian-below width table h n (suc i) in
    omega (arith, pow-suc byte_numbers n)

-- a first field may have 8 bytes, the others at most 2
pub record NumbersFit (ns : List ℕ) : Type 0 where
  pub first_fits : first ns < 2 ^ 64
  pub second_fits : second ns < spans
  pub third_fits : third ns < spans

pub get_elem-each : {A : Type 0} (P : A → Type 0) (xs : List A) (i : ℕ) → Each P xs → Perhaps P (slice_get xs i)
get_elem-each P [] i h = tt
get_elem-each P (x ∷ xs) zero h = h.0
get_elem-each P (x ∷ xs) (suc i) h = get_elem-each P xs i h.1

module _ (table : List ℕ) (bytes_only : AllBytes table) where
  RowFits : Row → Type 0
  RowFits r = (i : ℕ) → NumbersFit (numbers_at word_bytes table r.fields i)

  none-fit : (i : ℕ) → NumbersFit (numbers_at word_bytes table [] i)
  unfolding numbers_at
  none-fit i = record { first_fits = omega arith; second_fits = omega arith; third_fits = omega arith }

  below : (n i : ℕ) → little_endian word_bytes table n i < byte_numbers ^ n
  below n i = little-endian-below word_bytes table bytes_only n i

  one-fits : (f : Field) (i : ℕ) → NumbersFit (numbers_at word_bytes table (f ∷ []) i)
  unfolding numbers_at field_bytes
  one-fits byte i = record { first_fits = omega (arith, below 1 i); second_fits = omega arith; third_fits = omega arith }
  one-fits word i = record { first_fits = omega (arith, below 2 i); second_fits = omega arith; third_fits = omega arith }
  one-fits long i = record { first_fits = omega (arith, below 8 i); second_fits = omega arith; third_fits = omega arith }

  words-fit : (i : ℕ) → NumbersFit (numbers_at word_bytes table (word ∷ word ∷ []) i)
  unfolding numbers_at field_bytes
  words-fit i = record { first_fits = omega (arith, below 2 i); second_fits = omega (arith, below 2 (i + 2)); third_fits = omega arith }

  bytes_fit : (i : ℕ) → NumbersFit (numbers_at word_bytes table (byte ∷ byte ∷ []) i)
  unfolding numbers_at field_bytes
  bytes_fit i = record { first_fits = omega (arith, below 1 i); second_fits = omega (arith, below 1 (i + 1)); third_fits = omega arith }

  three-fit : (i : ℕ) → NumbersFit (numbers_at word_bytes table (byte ∷ word ∷ word ∷ []) i)
  unfolding numbers_at field_bytes
  three-fit i = record { first_fits = omega (arith, below 1 i); second_fits = omega (arith, below 2 (i + 1)); third_fits = omega (arith, below 2 (i + 1 + 2)) }

  -- the kind bytes from 8 on, then all of them
  later-rows-fit : Each RowFits (drop 8 kinds)
  unfolding kinds RowFits
  later-rows-fit = (one-fits byte, (one-fits byte, (none-fit, (three-fit, (one-fits word, (one-fits word, (none-fit, (bytes_fit, (one-fits byte, tt)))))))))

  rows_fit : Each RowFits kinds
  unfolding kinds RowFits
  rows_fit = (none-fit, (one-fits byte, (one-fits long, (one-fits long, (one-fits long, (words-fit, (words-fit, (one-fits byte, later-rows-fit))))))))

  row_fits : (p : ℕ) → Reads RowFits (row_at word_bytes table p)
  unfolding row_at
  row_fits p =
      reads-bind-any (or_refuse WrongExtent p (slice_get table p))
      (λ b. reads-or_refuse UnknownKind p (slice_get kinds b) (get_elem-each RowFits kinds b rows_fit))

  -- Every head that is read has numbers that fit.
  pub head-fits : (p end : ℕ) → Reads (λ h. NumbersFit h.numbers) (head_at word_bytes table p end)
  unfolding head_at RowFits
  head-fits p end = reads-bind (row_fits p) (λ r h. reads-demand _ WrongExtent p (λ e. reads-got _ (h _)))
