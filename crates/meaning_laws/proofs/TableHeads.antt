-- Heads of records: what is written before a record's operands is read back, and a head that is read was written so.
-- It rests on the numbers' bytes and on the kinds. Assumes nothing.
use Prim.Native.Nat.{ℕ, suc, ◌+◌, ◌≤◌}
use native.Mathlib.Omega.{arith}
use mathlib.Core.Path.{◌≡◌, refl, sym, ap, subst, ◌∙◌}
use mathlib.Core.List.{List, [], ◌∷◌, ◌++◌}
use Rattle.std.specs.Prelude.{Option, None, Some}
use mathlib.Core.Bool.{Bool, true, false, ◌&&◌, cond}
use lib.ListN.{length, get_or, length-append}
use Rattle.std.specs.Prelude.{slice_get}
use lib.Seq.{slice, slice-cons, length-slice}
use lib.Dec.{leb, eqb}
use borrow.Author.Tests.{le-leb, leb-true, eq-eqb, eqb-true}
use Rattle.meaning.specs.declared.refusal.Reason.{Reason}
use Rattle.meaning.specs.Kinds.{byte, word, Kind, Row, kinds, is_leaf}
use Rattle.meaning.specs.Heads.{Got, got, refused, ◌>>=◌, ◌>>◌, demand, or_refuse, Head, first, field_bytes, fields_bytes, little_endian, numbers_at}
use Rattle.meaning.specs.Heads.{row_at, extent_fits, head_at}
use Rattle.meaning.specs.WellFormed.{AllBytes}
use Rattle.meaning_laws.specs.Written.{little, spelled, Form, head_bytes, Record}
use Rattle.meaning_laws.proofs.TableBytes.{nonsense, sizes_of, measured, length-spelled, field-bytes, bytes-of, Stands, stands-first, stands-second}
use Rattle.meaning_laws.proofs.TableBytes.{little-read, numbers-read, joined, read_below, read-little, numbers_fit, read-numbers}
use Rattle.meaning_laws.proofs.TableBytes.{length-little, byte-there, numbers-many}
use Rattle.meaning_laws.proofs.TableKinds.{kind_byte, fields_of, operands_of, row_of, kind-there, kind-here}

-- ---- the head that is written is read

-- where the operands of a record at p begin
abbrev pub behind_head : (width : ℕ) → Kind → (p : ℕ) → ℕ
behind_head width k p = p + sizes_of width (byte ∷ word ∷ fields_of k)

-- the head of a record of this kind, with these numbers in its fields
abbrev pub head_of : (width : ℕ) → Kind → List ℕ → (p end : ℕ) → Head
head_of width k ns p end = record { kind = k; numbers = ns; operands_at = behind_head width k p; end = end }

module _ (width : ℕ) (table : List ℕ) where
  row_read : (p b : ℕ) (r : Row) → slice_get table p ≡ Some b → slice_get kinds b ≡ Some r → row_at width table p ≡ got r
  unfolding row_at ◌>>=◌ or_refuse
  row_read p b r e f = rw (e, f)

  extent-fits : (r : Row) (ns : List ℕ) (head extent : ℕ) → head ≤ extent → (is_leaf r.operands (first ns) ≡ true → extent ≡ head)
      → extent_fits width table r ns head extent ≡ true
  unfolding extent_fits
  extent-fits r ns head extent h f = go (is_leaf r.operands (first ns)) f
    where
      go : (t : Bool) → (t ≡ true → extent ≡ head) → cond t (eqb extent head) (leb head extent) ≡ true
      go true f = eq-eqb extent head (f refl)
      go false f = le-leb head extent h

  head-length : (k : Kind) (ns : List ℕ) (extent : ℕ) → length (fields_of k) ≡ length ns
      → length (head_bytes width (kind_byte k) extent (measured width (fields_of k) ns)) ≡ sizes_of width (byte ∷ word ∷ fields_of k)
  head-length k ns extent arity =
      let l = length-spelled width (fields_of k) ns arity in
      simp (length-append, length-little) (omega arith)

  module _ (k : Kind) (ns : List ℕ) (arity : length (fields_of k) ≡ length ns) (q p : ℕ) (F : Form) (bs : List ℕ)
      (r : Record width q (kind_byte k) (measured width (fields_of k) ns) F p bs) where
    -- A record is its head and its operands.
    pub record-length : length bs ≡ sizes_of width (byte ∷ word ∷ fields_of k) + length r.rest
    record-length =
        ap length r.bytes
        ∙ length-append (head_bytes width (kind_byte k) (length bs) (measured width (fields_of k) ns)) r.rest
        ∙ rw (head-length k ns (length bs) arity)

    -- where the operands are read, they are written
    pub rest-stands : Stands table p bs → Stands table (behind_head width k p) r.rest
    rest-stands s =
        let head = head_bytes width (kind_byte k) (length bs) (measured width (fields_of k) ns) in
        rw (head-length k ns (length bs) arity) at (stands-second table head r.rest p (subst (λ (l : List ℕ). Stands table p l) r.bytes s))

    -- The operands are written for the place where the head ends.
    pub rest-follows : F (behind_head width k p) r.rest
    rest-follows = rw (head-length k ns (length bs) arity) at r.follow

    -- The head of a written record is read, inside every parent in which the record ends.
    pub head_read : Stands table p bs → (end : ℕ) → p + length bs ≤ end → (is_leaf (operands_of k) (first ns) ≡ true → length r.rest ≡ 0)
        → head_at width table p end ≡ got (head_of width k ns p (p + length bs))
    unfolding head_at demand ◌>>=◌ ◌>>◌
    head_read s end h leaf =
        let fields = spelled (measured width (fields_of k) ns) in
        let there = subst (λ (l : List ℕ). Stands table p l) r.bytes s in
        let both = stands-first table (little width (length bs) ++ fields) r.rest (suc p) there.1 in
        let extent = little-read width table width (length bs) (suc p) r.fit.0 (stands-first table (little width (length bs)) fields (suc p) both) in
        let after = rw length-little at (stands-second table (little width (length bs)) fields (suc p) both) in
        let numbers = numbers-read width table (fields_of k) ns (suc p + width) arity r.fit.1 after in
        let size = record-length in
        let none_left : is_leaf (operands_of k) (first ns) ≡ true → length bs ≡ sizes_of width (byte ∷ word ∷ fields_of k) =
        λ t. let e = leaf t in omega arith in
        let behind : p + 1 ≡ suc p = omega arith in
        let further : p + (1 + (width + 0)) ≡ suc p + width = omega arith in
        rw (
          row_read p (kind_byte k) (row_of k) there.0 (kind-there k),
          bytes-of width (byte ∷ word ∷ fields_of k),
          bytes-of width (byte ∷ word ∷ []),
          field-bytes width byte,
          field-bytes width word,
          behind,
          further,
          extent,
          numbers,
          le-leb (behind_head width k p) end (omega arith),
          le-leb (p + length bs) end h,
          extent-fits (row_of k) ns (sizes_of width (byte ∷ word ∷ fields_of k)) (length bs) (omega arith) none_left,
        )

-- ---- what a reading that succeeds went through

module _ {A B : Type 0} {C : Type 0} where
  -- there is an a that the first step gave, and the rest went on from it
  pub went : (g : Got A) (k : A → Got B) (b : B) → ◌>>=◌ g k ≡ got b → ((a : A) → g ≡ got a → k a ≡ got b → C) → C
  unfolding ◌>>=◌
  went (got a) k b e f = f a refl e
  went (refused r p) k b e f = nonsense (cc)

  -- the same for a step that gives nothing to go on from
  pub went_on : (g : Got A) (k : Got B) (b : B) → ◌>>◌ g k ≡ got b → ((a : A) → g ≡ got a → k ≡ got b → C) → C
  unfolding ◌>>◌
  went_on g k b e f = went g (λ a. k) b e f

-- What was demanded holds.
pub demanded : (t : Bool) (r : Reason) (p : ℕ) (u : Unit {0}) → demand t r p ≡ got u → t ≡ true
unfolding demand
demanded true r p u e = refl
demanded false r p u e = cc

-- What was chosen was there.
pub chosen : {A : Type 0} (r : Reason) (p : ℕ) (o : Option A) (a : A) → or_refuse r p o ≡ got a → o ≡ Some a
unfolding or_refuse
chosen r p None a e = cc
chosen r p (Some b) a e = cc

last-two : (a b c : Bool) → (a && b && c) ≡ true → (b ≡ true) × (c ≡ true)
last-two true true c e = (refl, e)
last-two true false c e = nonsense (cc)
last-two false b c e = nonsense (cc)

-- ---- a head that is read was written

module _ (width : ℕ) (table : List ℕ) where
  -- what is known of a head that was read at p, inside a parent that ends at `end`
  pub record Opened (p end : ℕ) (h : Head) : Type 0 where
    pub kind_there : slice_get table p ≡ Some (kind_byte h.kind)
    pub numbers_there : h.numbers ≡ numbers_at width table (fields_of h.kind) (p + sizes_of width (byte ∷ word ∷ []))
    pub operands_there : h.operands_at ≡ behind_head width h.kind p
    pub extent_there : h.end ≡ p + little_endian width table width (p + 1)
    pub operands_inside : h.operands_at ≤ h.end
    pub end_inside : h.end ≤ end
    pub leaf_ends : is_leaf (operands_of h.kind) (first h.numbers) ≡ true → h.end ≡ h.operands_at

  fits-means : (r : Row) (ns : List ℕ) (head extent : ℕ) → extent_fits width table r ns head extent ≡ true
      → (head ≤ extent) × (is_leaf r.operands (first ns) ≡ true → extent ≡ head)
  unfolding extent_fits
  fits-means r ns head extent e = go (is_leaf r.operands (first ns)) e
    where
      go : (t : Bool) → cond t (eqb extent head) (leb head extent) ≡ true → (head ≤ extent) × (t ≡ true → extent ≡ head)
      go true e = let same = eqb-true extent head e in (omega arith, λ t. same)
      go false e = (leb-true head extent e, λ t. nonsense (cc))

  -- the head that the reader makes of a row
  abbrev head_from : ℕ → Row → Head
  head_from p r = record {
    kind = r.kind;
    numbers = numbers_at width table r.fields (p + fields_bytes width (byte ∷ word ∷ []));
    operands_at = p + fields_bytes width (byte ∷ word ∷ r.fields);
    end = p + little_endian width table (field_bytes width word) (p + field_bytes width byte);
  }

  abbrev fits_from : ℕ → Row → Bool
  fits_from p r = extent_fits width table r (head_from p r).numbers (fields_bytes width (byte ∷ word ∷ r.fields))
      (little_endian width table (field_bytes width word) (p + field_bytes width byte))

  row_opened : (p end : ℕ) (r : Row) → slice_get table p ≡ Some (kind_byte r.kind) → r.fields ≡ fields_of r.kind
      → r.operands ≡ operands_of r.kind → (head_from p r).end ≤ end
      → fits_from p r ≡ true → Opened p end (head_from p r)
  row_opened p end r there fields operands bound fits =
      let (least, leaf) = fits-means r (head_from p r).numbers _ _ fits in
      record {
        kind_there = there;
        numbers_there = rw (bytes-of width (byte ∷ word ∷ []), fields);
        operands_there = rw (bytes-of width (byte ∷ word ∷ r.fields), fields);
        extent_there = rw (field-bytes width word, field-bytes width byte);
        operands_inside = omega arith;
        end_inside = bound;
        leaf_ends = λ t. ap (λ (n : ℕ). p + n) (leaf (rw operands t));
      }

  -- A head that is read has the kind, the numbers and the ends that stand in the table.
  pub head_opened : (p end : ℕ) (h : Head) → head_at width table p end ≡ got h → Opened p end h
  unfolding head_at row_at
  head_opened p end h e =
      went (row_at width table p) _ h e λ r row e. went_on (demand _ _ p) _ h e λ u fits e.
      went (or_refuse _ p (slice_get table p)) _ r row λ b there known.
      let (byte_is, row_is) = kind-here b r (chosen _ p (slice_get kinds b) r known) in
      let (bound, fit) = last-two (leb (head_from p r).operands_at end) (leb (head_from p r).end end) (fits_from p r) (demanded _ _ p u fits) in
      let at : slice_get table p ≡ Some (kind_byte r.kind) = rw byte_is at (chosen _ p (slice_get table p) b there) in
      let opened = row_opened p end r at (ap (λ (s : Row). s.fields) row_is) (ap (λ (s : Row). s.operands) row_is)
      (leb-true (head_from p r).end end bound) fit in
      let same : head_from p r ≡ h = cc in
      subst (λ (g : Head). Opened p end g) same opened

  -- where the operands behind a head are written, the whole record is
  module _ (all : AllBytes table) (p at end : ℕ) (k : Kind) (ns : List ℕ) (there : slice_get table p ≡ Some (kind_byte k))
      (numbers : ns ≡ numbers_at width table (fields_of k) (suc p + width)) (begins : at ≡ suc p + width + sizes_of width (fields_of k))
      (ends : end ≡ p + little_endian width table width (suc p)) (fits : at ≤ end) (inside : end ≤ length table) where
    extent-is : length (slice p end table) ≡ little_endian width table width (suc p)
    extent-is = length-slice p end table inside ∙ omega arith

    bytes-are : slice p end table ≡ head_bytes width (kind_byte k) (length (slice p end table)) (measured width (fields_of k) ns) ++ slice at end table
    bytes-are =
        let m = suc p + width in
        let kind-is : get_or table p 0 ≡ kind_byte k = byte-there table p (kind_byte k) there in
        let extent-there = read-little width table all width (suc p) (omega arith) in
        let fields-there = rw (← begins) at (read-numbers width table all (fields_of k) m (omega arith)) in
        let cut : slice (suc p) m table ++ slice m at table ++ slice at end table ≡ slice (suc p) end table =
        ap (λ (l : List ℕ). l ++ slice at end table) (joined table (suc p) m at (omega arith) (omega arith) (omega arith))
        ∙ joined table (suc p) at end (omega arith) fits (omega arith) in
        slice-cons p end table 0 (omega arith) inside
        ∙ rw (kind-is, extent-is, numbers, ← extent-there, ← fields-there) (ap (λ (l : List ℕ). kind_byte k ∷ l) (sym cut))

    record-written : (F : Form) → F at (slice at end table) → Record width p (kind_byte k) (measured width (fields_of k) ns) F p (slice p end table)
    record-written F f =
        let arity : length (fields_of k) ≡ length ns = rw numbers (numbers-many width table all (fields_of k) (suc p + width)) in
        let place : p + sizes_of width (byte ∷ word ∷ fields_of k) ≡ at = omega arith in
        record {
          here = refl;
          rest = slice at end table;
          bytes = bytes-are;
          fit = rw (extent-is, numbers) (read_below width table all width (suc p), numbers_fit width table all (fields_of k) (suc p + width));
          follow = rw (head-length width table k ns (length (slice p end table)) arity, place) f;
        }

  -- Where operands are written behind a head that was read, the whole record is written.
  pub head-writes : AllBytes table → (p end : ℕ) (h : Head) → Opened p end h → end ≤ length table → (F : Form)
      → F h.operands_at (slice h.operands_at h.end table)
      → Record width p (kind_byte h.kind) (measured width (fields_of h.kind) h.numbers) F p (slice p h.end table)
  head-writes all p end h o inside F f =
      let behind : p + 1 ≡ suc p = omega arith in
      let further : p + (1 + (width + 0)) ≡ suc p + width = omega arith in
      record-written all p h.operands_at h.end h.kind h.numbers o.kind_there (rw further at o.numbers_there)
      (omega (arith, o.operands_there)) (rw behind at o.extent_there) o.operands_inside (omega (arith, o.end_inside)) F f
