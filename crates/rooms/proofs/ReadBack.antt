-- What stands for a value reads as that value, so a value of the code stands for one value at most. Assumes nothing.
use Prim.Native.Nat.{ℕ, zero, suc, ◌<◌}
use mathlib.Core.Path.{◌≡◌, refl, sym, ap, ◌∙◌}
use Rattle.std.specs.Prelude.{Option, Some}
use Rattle.meaning.specs.Options.{bind}
use native.Mathlib.Omega.{arith}
use Rattle.numbers.specs.declared.double.Double.{Double}
use Rattle.numbers.specs.declared.double.Double.TheVariants as Bits
use Rattle.numbers.specs.Double.{bits_of}
use Rattle.meaning.specs.Value as Meaning
use Rattle.meaning.specs.Value.{null, bool, int, uint, double, string, bytes, int_key, uint_key, bool_key, string_key, scalar, list, map, optional_none, optional_of, nil, cons, empty, entry, nesting, nesting_in, nesting_over, count, count_entries, key_scalar, key_of, key_in, scalar_of}
use Rattle.rooms.specs.declared.value.Value.{Value}
use Rattle.rooms.specs.declared.value.CellSpace.{CellSpace}
use Rattle.rooms.specs.Value.{nesting_of, double_value}
use Rattle.rooms.specs.Rooms.{Rooms, cell_at}
use Rattle.rooms.specs.Stands.{Alive, StandsScalar, Stands, StandsCells, StandsEntries}
use Rattle.rooms.specs.Reading.{Reader, elements_in, entries_in, read_by, read_to, reading}
use Rattle.rooms.proofs.Depths.{deeper-list, deeper-map, deeper-part, first-less, others-less, first-value, other-values, stands-nesting}

key_back : (k : Meaning.Key) → key_of (scalar (key_scalar k)) ≡ Some k
unfolding key_of scalar_of key_in key_scalar bind
key_back (int_key z) = refl
key_back (uint_key n) = refl
key_back (bool_key b) = refl
key_back (string_key s) = refl

module _ (L : Alive) (r : Rooms) where
  double-reads : (f : Reader) (x : Double) → read_by f r (double_value x) ≡ Some (scalar (double (bits_of x)))
  double-reads f (Bits.Plain x) = refl
  double-reads f (Bits.Nan b) = refl

  scalar-reads : (f : Reader) (x : Meaning.Scalar) (m : Value) → StandsScalar x L r m → read_by f r m ≡ Some (scalar x)
  unfolding StandsScalar
  scalar-reads f null m h = ap (read_by f r) h
  scalar-reads f (bool b) m h = ap (read_by f r) h
  scalar-reads f (int z) m h = ap (read_by f r) h
  scalar-reads f (uint n) m h = ap (read_by f r) h
  scalar-reads f (double d) m h = ap (read_by f r) h.1 ∙ double-reads f h.0 ∙ ap (λ b. Some (scalar (double b))) h.2
  scalar-reads f (string s) m h = ap (read_by f r) h.2 ∙ ap (λ t. Some (scalar (string t))) h.3.spells
  scalar-reads f (bytes s) m h = ap (read_by f r) h.2 ∙ ap (λ t. Some (scalar (bytes t))) h.3.spells

  key_reads : (n : ℕ) (k : Meaning.Key) (m : Value) → 0 < n → StandsScalar (key_scalar k) L r m → bind (read_to n r m) key_of ≡ Some k
  unfolding read_to bind key_of
  key_reads zero k m d h = absurd (omega arith)
  key_reads (suc n) k m d h = ap (λ o. bind o key_of) (scalar-reads (λ part. read_to n r part) (key_scalar k) m h) ∙ key_back k

  -- a part more
  element-reads : (n : ℕ) (s : CellSpace) (a : ℕ) (v : Meaning.Value) (vs : Meaning.Values) → read_to n r (cell_at r s a) ≡ Some v → elements_in (λ part. read_to n r part) r s (suc a) (count vs) ≡ Some vs → elements_in (λ part. read_to n r part) r s a (count (cons v vs)) ≡ Some (cons v vs)
  unfolding elements_in count bind
  element-reads n s a v vs e g = ap (λ o. bind o (λ w. bind (elements_in (λ part. read_to n r part) r s (suc a) (count vs)) (λ ws. Some (cons w ws)))) e ∙ ap (λ o. bind o (λ ws. Some (cons v ws))) g

  entry-reads : (n : ℕ) (s : CellSpace) (a : ℕ) (k : Meaning.Key) (v : Meaning.Value) (es : Meaning.Entries) → bind (read_to n r (cell_at r s a)) key_of ≡ Some k → read_to n r (cell_at r s (suc a)) ≡ Some v → entries_in (λ part. read_to n r part) r s (suc (suc a)) (count_entries es) ≡ Some es → entries_in (λ part. read_to n r part) r s a (count_entries (entry k v es)) ≡ Some (entry k v es)
  unfolding entries_in count_entries bind
  entry-reads n s a k v es e g i =
      ap (λ o. bind o (λ j. bind (read_to n r (cell_at r s (suc a))) (λ w. bind (entries_in (λ part. read_to n r part) r s (suc (suc a)) (count_entries es)) (λ fs. Some (entry j w fs))))) e
      ∙ ap (λ o. bind o (λ w. bind (entries_in (λ part. read_to n r part) r s (suc (suc a)) (count_entries es)) (λ fs. Some (entry k w fs)))) g
      ∙ ap (λ o. bind o (λ fs. Some (entry k v fs))) i

  mutual
    unfolding Stands read_to elements_in entries_in count count_entries nesting bind

    reads-to : (v : Meaning.Value) (n : ℕ) (m : Value) → nesting v < n → Stands v L r m → read_to n r m ≡ Some v
    reads-to (scalar x) zero m d h = absurd (omega arith)
    reads-to (scalar x) (suc n) m d h = scalar-reads (λ part. read_to n r part) x m h
    reads-to (list vs) zero m d h = absurd (omega arith)
    reads-to (list vs) (suc n) m d h = ap (read_by (λ part. read_to n r part) r) h.2 ∙ ap (λ o. bind o (λ ws. Some (list ws))) (cells-read vs n h.0 h.1 (deeper-list vs n d) h.3)
    reads-to (map es) zero m d h = absurd (omega arith)
    reads-to (map es) (suc n) m d h = ap (read_by (λ part. read_to n r part) r) h.2 ∙ ap (λ o. bind o (λ fs. Some (map fs))) (entries-read es n h.0 h.1 (deeper-map es n d) h.3)
    reads-to optional_none zero m d h = absurd (omega arith)
    reads-to optional_none (suc n) m d h = ap (read_by (λ part. read_to n r part) r) h
    reads-to (optional_of v) zero m d h = absurd (omega arith)
    reads-to (optional_of v) (suc n) m d h = ap (read_by (λ part. read_to n r part) r) h.2 ∙ ap (λ o. bind o (λ w. Some (optional_of w))) (reads-to v n (cell_at r h.0 h.1) (deeper-part v n d) h.4)

    cells-read : (vs : Meaning.Values) (n : ℕ) (s : CellSpace) (a : ℕ) → nesting_in vs < n → StandsCells vs L r s a → elements_in (λ part. read_to n r part) r s a (count vs) ≡ Some vs
    cells-read nil n s a d h = refl
    cells-read (cons v vs) n s a d h = element-reads n s a v vs (reads-to v n (cell_at r s a) (first-less v vs n d) h.1) (cells-read vs n s (suc a) (others-less v vs n d) h.2)

    entries-read : (es : Meaning.Entries) (n : ℕ) (s : CellSpace) (a : ℕ) → nesting_over es < n → StandsEntries es L r s a → entries_in (λ part. read_to n r part) r s a (count_entries es) ≡ Some es
    entries-read empty n s a d h = refl
    entries-read (entry k v es) n s a d h =
        entry-reads n s a k v es
        (key_reads n k (cell_at r s a) (omega (arith, d)) h.1)
        (reads-to v n (cell_at r s (suc a)) (first-value k v es n d) h.3)
        (entries-read es n s (suc (suc a)) (other-values k v es n d) h.4)

  -- What stands for v reads as v.
  pub reads : (v : Meaning.Value) (m : Value) → Stands v L r m → reading r m ≡ Some v
  unfolding reading
  reads v m h = reads-to v (suc (nesting_of m)) m (omega (arith, stands-nesting L r v m h)) h

-- A value of the code stands for one value at most, whatever is said to be alive.
pub stands-once : (L M : Alive) (r : Rooms) (v w : Meaning.Value) (m : Value) → Stands v L r m → Stands w M r m → v ≡ w
stands-once L M r v w m h i = same (sym (reads L r v m h) ∙ reads M r w m i)
  where
    same : ◌≡◌ {A = Option Meaning.Value} (Some v) (Some w) → v ≡ w
    same e = cc
