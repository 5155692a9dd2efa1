-- Heads of records: words and bytes, and a law for each way through a head. Assumes nothing.
use mathlib.Core.Path.{◌≡◌, refl, ap, sym, ◌∙◌}
use mathlib.Core.Bool.{Bool, true, false, false≢true, ◌&&◌}
use mathlib.Core.List.{List, [], ◌∷◌}
use Prim.Native.Nat.{ℕ, ◌+◌, ◌<◌, ◌≤◌}
use native.Mathlib.Omega.{arith}
use native.Mathlib.Nat.{le_trans}
use lib.Dec.{eqb, leb, ltb}
use lib.ListN.{length, get_or}
use borrow.Author.Tests.{le-leb, lt-leb, eqb-true, eqb-false, leb-true, ltb-true, ltb-false}
use Rattle.meaning.specs.Errors.{refusal_at}
use Rattle.meaning.specs.declared.refusal.Refusal.{Refusal}
use Rattle.meaning.specs.declared.refusal.Reason.{Reason}
use Rattle.meaning.specs.declared.refusal.Reason.TheVariants.{WrongExtent, UnknownKind}
use Rattle.meaning.specs.Kinds.{byte, word, mark_row, kinds}
use Rattle.meaning.specs.Heads.{got, refused, ◌>>=◌, ◌>>◌, demand, or_refuse, first, fields_bytes, field_bytes, numbers_at, row_at, extent_fits, head_at}
use Rattle.meaning.specs.Heads as heads
use Rattle.meaning.specs.Table.{word_bytes}
use Rattle.std.specs.Prelude.{Ok, Err}
use Rattle.table_layout.specs.Kinds.{byte_of, kind_of}
use Rattle.table_check.specs.declared.heads.Head.{Head}
use Rattle.table_layout.specs.Layout.{row_of, head_bytes, word_at}
use Rattle.table_check.specs.Shapes.{numbers_of, count_of, fits_extent, head_of}
use Rattle.table_layout.proofs.KindLaws.{byte-of-kind}
use Rattle.table_check.proofs.KindLaws.{head-width, leaf-count, there, beyond}

-- ---- heads

module _ (t : List ℕ) (p : ℕ) where
  -- the head of a record of a known kind whose extent fits
  abbrev pub head_here : heads.Head
  head_here =
      record { kind = (row_of (get_or t p 0)).kind; numbers = numbers_of t p (get_or t p 0); operands_at = p + head_bytes (get_or t p 0); end = p + word_at t (p + 1) }

  abbrev pub count_here : ℕ
  count_here = count_of (row_of (get_or t p 0)).kind (numbers_of t p (get_or t p 0))

  row_here : p < length t → get_or t p 0 < 17 → row_at word_bytes t p ≡ got (row_of (get_or t p 0))
  unfolding row_at row_of kinds or_refuse ◌>>=◌
  row_here h k = rw (there t p 0 h, there kinds (get_or t p 0) mark_row k)

  row-none : length t ≤ p → row_at word_bytes t p ≡ refused WrongExtent p
  unfolding row_at or_refuse ◌>>=◌
  row-none h = rw (beyond t p h)

  row-unknown : p < length t → 17 ≤ get_or t p 0 → row_at word_bytes t p ≡ refused UnknownKind p
  unfolding row_at kinds or_refuse ◌>>=◌
  row-unknown h k = rw (there t p 0 h, beyond kinds (get_or t p 0) k)

  pub head-known : (end : ℕ) → p < length t → get_or t p 0 < 17 → head_at word_bytes t p end ≡ ◌>>◌
      (demand (leb (p + head_bytes (get_or t p 0)) end && leb (p + word_at t (p + 1)) end && fits_extent count_here (head_bytes (get_or t p 0)) (word_at t (p + 1)))
      WrongExtent p) (got head_here)
  unfolding head_at ◌>>=◌ extent_fits numbers_of word_at field_bytes
  head-known end h k =
      rw (
        row_here h k,
        head-width (get_or t p 0),
        leaf-count
            (numbers_at word_bytes t (row_of (get_or t p 0)).fields (p + fields_bytes word_bytes (byte ∷ word ∷ []))) (get_or t p 0) k,
      )

  pub none-at : (end : ℕ) → length t ≤ p → head_at word_bytes t p end ≡ refused WrongExtent p
  unfolding head_at ◌>>=◌
  none-at end h = rw (row-none h)

  pub unknown-at : (end : ℕ) → p < length t → 17 ≤ get_or t p 0 → head_at word_bytes t p end ≡ refused UnknownKind p
  unfolding head_at ◌>>=◌
  unknown-at end h k = rw (row-unknown h k)

  pub head-none : (end : ℕ) → length t ≤ p → Err (refusal_at WrongExtent p) ≡ head_of t p end
  unfolding head_of
  head-none end h = rw (none-at end h)

  pub head-unknown : (end : ℕ) → p < length t → 17 ≤ get_or t p 0 → Err (refusal_at UnknownKind p) ≡ head_of t p end
  unfolding head_of
  head-unknown end h k = rw (unknown-at end h k)

module _ (t : List ℕ) (p : ℕ) {end head : ℕ} (h : p < length t) (k : get_or t p 0 < 17) (a : head ≡ head_bytes (get_or t p 0)) where
  pub head-short : end < p + head → Err (refusal_at WrongExtent p) ≡ head_of t p end
  unfolding head_of demand ◌>>=◌ ◌>>◌
  head-short e = rw (head-known t p end h k, ← a, lt-leb _ _ e)

  module _ {extent : ℕ} (fits : p + head ≤ end) (b : extent ≡ word_at t (p + 1)) where
    pub head-outside : end < p + extent → Err (refusal_at WrongExtent p) ≡ head_of t p end
    unfolding head_of demand ◌>>=◌ ◌>>◌
    head-outside e = rw (head-known t p end h k, ← a, ← b, le-leb _ _ fits, lt-leb _ _ e)

    module _ {count : ℕ} (inside : p + extent ≤ end) (d : count ≡ count_here t p) where
      pub head-unfit : fits_extent count head extent ≡ false → Err (refusal_at WrongExtent p) ≡ head_of t p end
      unfolding head_of demand ◌>>=◌ ◌>>◌
      head-unfit e = rw (head-known t p end h k, ← a, ← b, ← d, le-leb _ _ fits, le-leb _ _ inside, e)

      pub head-whole : fits_extent count head extent ≡ true → Ok (record { kind = kind_of (get_or t p 0); count = count; first = p + head; after = p + extent }) ≡ head_of t p end
      unfolding head_of demand ◌>>=◌ ◌>>◌
      head-whole e =
          rw (head-known t p end h k, ← a, ← b, ← d, le-leb _ _ fits, le-leb _ _ inside, e) (ap (λ (n : ℕ). Ok (record { kind = kind_of (get_or t p 0); count = n; first = p + head; after = p + extent })) d)

-- ---- what a head is

pub by-test : {A : Type 0} (b : Bool) → (b ≡ true → A) → (b ≡ false → A) → A
by-test true f g = f refl
by-test false f g = g refl

both_true : (a b : Bool) → (a && b) ≡ true → (a ≡ true) × (b ≡ true)
both_true true b e = (refl, e)
both_true false b e = absurd (false≢true e)

fits-facts : (count head extent : ℕ) → fits_extent count head extent ≡ true → (head ≤ extent) × (count ≡ 0 → head ≡ extent)
fits-facts count head extent e =
    by-test (eqb count 0)
    (λ z. let f : eqb extent head ≡ true = rw z at e in let g = eqb-true extent head f in (omega arith, λ h. sym g))
    (λ z. let f : leb head extent ≡ true = rw z at e in (leb-true head extent f, λ h. absurd (eqb-false count 0 z h)))

-- the record at p is of a known kind, and its extent fits
pub record Here (t : List ℕ) (p end : ℕ) : Type 0 where
  pub within : p < length t
  pub known : get_or t p 0 < 17
  pub extent : fits_extent (count_here t p) (head_bytes (get_or t p 0)) (word_at t (p + 1)) ≡ true
  pub room : p + head_bytes (get_or t p 0) ≤ end
  pub inside : p + word_at t (p + 1) ≤ end
  pub least : head_bytes (get_or t p 0) ≤ word_at t (p + 1)
  pub leaf : count_here t p ≡ 0 → p + head_bytes (get_or t p 0) ≡ p + word_at t (p + 1)
  pub is : head_at word_bytes t p end ≡ got (head_here t p)

pub data HeadView (t : List ℕ) (p end : ℕ) : Type 0 where
  good : Here t p end → HeadView t p end
  bad : (r : Reason) → head_at word_bytes t p end ≡ refused r p → HeadView t p end

module _ (t : List ℕ) (p end : ℕ) where
  abbrev Fits : Bool
  Fits = leb (p + head_bytes (get_or t p 0)) end && leb (p + word_at t (p + 1)) end && fits_extent (count_here t p) (head_bytes (get_or t p 0)) (word_at t (p + 1))

  here : p < length t → get_or t p 0 < 17 → Fits ≡ true → Here t p end
  unfolding demand ◌>>=◌ ◌>>◌
  here l k e =
      let a = p + head_bytes (get_or t p 0) in
      let b = p + word_at t (p + 1) in
      let d = fits_extent (count_here t p) (head_bytes (get_or t p 0)) (word_at t (p + 1)) in
      let f = both_true (leb a end && leb b end) d e in
      let g = both_true (leb a end) (leb b end) f.0 in
      let i = fits-facts (count_here t p) (head_bytes (get_or t p 0)) (word_at t (p + 1)) f.1 in
      record {
        within = l;
        known = k;
        extent = f.1;
        room = leb-true a end g.0;
        inside = leb-true b end g.1;
        least = i.0;
        leaf = λ z. ap (λ (n : ℕ). p + n) (i.1 z);
        is = rw (head-known t p end l k, e);
      }

  -- in a longer parent too
  pub longer : {parent : ℕ} → Here t p parent → parent ≤ end → Here t p end
  longer h e =
      here h.within h.known
      (rw (le-leb (p + head_bytes (get_or t p 0)) end (le_trans h.room e), le-leb (p + word_at t (p + 1)) end (le_trans h.inside e)) h.extent)

  unfit : p < length t → get_or t p 0 < 17 → Fits ≡ false → head_at word_bytes t p end ≡ refused WrongExtent p
  unfolding demand ◌>>=◌ ◌>>◌
  unfit l k e = rw (head-known t p end l k, e)

  pub head-view : HeadView t p end
  head-view =
      by-test (ltb p (length t))
      (λ l. by-test (ltb (get_or t p 0) 17)
      (λ k. by-test Fits
      (λ e. good (here (ltb-true _ _ l) (ltb-true _ _ k) e))
      (λ e. bad WrongExtent (unfit (ltb-true _ _ l) (ltb-true _ _ k) e)))
      (λ k. bad UnknownKind (unknown-at t p end (ltb-true _ _ l) (ltb-false _ _ k))))
      (λ l. bad WrongExtent (none-at t p end (ltb-false _ _ l)))

-- what the code finds at p
pub record Found (t : List ℕ) (p end : ℕ) (h : Head) : Type 0 where
  pub here : Here t p end
  pub kind : h.kind ≡ kind_of (get_or t p 0)
  pub byte : byte_of h.kind ≡ get_or t p 0
  pub count : h.count ≡ count_here t p
  pub first : h.first ≡ p + head_bytes (get_or t p 0)
  pub after : h.after ≡ p + word_at t (p + 1)

module _ (t : List ℕ) (p end : ℕ) where
  found-by : HeadView t p end → {h : Head} → Ok h ≡ head_of t p end → Found t p end h
  unfolding head_of
  found-by (good g) {h} w =
      let e = rw g.is at w in
      let k : h.kind ≡ kind_of (get_or t p 0) = cc in
      record { here = g; kind = k; byte = ap byte_of k ∙ byte-of-kind (get_or t p 0) g.known; count = cc; first = cc; after = cc }
  found-by (bad r f) w = let e = rw f at w in let z : ◌≡◌ {A = ℕ} 0 1 = cc in absurd (omega arith)

  pub found : {h : Head} → Ok h ≡ head_of t p end → Found t p end h
  found w = found-by (head-view t p end) w

  refused-by : HeadView t p end → {f : Refusal} → Err f ≡ head_of t p end → (r : Reason) × (f ≡ refusal_at r p) × (head_at word_bytes t p end ≡ refused r p)
  unfolding head_of
  refused-by (good h) w = let e = rw h.is at w in let z : ◌≡◌ {A = ℕ} 0 1 = cc in absurd (omega arith)
  refused-by (bad r g) w = let e = rw g at w in (r, cc, g)

  pub not_found : {f : Refusal} → Err f ≡ head_of t p end → (r : Reason) × (f ≡ refusal_at r p) × (head_at word_bytes t p end ≡ refused r p)
  not_found w = refused-by (head-view t p end) w
