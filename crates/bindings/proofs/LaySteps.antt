-- The ways through `laying::lay` and a turn of `laying::lay_row`, over plain variables. Assumes nothing.
use Prim.Native.Nat.{ℕ, zero, suc, ◌+◌, ◌*◌, ◌-◌, ◌≤◌, ◌<◌, max}
use mathlib.Core.Path.{◌≡◌, refl, sym, ap, ◌∙◌}
use mathlib.Core.List.{List}
use mathlib.Core.Bool.{Bool, true, false}
use native.Mathlib.Omega.{arith}
use native.Mathlib.Numerals.{add-one}
use lib.Dec.{eqb}
use lib.ListN.{length, get_or}
use borrow.Author.Tests.{eqb-true, eqb-false}
use Rattle.meaning.specs.Value.{null}
use Rattle.meaning.specs.Bindings.{text_bytes}
use Rattle.meaning.specs.Table.{bare}
use Rattle.meaning.specs.Spelling.{Literal, scalar_at, list_at, map_at, Literals, literals, LiteralPairs, literal_nesting, literals_nesting}
use Rattle.table_layout.specs.Layout.{head_bytes, word_at}
use Rattle.table_layout.specs.Layout.{after}
use Rattle.table_check.specs.Records.{expr_of, part_of, pairs_of, SoundPart}
use Rattle.table_check.proofs.Parts.{part-marked, part-bare}
use Rattle.rooms.specs.declared.value.Value.{Value}
use Rattle.rooms.specs.declared.value.CellSpace.TheVariants as Cells
use Rattle.rooms.specs.Value.{nesting_of}
use Rattle.rooms.specs.Cells.{written_in}
use Rattle.rooms_taking.specs.Taking.{pasted}
use Rattle.rooms.proofs.CellLaws.{written-length}
use Rattle.bindings_literals.specs.Literals.{literal_in, literal_pairs_in, part_literal, literal_value, text_length, row_bytes, entry_bytes, row_literals, Operands, Entries}
use Rattle.bindings_literals.specs.Judging.{cells_for, cells_among, bytes_for, bytes_among}
use Rattle.bindings_literals.specs.Laying.{Room, room, put, laid_scalar, laid, laid_row, flat}
use Rattle.bindings_literals.proofs.Heads.{list-head, map-head}
use Rattle.bindings_literals.proofs.Rows.{first_part, first-bytes}
use Rattle.bindings_literals.proofs.LiteralLaws.{Moved, View, a_scalar, a_list, a_map, another, view, no-literal}
use Rattle.bindings_literals.proofs.PartLaws.{bare-part, ListAt, MapAt, list_at_lem, map_at_lem}
use Rattle.bindings.proofs.LayLaws.{laid_cells, laid-bytes, laid-nesting, pairs-row, flat-nesting, flat-cells, flat-bytes, elements-row, row_count, count-cells, pairs-count, entries-row}
use Rattle.rooms.specs.Spans.{row}

back : (n : ℕ) → suc n - 1 ≡ n
back n = omega arith

-- ---- a record without parts

module _ (t x : List ℕ) (p : ℕ) (small : (i : ℕ) → get_or t i 0 < 256) (s : SoundPart t x p) {v : Value} (e : v ≡ literal_value t p) {k : ℕ} (f : k ≡ get_or t p 0) where
  abbrev here : Literal
  here = part_literal (part_of t x p)

  absent-laid : (l : Literal) → here ≡ l → l ≡ scalar_at p null → v ≡ Value.Absent → (text_length v ≡ bytes_for here) × ((r : Room) → laid here r ≡ Moved x v r)
  unfolding laid laid_scalar bytes_for text_bytes pasted
  absent-laid l g h a = (rw (a, g, h), λ r. rw (a, g, h) (ap (λ n. (Value.Null, room r.words r.text r.cells n)) (none_more r.bytes)))
    where
      none_more : (n : ℕ) → n ≡ n + 0
      none_more n = omega arith

  by-view : View t x p → part_of t x p ≡ bare (expr_of t x p) → (k ≡ 12 → ⊥) → (k ≡ 13 → ⊥) → (text_length v ≡ bytes_for here) × ((r : Room) → laid here r ≡ Moved x v r)
  unfolding part_literal literal_in laid bytes_for
  by-view (a_scalar y g h) i a b = (rw (i, g, e) h.long, λ r. rw (i, g, e) (h.laid r))
  by-view (a_list c g ls h) i a b = absurd (a (f ∙ c))
  by-view (a_map c g ls h) i a b = absurd (b (f ∙ c))
  by-view (another g h j) i a b = absent-laid (literal_in (expr_of t x p)) (ap part_literal i) h (e ∙ g)

  leaf-by : (m : Bool) → eqb (get_or t p 0) 14 ≡ m → (k ≡ 12 → ⊥) → (k ≡ 13 → ⊥) → (text_length v ≡ bytes_for here) × ((r : Room) → laid here r ≡ Moved x v r)
  unfolding part_literal
  leaf-by true m a b =
      let c = eqb-true (get_or t p 0) 14 m in
      let n : Value.Absent ≡ literal_value t p = no-literal t p 14 (sym c) (λ z. omega (arith, z)) (λ z. omega (arith, z)) (λ z. omega (arith, z)) (λ z. omega (arith, z)) (λ z. omega (arith, z)) (λ z. omega (arith, z)) (λ z. omega (arith, z)) in
      absent-laid (scalar_at p null) (ap part_literal (part-marked t x p s c).is) refl (e ∙ sym n)
  leaf-by false m a b = let g = part-bare t x p s (eqb-false (get_or t p 0) 14 m) in by-view (view t x p small g.0) g.1 a b

  module _ (a : k ≡ 12 → ⊥) (b : k ≡ 13 → ⊥) where
    pub leaf-bytes : text_length v ≡ bytes_for here
    leaf-bytes = (leaf-by (eqb (get_or t p 0) 14) refl a b).0

    pub leaf-laid : (r : Room) → Moved x v r ≡ laid here r
    leaf-laid r = sym ((leaf-by (eqb (get_or t p 0) 14) refl a b).1 r)

-- ---- a List and a Map

-- entries as a row
entries-operands : (t x : List ℕ) (n q : ℕ) → Entries t x n q → Operands t x (2 * n) q × (row_bytes t (2 * n) q ≡ entry_bytes t n q)
unfolding row_bytes entry_bytes
entries-operands t x zero q es = (tt, refl)
entries-operands t x (suc n) q es =
    let i = entries-operands t x n (after t (after t q)) es.2 in
    let two : 2 * suc n ≡ suc (suc (2 * n)) = omega arith in
    rw two (((bare-part t x q es.0).0, (es.1, i.0)), ap (λ m. word_at t (q + 1) + (word_at t (after t q + 1) + m)) i.1)

-- what is asked of a row of n parts from `first` on
abbrev pub RowFits : (t x : List ℕ) → (used bytes first n : ℕ) → Type 0
RowFits t x used bytes first n =
    Operands t x n first × (first + row_bytes t n first ≤ length t) × (length t ≤ 16384) × (literals_nesting (row_literals t x n first) < 32) ×
    (used + cells_among (row_literals t x n first) ≤ 4096) × (bytes + bytes_among (row_literals t x n first) ≤ 16384)

module _ (t x : List ℕ) (p : ℕ) (s : SoundPart t x p) (long : length t ≤ 16384) (used bytes : ℕ) (nests : literal_nesting (part_literal (part_of t x p)) ≤ 32)
    (cells : used + cells_for (part_literal (part_of t x p)) ≤ 4096) (texts : bytes + bytes_for (part_literal (part_of t x p)) ≤ 16384)
    {k : ℕ} (e : k ≡ get_or t p 0) {first count : ℕ} (f : first ≡ p + head_bytes (get_or t p 0)) (c : count ≡ word_at t (p + 3)) where
  module _ (twelve : k ≡ 12) where
    o : ListAt t x p
    o = list_at_lem t x p s (sym e ∙ twelve)

    first-is : first ≡ p + 5
    first-is = f ∙ (rw (← e, twelve, list-head))

    list-literal : part_literal (part_of t x p) ≡ list_at p (row_literals t x count first)
    unfolding part_literal literal_in
    list-literal = ap part_literal o.is ∙ (rw (first-is, c) (ap (λ (ls : Literals). list_at p ls) (elements-row t x (word_at t (p + 3)) (p + 5))))

    pub list-fits : RowFits t x used bytes first count
    unfolding literal_nesting cells_for bytes_for
    list-fits =
        let n : suc (literals_nesting (row_literals t x count first)) ≤ 32 = rw list-literal at nests in
        let m : used + cells_among (row_literals t x count first) ≤ 4096 = rw list-literal at cells in
        let b : bytes + bytes_among (row_literals t x count first) ≤ 16384 = rw list-literal at texts in
        let i : Operands t x count first × (first + row_bytes t count first ≤ length t) = (rw (first-is, c) (o.rest, omega (arith, o.ends, o.room))) in
        (i.0, i.1, long, omega (arith, n), m, b)

    pub list-falls : 2 * row_bytes t count first + 1 < 2 * word_at t (p + 1)
    list-falls = rw (first-is, c) (omega (arith, o.ends))

    pub list-laid : (w u : List ℕ) {d : ℕ} {r : Room} →
        ◌≡◌ {A = ℕ × Room} (d, r) (literals_nesting (row_literals t x count first), laid_row (row_literals t x count first) used (room w u (used + count) bytes)) →
        ◌≡◌ {A = Value × Room} (Value.List (d + 1) (row Cells.Binding used count), r) (laid (part_literal (part_of t x p)) (room w u used bytes))
    unfolding laid
    list-laid w u {d} {r} e =
        let g : d ≡ literals_nesting (row_literals t x count first) = ap (λ (a : ℕ × Room). a.0) e in
        let h : r ≡ laid_row (row_literals t x count first) used (room w u (used + count) bytes) = ap (λ (a : ℕ × Room). a.1) e in
        rw (list-literal, row_count t x count first, g, h, add-one)

  module _ (thirteen : k ≡ 13) where
    m : MapAt t x p
    m = map_at_lem t x p s (sym e ∙ thirteen)

    first-entry-is : first ≡ p + 5
    first-entry-is = f ∙ (rw (← e, thirteen, map-head))

    abbrev pairs : LiteralPairs
    pairs = literal_pairs_in (pairs_of t x count first)

    map-literal : part_literal (part_of t x p) ≡ map_at p pairs
    unfolding part_literal literal_in
    map-literal = ap part_literal m.is ∙ (rw (first-entry-is, c))

    entries : Entries t x count first
    entries = rw (first-entry-is, c) m.rest

    row_is : flat pairs ≡ row_literals t x (2 * count) first
    row_is = entries-row t x count first entries

    pub map-fits : RowFits t x used bytes first (2 * count)
    unfolding literal_nesting cells_for bytes_for
    map-fits =
        let n : suc (literals_nesting (row_literals t x (2 * count) first)) ≤ 32 = rw (map-literal, flat-nesting pairs, row_is) at nests in
        let a : used + cells_among (row_literals t x (2 * count) first) ≤ 4096 = rw (map-literal, flat-cells pairs, row_is) at cells in
        let b : bytes + bytes_among (row_literals t x (2 * count) first) ≤ 16384 = rw (map-literal, flat-bytes pairs, row_is) at texts in
        let i = entries-operands t x count first entries in
        let z : entry_bytes t (word_at t (p + 3)) (p + 5) ≡ entry_bytes t count first = (rw (first-entry-is, c)) in
        (i.0, omega (arith, i.1, z, m.ends, m.room, first-entry-is), long, omega (arith, n), a, b)

    pub map-falls : 2 * row_bytes t (2 * count) first + 1 < 2 * word_at t (p + 1)
    map-falls =
        let i = entries-operands t x count first entries in
        let z : entry_bytes t (word_at t (p + 3)) (p + 5) ≡ entry_bytes t count first = (rw (first-entry-is, c)) in
        omega (arith, i.1, z, m.ends)

    pub map-laid : (w u : List ℕ) {d : ℕ} {r : Room} →
        ◌≡◌ {A = ℕ × Room} (d, r)
        (literals_nesting (row_literals t x (2 * count) first), laid_row (row_literals t x (2 * count) first) used (room w u (used + 2 * count) bytes)) →
        ◌≡◌ {A = Value × Room} (Value.Map (d + 1) (row Cells.Binding used count), r) (laid (part_literal (part_of t x p)) (room w u used bytes))
    unfolding laid
    map-laid w u {d} {r} e =
        let g : d ≡ literals_nesting (row_literals t x (2 * count) first) = ap (λ (a : ℕ × Room). a.0) e in
        let h : r ≡ laid_row (row_literals t x (2 * count) first) used (room w u (used + 2 * count) bytes) = ap (λ (a : ℕ × Room). a.1) e in
        rw (map-literal, pairs-count t x count first, pairs-row pairs used (room w u (used + 2 * count) bytes), flat-nesting pairs, row_is, g, h, add-one)

-- ---- a row of parts

pub record RowLeft (t x : List ℕ) (first count used bytes : ℕ) (words₀ text₀ words text : List ℕ) (nesting cells used-bytes at left to : ℕ) : Type 0 where
  pub rest : Operands t x left at
  pub from : first ≤ at
  pub ends : at + row_bytes t left at ≡ first + row_bytes t count first
  pub place : to + left ≡ used + count
  pub most : used + count ≤ 4096
  pub deep : max nesting (literals_nesting (row_literals t x left at)) ≡ literals_nesting (row_literals t x count first)
  pub fits : cells + cells_among (row_literals t x left at) ≤ 4096 + left
  pub texts : used-bytes + bytes_among (row_literals t x left at) ≤ 16384
  pub kept : length words ≡ length words₀
  pub kept-text : length text ≡ length text₀
  pub same : laid_row (row_literals t x left at) to (room words text cells used-bytes) ≡
      laid_row (row_literals t x count first) used (room words₀ text₀ (used + count) bytes)

module _ (t x : List ℕ) where
  row_next : (n q : ℕ) → 0 < n → row_literals t x n q ≡ literals (part_literal (part_of t x q)) (row_literals t x (n - 1) (after t q))
  unfolding row_literals
  row_next zero q h = absurd (omega arith)
  row_next (suc n) q h = rw (back n)

  module _ (first count used bytes : ℕ) (words text : List ℕ) where
    pub row-start : Operands t x count first → used + cells_among (row_literals t x count first) ≤ 4096 →
        bytes + bytes_among (row_literals t x count first) ≤ 16384 →
        RowLeft t x first count used bytes words text words text 0 (used + count) bytes first (used + count - used) used
    row-start o c b =
        rw (all_left used count)
        (record {
          rest = o;
          from = omega arith;
          ends = refl;
          place = refl;
          most = omega (arith, c, count-cells t x count first);
          deep = omega arith;
          fits = omega (arith, c);
          texts = b;
          kept = refl;
          kept-text = refl;
          same = refl;
        })
      where
        all_left : (m n : ℕ) → m + n - m ≡ n
        all_left m n = omega arith

module _ {t x : List ℕ} {first count used bytes : ℕ} {words₀ text₀ words text : List ℕ} {nesting cells used-bytes at left to : ℕ}
    (l : RowLeft t x first count used bytes words₀ text₀ words text nesting cells used-bytes at left to) where
  pub row_done : left ≤ 0 →
      ◌≡◌ {A = ℕ × Room} (nesting, room words text cells used-bytes)
      (literals_nesting (row_literals t x count first), laid_row (row_literals t x count first) used (room words₀ text₀ (used + count) bytes))
  unfolding row_literals literals_nesting laid_row
  row_done h =
      let z : left ≡ 0 = omega arith in
      let d : max nesting 0 ≡ literals_nesting (row_literals t x count first) = rw z at l.deep in
      let n : nesting ≡ literals_nesting (row_literals t x count first) = omega (arith, d) in
      let e : room words text cells used-bytes ≡ laid_row (row_literals t x count first) used (room words₀ text₀ (used + count) bytes) = rw z at l.same in
      λ i. (n i, e i)

  module _ (h : 0 < left) where
    abbrev part : Literal
    part = part_literal (part_of t x at)

    abbrev others : Literals
    others = row_literals t x (left - 1) (after t at)

    pub row_here : SoundPart t x at
    row_here = (first_part t x left at h l.rest).0

    pub row-falls : word_at t (at + 1) ≤ row_bytes t count first
    row-falls = omega (arith, first-bytes t x left at h, l.ends, l.from)

    sums : (cells + suc (cells_for part + cells_among others) ≤ 4096 + left) × (used-bytes + (bytes_for part + bytes_among others) ≤ 16384) ×
        (max nesting (max (literal_nesting part) (literals_nesting others)) ≡ literals_nesting (row_literals t x count first))
    unfolding cells_among bytes_among literals_nesting
    sums = (rw (row_next t x left at h) at l.fits, rw (row_next t x left at h) at l.texts, rw (row_next t x left at h) at l.deep)

    pub row_fits : literals_nesting (row_literals t x count first) < 32 → (literal_nesting part ≤ 32) × (cells + cells_for part ≤ 4096) × (used-bytes + bytes_for part ≤ 16384)
    row_fits n = (
      omega (arith, sums.2, n),
      omega (arith, sums.0, count-cells t x (left - 1) (after t at)),
      omega (arith, sums.1),
    )

    module _ {words' text' : List ℕ} {v : Value} {c b : ℕ} (e : ◌≡◌ {A = Value × Room} (v, room words' text' c b) (laid part (room words text cells used-bytes)))
        (kept : length words' ≡ length words) (kept-text : length text' ≡ length text) where
      cells_are : c ≡ cells + cells_for part
      cells_are = ap (λ (a : Value × Room). a.1.cells) e ∙ laid_cells part (room words text cells used-bytes)

      bytes-are : b ≡ used-bytes + bytes_for part
      bytes-are = ap (λ (a : Value × Room). a.1.bytes) e ∙ laid-bytes part (room words text cells used-bytes)

      nesting-is : nesting_of v ≡ literal_nesting part
      nesting-is = ap (λ (a : Value × Room). nesting_of a.0) e ∙ laid-nesting part (room words text cells used-bytes)

      pub row-again : {written : List ℕ} {d n a m : ℕ} → m ≡ left - 1 → written ≡ written_in words' to v → n ≡ nesting_of v → d ≡ max nesting n → a ≡ after t at →
          RowLeft t x first count used bytes words₀ text₀ written text' d c b a m (to + 1)
      unfolding laid_row
      row-again {written} {d} {n} {a} {m} z f g i j =
          rw (j, z) (record {
            rest = (first_part t x left at h l.rest).1;
            from = omega (arith, l.from);
            ends = omega (arith, first-bytes t x left at h, l.ends);
            place = omega (arith, l.place);
            most = l.most;
            deep = omega (arith, sums.2, nesting-is, g, i);
            fits = omega (arith, sums.0, cells_are);
            texts = omega (arith, sums.1, bytes-are);
            kept = ap length f ∙ (written-length words' to v ∙ (kept ∙ l.kept));
            kept-text = kept-text ∙ l.kept-text;
            same = (rw (f, add-one to) (ap (λ (q : Value × Room). laid_row others (suc to) (put q to)) e)) ∙ (ap (λ (ls : Literals). laid_row ls to (room words text cells used-bytes)) (sym (row_next t x left at h)) ∙ l.same);
          })
