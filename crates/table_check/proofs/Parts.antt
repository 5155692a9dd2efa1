-- Operands that may be marked, an accepted record's kind, and rows of operands: what a caller has of each. Assumes nothing.
use mathlib.Core.Path.{◌≡◌, refl, sym, ◌∙◌, ap}
use mathlib.Core.List.{List, []}
use Prim.Native.Nat.{ℕ, zero, suc, ◌+◌, ◌*◌, ◌-◌, ◌≤◌, ◌<◌}
use native.Mathlib.Numerals.{sub-one}
use native.Mathlib.Omega.{arith}
use lib.ListN.{length, get_or}
use Rattle.meaning.specs.Expr.{Expr}
use Rattle.meaning.specs.Kinds.{ExprKind, null_kind, bool_kind, int_kind, uint_kind, double_kind, string_kind, bytes_kind, name_kind, unary_kind, binary_kind, conditional_kind, select_kind, list_kind, map_kind, comprehension_kind, function_kind, Kind, mark, kinds}
use Rattle.meaning.specs.Heads.{Got, got, refused, ◌>>=◌, Head, field_bytes, fields_bytes, numbers_at, head_at}
use Rattle.meaning.specs.Table.{Part, Reader, bare, marked, body_at, as_expr, as_part, expr_at, part_at, word_bytes}
use Rattle.table_check.specs.declared.faults.Marks.{Marks}
use Rattle.table_check.specs.declared.faults.Marks.TheVariants.{Nowhere, Anywhere, Values}
use Rattle.table_layout.specs.Layout.{fields_at, row_of, head_bytes, word_at, after}
use Rattle.table_check.specs.Shapes.{numbers_of, count_of}
use Rattle.table_check.specs.Faults.{marks_of}
use Rattle.table_check.specs.Fits.{fields_fit}
use Rattle.table_check.specs.Reading.{ends, read_of}
use Rattle.table_check.specs.Records.{expr_in, part_in, expr_of, part_of, Sound, SoundPart, Row, kind_byte, numbers_in}
use Rattle.table_check.specs.Opened.{Marked}
use Rattle.table_layout.proofs.KindLaws.{every-kind, head-table}
use Rattle.table_check.proofs.HeadLaws.{Here, head_here}
use Rattle.table_check.proofs.OperandLaws.{part-ends, two-more, key-next, value-next}
use Rattle.table_check.proofs.AcceptedRecordLaws.{LowRow, low-row, up-row, expr-is, sound-here, part-here}
use Rattle.table_check.proofs.Opened.{then, filled-by, head_in, head-of-kind, record-read, part-read}

-- ---- kinds

kind-of : (n : ℕ) → n < 17 → (n ≡ 14 → ⊥) → (k : ExprKind) × (n ≡ kind_byte k)
kind-of =
    every-kind (λ n. (n ≡ 14 → ⊥) → (k : ExprKind) × (n ≡ kind_byte k)) (λ a. (null_kind, refl)) (λ a. (bool_kind, refl)) (λ a. (int_kind, refl))
    (λ a. (uint_kind, refl)) (λ a. (double_kind, refl)) (λ a. (string_kind, refl)) (λ a. (bytes_kind, refl)) (λ a. (name_kind, refl)) (λ a. (unary_kind, refl))
    (λ a. (binary_kind, refl)) (λ a. (conditional_kind, refl)) (λ a. (select_kind, refl)) (λ a. (list_kind, refl)) (λ a. (map_kind, refl)) (λ a. absurd (a refl))
    (λ a. (comprehension_kind, refl)) (λ a. (function_kind, refl))

-- ---- operands that may be marked

value_in : {A : Type 0} → A → Got A → A
value_in d (got a) = a
value_in d (refused r p) = d

bind-back : {A B : Type 0} (o : Got (A × ℕ)) (f : A → B) {c : B} {q : ℕ} → ◌>>=◌ {B = B × ℕ} o (λ a. got (f a.0, a.1)) ≡ got (c, q) →
    (a : A) × (o ≡ got (a, q)) × (c ≡ f a)
unfolding ◌>>=◌ value_in
bind-back {A} {B} (got a) f {c} {q} e =
    let e0 : f a.0 ≡ c = ap (λ (v : Got (B × ℕ)). (value_in {A = B × ℕ} (c, q) v).0) e in
    let e1 : a.1 ≡ q = ap (λ (v : Got (B × ℕ)). (value_in {A = B × ℕ} (c, q) v).1) e in
    (a.0, ap (λ n. got (a.0, n)) e1, sym e0)
bind-back (refused r p) f e = let z : ◌≡◌ {A = ℕ} 0 1 = cc in absurd (omega arith)

mark-row : (row_of 14).kind ≡ mark
unfolding row_of kinds
mark-row = refl

mark-refused : (x : List ℕ) (e : Reader Expr) (a : Reader Part) (p : ℕ) (h : Head) (k : Kind) → k ≡ mark → {b : Expr × ℕ} → as_expr x e a p h k ≡ got b → ⊥
unfolding as_expr
mark-refused x e a p h k f i = let j = rw f at i in let z : ◌≡◌ {A = ℕ} 0 1 = cc in omega arith

module _ (t x : List ℕ) (p : ℕ) (s : SoundPart t x p) where
  g : Here t p (length t)
  g = part-here t x p s

  module _ (b : get_or t p 0 ≡ 14) where
    abbrev mark_head : Head
    mark_head = record { kind = mark; numbers = []; operands_at = p + fields_at; end = after t p }

    mark-bytes : head_bytes 14 ≡ 3
    unfolding head_bytes row_of kinds fields_bytes field_bytes
    mark-bytes = refl

    mark-numbers : numbers_of t p 14 ≡ []
    unfolding numbers_of row_of kinds numbers_at
    mark-numbers = refl

    mark-read : head_at word_bytes t p (length t) ≡ got mark_head
    mark-read = g.is ∙ (rw (b, mark-row, mark-numbers, mark-bytes))

    mark-body : as_part x (λ q e. expr_at word_bytes t x 63 q e) (λ q e. part_at word_bytes t x 63 q e) p mark_head mark ≡ got (part_of t x p, after t p)
    unfolding SoundPart
    mark-body = sym (part-read t x p 63 (length t) mark-read) ∙ s

    marked_row : LowRow t x Nowhere (after t p) 1 (p + fields_at)
    unfolding read_of fields_fit count_of marks_of
    marked_row =
        low-row t x p Nowhere (after t p) 1 (p + fields_at) g.inside
        (sym (part-ends x (λ q e. expr_at word_bytes t x 63 q e) (λ q e. part_at word_bytes t x 63 q e) (λ m q e. read_of t x 63 m q e) (λ q r. refl) (λ q r. refl)
        p mark_head mark (λ z. absurd (omega arith))) ∙ ap ends mark-body)

    marked-is : part_of t x p ≡ marked p (expr_of t x (p + fields_at))
    unfolding as_part part_in
    marked-is = ap part_in (sym mark-body ∙ then _ marked_row.0 (filled-by p mark_head _ marked_row.1))

    pub part-marked : Marked t x p
    part-marked = record {
      body = rw (b, mark-bytes) at g.room;
      room = g.inside;
      first = ap (λ (n : ℕ). p + n) (ap head_bytes b ∙ mark-bytes);
      operand = (up-row t x Nowhere (after t p) 1 (p + fields_at) g.inside marked_row).0;
      ends = marked_row.1;
      is = marked-is;
    }

  -- one that is not
  pub part-bare : (get_or t p 0 ≡ 14 → ⊥) → Sound t x p × (part_of t x p ≡ bare (expr_of t x p))
  unfolding SoundPart Sound as_part as_expr expr_in
  part-bare b =
      let k = kind-of (get_or t p 0) g.known b in
      let r = head-of-kind t x p k.0 k.1 g in
      let f = bind-back
      (body_at x (λ q e. expr_at word_bytes t x 63 q e) (λ q e. part_at word_bytes t x 63 q e) p (head_in t x p k.0) k.0 (numbers_in t x p k.0))
      (λ e. bare e) (sym (part-read t x p 63 (length t) r) ∙ s) in
      let e : expr_at word_bytes t x 64 p (length t) ≡ got (f.0, after t p) = record-read t x p 63 (length t) r ∙ f.1 in
      let i = expr-is t x p e in
      (rw i e, f.2 ∙ ap (λ e. bare e) (sym i))

-- ---- rows of operands

module _ (t x : List ℕ) where
  pub sound-extent : (p : ℕ) → Sound t x p → (fields_at ≤ word_at t (p + 1)) × (after t p ≤ length t)
  sound-extent p s = let h = sound-here t x p s in let f = head-table (get_or t p 0) h.known in (omega (arith, f.0, f.1, h.least), h.inside)

  pub part-extent : (p : ℕ) → SoundPart t x p → (fields_at ≤ word_at t (p + 1)) × (after t p ≤ length t)
  part-extent p s = let h = part-here t x p s in let f = head-table (get_or t p 0) h.known in (omega (arith, f.0, f.1, h.least), h.inside)

  -- it goes forward, to its end
  pub row_within : (marks : Marks) (end n q : ℕ) → Row t x marks end n q → q ≤ end
  row_within marks end zero q r = omega (arith, r)
  row_within marks end (suc n) q r = omega (arith, row_within marks end n (after t q) r.1)

  -- the first element and the rest
  pub first-element : (end n q : ℕ) → 0 < n → Row t x Anywhere end n q → SoundPart t x q × Row t x Anywhere end (n - 1) (after t q)
  first-element end zero q h r = absurd (omega arith)
  first-element end (suc n) q h r = (r.0, rw sub-one r.1)

  -- the first pair and the rest
  pub first-pair : (end n q : ℕ) → 0 < n → Row t x Values end (2 * n) q →
      Sound t x q × SoundPart t x (after t q) × Row t x Values end (2 * (n - 1)) (after t (after t q))
  first-pair end zero q h r = absurd (omega arith)
  first-pair end (suc n) q h r =
      let s = rw (two-more n) at r in
      (rw (key-next n) at s.0, rw (value-next n) at s.1.0, rw sub-one s.1.1)

  no-mark : (p : ℕ) → Sound t x p → get_or t p 0 ≡ 14 → ⊥
  unfolding Sound
  no-mark p s b =
      let h = sound-here t x p s in
      mark-refused x (λ q e. expr_at word_bytes t x 63 q e) (λ q e. part_at word_bytes t x 63 q e) p (head_here t p) (row_of (get_or t p 0)).kind
      (ap (λ (n : ℕ). (row_of n).kind) b ∙ mark-row) (sym (record-read t x p 63 (length t) h.is) ∙ s)

  -- an accepted record is of a kind of expression
  pub sound-kind : (p : ℕ) → Sound t x p → (k : ExprKind) × (get_or t p 0 ≡ kind_byte k)
  sound-kind p s = kind-of (get_or t p 0) (sound-here t x p s).known (no-mark p s)
