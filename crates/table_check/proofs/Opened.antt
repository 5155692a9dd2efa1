-- The law of accepted records: the expression at a record's place is the record of its kind over the expressions at its operands' places, and
-- each of those is accepted. One law for all kinds; a caller opens one record by it and nothing more. Assumes nothing.
use mathlib.Core.Path.{◌≡◌, refl, sym, ◌∙◌, ap}
use mathlib.Core.Bool.{Bool, true, false, ◌&&◌, cond}
use mathlib.Core.List.{List}
use Rattle.std.specs.Prelude.{Option, None, Some}
use Prim.Native.Nat.{ℕ, zero, suc, ◌+◌, ◌*◌, ◌≤◌}
use native.Mathlib.Omega.{arith}
use lib.Dec.{eqb, leb, ltb}
use lib.ListN.{length, get_or}
use Rattle.std.specs.Prelude.{slice_get}
use borrow.Author.Tests.{eq-eqb}
use Rattle.text.specs.Utf8.{well_formed}
use Rattle.meaning.specs.declared.refusal.Reason.TheVariants.{WrongField}
use Rattle.meaning.specs.Errors.{refusal_at}
use Rattle.meaning.specs.Expr.{not_op, equals}
use Rattle.meaning.specs.Kinds.{ExprKind, null_kind, bool_kind, int_kind, uint_kind, double_kind, string_kind, bytes_kind, name_kind, unary_kind, binary_kind, conditional_kind, select_kind, list_kind, map_kind, comprehension_kind, function_kind, expr, kinds, Called, to_one, to_none, to_two, flags, name_of}
use Rattle.meaning.specs.Heads.{Got, got, ◌>>=◌, ◌>>◌, demand, or_refuse, Head, field_bytes, fields_bytes, numbers_at, head_at}
use Rattle.meaning.specs.Table.{elements_from, pairs_from, span, utf8, filled, called_at, body_at, as_expr, as_part, expr_at, part_at, word_bytes}
use Rattle.std.specs.Prelude.{Ok}
use Rattle.table_check.specs.declared.faults.Marks.TheVariants.{Nowhere, Anywhere, Values}
use Rattle.table_layout.specs.Layout.{row_of, head_bytes, word_at, after, fields_at}
use Rattle.table_check.specs.Shapes.{numbers_of, called_count, expr_count, count_of}
use Rattle.table_check.specs.Faults.{expr_marks}
use Rattle.table_check.specs.Fits.{is_some, expr_fits}
use Rattle.table_check.specs.Reading.{ends, read_of, operands_of}
use Rattle.table_check.specs.Records.{expr_in, expr_of, Sound, elements_of, pairs_of, kind_byte, head_of_kind, span_of, or_else, numbers_in, call_of, node}
use Rattle.table_check.specs.Opened.{Opened}
use Rattle.table_layout.proofs.WordLaws.{byte_is}
use Rattle.table_check.proofs.HeadLaws.{Here}
use Rattle.table_check.proofs.OperandLaws.{body-ends, two-more, key-next, value-next}
use Rattle.table_check.proofs.AcceptedRecordLaws.{LowRow, low-row, up-row, cond-ended, sound-here}

-- ---- fields that are right

some_of : {A : Type 0} (d : A) (o : Option A) → is_some o ≡ true → o ≡ Some (or_else d o)
some_of d None e = let z : ◌≡◌ {A = ℕ} 0 1 = cc in absurd (omega arith)
some_of d (Some a) e = refl

flag-of : (n : ℕ) → is_some (slice_get flags n) ≡ true → slice_get flags n ≡ Some (eqb n 1)
unfolding flags
flag-of zero e = refl
flag-of (suc zero) e = refl
flag-of (suc (suc n)) e = let z : ◌≡◌ {A = ℕ} 0 1 = cc in absurd (omega arith)

cond_of : {A : Type 0} (b : Bool) (a : A) → is_some (cond b (Some a) None) ≡ true → cond b (Some a) None ≡ Some a
cond_of true a e = refl
cond_of false a e = let z : ◌≡◌ {A = ℕ} 0 1 = cc in absurd (omega arith)

name-of : (n : ℕ) → is_some (name_of n) ≡ true → name_of n ≡ Some n
unfolding name_of
name-of n e = cond_of (ltb n 128) n e

span-of : (x : List ℕ) (o n : ℕ) → is_some (span x o n) ≡ true → span x o n ≡ Some (span_of x o n)
unfolding span
span-of x o n e = cond_of (leb (o + n) (length x)) (span_of x o n) e

utf8-by : (b : Bool) (s : List ℕ) → is_some (utf8 (cond b (Some s) None)) ≡ true → utf8 (cond b (Some s) None) ≡ Some s
unfolding utf8
utf8-by true s e = cond_of (well_formed s) s e
utf8-by false s e = let z : ◌≡◌ {A = ℕ} 0 1 = cc in absurd (omega arith)

utf8-of : (x : List ℕ) (o n : ℕ) → is_some (utf8 (span x o n)) ≡ true → utf8 (span x o n) ≡ Some (span_of x o n)
unfolding span
utf8-of x o n e = utf8-by (leb (o + n) (length x)) (span_of x o n) e

pub both_of : (a b : Bool) → (a && b) ≡ true → (a ≡ true) × (b ≡ true)
both_of true b e = (refl, e)
both_of false b e = let z : ◌≡◌ {A = ℕ} 0 1 = cc in absurd (omega arith)

-- ---- what follows what

pub then : {A B : Type 0} {g : Got A} {a : A} (k : A → Got B) {b : Got B} → g ≡ got a → k a ≡ b → ◌>>=◌ g k ≡ b
unfolding ◌>>=◌
then k e f = rw e f

field : {A : Type 0} (p : ℕ) {o : Option A} {a : A} → o ≡ Some a → or_refuse WrongField p o ≡ got a
unfolding or_refuse
field p e = rw e

pub filled-by : {A : Type 0} (p : ℕ) (h : Head) (x : A) {q : ℕ} → q ≡ h.end → filled p h x q ≡ got (x, h.end)
unfolding filled demand ◌>>◌ ◌>>=◌
filled-by p h x e = rw (e, eq-eqb h.end h.end refl)

-- ---- the record over its operands

module _ (t x : List ℕ) (p : ℕ) where
  -- its head, by its kind
  abbrev pub head_in : ExprKind → Head
  head_in k = record { kind = expr k; numbers = numbers_in t x p k; operands_at = p + head_of_kind k; end = after t p }

  abbrev end : ℕ
  end = after t p

  elements-are : (n q : ℕ) → LowRow t x Anywhere end n q → elements_from (λ q e. part_at word_bytes t x 63 q e) n q end ≡ got (elements_of t x n q, end)
  unfolding elements_from
  elements-are zero q r = ap (λ m. got (elements_of t x zero q, m)) r
  elements-are (suc n) q r = then _ r.0 (then _ (elements-are n (after t q) r.1) refl)

  pairs-are : (n q : ℕ) → LowRow t x Values end (2 * n) q → pairs_from (λ q e. expr_at word_bytes t x 63 q e) (λ q e. part_at word_bytes t x 63 q e) n q end ≡ got
      (pairs_of t x n q, end)
  unfolding pairs_from
  pairs-are zero q r = ap (λ m. got (pairs_of t x zero q, m)) r
  pairs-are (suc n) q r =
      let s = rw (two-more n) at r in
      then _ (rw (key-next n) at s.0) (then _ (rw (value-next n) at s.1.0) (then _ (pairs-are n (after t (after t q)) s.1.1) refl))

  call-is : (o : Option Called) → is_some o ≡ true → (called_count o ≡ 0 → p + head_of_kind function_kind ≡ end) → LowRow t x Nowhere end (called_count o) (p + head_of_kind function_kind) →
      ◌>>=◌ (or_refuse WrongField p o) (λ f. called_at x (λ q e. expr_at word_bytes t x 63 q e) (λ q e. part_at word_bytes t x 63 q e) p (head_in function_kind) f) ≡
      got (call_of t x p o, end)
  unfolding called_at or_refuse ◌>>=◌
  call-is None e leaf r = let z : ◌≡◌ {A = ℕ} 0 1 = cc in absurd (omega arith)
  call-is (Some (to_one f)) e leaf r = then _ r.0 (filled-by p (head_in function_kind) _ r.1)
  call-is (Some to_none) e leaf r = refl
  call-is (Some to_two) e leaf r = then _ r.0 (then _ r.1.0 (filled-by p (head_in function_kind) _ r.1.1))

  node-is : (k : ExprKind) → expr_fits x k (numbers_in t x p k) ≡ true → (expr_count k (numbers_in t x p k) ≡ 0 → p + head_of_kind k ≡ end) →
      LowRow t x (expr_marks k) end (expr_count k (numbers_in t x p k)) (p + head_of_kind k) →
      body_at x (λ q e. expr_at word_bytes t x 63 q e) (λ q e. part_at word_bytes t x 63 q e) p (head_in k) k (numbers_in t x p k) ≡ got (node t x p k, end)
  unfolding body_at
  node-is null_kind e leaf r = refl
  node-is bool_kind e leaf r = then _ (field p (flag-of _ e)) refl
  node-is int_kind e leaf r = refl
  node-is uint_kind e leaf r = refl
  node-is double_kind e leaf r = refl
  node-is string_kind e leaf r = then _ (field p (utf8-of x _ _ e)) refl
  node-is bytes_kind e leaf r = then _ (field p (span-of x _ _ e)) refl
  node-is name_kind e leaf r = then _ (field p (name-of _ e)) refl
  node-is unary_kind e leaf r = then _ (field p (some_of not_op _ e)) (then _ r.0 (filled-by p (head_in unary_kind) _ r.1))
  node-is binary_kind e leaf r = then _ (field p (some_of equals _ e)) (then _ r.0 (then _ r.1.0 (filled-by p (head_in binary_kind) _ r.1.1)))
  node-is conditional_kind e leaf r = then _ r.0 (then _ r.1.0 (then _ r.1.1.0 (filled-by p (head_in conditional_kind) _ r.1.1.1)))
  node-is select_kind e leaf r =
      let f = both_of _ _ e in
      then _ (field p (flag-of _ f.0)) (then _ (field p (utf8-of x _ _ f.1)) (then _ r.0 (filled-by p (head_in select_kind) _ r.1)))
  node-is list_kind e leaf r = then _ (elements-are _ _ r) (filled-by p (head_in list_kind) _ refl)
  node-is map_kind e leaf r = then _ (pairs-are _ _ r) (filled-by p (head_in map_kind) _ refl)
  node-is comprehension_kind e leaf r =
      let f = both_of _ _ e in
      then _ (field p (name-of _ f.0)) (then _ (field p (name-of _ f.1))
      (then _ r.0
      (then _ r.1.0
      (then _ r.1.1.0 (then _ r.1.1.1.0 (then _ r.1.1.1.1.0 (filled-by p (head_in comprehension_kind) _ r.1.1.1.1.1)))))))
  node-is function_kind e leaf r = call-is _ e leaf r

  -- ---- the head by its kind

  row_is : (k : ExprKind) → (row_of (kind_byte k)).kind ≡ expr k
  unfolding row_of kinds
  row_is null_kind = refl
  row_is bool_kind = refl
  row_is int_kind = refl
  row_is uint_kind = refl
  row_is double_kind = refl
  row_is string_kind = refl
  row_is bytes_kind = refl
  row_is name_kind = refl
  row_is unary_kind = refl
  row_is binary_kind = refl
  row_is conditional_kind = refl
  row_is select_kind = refl
  row_is list_kind = refl
  row_is map_kind = refl
  row_is comprehension_kind = refl
  row_is function_kind = refl

  head-is : (k : ExprKind) → head_bytes (kind_byte k) ≡ head_of_kind k
  unfolding head_bytes row_of kinds fields_bytes field_bytes
  head-is null_kind = refl
  head-is bool_kind = refl
  head-is int_kind = refl
  head-is uint_kind = refl
  head-is double_kind = refl
  head-is string_kind = refl
  head-is bytes_kind = refl
  head-is name_kind = refl
  head-is unary_kind = refl
  head-is binary_kind = refl
  head-is conditional_kind = refl
  head-is select_kind = refl
  head-is list_kind = refl
  head-is map_kind = refl
  head-is comprehension_kind = refl
  head-is function_kind = refl

  one_on : p + fields_at + 1 ≡ p + (fields_at + 1)
  one_on = omega arith

  word_on : p + fields_at + word_bytes ≡ p + (fields_at + word_bytes)
  word_on = omega arith

  both-on : p + fields_at + 1 + word_bytes ≡ p + (fields_at + 1 + word_bytes)
  both-on = omega arith

  numbers-are : (k : ExprKind) → numbers_of t p (kind_byte k) ≡ numbers_in t x p k
  unfolding numbers_of row_of kinds numbers_at fields_bytes field_bytes word_at
  numbers-are null_kind = refl
  numbers-are bool_kind = rw (byte_is t (p + fields_at))
  numbers-are int_kind = refl
  numbers-are uint_kind = refl
  numbers-are double_kind = refl
  numbers-are string_kind = rw word_on
  numbers-are bytes_kind = rw word_on
  numbers-are name_kind = rw (byte_is t (p + fields_at))
  numbers-are unary_kind = rw (byte_is t (p + fields_at))
  numbers-are binary_kind = rw (byte_is t (p + fields_at))
  numbers-are conditional_kind = refl
  numbers-are select_kind = rw (byte_is t (p + fields_at), both-on, one_on)
  numbers-are list_kind = refl
  numbers-are map_kind = refl
  numbers-are comprehension_kind = rw (byte_is t (p + fields_at), byte_is t (p + fields_at + 1), one_on)
  numbers-are function_kind = rw (byte_is t (p + fields_at))

  pub record-read : (left parent : ℕ) {g : Head} → head_at word_bytes t p parent ≡ got g →
      expr_at word_bytes t x (suc left) p parent ≡ as_expr x (λ q e. expr_at word_bytes t x left q e) (λ q e. part_at word_bytes t x left q e) p g g.kind
  unfolding expr_at ◌>>=◌
  record-read left parent e = rw e

  pub part-read : (left parent : ℕ) {g : Head} → head_at word_bytes t p parent ≡ got g →
      part_at word_bytes t x (suc left) p parent ≡ as_part x (λ q e. expr_at word_bytes t x left q e) (λ q e. part_at word_bytes t x left q e) p g g.kind
  unfolding part_at ◌>>=◌
  part-read left parent e = rw e

pub head-of-kind : (t x : List ℕ) (p : ℕ) (k : ExprKind) → get_or t p 0 ≡ kind_byte k → Here t p (length t) →
    head_at word_bytes t p (length t) ≡ got (head_in t x p k)
head-of-kind t x p k b h = h.is ∙ (rw (b, row_is t x p k, numbers-are t x p k, head-is t x p k))

module _ (t x : List ℕ) (p : ℕ) (k : ExprKind) (b : get_or t p 0 ≡ kind_byte k) (s : Sound t x p) where
  h : Here t p (length t)
  h = sound-here t x p s

  head_read : head_at word_bytes t p (length t) ≡ got (head_in t x p k)
  head_read = head-of-kind t x p k b h

  body-read : body_at x (λ q e. expr_at word_bytes t x 63 q e) (λ q e. part_at word_bytes t x 63 q e) p (head_in t x p k) k (numbers_in t x p k) ≡ got
      (expr_of t x p, after t p)
  unfolding Sound as_expr
  body-read = sym (record-read t x p 63 (length t) head_read) ∙ s

  leaf : expr_count k (numbers_in t x p k) ≡ 0 → p + head_of_kind k ≡ after t p
  unfolding count_of
  leaf = rw (b, row_is t x p k, numbers-are t x p k, head-is t x p k) at h.leaf

  row_read : (expr_fits x k (numbers_in t x p k) ≡ true) ×
      (operands_of (λ m q e. read_of t x 63 m q e) p (expr_marks k) (after t p) (expr_count k (numbers_in t x p k)) (p + head_of_kind k) ≡ Ok (after t p))
  unfolding read_of
  row_read =
      cond-ended (expr_fits x k (numbers_in t x p k)) _ (refusal_at WrongField p)
      (sym (body-ends x (λ q e. expr_at word_bytes t x 63 q e) (λ q e. part_at word_bytes t x 63 q e) (λ m q e. read_of t x 63 m q e) (λ q r. refl) (λ q r. refl) p
      (head_in t x p k) k (numbers_in t x p k) leaf) ∙ ap ends body-read)

  low-operands : LowRow t x (expr_marks k) (after t p) (expr_count k (numbers_in t x p k)) (p + head_of_kind k)
  low-operands = low-row t x p (expr_marks k) (after t p) (expr_count k (numbers_in t x p k)) (p + head_of_kind k) h.inside row_read.1

  same-expr : expr_of t x p ≡ node t x p k
  unfolding expr_in
  same-expr = ap expr_in (sym body-read ∙ node-is t x p k row_read.0 leaf low-operands)

  pub opened : Opened t x p k
  opened = record {
    body = rw (b, head-is t x p k) at h.room;
    room = h.inside;
    least = let f : head_of_kind k ≤ word_at t (p + 1) = rw (b, head-is t x p k) at h.least in omega arith;
    first = ap (λ (n : ℕ). p + n) (ap head_bytes b ∙ head-is t x p k);
    fits = row_read.0;
    row = up-row t x (expr_marks k) (after t p) (expr_count k (numbers_in t x p k)) (p + head_of_kind k) h.inside low-operands;
    is = same-expr;
  }
