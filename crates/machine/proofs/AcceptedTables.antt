-- What is read from a table is what the machine asks for: the table's own fields spell every literal's text and every field.
-- From the heads up, a line for each kind of record. Rests on the laws of reading. Assumes nothing.
use Prim.Native.Nat.{ℕ, zero, suc, ◌+◌, ◌^◌, ◌≤◌, ◌<◌}
use mathlib.Core.Path.{◌≡◌, refl, sym, ap, subst}
use mathlib.Core.List.{List}
use Rattle.std.specs.Prelude.{Option, None, Some}
use mathlib.Core.Bool.{Bool, true, false, cond}
use native.Mathlib.Omega.{arith}
use lib.ListN.{length, take, drop, length-take, length-drop}
use Rattle.std.specs.Prelude.{slice_get}
use lib.Dec.{leb}
use borrow.Author.Tests.{leb-true}
use mir.Syntax.{w64}
use mir.ValLaws.{to_z-Fits}
use Rattle.text.specs.Utf8.{well_formed}
use Rattle.meaning.specs.Limits.{deepest_record}
use Rattle.meaning.specs.declared.refusal.Reason.TheVariants.{WrongField, WrongExtent, UnknownKind}
use Rattle.meaning.specs.Expr.{Expr, Elements, Pairs}
use Rattle.meaning.specs.Kinds.{ExprKind, null_kind, bool_kind, int_kind, uint_kind, double_kind, string_kind, bytes_kind, name_kind, unary_kind, binary_kind, conditional_kind, select_kind, list_kind, map_kind, comprehension_kind, function_kind, Kind, mark, expr, Called, to_one, to_none, to_two, Row, kinds}
use Rattle.meaning.specs.Heads.{Got, got, refused, or_refuse, Head, first, second, third, field_bytes, fields_bytes, little_endian, numbers_at, row_at, head_at}
use Rattle.meaning.specs.Table.{Part, bare, marked, add_element, add_pair, Reader, elements_from, pairs_from, span, utf8, filled, called_at, body_at, as_expr, as_part, expr_at, part_at, root_at, word_bytes, read_table}
use Rattle.meaning.specs.WellFormed.{AllBytes}
use Rattle.meaning_laws.specs.Each.{Each, Only, Reads}
use Rattle.meaning_laws.proofs.Fine.{Perhaps}
use Rattle.meaning_laws.proofs.Reading.{reads-got, reads-refused, reads-bind, reads-bind-any, reads_then, reads-demand, reads-or_refuse, was_read}
use Rattle.meaning_laws.proofs.TableNumbers.{byte_at, get_elem-each, NumbersFit, head-fits}
use Rattle.meaning_laws.proofs.TableFormed.{ReadsOnly, filled-formed, reads-name}
use Rattle.table_layout.specs.Layout.{word_at}
use Rattle.machine.specs.Accepted.{Spells, Accepted, AcceptedElements, AcceptedPairs}

-- ---- words of a table

pub word_below : (table : List ℕ) → AllBytes table → (p : ℕ) → word_at table p < 2 ^ 16
unfolding word_at little_endian
word_below table h p = omega (arith, byte_at table p h, byte_at table (suc p) h)

-- ---- heads: the numbers of a record are the table's words, at the places that the machine reads

module _ (table : List ℕ) where
  abbrev Told : ℕ → List ℕ → ExprKind → Type 0
  Told p ns string_kind = (first ns ≡ word_at table (p + 3)) × (second ns ≡ word_at table (p + 5))
  Told p ns bytes_kind = (first ns ≡ word_at table (p + 3)) × (second ns ≡ word_at table (p + 5))
  Told p ns select_kind = (second ns ≡ word_at table (p + 4)) × (third ns ≡ word_at table (p + 6))
  Told p ns null_kind = Unit {0}
  Told p ns bool_kind = Unit {0}
  Told p ns int_kind = Unit {0}
  Told p ns uint_kind = Unit {0}
  Told p ns double_kind = Unit {0}
  Told p ns name_kind = Unit {0}
  Told p ns unary_kind = Unit {0}
  Told p ns binary_kind = Unit {0}
  Told p ns conditional_kind = Unit {0}
  Told p ns list_kind = Unit {0}
  Told p ns map_kind = Unit {0}
  Told p ns comprehension_kind = Unit {0}
  Told p ns function_kind = Unit {0}

  abbrev ToldKind : ℕ → Kind → List ℕ → Type 0
  ToldKind p mark ns = Unit {0}
  ToldKind p (expr k) ns = Told p ns k

  RowTells : ℕ → Row → Type 0
  RowTells p r = ToldKind p r.kind (numbers_at word_bytes table r.fields (p + 3))

  words-tell : (p : ℕ) → (word_at table (p + 3) ≡ word_at table (p + 3)) × (word_at table (p + 3 + 2) ≡ word_at table (p + 5))
  words-tell p = (refl, ap (λ i. word_at table i) (omega arith))

  three-tell : (p : ℕ) → (word_at table (p + 3 + 1) ≡ word_at table (p + 4)) × (word_at table (p + 3 + 1 + 2) ≡ word_at table (p + 6))
  three-tell p = (ap (λ i. word_at table i) (omega arith), ap (λ i. word_at table i) (omega arith))

  later-rows-tell : (p : ℕ) → Each (RowTells p) (drop 8 kinds)
  unfolding kinds RowTells numbers_at field_bytes word_at
  later-rows-tell p = (tt, (tt, (tt, (three-tell p, (tt, (tt, (tt, (tt, (tt, tt)))))))))

  rows_tell : (p : ℕ) → Each (RowTells p) kinds
  unfolding kinds RowTells numbers_at field_bytes word_at
  rows_tell p = (tt, (tt, (tt, (tt, (tt, (words-tell p, (words-tell p, (tt, later-rows-tell p))))))))

  row-tells : (p : ℕ) → Reads (RowTells p) (row_at word_bytes table p)
  unfolding row_at
  row-tells p =
      reads-bind-any (or_refuse WrongExtent p (slice_get table p))
      (λ b. reads-or_refuse UnknownKind p (slice_get kinds b) (get_elem-each (RowTells p) kinds b (rows_tell p)))

  head-tells : (p end : ℕ) → Reads (λ h. ToldKind p h.kind h.numbers) (head_at word_bytes table p end)
  unfolding head_at RowTells fields_bytes field_bytes
  head-tells p end = reads-bind (row-tells p) (λ r h. reads-demand _ WrongExtent p (λ e. reads-got _ h))

-- ---- spans

module _ (table text : List ℕ) where
  -- what the machine reads at an offset and a length is the span
  span-spells : (offset n : ℕ) → offset < 2 ^ 16 → n < 2 ^ 16 → Perhaps (λ s. Spells table text s offset n) (span text offset n)
  unfolding span
  span-spells offset n a b = go (leb (offset + n) (length text)) (leb-true (offset + n) (length text))
    where
      go : (t : Bool) → (t ≡ true → offset + n ≤ length text) → Perhaps (λ s. Spells table text s offset n) (cond t (Some (take n (drop offset text))) None)
      go true h =
          let l = h refl in
          record { long = omega (arith, length-take n (drop offset text), length-drop offset text); spelled = refl; offset_fits = a; size_fits = b }
      go false h = tt

  utf8-spells : (offset n : ℕ) (o : Option (List ℕ)) → Perhaps (λ s. Spells table text s offset n) o → Perhaps (λ s. Spells table text s offset n) (utf8 o)
  unfolding utf8
  utf8-spells offset n None h = tt
  utf8-spells offset n (Some s) h = go (well_formed s)
    where
      go : (t : Bool) → Perhaps (λ s. Spells table text s offset n) (cond t (Some s) None)
      go true = h
      go false = tt

  abbrev SpelledAt : ℕ → ℕ → List ℕ → Type 0
  SpelledAt a b s = Spells table text s (word_at table a) (word_at table b)

  module _ (table_bytes : AllBytes table) where
    spelled : (a b offset n : ℕ) → offset ≡ word_at table a → n ≡ word_at table b → Perhaps (SpelledAt a b) (span text offset n)
    spelled a b offset n e f =
        subst (λ x. Perhaps (SpelledAt a b) (span text x n)) (sym e)
        (subst (λ y. Perhaps (SpelledAt a b) (span text (word_at table a) y)) (sym f)
        (span-spells (word_at table a) (word_at table b) (word_below table table_bytes a) (word_below table table_bytes b)))

    reads-span : (p a b offset n : ℕ) → offset ≡ word_at table a → n ≡ word_at table b → Reads (SpelledAt a b) (or_refuse WrongField p (span text offset n))
    reads-span p a b offset n e f = reads-or_refuse WrongField p (span text offset n) (spelled a b offset n e f)

    reads-utf8 : (p a b offset n : ℕ) → offset ≡ word_at table a → n ≡ word_at table b
        → Reads (SpelledAt a b) (or_refuse WrongField p (utf8 (span text offset n)))
    reads-utf8 p a b offset n e f =
        reads-or_refuse WrongField p (utf8 (span text offset n)) (utf8-spells (word_at table a) (word_at table b) (span text offset n) (spelled a b offset n e f))

-- ---- operands

module _ (table text : List ℕ) where
  abbrev AcceptedPart : Part → Type 0
  AcceptedPart (bare e) = Accepted table text e
  AcceptedPart (marked p e) = Accepted table text e

  add-element : (x : Part) (es : Elements) → AcceptedPart x → AcceptedElements table text es → AcceptedElements table text (add_element x es)
  unfolding add_element
  add-element (bare e) es f g = (f, g)
  add-element (marked p e) es f g = (f, g)

  add-pair : (k : Expr) (x : Part) (ps : Pairs) → Accepted table text k → AcceptedPart x → AcceptedPairs table text ps
      → AcceptedPairs table text (add_pair k x ps)
  unfolding add_pair
  add-pair k (bare e) ps f g h = (f, g, h)
  add-pair k (marked p e) ps f g h = (f, g, h)

  elements-accepted : {part_at : Reader Part} → ReadsOnly AcceptedPart part_at → (n : ℕ)
      → ReadsOnly (λ es. AcceptedElements table text es) (elements_from part_at n)
  unfolding elements_from
  elements-accepted h zero p end = reads-got _ tt
  elements-accepted h (suc n) p end =
      reads-bind (h p end)
      (λ x f. reads-bind (elements-accepted h n x.1 end) (λ es g. reads-got _ (add-element x.0 es.0 f g)))

  pairs-accepted : {expr_at : Reader Expr} {part_at : Reader Part} → ReadsOnly (λ e. Accepted table text e) expr_at → ReadsOnly AcceptedPart part_at → (n : ℕ)
      → ReadsOnly (λ ps. AcceptedPairs table text ps) (pairs_from expr_at part_at n)
  unfolding pairs_from
  pairs-accepted h k zero p end = reads-got _ tt
  pairs-accepted h k (suc n) p end =
      reads-bind (h p end)
      (λ e f. reads-bind (k e.1 end)
      (λ x g. reads-bind (pairs-accepted h k n x.1 end) (λ ps l. reads-got _ (add-pair e.0 x.0 ps.0 f g l))))

  -- ---- records

  module _ (table_bytes : AllBytes table) (expr_at : Reader Expr) (part_at : Reader Part)
      (exprs : ReadsOnly (λ e. Accepted table text e) expr_at) (parts : ReadsOnly AcceptedPart part_at) (p : ℕ) (h : Head) where
    filled-expr : (x : Expr) (q : ℕ) → Accepted table text x → Reads (λ y. Accepted table text y.0) (filled p h x q)
    filled-expr x q f = filled-formed (λ e. Accepted table text e) p h x q f

    called-accepted : (c : Called) → Reads (λ x. Accepted table text x.0) (called_at text expr_at part_at p h c)
    unfolding called_at
    called-accepted (to_one f) = reads-bind (exprs _ _) (λ x g. filled-expr _ x.1 g)
    called-accepted to_none = reads-got _ tt
    called-accepted to_two = reads-bind (exprs _ _) (λ x g. reads-bind (exprs _ _) (λ y k. filled-expr _ y.1 (g, k)))

    body-accepted : (k : ExprKind) (ns : List ℕ) → NumbersFit ns → Told table p ns k → Reads (λ x. Accepted table text x.0) (body_at text expr_at part_at p h k ns)
    unfolding body_at
    body-accepted null_kind ns n t = reads-got _ tt
    body-accepted bool_kind ns n t = reads-bind-any _ (λ b. reads-got _ tt)
    body-accepted int_kind ns n t = reads-got _ (to_z-Fits w64 (first ns) (record { fits = n.first_fits })).sfits
    body-accepted uint_kind ns n t = reads-got _ n.first_fits
    body-accepted double_kind ns n t = reads-got _ n.first_fits
    body-accepted string_kind ns n t = reads-bind (reads-utf8 table text table_bytes p (p + 3) (p + 5) (first ns) (second ns) t.0 t.1) (λ s f. reads-got _ f)
    body-accepted bytes_kind ns n t = reads-bind (reads-span table text table_bytes p (p + 3) (p + 5) (first ns) (second ns) t.0 t.1) (λ s f. reads-got _ f)
    body-accepted name_kind ns n t = reads-bind (reads-name p (first ns)) (λ m f. reads-got _ f)
    body-accepted unary_kind ns n t = reads-bind-any _ (λ o. reads-bind (exprs _ _) (λ x f. filled-expr _ x.1 f))
    body-accepted binary_kind ns n t =
        reads-bind-any _ (λ o. reads-bind (exprs _ _) (λ x f. reads-bind (exprs _ _) (λ y g. filled-expr _ y.1 (f, g))))
    body-accepted conditional_kind ns n t =
        reads-bind (exprs _ _) (λ x f. reads-bind (exprs _ _) (λ y g. reads-bind (exprs _ _) (λ z k. filled-expr _ z.1 (f, g, k))))
    body-accepted select_kind ns n t =
        reads-bind-any _
        (λ test. reads-bind (reads-utf8 table text table_bytes p (p + 4) (p + 6) (second ns) (third ns) t.0 t.1)
        (λ s f. reads-bind (exprs _ _) (λ x g. filled-expr _ x.1 (f, g))))
    body-accepted list_kind ns n t = reads-bind (elements-accepted parts (first ns) _ _) (λ es f. filled-expr _ es.1 f)
    body-accepted map_kind ns n t = reads-bind (pairs-accepted exprs parts (first ns) _ _) (λ ps f. filled-expr _ ps.1 f)
    body-accepted comprehension_kind ns n t =
        reads-bind (reads-name p (first ns))
        (λ a fa. reads-bind (reads-name p (second ns))
        (λ i fi. reads-bind (exprs _ _)
        (λ x f. reads-bind (exprs _ _)
        (λ y g. reads-bind (exprs _ _)
        (λ z k. reads-bind (exprs _ _)
        (λ u l. reads-bind (exprs _ _) (λ v m. filled-expr _ v.1 (fa, fi, f, g, k, l, m))))))))
    body-accepted function_kind ns n t = reads-bind-any _ (λ c. called-accepted c)

    as_expr-accepted : (k : Kind) → NumbersFit h.numbers → ToldKind table p k h.numbers → Reads (λ x. Accepted table text x.0) (as_expr text expr_at part_at p h k)
    unfolding as_expr
    as_expr-accepted mark n t = reads-refused
    as_expr-accepted (expr k) n t = body-accepted k h.numbers n t

    as_part-accepted : (k : Kind) → NumbersFit h.numbers → ToldKind table p k h.numbers → Reads (λ x. AcceptedPart x.0) (as_part text expr_at part_at p h k)
    unfolding as_part
    as_part-accepted mark n t = reads-bind (exprs _ _) (λ x f. filled-formed AcceptedPart p h _ x.1 f)
    as_part-accepted (expr k) n t = reads-bind (body-accepted k h.numbers n t) (λ x f. reads-got _ f)

  -- ---- the table

  module _ (table_bytes : AllBytes table) where
    -- of every head both hold: its numbers fit, and they are the table's
    both : {A : Type 0} {P R : A → Type 0} {g : Got A} → Reads P g → Reads R g → Reads (λ a. P a × R a) g
    both {A} {P} {R} {g} h k = go g h.only k.only
      where
        go : (x : Got A) → Only P x → Only R x → Reads (λ a. P a × R a) x
        go (got a) f l = reads-got a (f, l)
        go (refused r p) f l = reads-refused

    mutual
      unfolding expr_at

      expr-accepted : (left p end : ℕ) → Reads (λ x. Accepted table text x.0) (expr_at word_bytes table text left p end)
      expr-accepted zero p end = reads_then _ reads-refused
      expr-accepted (suc left) p end =
          reads-bind (both (head-fits table table_bytes p end) (head-tells table p end))
          (λ h n. as_expr-accepted table_bytes _ _ (λ q e. expr-accepted left q e) (λ q e. part-accepted left q e) p h h.kind n.0 n.1)

      part-accepted : (left p end : ℕ) → Reads (λ x. AcceptedPart x.0) (part_at word_bytes table text left p end)
      part-accepted zero p end = reads_then _ reads-refused
      part-accepted (suc left) p end =
          reads-bind (both (head-fits table table_bytes p end) (head-tells table p end))
          (λ h n. as_part-accepted table_bytes _ _ (λ q e. expr-accepted left q e) (λ q e. part-accepted left q e) p h h.kind n.0 n.1)

    table-accepted : Reads (λ e. Accepted table text e) (read_table table text)
    unfolding read_table root_at
    table-accepted = reads-demand _ _ _ (λ e. reads-bind (expr-accepted deepest_record 0 (length table)) (λ x f. reads-demand _ _ x.1 (λ d. reads-got _ f)))

    -- What is read from a table of bytes is what the machine asks of an expression.
    pub read-accepted : (e : Expr) → read_table table text ≡ got e → Accepted table text e
    read-accepted e g = was_read table-accepted g
