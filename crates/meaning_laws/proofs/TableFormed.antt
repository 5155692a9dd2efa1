-- What a table spells is formed: numbers of 64 bits, texts that are bytes and, in Strings and fields, UTF-8, names below 128.
-- From the bytes up, a line for each kind of record. Rests on Reading. Assumes nothing.
use Prim.Native.Nat.{ℕ, zero, suc, ◌+◌, ◌^◌, ◌<◌}
use mathlib.Core.Path.{◌≡◌, refl}
use mathlib.Core.List.{List, [], ◌∷◌}
use Rattle.std.specs.Prelude.{Option, None, Some}
use mathlib.Core.Bool.{Bool, true, false, cond}
use native.Mathlib.Omega.{arith}
use lib.ListN.{length, take, drop, length-take}
use lib.Dec.{leb, ltb}
use borrow.Author.Tests.{ltb-true}
use mir.Syntax.{w64}
use mir.Val.{to_z}
use mir.ValLaws.{to_z-Fits}
use Rattle.numbers.specs.Int.{in_range}
use Rattle.numbers.proofs.IntLaws.{in-range}
use Rattle.text.specs.Utf8.{well_formed}
use Rattle.meaning.specs.Limits.{names, deepest_record}
use Rattle.meaning.specs.Expr.{Expr, Elements, Pairs}
use Rattle.meaning.specs.Kinds.{ExprKind, null_kind, bool_kind, int_kind, uint_kind, double_kind, string_kind, bytes_kind, name_kind, unary_kind, binary_kind, conditional_kind, select_kind, list_kind, map_kind, comprehension_kind, function_kind, Kind, mark, expr, Called, to_one, to_none, to_two, name_of}
use Rattle.meaning.specs.declared.refusal.Reason.TheVariants.{WrongField}
use Rattle.meaning.specs.Heads.{or_refuse, got, Head, first, second, third}
use Rattle.meaning.specs.Table.{Part, bare, marked, add_element, add_pair, Reader, elements_from, pairs_from, span, utf8, filled, called_at, body_at, as_expr, as_part, expr_at, part_at, root_at, word_bytes, read_table}
use Rattle.meaning.specs.Bindings.{text_bytes}
use Rattle.meaning.specs.WellFormed.{AllBytes}
use Rattle.meaning_laws.specs.Formed.{spans, Formed, FormedElements, FormedPairs}
use Rattle.meaning_laws.specs.Each.{Reads}
use Rattle.meaning_laws.proofs.Fine.{Perhaps}
use Rattle.meaning_laws.proofs.TableNumbers.{NumbersFit, head-fits}
use Rattle.meaning_laws.proofs.Reading.{reads-got, reads-refused, reads-bind, reads-bind-any, reads_then, reads-demand, reads-or_refuse, was_read}

-- ---- numbers, names and text

signed-in-range : (n : ℕ) → n < 2 ^ 64 → in_range (to_z w64 n) ≡ true
signed-in-range n h = in-range (to_z w64 n) (to_z-Fits w64 n (record { fits = h })).sfits

name_below : (n : ℕ) → Perhaps (λ m. m < names) (name_of n)
unfolding name_of
name_below n = go (ltb n names) (ltb-true n names)
  where
    go : (t : Bool) → (t ≡ true → n < names) → Perhaps (λ m. m < names) (cond t (Some n) None)
    go true h = h refl
    go false h = tt

take-bytes : (n : ℕ) (bs : List ℕ) → AllBytes bs → AllBytes (take n bs)
take-bytes zero bs h = tt
take-bytes (suc n) [] h = tt
take-bytes (suc n) (b ∷ bs) h = (h.0, take-bytes n bs h.1)

drop-bytes : (n : ℕ) (bs : List ℕ) → AllBytes bs → AllBytes (drop n bs)
drop-bytes zero bs h = h
drop-bytes (suc n) [] h = tt
drop-bytes (suc n) (b ∷ bs) h = drop-bytes n bs h.1

abbrev FormedSpan : List ℕ → Type 0
FormedSpan s = AllBytes s × (length s < spans)

abbrev FormedText : List ℕ → Type 0
FormedText s = AllBytes s × (length s < spans) × (well_formed s ≡ true)

span-formed : (text : List ℕ) → AllBytes text → (offset n : ℕ) → n < spans → Perhaps FormedSpan (span text offset n)
unfolding span
span-formed text h offset n k = go (leb (offset + n) (length text))
  where
    go : (t : Bool) → Perhaps FormedSpan (cond t (Some (take n (drop offset text))) None)
    go true = (take-bytes n (drop offset text) (drop-bytes offset text h), omega (arith, length-take n (drop offset text)))
    go false = tt

utf8-formed : (o : Option (List ℕ)) → Perhaps FormedSpan o → Perhaps FormedText (utf8 o)
unfolding utf8
utf8-formed None h = tt
utf8-formed (Some s) h = go (well_formed s) refl
  where
    go : (t : Bool) → well_formed s ≡ t → Perhaps FormedText (cond t (Some s) None)
    go true e = (h.0, h.1, e)
    go false e = tt

-- ---- operands

abbrev FormedPart : Part → Type 0
FormedPart (bare e) = Formed e
FormedPart (marked p e) = Formed e

add-element : (x : Part) (es : Elements) → FormedPart x → FormedElements es → FormedElements (add_element x es)
unfolding add_element
add-element (bare e) es f g = (f, g)
add-element (marked p e) es f g = (f, g)

add-pair : (k : Expr) (x : Part) (ps : Pairs) → Formed k → FormedPart x → FormedPairs ps → FormedPairs (add_pair k x ps)
unfolding add_pair
add-pair k (bare e) ps f g h = (f, g, h)
add-pair k (marked p e) ps f g h = (f, g, h)

-- a reader of something with where it ends
abbrev pub ReadsOnly : {A : Type 0} → (A → Type 0) → Reader A → Type 0
ReadsOnly P reader = (p end : ℕ) → Reads (λ x. P x.0) (reader p end)

elements-formed : {part_at : Reader Part} → ReadsOnly FormedPart part_at → (n : ℕ) → ReadsOnly FormedElements (elements_from part_at n)
unfolding elements_from
elements-formed h zero p end = reads-got _ tt
elements-formed h (suc n) p end =
    reads-bind (h p end)
    (λ x f. reads-bind (elements-formed h n x.1 end) (λ es g. reads-got _ (add-element x.0 es.0 f g)))

pairs-formed : {expr_at : Reader Expr} {part_at : Reader Part} → ReadsOnly Formed expr_at → ReadsOnly FormedPart part_at → (n : ℕ)
    → ReadsOnly FormedPairs (pairs_from expr_at part_at n)
unfolding pairs_from
pairs-formed h k zero p end = reads-got _ tt
pairs-formed h k (suc n) p end =
    reads-bind (h p end)
    (λ e f. reads-bind (k e.1 end) (λ x g. reads-bind (pairs-formed h k n x.1 end) (λ ps l. reads-got _ (add-pair e.0 x.0 ps.0 f g l))))

pub filled-formed : {A : Type 0} (P : A → Type 0) (p : ℕ) (h : Head) (x : A) (q : ℕ) → P x → Reads (λ y. P y.0) (filled p h x q)
unfolding filled
filled-formed P p h x q f = reads-demand _ _ p (λ e. reads-got _ f)

-- ---- fields

pub reads-name : (p n : ℕ) → Reads (λ m. m < names) (or_refuse WrongField p (name_of n))
reads-name p n = reads-or_refuse WrongField p (name_of n) (name_below n)

reads-span : (text : List ℕ) → AllBytes text → (p offset n : ℕ) → n < spans → Reads FormedSpan (or_refuse WrongField p (span text offset n))
reads-span text h p offset n k = reads-or_refuse WrongField p (span text offset n) (span-formed text h offset n k)

reads-utf8 : (text : List ℕ) → AllBytes text → (p offset n : ℕ) → n < spans → Reads FormedText (or_refuse WrongField p (utf8 (span text offset n)))
reads-utf8 text h p offset n k = reads-or_refuse WrongField p (utf8 (span text offset n)) (utf8-formed (span text offset n) (span-formed text h offset n k))

-- ---- records

module _ (text : List ℕ) (bytes_only : AllBytes text) (expr_at : Reader Expr) (part_at : Reader Part)
    (exprs : ReadsOnly Formed expr_at) (parts : ReadsOnly FormedPart part_at) (p : ℕ) (h : Head) where
  called-formed : (c : Called) → Reads (λ x. Formed x.0) (called_at text expr_at part_at p h c)
  unfolding called_at
  called-formed (to_one f) = reads-bind (exprs _ _) (λ x g. filled-formed Formed p h _ x.1 g)
  called-formed to_none = reads-got _ tt
  called-formed to_two = reads-bind (exprs _ _) (λ x g. reads-bind (exprs _ _) (λ y k. filled-formed Formed p h _ y.1 (g, k)))

  body-formed : (k : ExprKind) (ns : List ℕ) → NumbersFit ns → Reads (λ x. Formed x.0) (body_at text expr_at part_at p h k ns)
  unfolding body_at text_bytes
  body-formed null_kind ns n = reads-got _ (tt, omega arith)
  body-formed bool_kind ns n = reads-bind-any _ (λ b. reads-got _ (tt, omega arith))
  body-formed int_kind ns n = reads-got _ (signed-in-range (first ns) n.first_fits, omega arith)
  body-formed uint_kind ns n = reads-got _ (n.first_fits, omega arith)
  body-formed double_kind ns n = reads-got _ (n.first_fits, omega arith)
  body-formed string_kind ns n = reads-bind (reads-utf8 text bytes_only p (first ns) (second ns) n.second_fits) (λ s f. reads-got _ ((f.0, f.2), f.1))
  body-formed bytes_kind ns n = reads-bind (reads-span text bytes_only p (first ns) (second ns) n.second_fits) (λ s f. reads-got _ f)
  body-formed name_kind ns n = reads-bind (reads-name p (first ns)) (λ m f. reads-got _ f)
  body-formed unary_kind ns n = reads-bind-any _ (λ o. reads-bind (exprs _ _) (λ x f. filled-formed Formed p h _ x.1 f))
  body-formed binary_kind ns n =
      reads-bind-any _ (λ o. reads-bind (exprs _ _) (λ x f. reads-bind (exprs _ _) (λ y g. filled-formed Formed p h _ y.1 (f, g))))
  body-formed conditional_kind ns n =
      reads-bind (exprs _ _) (λ x f. reads-bind (exprs _ _) (λ y g. reads-bind (exprs _ _) (λ z k. filled-formed Formed p h _ z.1 (f, g, k))))
  body-formed select_kind ns n =
      reads-bind-any _
      (λ test. reads-bind (reads-utf8 text bytes_only p (second ns) (third ns) n.third_fits)
      (λ s f. reads-bind (exprs _ _) (λ x g. filled-formed Formed p h _ x.1 ((f.0, f.2), g))))
  body-formed list_kind ns n = reads-bind (elements-formed parts (first ns) _ _) (λ es f. filled-formed Formed p h _ es.1 f)
  body-formed map_kind ns n = reads-bind (pairs-formed exprs parts (first ns) _ _) (λ ps f. filled-formed Formed p h _ ps.1 f)
  body-formed comprehension_kind ns n =
      reads-bind (reads-name p (first ns))
      (λ a fa. reads-bind (reads-name p (second ns))
      (λ i fi. reads-bind (exprs _ _)
      (λ x f. reads-bind (exprs _ _)
      (λ y g. reads-bind (exprs _ _)
      (λ z k. reads-bind (exprs _ _)
      (λ u l. reads-bind (exprs _ _) (λ v m. filled-formed Formed p h _ v.1 (fa, fi, f, g, k, l, m))))))))
  body-formed function_kind ns n = reads-bind-any _ (λ c. called-formed c)

  as_expr-formed : (k : Kind) → NumbersFit h.numbers → Reads (λ x. Formed x.0) (as_expr text expr_at part_at p h k)
  unfolding as_expr
  as_expr-formed mark n = reads-refused
  as_expr-formed (expr k) n = body-formed k h.numbers n

  as_part-formed : (k : Kind) → NumbersFit h.numbers → Reads (λ x. FormedPart x.0) (as_part text expr_at part_at p h k)
  unfolding as_part
  as_part-formed mark n = reads-bind (exprs _ _) (λ x f. filled-formed FormedPart p h _ x.1 f)
  as_part-formed (expr k) n = reads-bind (body-formed k h.numbers n) (λ x f. reads-got _ f)

-- ---- the table

module _ (table text : List ℕ) (table_bytes : AllBytes table) (text_bytes_only : AllBytes text) where
  mutual
    unfolding expr_at

    expr-formed : (left p end : ℕ) → Reads (λ x. Formed x.0) (expr_at word_bytes table text left p end)
    expr-formed zero p end = reads_then _ reads-refused
    expr-formed (suc left) p end =
        reads-bind (head-fits table table_bytes p end)
        (λ h n. as_expr-formed text text_bytes_only _ _ (λ q e. expr-formed left q e) (λ q e. part-formed left q e) p h h.kind n)

    part-formed : (left p end : ℕ) → Reads (λ x. FormedPart x.0) (part_at word_bytes table text left p end)
    part-formed zero p end = reads_then _ reads-refused
    part-formed (suc left) p end =
        reads-bind (head-fits table table_bytes p end)
        (λ h n. as_part-formed text text_bytes_only _ _ (λ q e. expr-formed left q e) (λ q e. part-formed left q e) p h h.kind n)

  -- What a table spells is formed: its literals are sound values, its Strings and fields UTF-8, its names below 128.
  pub table-formed : Reads Formed (read_table table text)
  unfolding read_table root_at
  table-formed = reads-demand _ _ _ (λ e. reads-bind (expr-formed deepest_record 0 (length table)) (λ x f. reads-demand _ _ x.1 (λ d. reads-got _ f)))

-- If a table is accepted, every literal in it is a sound value, and every String and field is UTF-8.
pub accepted-table-formed : (table text : List ℕ) → AllBytes table → AllBytes text → (e : Expr) → read_table table text ≡ got e → Formed e
accepted-table-formed table text h k e g = was_read (table-formed table text h k) g
