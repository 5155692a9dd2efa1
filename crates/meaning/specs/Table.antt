-- The node table: the bytes that spell an expression, and why and where all others are refused. Records are read in the order of the table,
-- and each is tested in the order of the refusals' numbers.
use Rattle.std.specs.Prelude.{ℕ, zero, suc, ◌+◌, List, ◌&&◌, cond, length, take, drop, leb, eqb, Option, None, Some}
use Rattle.std.specs.Prelude.{slice_get}
use Rattle.std.specs.Int.{w64}
use Rattle.std.proofs.Common.{to_z}
use Rattle.text.specs.Utf8.{well_formed}
use Rattle.meaning.specs.Limits.{shortest_table, longest_table, deepest_record}
use Rattle.meaning.specs.declared.refusal.Reason.TheVariants.{TableLength, WrongExtent, RecordNesting, WrongField, MisplacedMark, BytesAfterRoot}
use Rattle.meaning.specs.Value.{null, bool, int, uint, double, string, bytes}
use Rattle.meaning.specs.Expr.{Expr, literal, name, unary, binary, conditional, select, list_of, map_of, comprehension, call, none_call, or_value, Elements, no_elements, element, marked_element, Pairs, no_pairs, pair, marked_pair}
use Rattle.meaning.specs.Heads.{Got, got, refused, ◌>>=◌, ◌>>◌, demand, or_refuse, start, Head, first, second, third, head_at}
use Rattle.meaning.specs.Kinds.{ExprKind, null_kind, bool_kind, int_kind, uint_kind, double_kind, string_kind, bytes_kind, name_kind, unary_kind, binary_kind, conditional_kind, select_kind, list_kind, map_kind, comprehension_kind, function_kind, Kind, mark, expr, numbered, unaries, binaries, Called, to_one, to_none, to_two, functions, flags, name_of}

-- ---- operands

-- an expression, or a marked one with the mark's place
pub data Part : Type 0 where
  bare : Expr → Part
  marked : ℕ → Expr → Part

unfoldable pub add_element : Part → Elements → Elements
add_element (bare e) es = element e es
add_element (marked p e) es = marked_element p e es

unfoldable pub add_pair : Expr → Part → Pairs → Pairs
add_pair k (bare e) ps = pair k e ps
add_pair k (marked p e) ps = marked_pair k p e ps

-- reads what stands at a place, inside a parent that ends at another; with where it ends
abbrev pub Reader : Type 0 → Type 0
Reader A = ℕ → ℕ → Got (A × ℕ)

-- n elements, or n pairs, one after the other
unfoldable pub elements_from : Reader Part → ℕ → Reader Elements
elements_from part_at zero p end = got (no_elements, p)
elements_from part_at (suc n) p end = do
  (x, q) ← part_at p end
  (es, r) ← elements_from part_at n q end
  got (add_element x es, r)

unfoldable pub pairs_from : Reader Expr → Reader Part → ℕ → Reader Pairs
pairs_from expr_at part_at zero p end = got (no_pairs, p)
pairs_from expr_at part_at (suc n) p end = do
  (k, q) ← expr_at p end
  (x, r) ← part_at q end
  (ps, s) ← pairs_from expr_at part_at n r end
  got (add_pair k x ps, s)

-- ---- text

-- a part of the literal text, from an offset and a length
unfoldable pub span : List ℕ → (offset length : ℕ) → Option (List ℕ)
span text offset n = cond (leb (offset + n) (length text)) (Some (take n (drop offset text))) None

unfoldable pub utf8 : Option (List ℕ) → Option (List ℕ)
utf8 None = None
utf8 (Some s) = cond (well_formed s) (Some s) None

-- ---- records

-- the record at p is read; its operands have to fill its extent
unfoldable pub filled : {A : Type 0} → ℕ → Head → A → ℕ → Got (A × ℕ)
filled p h x q = do
  demand (eqb q h.end) WrongExtent p
  got (x, q)

-- the record at p, whose operands are read by these two
module _ (text : List ℕ) (expr_at : Reader Expr) (part_at : Reader Part) (p : ℕ) (h : Head) where
  unfoldable pub called_at : Called → Got (Expr × ℕ)
  called_at (to_one f) = do
    (x, q) ← expr_at h.operands_at h.end
    filled p h (call p f x) q
  called_at to_none = got (none_call p, h.end)
  called_at to_two = do
    (x, q) ← expr_at h.operands_at h.end
    (y, r) ← expr_at q h.end
    filled p h (or_value p x y) r

  -- fields, then operands
  unfoldable pub body_at : ExprKind → List ℕ → Got (Expr × ℕ)
  body_at null_kind ns = got (literal p null, h.end)
  body_at bool_kind ns = do
    b ← or_refuse WrongField p (slice_get flags (first ns))
    got (literal p (bool b), h.end)
  body_at int_kind ns = got (literal p (int (to_z w64 (first ns))), h.end)
  body_at uint_kind ns = got (literal p (uint (first ns)), h.end)
  body_at double_kind ns = got (literal p (double (first ns)), h.end)
  body_at string_kind ns = do
    s ← or_refuse WrongField p (utf8 (span text (first ns) (second ns)))
    got (literal p (string s), h.end)
  body_at bytes_kind ns = do
    s ← or_refuse WrongField p (span text (first ns) (second ns))
    got (literal p (bytes s), h.end)
  body_at name_kind ns = do
    n ← or_refuse WrongField p (name_of (first ns))
    got (name p n, h.end)
  body_at unary_kind ns = do
    o ← or_refuse WrongField p (numbered unaries (first ns))
    (x, q) ← expr_at h.operands_at h.end
    filled p h (unary p o x) q
  body_at binary_kind ns = do
    o ← or_refuse WrongField p (numbered binaries (first ns))
    (x, q) ← expr_at h.operands_at h.end
    (y, r) ← expr_at q h.end
    filled p h (binary p o x y) r
  body_at conditional_kind ns = do
    (x, q) ← expr_at h.operands_at h.end
    (y, r) ← expr_at q h.end
    (z, s) ← expr_at r h.end
    filled p h (conditional p x y z) s
  body_at select_kind ns = do
    test ← or_refuse WrongField p (slice_get flags (first ns))
    field ← or_refuse WrongField p (utf8 (span text (second ns) (third ns)))
    (x, q) ← expr_at h.operands_at h.end
    filled p h (select p test field x) q
  body_at list_kind ns = do
    (es, q) ← elements_from part_at (first ns) h.operands_at h.end
    filled p h (list_of p es) q
  body_at map_kind ns = do
    (ps, q) ← pairs_from expr_at part_at (first ns) h.operands_at h.end
    filled p h (map_of p ps) q
  body_at comprehension_kind ns = do
    accumulator ← or_refuse WrongField p (name_of (first ns))
    item ← or_refuse WrongField p (name_of (second ns))
    (range, q) ← expr_at h.operands_at h.end
    (init, r) ← expr_at q h.end
    (condition, s) ← expr_at r h.end
    (step, t) ← expr_at s h.end
    (result, u) ← expr_at t h.end
    filled p h (comprehension p accumulator item range init condition step result) u
  body_at function_kind ns = do
    f ← or_refuse WrongField p (numbered functions (first ns))
    called_at f

  -- where no mark may stand, and where one may
  unfoldable pub as_expr : Kind → Got (Expr × ℕ)
  as_expr mark = refused MisplacedMark p
  as_expr (expr k) = body_at k h.numbers

  unfoldable pub as_part : Kind → Got (Part × ℕ)
  as_part mark = do
    (x, q) ← expr_at h.operands_at h.end
    filled p h (marked p x) q
  as_part (expr k) = do
    (x, q) ← body_at k h.numbers
    got (bare x, q)

-- the record at a place, with so many levels of nesting left
module _ (width : ℕ) (table text : List ℕ) where
  unfoldable mutual
    pub expr_at : ℕ → Reader Expr
    expr_at zero p end = do
      head_at width table p end
      refused RecordNesting p
    expr_at (suc left) p end = do
      h ← head_at width table p end
      as_expr text (λ q e. expr_at left q e) (λ q e. part_at left q e) p h h.kind

    pub part_at : ℕ → Reader Part
    part_at zero p end = do
      head_at width table p end
      refused RecordNesting p
    part_at (suc left) p end = do
      h ← head_at width table p end
      as_part text (λ q e. expr_at left q e) (λ q e. part_at left q e) p h h.kind

  -- the root at a place, and nothing behind it
  unfoldable pub root_at : ℕ → Got Expr
  root_at p = do
    (x, q) ← expr_at deepest_record p (length table)
    demand (eqb q (length table)) BytesAfterRoot q
    got x

-- ---- the whole table

-- extents, offsets and counts are u16
abbrev pub word_bytes : ℕ
word_bytes = 2

unfoldable pub read_table : (table text : List ℕ) → Got Expr
read_table table text = do
  demand (leb shortest_table (length table) && leb (length table) longest_table) TableLength start
  root_at word_bytes table text start
