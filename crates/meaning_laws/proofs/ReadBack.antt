-- The reader of node tables loses nothing: where the rules write an expression, it is read back with its places.
-- It rests on what the rules write, standing in a table. Assumes nothing.
use Prim.Native.Nat.{ℕ, zero, suc, ◌+◌, ◌≤◌}
use native.Mathlib.Omega.{arith}
use native.Mathlib.Nat.{zero-add}
use mathlib.Core.Path.{◌≡◌, refl, ap}
use mathlib.Core.List.{List, [], ◌∷◌}
use Rattle.std.specs.Prelude.{Some}
use mathlib.Core.Bool.{true, false}
use lib.ListN.{length}
use lib.Dec.{eqb}
use borrow.Author.Tests.{le-leb, eq-eqb, eqb-true}
use Rattle.text.specs.Utf8.{well_formed}
use Rattle.meaning.specs.Limits.{shortest_table, longest_table, deepest_record}
use Rattle.meaning.specs.Value.{Scalar, null, bool, int, uint, double, string, bytes}
use Rattle.meaning.specs.Expr.{Expr, literal, name, unary, binary, conditional, select, list_of, map_of, comprehension, call, none_call, or_value}
use Rattle.meaning.specs.Expr.{Elements, no_elements, element, marked_element, Pairs, no_pairs, pair, marked_pair, count_elements, count_pairs}
use Rattle.meaning.specs.Kinds.{ExprKind, null_kind, bool_kind, int_kind, uint_kind, double_kind, string_kind, bytes_kind, name_kind, unary_kind, binary_kind}
use Rattle.meaning.specs.Kinds.{conditional_kind, select_kind, list_kind, map_kind, comprehension_kind, function_kind, Kind, mark, expr}
use Rattle.meaning.specs.Kinds.{is_leaf, to_one, to_none, to_two, called_without}
use Rattle.meaning.specs.Heads.{Got, got, refused, ◌>>=◌, ◌>>◌, demand, or_refuse, start, Head, first, head_at}
use Rattle.meaning.specs.Table.{Part, bare, marked, add_element, add_pair, Reader, elements_from, pairs_from, span, utf8, filled, called_at}
use Rattle.meaning.specs.Table.{body_at, as_expr, as_part, expr_at, part_at, root_at, word_bytes, read_table}
use Rattle.meaning_laws.specs.Written.{Form, nothing, ◌then◌, Record, Excerpt, Written, WrittenScalar, WrittenElements, WrittenPairs, Spells}
use Rattle.meaning_laws.specs.Written.{depth, depth_elements, depth_pairs, flag_number, unary_number, binary_number, function_number}
use Rattle.meaning_laws.proofs.TableBytes.{nonsense, measured, Stands}
use Rattle.meaning_laws.proofs.TableKinds.{kind_byte, fields_of, operands_of, flag-there, unary-there, binary-there, called-there, name-there}
use Rattle.meaning_laws.proofs.TableHeads.{behind_head, head_of}
use Rattle.meaning_laws.proofs.TableForms.{From, nothing-from, from-same, then-from, operands-from, head-from, depth_part, WrittenPart}
use Rattle.meaning_laws.proofs.TableForms.{nests-some, part-nests}

-- ---- records, one kind after the other

-- operands that end where their record ends fill it
whole : (q : ℕ) → eqb q q ≡ true
whole q = eq-eqb q q refl

span-read : (text s : List ℕ) (offset : ℕ) → Excerpt text s offset → span text offset (length s) ≡ Some s
unfolding span
span-read text s offset x = rw (le-leb (offset + length s) (length text) x.within, x.same)

utf8-read : (s : List ℕ) → well_formed s ≡ true → utf8 (Some s) ≡ Some s
unfolding utf8
utf8-read s w = rw w

-- a record with operands is no leaf
no-leaf : {A : Type 0} → false ≡ true → A
no-leaf e = nonsense (cc)

module _ (width : ℕ) (table text : List ℕ) where
  abbrev W : Expr → Form
  W e = Written width text e

  -- the reader reads back what is written, if it nests at most `left` deep
  abbrev ReadsExpr : ℕ → Reader Expr → Type 0
  ReadsExpr left R = (e : Expr) (p q end : ℕ) → From table (W e) p q → depth e ≤ left → q ≤ end → R p end ≡ got (e, q)

  abbrev ReadsPart : ℕ → Reader Part → Type 0
  ReadsPart left P = (x : Part) (p q end : ℕ) → From table (WrittenPart width text x) p q → depth_part x ≤ left → q ≤ end → P p end ≡ got (x, q)

  no-elements : (es : Elements) (p q : ℕ) → eqb (count_elements es) 0 ≡ true → From table (WrittenElements width text es) p q → p ≡ q
  unfolding count_elements
  no-elements no_elements p q t f = nothing-from table p q f
  no-elements (element e es) p q t f = let z = eqb-true (suc (count_elements es)) 0 t in absurd (omega arith)
  no-elements (marked_element m e es) p q t f = let z = eqb-true (suc (count_elements es)) 0 t in absurd (omega arith)

  no_pairs_lem : (es : Pairs) (p q : ℕ) → eqb (count_pairs es) 0 ≡ true → From table (WrittenPairs width text es) p q → p ≡ q
  unfolding count_pairs
  no_pairs_lem no_pairs p q t f = nothing-from table p q f
  no_pairs_lem (pair k e es) p q t f = let z = eqb-true (suc (count_pairs es)) 0 t in absurd (omega arith)
  no_pairs_lem (marked_pair k m e es) p q t f = let z = eqb-true (suc (count_pairs es)) 0 t in absurd (omega arith)

  module _ (left : ℕ) (R : Reader Expr) (P : Reader Part) (reads_expr : ReadsExpr left R) (reads_part : ReadsPart left P) where
    elements-read : (es : Elements) (p q end : ℕ) → From table (WrittenElements width text es) p q → depth_elements es ≤ left → q ≤ end
        → elements_from P (count_elements es) p end ≡ got (es, q)
    unfolding elements_from count_elements add_element ◌>>=◌
    elements-read no_elements p q end f h k = rw (nothing-from table p q f)
    elements-read (element e es) p q end f h k =
        let (m, x, xs, b) = then-from table (W e) (WrittenElements width text es) p q f in
        rw (reads_part (bare e) p m end x (omega arith) (omega arith), elements-read es m q end xs (omega arith) k)
    elements-read (marked_element n e es) p q end f h k =
        let (m, x, xs, b) = then-from table (WrittenPart width text (marked n e)) (WrittenElements width text es) p q f in
        rw (reads_part (marked n e) p m end x (omega arith) (omega arith), elements-read es m q end xs (omega arith) k)

    pairs-read : (es : Pairs) (p q end : ℕ) → From table (WrittenPairs width text es) p q → depth_pairs es ≤ left → q ≤ end
        → pairs_from R P (count_pairs es) p end ≡ got (es, q)
    unfolding pairs_from count_pairs add_pair ◌>>=◌
    pairs-read no_pairs p q end f h k = rw (nothing-from table p q f)
    pairs-read (pair k e es) p q end f h b =
        let (m, x, xs, c) = then-from table (W k) (W e then WrittenPairs width text es) p q f in
        let (n, y, ys, d) = then-from table (W e) (WrittenPairs width text es) m q xs in
        rw (
          reads_expr k p m end x (omega arith) (omega arith),
          reads_part (bare e) m n end y (omega arith) (omega arith),
          pairs-read es n q end ys (omega arith) b,
        )
    pairs-read (marked_pair k l e es) p q end f h b =
        let (m, x, xs, c) = then-from table (W k) (WrittenPart width text (marked l e) then WrittenPairs width text es) p q f in
        let (n, y, ys, d) = then-from table (WrittenPart width text (marked l e)) (WrittenPairs width text es) m q xs in
        rw (
          reads_expr k p m end x (omega arith) (omega arith),
          reads_part (marked l e) m n end y (omega arith) (omega arith),
          pairs-read es n q end ys (omega arith) b,
        )

    -- the reader of a record over these readers of its operands
    abbrev expression : Reader Expr
    expression p end = ◌>>=◌ (head_at width table p end) (λ h. as_expr text R P p h h.kind)

    abbrev part : Reader Part
    part p end = ◌>>=◌ (head_at width table p end) (λ h. as_part text R P p h h.kind)

    -- a record whose body is read is read
    module _ (k : ExprKind) (ns : List ℕ) (arity : length (fields_of (expr k)) ≡ length ns) (place : ℕ) (F : Form) (p q : ℕ)
        (f : From table (Record width place (kind_byte (expr k)) (measured width (fields_of (expr k)) ns) F) p q) where
      record-read : (end : ℕ) (e : Expr) → q ≤ end
          → (is_leaf (operands_of (expr k)) (first ns) ≡ true → From table F (behind_head width (expr k) p) q
          → behind_head width (expr k) p ≡ q)
          → (From table F (behind_head width (expr k) p) q → place ≡ p → body_at text R P p (head_of width (expr k) ns p q) k ns ≡ got (e, q))
          → expression p end ≡ got (e, q)
      unfolding ◌>>=◌ as_expr
      record-read end e h leaf body =
          rw (head-from width table (expr k) ns arity place F p q f end h leaf)
          (body (operands-from width table (expr k) ns arity place F p q f) f.form.here)

    -- without operands
    scalar_read : (q₀ : ℕ) (s : Scalar) (p q end : ℕ) → From table (WrittenScalar width text q₀ s) p q → q ≤ end → expression p end ≡ got (literal q₀ s, q)
    unfolding body_at ◌>>=◌ or_refuse is_leaf
    scalar_read l null p q end f h = record-read null_kind [] refl l nothing p q f end _ h (λ t. nothing-from table _ _) (λ o e. rw e)
    scalar_read l (bool b) p q end f h =
        record-read bool_kind (flag_number b ∷ []) refl l nothing p q f end _ h (λ t. nothing-from table _ _) (λ o e. rw (e, flag-there b))
    scalar_read l (int z) p q end f h =
        let (n, same, r) = f.form in
        record-read int_kind (n ∷ []) refl l nothing p q (from-same table _ p q f r) end _ h (λ t. nothing-from table _ _) (λ o e. rw (e, ← same))
    scalar_read l (uint n) p q end f h = record-read uint_kind (n ∷ []) refl l nothing p q f end _ h (λ t. nothing-from table _ _) (λ o e. rw e)
    scalar_read l (double d) p q end f h = record-read double_kind (d ∷ []) refl l nothing p q f end _ h (λ t. nothing-from table _ _) (λ o e. rw e)
    scalar_read l (string s) p q end f h =
        let (w, (o, x, r)) = f.form in
        record-read string_kind (o ∷ length s ∷ []) refl l nothing p q (from-same table _ p q f r) end _ h (λ t. nothing-from table _ _)
        (λ _ e. rw (e, span-read text s o x, utf8-read s w))
    scalar_read l (bytes s) p q end f h =
        let (o, x, r) = f.form in
        record-read bytes_kind (o ∷ length s ∷ []) refl l nothing p q (from-same table _ p q f r) end _ h (λ t. nothing-from table _ _)
        (λ _ e. rw (e, span-read text s o x))

    expression-read : (e : Expr) (p q end : ℕ) → From table (W e) p q → depth e ≤ suc left → q ≤ end → expression p end ≡ got (e, q)
    unfolding body_at called_at filled demand ◌>>=◌ ◌>>◌ or_refuse is_leaf called_without
    expression-read (literal l s) p q end f h k = scalar_read l s p q end f k
    expression-read (name l n) p q end f h k =
        let (b, r) = f.form in
        record-read name_kind (n ∷ []) refl l nothing p q (from-same table _ p q f r) end _ k (λ t. nothing-from table _ _) (λ o e. rw (e, name-there n b))
    expression-read (unary l o x) p q end f h k =
        record-read unary_kind (unary_number o ∷ []) refl l (W x) p q f end _ k no-leaf
        (λ s e. rw (e, unary-there o, reads_expr x _ q q s (omega arith) (omega arith), whole q))
    expression-read (binary l o x y) p q end f h k =
        record-read binary_kind (binary_number o ∷ []) refl l (W x then W y) p q f end _ k no-leaf λ s e.
        let (m, xs, ys, b) = then-from table (W x) (W y) _ q s in
        rw (e, binary-there o, reads_expr x _ m q xs (omega arith) b, reads_expr y m q q ys (omega arith) (omega arith), whole q)
    expression-read (conditional l x y z) p q end f h k =
        record-read conditional_kind [] refl l (W x then W y then W z) p q f end _ k no-leaf λ s e.
        let (m, xs, s, b) = then-from table (W x) (W y then W z) _ q s in
        let (n, ys, zs, c) = then-from table (W y) (W z) m q s in
        rw (e, reads_expr x _ m q xs (omega arith) b, reads_expr y m n q ys (omega arith) c, reads_expr z n q q zs (omega arith) (omega arith), whole q)
    expression-read (select l test field x) p q end f h k =
        let (w, (o, y, r)) = f.form in
        record-read select_kind (flag_number test ∷ o ∷ length field ∷ []) refl l (W x) p q (from-same table _ p q f r) end _ k no-leaf
        (λ s e. rw (e, flag-there test, span-read text field o y, utf8-read field w, reads_expr x _ q q s (omega arith) (omega arith), whole q))
    expression-read (list_of l es) p q end f h k =
        record-read list_kind (count_elements es ∷ []) refl l (WrittenElements width text es) p q f end _ k (λ t. no-elements es _ q t)
        (λ s e. rw (e, elements-read es _ q q s (omega arith) (omega arith), whole q))
    expression-read (map_of l es) p q end f h k =
        record-read map_kind (count_pairs es ∷ []) refl l (WrittenPairs width text es) p q f end _ k (λ t. no_pairs_lem es _ q t)
        (λ s e. rw (e, pairs-read es _ q q s (omega arith) (omega arith), whole q))
    expression-read (comprehension l a i range init condition step result) p q end f h k =
        let (b, (c, r)) = f.form in
        record-read comprehension_kind (a ∷ i ∷ []) refl l _ p q (from-same table _ p q f r) end _ k no-leaf λ s e.
        let (t, xs, s, d) = then-from table (W range) (W init then W condition then W step then W result) _ q s in
        let (u, ys, s, g) = then-from table (W init) (W condition then W step then W result) t q s in
        let (v, zs, s, j) = then-from table (W condition) (W step then W result) u q s in
        let (w, us, vs, m) = then-from table (W step) (W result) v q s in
        rw (
          e,
          name-there a b,
          name-there i c,
          reads_expr range _ t q xs (omega arith) d,
          reads_expr init t u q ys (omega arith) g,
          reads_expr condition u v q zs (omega arith) j,
          reads_expr step v w q us (omega arith) m,
          reads_expr result w q q vs (omega arith) (omega arith),
          whole q,
        )
    expression-read (call l g x) p q end f h k =
        record-read function_kind (function_number g ∷ []) refl l (W x) p q f end _ k
        (λ t. no-leaf (rw (called-there (to_one g)) at t))
        (λ s e. rw (e, called-there (to_one g), reads_expr x _ q q s (omega arith) (omega arith), whole q))
    expression-read (none_call l) p q end f h k =
        record-read function_kind (3 ∷ []) refl l nothing p q f end _ k (λ t. nothing-from table _ _) (λ s e. rw (e, called-there to_none))
    expression-read (or_value l x y) p q end f h k =
        record-read function_kind (6 ∷ []) refl l (W x then W y) p q f end _ k
        (λ t. no-leaf (rw (called-there to_two) at t)) λ s e.
        let (m, xs, ys, b) = then-from table (W x) (W y) _ q s in
        rw (e, called-there to_two, reads_expr x _ m q xs (omega arith) b, reads_expr y m q q ys (omega arith) (omega arith), whole q)

    -- what is read as an expression is read as an operand without a mark
    bare-read : (p end : ℕ) (e : Expr) (q : ℕ) → expression p end ≡ got (e, q) → part p end ≡ got (bare e, q)
    unfolding as_expr as_part ◌>>=◌
    bare-read p end e q s = opened (head_at width table p end) s
      where
        kind : (h : Head) (k : Kind) → as_expr text R P p h k ≡ got (e, q) → as_part text R P p h k ≡ got (bare e, q)
        kind h mark s = nonsense (cc)
        kind h (expr k) s = rw s

        opened : (g : Got Head) → ◌>>=◌ g (λ h. as_expr text R P p h h.kind) ≡ got (e, q) → ◌>>=◌ g (λ h. as_part text R P p h h.kind) ≡ got (bare e, q)
        opened (got h) s = kind h h.kind s
        opened (refused r n) s = nonsense (cc)

    part-read : (x : Part) (p q end : ℕ) → From table (WrittenPart width text x) p q → depth_part x ≤ suc left → q ≤ end → part p end ≡ got (x, q)
    unfolding as_part filled demand ◌>>=◌ ◌>>◌ is_leaf
    part-read (bare e) p q end f h k = bare-read p end e q (expression-read e p q end f h k)
    part-read (marked m e) p q end f h k =
        rw (
          head-from width table mark [] refl m (W e) p q f end k no-leaf,
          reads_expr e _ q q (operands-from width table mark [] refl m (W e) p q f) (omega arith) (omega arith),
          whole q,
          f.form.here,
        )

  -- with `left` levels of nesting left, the reader reads back what nests no deeper
  levels-read : (left : ℕ) → ReadsExpr left (expr_at width table text left) × ReadsPart left (part_at width table text left)
  unfolding expr_at
  levels-read zero = (λ e p q end f h k. absurd (nests-some e h), λ x p q end f h k. absurd (part-nests x h))
  levels-read (suc left) =
      let (exprs, parts) = levels-read left in
      let R = expr_at width table text left in
      let P = part_at width table text left in
      (expression-read left R P exprs parts, part-read left R P exprs parts)

-- ---- whole tables

stands-behind : (x : ℕ) (table : List ℕ) (p : ℕ) (bs : List ℕ) → Stands table p bs → Stands (x ∷ table) (suc p) bs
stands-behind x table p [] s = tt
stands-behind x table p (b ∷ bs) s = (s.0, stands-behind x table (suc p) bs s.1)

stands-whole : (table : List ℕ) → Stands table 0 table
stands-whole [] = tt
stands-whole (x ∷ xs) = (refl, stands-behind x xs 0 xs (stands-whole xs))

root-read : (width : ℕ) (table text : List ℕ) (e : Expr) (left : ℕ) → Written width text e start table → depth e ≤ left
    → expr_at width table text left start (length table) ≡ got (e, length table)
root-read width table text e left w h = (levels-read width table text left).0 e start (length table) (length table)
    (record { bs = table; form = w; stands = stands-whole table; ends = zero-add (length table) }) h (omega arith)

-- In words of any width: where the rules write an expression as a whole table, it is read.
pub root-back : (width : ℕ) (table text : List ℕ) (e : Expr) → Written width text e start table → depth e ≤ deepest_record
    → root_at width table text start ≡ got e
unfolding root_at demand ◌>>=◌ ◌>>◌
root-back width table text e w h = rw (root-read width table text e deepest_record w h, whole (length table))

-- The reader loses nothing: a table that the rules write as an expression, within the limits of length and nesting, is read as this
-- expression, with its places.
pub loses-nothing : (table text : List ℕ) (e : Expr) → Spells table text e → read_table table text ≡ got e
unfolding read_table demand ◌>>=◌ ◌>>◌
loses-nothing table text e s =
    rw (
      le-leb shortest_table (length table) s.at_least,
      le-leb (length table) longest_table s.at_most,
      root-back word_bytes table text e s.written s.nests,
    )

-- No table spells two expressions.
pub spells_one : (width : ℕ) (table text : List ℕ) (e f : Expr) → Written width text e start table → Written width text f start table → e ≡ f
spells_one width table text e f v w =
    let x = root-read width table text e (depth e + depth f) v (omega arith) in
    let y = root-read width table text f (depth e + depth f) w (omega arith) in
    let same : ◌≡◌ {A = Expr × ℕ} (e, length table) (f, length table) = cc in
    ap (λ (r : Expr × ℕ). r.0) same
