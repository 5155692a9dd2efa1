-- The walk over an accepted table meets the records of its expression, in their order, and then the end. Assumes nothing.
use mathlib.Core.Path.{◌≡◌, refl, ◌∙◌, ap, subst}
use mathlib.Core.Bool.{Bool, true, false, cond}
use mathlib.Core.List.{List, [], ◌∷◌, ◌++◌, append-nil}
use Rattle.std.specs.Prelude.{Option, None, Some}
use Prim.Native.Nat.{ℕ, zero, suc, ◌+◌, ◌*◌, ◌≤◌, ◌<◌}
use native.Mathlib.Omega.{arith}
use lib.Dec.{eqb}
use lib.ListN.{length, get_or}
use borrow.Author.Tests.{eqb-true, eqb-false}
use Rattle.meaning.specs.Expr.{Expr, Elements, Pairs}
use Rattle.meaning.specs.Kinds.{ExprKind, null_kind, bool_kind, int_kind, uint_kind, double_kind, string_kind, bytes_kind, name_kind, unary_kind, binary_kind, conditional_kind, select_kind, list_kind, map_kind, comprehension_kind, function_kind, Called, to_one, to_none, to_two, numbered, functions}
use Rattle.meaning.specs.Table.{Part, bare, marked, add_element, add_pair}
use Rattle.meaning.specs.Listing.{Listed, records_of, records_of_elements, records_of_pairs}
use Rattle.table_layout.specs.Layout.{fields_at, word_at, after}
use Rattle.std.specs.Prelude.{Ok}
use Rattle.table_check.specs.declared.faults.Marks.{Marks}
use Rattle.table_check.specs.declared.faults.Marks.TheVariants.{Nowhere, Anywhere, Values}
use Rattle.table_check.specs.Shapes.{called_count, expr_count}
use Rattle.table_check.specs.Faults.{expr_marks, may_mark}
use Rattle.table_check.specs.Fits.{is_some, expr_fits}
use Rattle.table_check.specs.Records.{expr_of, part_of, Sound, SoundPart, Operand, Row, elements_of, pairs_of, kind_byte, head_of_kind, numbers_in, call_of, node}
use Rattle.table_check.specs.Check.{check_of}
use Rattle.table_check.specs.Walk.{next, Walk, Step}
use Rattle.table_layout.proofs.KindLaws.{head-table}
use Rattle.table_check.proofs.HeadLaws.{by-test}
use Rattle.table_check.proofs.OperandLaws.{two-more, key-next, value-next}
use Rattle.table_check.proofs.AcceptedRecordLaws.{sound-here, part-here}
use Rattle.table_check.proofs.Opened.{opened}
use Rattle.table_check.proofs.Parts.{part-marked, part-bare, sound-extent, part-extent, row_within, sound-kind}
use Rattle.table_check.proofs.Accepted.{accepted}

-- ---- walks in general

same-pair : (r : Listed) {a : ℕ} {b : Option ℕ} → a ≡ r.0 → b ≡ r.1 → ◌≡◌ {A = Listed} r (a, b)
same-pair (c, d) e f = rw (e, f)

module _ (t : List ℕ) where
  -- a walk goes forward
  pub walk-within : (end q : ℕ) (rs : List Listed) → Walk t end q rs → q ≤ end
  walk-within end q [] w = omega (arith, w)
  walk-within end q (r ∷ rs) w = omega (arith, w.2)

  walk-join : (mid end q : ℕ) (rs ss : List Listed) → Walk t mid q rs → mid ≤ end → Walk t end mid ss → Walk t end q (rs ++ ss)
  walk-join mid end q [] ss w le v = rw w v
  walk-join mid end q (r ∷ rs) ss w le v = (w.0, w.1, omega (arith, w.2, le), w.3, walk-join mid end (next t q) rs ss w.4 le v)

  -- Before the end a walk stands at the next record of the list, and goes on behind its head.
  pub walk_step : (end q : ℕ) (rs : List Listed) → q < end → Walk t end q rs → Step t end q rs
  walk_step end q [] h w = absurd (omega (arith, h, w))
  walk_step end q (r ∷ rs) h w =
      record { rest = rs; is = ap (λ (l : Listed). l ∷ rs) (same-pair r w.0 w.1); known = w.3; room = walk-within end (next t q) rs w.4; on = w.4 }

  -- At the end nothing is left.
  pub walk_ends : (end q : ℕ) (rs : List Listed) → end ≤ q → Walk t end q rs → rs ≡ []
  walk_ends end q [] h w = refl
  walk_ends end q (r ∷ rs) h w = absurd (omega (arith, h, w.2))

-- ---- the records of operands, one after the other

abbrev part_records : Part → List Listed
part_records (bare e) = records_of e
part_records (marked p e) = (p, None) ∷ records_of e

element-records : (y : Part) (es : Elements) → records_of_elements (add_element y es) ≡ part_records y ++ records_of_elements es
unfolding add_element
element-records (bare e) es = refl
element-records (marked p e) es = refl

pair-records : (k : Expr) (y : Part) (es : Pairs) → records_of_pairs (add_pair k y es) ≡ records_of k ++ (part_records y ++ records_of_pairs es)
unfolding add_pair
pair-records k (bare e) es = refl
pair-records k (marked p e) es = refl

-- the name in a record of a kind
abbrev carried : ExprKind → ℕ → Option ℕ
carried null_kind n = None
carried bool_kind n = None
carried int_kind n = None
carried uint_kind n = None
carried double_kind n = None
carried string_kind n = None
carried bytes_kind n = None
carried name_kind n = Some n
carried unary_kind n = None
carried binary_kind n = None
carried conditional_kind n = None
carried select_kind n = None
carried list_kind n = None
carried map_kind n = None
carried comprehension_kind n = None
carried function_kind n = None

carried-there : (k : ExprKind) (n : ℕ) → cond (eqb (kind_byte k) (kind_byte name_kind)) (Some n) None ≡ carried k n
carried-there null_kind n = refl
carried-there bool_kind n = refl
carried-there int_kind n = refl
carried-there uint_kind n = refl
carried-there double_kind n = refl
carried-there string_kind n = refl
carried-there bytes_kind n = refl
carried-there name_kind n = refl
carried-there unary_kind n = refl
carried-there binary_kind n = refl
carried-there conditional_kind n = refl
carried-there select_kind n = refl
carried-there list_kind n = refl
carried-there map_kind n = refl
carried-there comprehension_kind n = refl
carried-there function_kind n = refl

module _ (t x : List ℕ) where
  abbrev operand_records : Bool → ℕ → List Listed
  operand_records true q = part_records (part_of t x q)
  operand_records false q = records_of (expr_of t x q)

  abbrev row_records : Marks → (count place : ℕ) → List Listed
  row_records marks zero q = []
  row_records marks (suc n) q = operand_records (may_mark marks (suc n)) q ++ row_records marks n (after t q)

  elements-records : (n q : ℕ) → records_of_elements (elements_of t x n q) ≡ row_records Anywhere n q
  elements-records zero q = refl
  elements-records (suc n) q =
      element-records (part_of t x q) (elements_of t x n (after t q)) ∙
      ap (λ (l : List Listed). part_records (part_of t x q) ++ l) (elements-records n (after t q))

  pairs-records : (n q : ℕ) → records_of_pairs (pairs_of t x n q) ≡ row_records Values (2 * n) q
  pairs-records zero q = refl
  pairs-records (suc n) q =
      rw (two-more n, key-next n, value-next n)
      (pair-records (expr_of t x q) (part_of t x (after t q)) (pairs_of t x n (after t (after t q))) ∙
      ap (λ (l : List Listed). records_of (expr_of t x q) ++ (part_records (part_of t x (after t q)) ++ l)) (pairs-records n (after t (after t q))))

module _ (t x : List ℕ) (p : ℕ) where
  called-records : (o : Option Called) → is_some o ≡ true →
      records_of (call_of t x p o) ≡ (p, None) ∷ row_records t x Nowhere (called_count o) (p + head_of_kind function_kind)
  called-records None e = let z : ◌≡◌ {A = ℕ} 0 1 = cc in absurd (omega arith)
  called-records (Some (to_one f)) e = rw append-nil
  called-records (Some to_none) e = refl
  called-records (Some to_two) e = rw append-nil

  -- a record comes before those of its operands
  node-records : (k : ExprKind) → expr_fits x k (numbers_in t x p k) ≡ true → records_of (node t x p k) ≡ (p, carried k (get_or t (p + fields_at) 0)) ∷
      row_records t x (expr_marks k) (expr_count k (numbers_in t x p k)) (p + head_of_kind k)
  node-records null_kind e = refl
  node-records bool_kind e = refl
  node-records int_kind e = refl
  node-records uint_kind e = refl
  node-records double_kind e = refl
  node-records string_kind e = refl
  node-records bytes_kind e = refl
  node-records name_kind e = refl
  node-records unary_kind e = rw append-nil
  node-records binary_kind e = rw append-nil
  node-records conditional_kind e = rw append-nil
  node-records select_kind e = rw append-nil
  node-records list_kind e = ap (λ (l : List Listed). (p, None) ∷ l) (elements-records t x (word_at t (p + fields_at)) (p + head_of_kind list_kind))
  node-records map_kind e = ap (λ (l : List Listed). (p, None) ∷ l) (pairs-records t x (word_at t (p + fields_at)) (p + head_of_kind map_kind))
  node-records comprehension_kind e = rw append-nil
  node-records function_kind e = called-records (numbered functions (get_or t (p + fields_at) 0)) e

-- ---- the walk

module _ (t x : List ℕ) where
  abbrev Walked : ℕ → Type 0
  Walked n = (q : ℕ) → Sound t x q → after t q ≤ q + n → Walk t (after t q) q (records_of (expr_of t x q))

  part-walk : (n : ℕ) → Walked n → (q : ℕ) → SoundPart t x q → after t q ≤ q + n → Walk t (after t q) q (part_records (part_of t x q))
  part-walk n below q s le =
      by-test (eqb (get_or t q 0) 14)
      (λ e. let b = eqb-true (get_or t q 0) 14 e in
      let m = part-marked t x q s b in
      let h = part-extent t x q s in
      let w = below (q + fields_at) m.operand (omega (arith, m.ends, le)) in
      rw m.is (refl, rw b, omega (arith, h.0), (part-here t x q s).known, rw m.first (subst (λ (k : ℕ). Walk t k (q + fields_at) (records_of (expr_of t x (q + fields_at)))) m.ends w)))
      (λ e. let b = part-bare t x q s (eqb-false (get_or t q 0) 14 e) in rw b.1 (below q b.0 le))

  operand-walk : (n : ℕ) → Walked n → (marked : Bool) (q : ℕ) → Operand t x marked q → after t q ≤ q + n →
      Walk t (after t q) q (operand_records t x marked q)
  operand-walk n below true q s le = part-walk n below q s le
  operand-walk n below false q s le = below q s le

  row-walk : (n p : ℕ) → Walked n → (marks : Marks) (end m q : ℕ) → p < q → end ≤ p + suc n → Row t x marks end m q →
      Walk t end q (row_records t x marks m q)
  row-walk n p below marks end zero q h le r = r
  row-walk n p below marks end (suc m) q h le r =
      let k = row_within t x marks end m (after t q) r.1 in
      walk-join t (after t q) end q (operand_records t x (may_mark marks (suc m)) q) (row_records t x marks m (after t q))
      (operand-walk n below (may_mark marks (suc m)) q r.0 (omega arith)) k
      (row-walk n p below marks end m (after t q) (omega arith) le r.1)

  expr-walk : (n : ℕ) → Walked n
  expr-walk zero p s le = let h = sound-extent t x p s in absurd (omega arith)
  expr-walk (suc n) p s le =
      let k = sound-kind t x p s in
      let o = opened t x p k.0 k.1 s in
      let h = sound-extent t x p s in
      let here = sound-here t x p s in
      let f = head-table (get_or t p 0) here.known in
      let g : p < p + head_of_kind k.0 = omega (arith, f.0, f.1, o.first) in
      rw (o.is, node-records t x p k.0 o.fits) (
        refl,
        rw k.1 (carried-there k.0 (get_or t (p + fields_at) 0)),
        omega (arith, h.0),
        here.known,
        rw o.first
            (row-walk n p (expr-walk n) (expr_marks k.0) (after t p) (expr_count k.0 (numbers_in t x p k.0)) (p + head_of_kind k.0) g le o.row),
      )

  -- The walk over an accepted table meets the records of what it spells, and then the table's end.
  pub accepted-walk : check_of t x ≡ Ok tt → Walk t (length t) 0 (records_of (expr_of t x 0))
  accepted-walk e =
      let a = accepted t x e in
      rw (← a.whole) (expr-walk (after t 0) 0 a.root (omega arith))
