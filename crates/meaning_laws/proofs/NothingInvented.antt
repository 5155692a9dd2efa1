-- The reader of node tables invents nothing: what it reads from a table of bytes, the rules write as that table.
-- It rests on the heads, on what a reading tells of texts and operands, and on the loss of nothing. Assumes nothing.
use Prim.Native.Nat.{ℕ, zero, suc, ◌+◌, ◌≤◌}
use native.Mathlib.Omega.{arith}
use mathlib.Core.Path.{◌≡◌, refl, sym, ap, subst}
use mathlib.Core.Logic.{◌↔◌}
use mathlib.Core.List.{List, [], ◌∷◌}
use Rattle.std.specs.Prelude.{Some}
use mathlib.Core.Bool.{Bool, true, false, ◌&&◌}
use lib.ListN.{length}
use lib.Seq.{slice, take-length}
use lib.Dec.{leb}
use borrow.Author.Tests.{leb-true, eqb-true}
use Rattle.meaning.specs.Limits.{shortest_table, longest_table, deepest_record}
use Rattle.meaning.specs.declared.refusal.Reason.{Reason}
use Rattle.meaning.specs.Expr.{Expr}
use Rattle.meaning.specs.Kinds.{ExprKind, null_kind, bool_kind, int_kind, uint_kind, double_kind, string_kind, bytes_kind, name_kind, unary_kind, binary_kind}
use Rattle.meaning.specs.Kinds.{conditional_kind, select_kind, list_kind, map_kind, comprehension_kind, function_kind, Kind, mark, expr}
use Rattle.meaning.specs.Kinds.{byte, word, is_leaf, Called, to_one, to_none, to_two, called_without, numbered, functions}
use Rattle.meaning.specs.Heads.{Got, got, refused, ◌>>=◌, demand, or_refuse, start, Head, first, numbers_at, head_at}
use Rattle.meaning.specs.Table.{Part, bare, Reader, elements_from, pairs_from, filled, called_at, body_at, as_expr, as_part, expr_at, part_at}
use Rattle.meaning.specs.Table.{root_at, word_bytes, read_table}
use Rattle.meaning.specs.WellFormed.{AllBytes}
use Rattle.meaning_laws.specs.Written.{Form, nothing, Record, Written, Spells, depth}
use Rattle.meaning_laws.proofs.TableBytes.{nonsense, sizes_of, measured}
use Rattle.meaning_laws.proofs.TableKinds.{kind_byte, fields_of, operands_of, flag-here, unary-here, binary-here, called-here, name-here}
use Rattle.meaning_laws.proofs.TableHeads.{went, went_on, demanded, chosen, Opened, head_opened, head-writes}
use Rattle.meaning_laws.proofs.TableForms.{depth_part, WrittenPart}
use Rattle.meaning_laws.proofs.ReadBack.{loses-nothing}
use Rattle.meaning_laws.proofs.TableTold.{span-here, utf8-here, Told, told-as, nothing-told, then-told, TellsExpr, TellsPart, elements-told}
use Rattle.meaning_laws.proofs.TableTold.{pairs-told}

-- ---- records, one kind after the other

module _ (width : ℕ) (table text : List ℕ) where
  abbrev W : Expr → Form
  W e = Written width text e

  module _ (left : ℕ) (R : Reader Expr) (P : Reader Part) (tells_expr : TellsExpr width table text left R)
      (tells_part : TellsPart width table text left P) where
    module _ (all : AllBytes table) (p end : ℕ) (inside : end ≤ length table) where
      -- the head of a record at p, its numbers read behind its extent
      abbrev head_here : Kind → ℕ → ℕ → Head
      head_here k at last = record {
        kind = k;
        numbers = numbers_at width table (fields_of k) (p + sizes_of width (byte ∷ word ∷ []));
        operands_at = at;
        end = last;
      }

      abbrev Result : Expr → ℕ → Type 0
      Result e q = Told table (W e) (depth e) (suc left) p q end

      abbrev PartResult : Part → ℕ → Type 0
      PartResult x q = Told table (WrittenPart width text x) (depth_part x) (suc left) p q end

      result : {A : Type 0} (T : A → ℕ → Type 0) (x : A) (m : ℕ) (e : A) (q : ℕ) → ◌≡◌ {A = Got (A × ℕ)} (got (x, m)) (got (e, q)) → T x m → T e q
      result {A} T x m e q b t =
          let same : ◌≡◌ {A = A × ℕ} (x, m) (e, q) = cc in
          subst (λ (r : A × ℕ). T r.0 r.1) same t

      record-told : (k : Kind) (at last m : ℕ) (F : Form) (deep : ℕ) → Opened width table p end (head_here k at last) → Told table F deep left at m last
          → m ≡ last
          → Told table (Record width p (kind_byte k) (measured width (fields_of k) (head_here k at last).numbers) F) (suc deep) (suc left) p last end
      record-told k at last m F deep o t e =
          let a = t.nests in let b = o.operands_inside in
          record {
            low = omega (arith, o.operands_there);
            high = o.end_inside;
            written = head-writes width table all p end (head_here k at last) o inside F (rw e at t.written);
            nests = omega arith;
          }

      leaf-told : (k : Kind) (at last : ℕ) → Opened width table p end (head_here k at last)
          → is_leaf (operands_of k) (first (head_here k at last).numbers) ≡ true
          → Told table (Record width p (kind_byte k) (measured width (fields_of k) (head_here k at last).numbers) nothing) 1 (suc left) p last end
      leaf-told k at last o t = record-told k at last last nothing 0 o (nothing-told table left at last last (sym (o.leaf_ends t)) (omega arith)) refl

      filled-told : {A : Type 0} (T : A → ℕ → Type 0) (k : Kind) (at last : ℕ) (x : A) (m : ℕ) (e : A) (q : ℕ)
          → filled p (head_here k at last) x m ≡ got (e, q) → (m ≡ last → T x last) → T e q
      unfolding filled
      filled-told T k at last x m e q b f =
          went_on (demand _ _ p) _ (e, q) b λ u t b.
          let ends : m ≡ last = eqb-true m last (demanded _ _ p u t) in
          result T x m e q b (rw ends (f ends))

      -- an operand behind what was read up to q
      operand-told : (k : Kind) (at last : ℕ) → Opened width table p end (head_here k at last) → (q : ℕ) → q ≤ last → (a : Expr × ℕ)
          → R q last ≡ got a → Told table (W a.0) (depth a.0) left q a.1 last
      operand-told k at last o q h a e = tells_expr q last a.1 a.0 h (omega (arith, o.end_inside)) e

      called-told : (f : Called) (at last : ℕ) (e : Expr) (q : ℕ) → Opened width table p end (head_here (expr function_kind) at last)
          → numbered functions (first (head_here (expr function_kind) at last).numbers) ≡ Some f
          → called_at text R P p (head_here (expr function_kind) at last) f ≡ got (e, q) → Result e q
      unfolding called_at numbers_at is_leaf called_without
      called-told (to_one f) at last e q o known b =
          went (R at last) _ (e, q) b λ x first b. filled-told Result (expr function_kind) at last _ _ e q b λ ends.
          rw (← called-here _ (to_one f) known)
          (record-told (expr function_kind) at last _ _ _ o (operand-told _ at last o at o.operands_inside x first) ends)
      called-told to_none at last e q o known b =
          result Result _ last e q b (rw (called-here _ to_none known) at (leaf-told (expr function_kind) at last o (rw known)))
      called-told to_two at last e q o known b =
          went (R at last) _ (e, q) b λ x first b. went (R x.1 last) _ (e, q) b λ y second b.
          filled-told Result (expr function_kind) at last _ _ e q b λ ends.
          let t = operand-told _ at last o at o.operands_inside x first in
          let v = operand-told _ at last o x.1 t.high y second in
          rw (called-here _ to_two known) at
          (record-told (expr function_kind) at last _ _ _ o (then-told table (omega (arith, o.end_inside)) t v) ends)

      body-told : (k : ExprKind) (at last : ℕ) (e : Expr) (q : ℕ) → Opened width table p end (head_here (expr k) at last)
          → body_at text R P p (head_here (expr k) at last) k (head_here (expr k) at last).numbers ≡ got (e, q) → Result e q
      unfolding body_at numbers_at is_leaf
      body-told null_kind at last e q o b = result Result _ last e q b (leaf-told (expr null_kind) at last o refl)
      body-told bool_kind at last e q o b =
          went (or_refuse _ p _) _ (e, q) b λ c known b.
          result Result _ last e q b (rw (← flag-here _ c (chosen _ p _ c known)) (leaf-told (expr bool_kind) at last o refl))
      body-told int_kind at last e q o b =
          result Result _ last e q b (told-as table _ (λ bs r. (_, refl, r)) (leaf-told (expr int_kind) at last o refl))
      body-told uint_kind at last e q o b = result Result _ last e q b (leaf-told (expr uint_kind) at last o refl)
      body-told double_kind at last e q o b = result Result _ last e q b (leaf-told (expr double_kind) at last o refl)
      body-told string_kind at last e q o b =
          went (or_refuse _ p _) _ (e, q) b λ s known b.
          let (there, formed) = utf8-here _ s (chosen _ p _ s known) in
          let (part, size) = span-here text _ _ s there in
          result Result _ last e q b (told-as table _ (λ bs r. (formed, (_, part, rw (← size) r))) (leaf-told (expr string_kind) at last o refl))
      body-told bytes_kind at last e q o b =
          went (or_refuse _ p _) _ (e, q) b λ s known b.
          let (part, size) = span-here text _ _ s (chosen _ p _ s known) in
          result Result _ last e q b (told-as table _ (λ bs r. (_, part, rw (← size) r)) (leaf-told (expr bytes_kind) at last o refl))
      body-told name_kind at last e q o b =
          went (or_refuse _ p _) _ (e, q) b λ n known b.
          let (same, below) = name-here _ n (chosen _ p _ n known) in
          result Result _ last e q b (told-as table _ (λ bs r. (below, rw (← same) r)) (leaf-told (expr name_kind) at last o refl))
      body-told unary_kind at last e q o b =
          went (or_refuse _ p _) _ (e, q) b λ u known b. went (R at last) _ (e, q) b λ x first b.
          filled-told Result (expr unary_kind) at last _ _ e q b λ ends.
          rw (← unary-here _ u (chosen _ p _ u known))
          (record-told (expr unary_kind) at last _ _ _ o (operand-told _ at last o at o.operands_inside x first) ends)
      body-told binary_kind at last e q o b =
          went (or_refuse _ p _) _ (e, q) b λ u known b. went (R at last) _ (e, q) b λ x first b. went (R x.1 last) _ (e, q) b λ y second b.
          filled-told Result (expr binary_kind) at last _ _ e q b λ ends.
          let t = operand-told _ at last o at o.operands_inside x first in
          let v = operand-told _ at last o x.1 t.high y second in
          rw (← binary-here _ u (chosen _ p _ u known))
          (record-told (expr binary_kind) at last _ _ _ o (then-told table (omega (arith, o.end_inside)) t v) ends)
      body-told conditional_kind at last e q o b =
          went (R at last) _ (e, q) b λ x first b. went (R x.1 last) _ (e, q) b λ y second b. went (R y.1 last) _ (e, q) b λ z third b.
          filled-told Result (expr conditional_kind) at last _ _ e q b λ ends.
          let room : last ≤ length table = omega (arith, o.end_inside) in
          let t = operand-told _ at last o at o.operands_inside x first in
          let u = operand-told _ at last o x.1 t.high y second in
          let v = operand-told _ at last o y.1 u.high z third in
          record-told (expr conditional_kind) at last _ _ _ o (then-told table room t (then-told table room u v)) ends
      body-told select_kind at last e q o b =
          went (or_refuse _ p _) _ (e, q) b λ c flag b. went (or_refuse _ p _) _ (e, q) b λ s known b. went (R at last) _ (e, q) b λ x first b.
          filled-told Result (expr select_kind) at last _ _ e q b λ ends.
          let (there, formed) = utf8-here _ s (chosen _ p _ s known) in
          let (part, size) = span-here text _ _ s there in
          told-as table _ (λ bs r. (formed, (_, part, rw (← flag-here _ c (chosen _ p _ c flag), ← size) r)))
          (record-told (expr select_kind) at last _ _ _ o (operand-told _ at last o at o.operands_inside x first) ends)
      body-told list_kind at last e q o b =
          went (elements_from P _ at last) _ (e, q) b λ x first b. filled-told Result (expr list_kind) at last _ _ e q b λ ends.
          let room : last ≤ length table = omega (arith, o.end_inside) in
          let (t, count) = elements-told width table text left R P tells_expr tells_part _ at last x.1 x.0 o.operands_inside room first in
          rw count (record-told (expr list_kind) at last _ _ _ o t ends)
      body-told map_kind at last e q o b =
          went (pairs_from R P _ at last) _ (e, q) b λ x first b. filled-told Result (expr map_kind) at last _ _ e q b λ ends.
          let room : last ≤ length table = omega (arith, o.end_inside) in
          let (t, count) = pairs-told width table text left R P tells_expr tells_part _ at last x.1 x.0 o.operands_inside room first in
          rw count (record-told (expr map_kind) at last _ _ _ o t ends)
      body-told comprehension_kind at last e q o b =
          went (or_refuse _ p _) _ (e, q) b λ a known b. went (or_refuse _ p _) _ (e, q) b λ i item b. went (R at last) _ (e, q) b λ x first b.
          went (R x.1 last) _ (e, q) b λ y second b. went (R y.1 last) _ (e, q) b λ z third b. went (R z.1 last) _ (e, q) b λ c fourth b.
          went (R c.1 last) _ (e, q) b λ d fifth b. filled-told Result (expr comprehension_kind) at last _ _ e q b λ ends.
          let room : last ≤ length table = omega (arith, o.end_inside) in
          let (same, below) = name-here _ a (chosen _ p _ a known) in
          let (also, under) = name-here _ i (chosen _ p _ i item) in
          let s = operand-told _ at last o at o.operands_inside x first in
          let t = operand-told _ at last o x.1 s.high y second in
          let u = operand-told _ at last o y.1 t.high z third in
          let v = operand-told _ at last o z.1 u.high c fourth in
          let w = operand-told _ at last o c.1 v.high d fifth in
          told-as table _ (λ bs r. (below, (under, rw (← same, ← also) r)))
          (record-told (expr comprehension_kind) at last _ _ _ o
          (then-told table room s (then-told table room t (then-told table room u (then-told table room v w)))) ends)
      body-told function_kind at last e q o b =
          went (or_refuse _ p _) _ (e, q) b λ f known b. called-told f at last e q o (chosen _ p _ f known) b

      expr-told : (k : Kind) (at last : ℕ) (e : Expr) (q : ℕ) → Opened width table p end (head_here k at last)
          → as_expr text R P p (head_here k at last) k ≡ got (e, q) → Result e q
      unfolding as_expr
      expr-told mark at last e q o b = nonsense (cc)
      expr-told (expr k) at last e q o b = body-told k at last e q o b

      part-told : (k : Kind) (at last : ℕ) (x : Part) (q : ℕ) → Opened width table p end (head_here k at last)
          → as_part text R P p (head_here k at last) k ≡ got (x, q) → PartResult x q
      unfolding as_part
      part-told mark at last x q o b =
          went (R at last) _ (x, q) b λ y first b. filled-told PartResult mark at last _ _ x q b λ ends.
          record-told mark at last _ _ _ o (operand-told _ at last o at o.operands_inside y first) ends
      part-told (expr k) at last x q o b =
          went (body_at text R P p (head_here (expr k) at last) k _) _ (x, q) b λ y first b.
          result PartResult (bare y.0) y.1 x q b (body-told k at last y.0 y.1 o first)

      -- a head that was read, with its numbers as they stand in the table
      head-here : (h : Head) → Opened width table p end h → h ≡ head_here h.kind h.operands_at h.end
      head-here h o = ap (λ (l : List ℕ). record { kind = h.kind; numbers = l; operands_at = h.operands_at; end = h.end }) o.numbers_there

      at_head : {A : Type 0} (T : A → ℕ → Type 0) (f : Head → Got (A × ℕ)) (x : A) (q : ℕ) → ◌>>=◌ (head_at width table p end) f ≡ got (x, q)
          → ((k : Kind) (at last : ℕ) → Opened width table p end (head_here k at last) → f (head_here k at last) ≡ got (x, q) → T x q) → T x q
      at_head T f x q b g =
          went (head_at width table p end) f (x, q) b λ h there b.
          let o = head_opened width table p end h there in
          let same = head-here h o in
          g h.kind h.operands_at h.end (subst (λ (l : Head). Opened width table p end l) same o) (subst (λ (l : Head). f l ≡ got (x, q)) same b)

  -- with any number of levels left, the reader tells what stands in the table
  levels-told : AllBytes table → (left : ℕ)
      → TellsExpr width table text left (expr_at width table text left) × TellsPart width table text left (part_at width table text left)
  unfolding expr_at
  levels-told all zero = (
    λ p end q e h inside b. went_on _ _ (e, q) b λ a there b. nonsense (cc),
    λ p end q x h inside b. went_on _ _ (x, q) b λ a there b. nonsense (cc),
  )
  levels-told all (suc left) =
      let (exprs, parts) = levels-told all left in
      let R = expr_at width table text left in
      let P = part_at width table text left in (
        λ p end q e h inside b.
            at_head left R P exprs parts all p end inside (λ x m. Told table (W x) (depth x) (suc left) p m end) _ e q b λ k at last o b.
            expr-told left R P exprs parts all p end inside k at last e q o b,
        λ p end q x h inside b.
            at_head left R P exprs parts all p end inside (λ y m. Told table (WrittenPart width text y) (depth_part y) (suc left) p m end) _ x q b
            λ k at last o b. part-told left R P exprs parts all p end inside k at last x q o b,
      )

-- ---- whole tables

both : (a b : Bool) → (a && b) ≡ true → (a ≡ true) × (b ≡ true)
both true b e = (refl, e)
both false b e = nonsense (cc)

-- In words of any width: what is read as a whole table of bytes, the rules write as this table.
pub root_told : (width : ℕ) (table text : List ℕ) (e : Expr) → AllBytes table → root_at width table text start ≡ got e
    → Written width text e start table × (depth e ≤ deepest_record)
unfolding root_at
root_told width table text e all b =
    went (expr_at width table text deepest_record start (length table)) _ e b λ a there b. went_on (demand _ _ _) _ e b λ v whole b.
    let t = (levels-told width table text all deepest_record).0 start (length table) a.1 a.0 (omega arith) (omega arith) there in
    let ends : a.1 ≡ length table = eqb-true a.1 (length table) (demanded _ _ _ v whole) in
    let all_of : slice start a.1 table ≡ table = rw ends (take-length table) in
    let same : a.0 ≡ e = cc in
    (rw (← same) (rw all_of at t.written), rw (← same) t.nests)

-- The reader invents nothing: an expression that is read from a table of bytes is one that the rules write as this very table, within
-- the limits of length and nesting.
pub invents-nothing : (table text : List ℕ) (e : Expr) → AllBytes table → read_table table text ≡ got e → Spells table text e
unfolding read_table
invents-nothing table text e all b =
    went_on (demand _ _ start) _ e b λ u sized b.
    let (short, long) = both (leb shortest_table (length table)) (leb (length table) longest_table) (demanded _ _ start u sized) in
    let (written, nests) = root_told word_bytes table text e all b in
    record {
      written = written;
      at_least = leb-true shortest_table (length table) short;
      at_most = leb-true (length table) longest_table long;
      nests = nests;
    }

-- A table of bytes is accepted as an expression exactly if the rules write this expression as it.
pub accepted : (table text : List ℕ) (e : Expr) → AllBytes table → (read_table table text ≡ got e) ↔ Spells table text e
accepted table text e all = (invents-nothing table text e all, loses-nothing table text e)

-- What is refused, the rules write as no expression within the limits.
pub refused-unwritten : (table text : List ℕ) (r : Reason) (p : ℕ) → read_table table text ≡ refused r p → (e : Expr) → Spells table text e → ⊥
refused-unwritten table text r p b e s = let a = loses-nothing table text e s in nonsense (cc)

-- A table of bytes that the rules write as no expression within the limits is refused.
pub unwritten-refused : (table text : List ℕ) → AllBytes table → ((e : Expr) → Spells table text e → ⊥)
    → (r : Reason) × (p : ℕ) × (read_table table text ≡ refused r p)
unwritten-refused table text all no_one = go (read_table table text) refl
  where
    go : (g : Got Expr) → read_table table text ≡ g → (r : Reason) × (p : ℕ) × (read_table table text ≡ refused r p)
    go (got e) b = absurd (no_one e (invents-nothing table text e all b))
    go (refused r p) b = (r, p, b)
