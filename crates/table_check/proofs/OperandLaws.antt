-- The definition's reader, without the expression: a record's fields, its operands one after the other, and its end. Assumes nothing.
use mathlib.Core.Path.{◌≡◌, refl, ◌∙◌}
use mathlib.Core.Bool.{Bool, true, false, ◌&&◌, cond}
use mathlib.Core.List.{List}
use Rattle.std.specs.Prelude.{Option, None, Some}
use Prim.Native.Nat.{ℕ, zero, suc, ◌*◌, ◌%◌}
use native.Mathlib.Omega.{arith}
use lib.Dec.{eqb}
use Rattle.std.specs.Prelude.{slice_get}
use borrow.Author.Tests.{eq-eqb, ne_eqb}
use Rattle.meaning.specs.Errors.{refusal_at}
use Rattle.meaning.specs.declared.refusal.Reason.TheVariants.{WrongExtent, WrongField, MisplacedMark}
use Rattle.meaning.specs.Expr.{Expr, Elements, Pairs, no_elements, no_pairs}
use Rattle.meaning.specs.Kinds.{ExprKind, null_kind, bool_kind, int_kind, uint_kind, double_kind, string_kind, bytes_kind, name_kind, unary_kind, binary_kind, conditional_kind, select_kind, list_kind, map_kind, comprehension_kind, function_kind, Kind, mark, expr, Called, to_one, to_none, to_two, numbered, unaries, binaries, functions, flags, name_of}
use Rattle.meaning.specs.Heads.{Got, got, refused, ◌>>=◌, ◌>>◌, demand, or_refuse, Head, first, second, third}
use Rattle.meaning.specs.Table.{Part, add_element, add_pair, Reader, elements_from, pairs_from, span, utf8, filled, called_at, body_at, as_expr, as_part}
use Rattle.std.specs.Prelude.{Ok, Err}
use Rattle.table_check.specs.declared.faults.Marks.TheVariants.{Nowhere, Anywhere, Values}
use Rattle.table_check.specs.Shapes.{called_count, expr_count, count_of}
use Rattle.table_check.specs.Faults.{expr_marks, marks_of, may_mark, misplaced_of}
use Rattle.table_check.specs.Fits.{is_some, expr_fits, fields_fit}
use Rattle.table_check.specs.Reading.{Read, ends, onward, closed, operands_of}

-- ---- what follows what

bind-ends : {A B : Type 0} (g : Got (A × ℕ)) (k : A × ℕ → Got (B × ℕ)) (then : ℕ → Read) → ((a : A × ℕ) → ends (k a) ≡ then a.1) →
    ends (◌>>=◌ g k) ≡ onward (ends g) then
unfolding ◌>>=◌
bind-ends (got a) k then h = h a
bind-ends (refused r p) k then h = refl

bind_assoc : {A B C : Type 0} (g : Got A) (k : A → Got B) (l : B → Got C) → ◌>>=◌ (◌>>=◌ g k) l ≡ ◌>>=◌ g (λ a. ◌>>=◌ (k a) l)
unfolding ◌>>=◌
bind_assoc (got a) k l = refl
bind_assoc (refused r p) k l = refl

onward-ends : (r : Read) → onward r (λ q. Ok q) ≡ r
onward-ends (Ok q) = refl
onward-ends (Err f) = refl

field-ends : {A B : Type 0} (p : ℕ) (o : Option A) (k : A → Got (B × ℕ)) (then : Read) → ((a : A) → ends (k a) ≡ then) →
    ends (◌>>=◌ (or_refuse WrongField p o) k) ≡ cond (is_some o) then (Err (refusal_at WrongField p))
unfolding ◌>>=◌ or_refuse
field-ends p None k then h = refl
field-ends p (Some a) k then h = h a

both : {A : Type 0} (a b : Bool) (x y : A) → cond a (cond b x y) y ≡ cond (a && b) x y
both true b x y = refl
both false b x y = refl

met : {A : Type 0} (b : Bool) (p q : ℕ) (x : A) → ends (◌>>◌ (demand b WrongExtent p) (got (x, q))) ≡ cond b (Ok q) (Err (refusal_at WrongExtent p))
unfolding ◌>>◌ ◌>>=◌ demand
met true p q x = refl
met false p q x = refl

filled-ends : {A : Type 0} (p : ℕ) (h : Head) (x : A) (q : ℕ) → ends (filled p h x q) ≡ closed p h.end q
unfolding filled
filled-ends p h x q = met (eqb q h.end) p q x

-- a record without operands ends where its head does
leaf-ends : (p end q : ℕ) → q ≡ end → Ok end ≡ closed p end q
leaf-ends p end q e = rw (e, eq-eqb end end refl)

pub two-more : (n : ℕ) → 2 * suc n ≡ suc (suc (2 * n))
two-more n = omega arith

pub key-next : (n : ℕ) → may_mark Values (suc (suc (2 * n))) ≡ false
key-next n = ne_eqb (suc (suc (2 * n)) % 2) 1 (λ e. omega arith)

pub value-next : (n : ℕ) → may_mark Values (suc (2 * n)) ≡ true
value-next n = eq-eqb (suc (2 * n) % 2) 1 (omega arith)

-- ---- records, whose operands are read by these two

module _ (text : List ℕ) (expr_at : Reader Expr) (part_at : Reader Part) (read : Bool → ℕ → ℕ → Read) (as-expr : (q r : ℕ) → ends (expr_at q r) ≡ read false q r)
    (as-part : (q r : ℕ) → ends (part_at q r) ≡ read true q r) (p : ℕ) (h : Head) where
  operand : {B : Type 0} (k : Expr × ℕ → Got (B × ℕ)) (then : ℕ → Read) (q : ℕ) → ((a : Expr × ℕ) → ends (k a) ≡ then a.1) →
      ends (◌>>=◌ (expr_at q h.end) k) ≡ onward (read false q h.end) then
  operand k then q f = rw (← as-expr q h.end) (bind-ends (expr_at q h.end) k then f)

  part : {B : Type 0} (k : Part × ℕ → Got (B × ℕ)) (then : ℕ → Read) (q : ℕ) → ((a : Part × ℕ) → ends (k a) ≡ then a.1) →
      ends (◌>>=◌ (part_at q h.end) k) ≡ onward (read true q h.end) then
  part k then q f = rw (← as-part q h.end) (bind-ends (part_at q h.end) k then f)

  elements : {B : Type 0} (n : ℕ) (k : Elements × ℕ → Got (B × ℕ)) (q : ℕ) → ((a : Elements × ℕ) → ends (k a) ≡ closed p h.end a.1) →
      ends (◌>>=◌ (elements_from part_at n q h.end) k) ≡ operands_of read p Anywhere h.end n q
  unfolding elements_from operands_of ◌>>=◌
  elements zero k q f = f (no_elements, q)
  elements (suc n) k q f =
      rw bind_assoc
      (part _ (λ r. operands_of read p Anywhere h.end n r) q
      (λ a. rw bind_assoc (elements n (λ b. k (add_element a.0 b.0, b.1)) a.1 (λ b. f (add_element a.0 b.0, b.1)))))

  pairs : {B : Type 0} (n : ℕ) (k : Pairs × ℕ → Got (B × ℕ)) (q : ℕ) → ((a : Pairs × ℕ) → ends (k a) ≡ closed p h.end a.1) →
      ends (◌>>=◌ (pairs_from expr_at part_at n q h.end) k) ≡ operands_of read p Values h.end (2 * n) q
  unfolding pairs_from operands_of ◌>>=◌
  pairs zero k q f = f (no_pairs, q)
  pairs (suc n) k q f =
      rw (two-more n, key-next n, bind_assoc)
      (operand _ (λ r. onward (read (may_mark Values (suc (2 * n))) r h.end) (λ s. operands_of read p Values h.end (2 * n) s)) q
      (λ a. rw (value-next n, bind_assoc)
      (part _ (λ s. operands_of read p Values h.end (2 * n) s) a.1
      (λ b. rw bind_assoc (pairs n (λ d. k (add_pair a.0 b.0 d.0, d.1)) b.1 (λ d. f (add_pair a.0 b.0 d.0, d.1)))))))

  called-ends : (o : Option Called) → (called_count o ≡ 0 → h.operands_at ≡ h.end) →
      ends (◌>>=◌ (or_refuse WrongField p o) (λ f. called_at text expr_at part_at p h f)) ≡ cond (is_some o)
      (operands_of read p Nowhere h.end (called_count o) h.operands_at) (Err (refusal_at WrongField p))
  unfolding called_at operands_of or_refuse ◌>>=◌
  called-ends None leaf = refl
  called-ends (Some (to_one f)) leaf = operand _ _ h.operands_at (λ a. filled-ends p h _ a.1)
  called-ends (Some to_none) leaf = leaf-ends p h.end h.operands_at (leaf refl)
  called-ends (Some to_two) leaf = operand _ _ h.operands_at (λ a. operand _ _ a.1 (λ b. filled-ends p h _ b.1))

  -- an expression's fields, then its operands
  pub body-ends : (k : ExprKind) (ns : List ℕ) → (expr_count k ns ≡ 0 → h.operands_at ≡ h.end) →
      ends (body_at text expr_at part_at p h k ns) ≡ cond (expr_fits text k ns) (operands_of read p (expr_marks k) h.end (expr_count k ns) h.operands_at)
      (Err (refusal_at WrongField p))
  unfolding body_at operands_of
  body-ends null_kind ns leaf = leaf-ends p h.end h.operands_at (leaf refl)
  body-ends bool_kind ns leaf = field-ends p (slice_get flags (first ns)) _ _ (λ b. leaf-ends p h.end h.operands_at (leaf refl))
  body-ends int_kind ns leaf = leaf-ends p h.end h.operands_at (leaf refl)
  body-ends uint_kind ns leaf = leaf-ends p h.end h.operands_at (leaf refl)
  body-ends double_kind ns leaf = leaf-ends p h.end h.operands_at (leaf refl)
  body-ends string_kind ns leaf = field-ends p (utf8 (span text (first ns) (second ns))) _ _ (λ s. leaf-ends p h.end h.operands_at (leaf refl))
  body-ends bytes_kind ns leaf = field-ends p (span text (first ns) (second ns)) _ _ (λ s. leaf-ends p h.end h.operands_at (leaf refl))
  body-ends name_kind ns leaf = field-ends p (name_of (first ns)) _ _ (λ n. leaf-ends p h.end h.operands_at (leaf refl))
  body-ends unary_kind ns leaf = field-ends p (numbered unaries (first ns)) _ _ (λ o. operand _ _ h.operands_at (λ a. filled-ends p h _ a.1))
  body-ends binary_kind ns leaf =
      field-ends p (numbered binaries (first ns)) _ _ (λ o. operand _ _ h.operands_at (λ a. operand _ _ a.1 (λ b. filled-ends p h _ b.1)))
  body-ends conditional_kind ns leaf = operand _ _ h.operands_at (λ a. operand _ _ a.1 (λ b. operand _ _ b.1 (λ c. filled-ends p h _ c.1)))
  body-ends select_kind ns leaf =
      rw (← both (is_some (slice_get flags (first ns))) (is_some (utf8 (span text (second ns) (third ns))))
      (operands_of read p Nowhere h.end 1 h.operands_at) (Err (refusal_at WrongField p)))
      (field-ends p (slice_get flags (first ns)) _ _
      (λ t. field-ends p (utf8 (span text (second ns) (third ns))) _ _ (λ s. operand _ _ h.operands_at (λ a. filled-ends p h _ a.1))))
  body-ends list_kind ns leaf = elements (first ns) _ h.operands_at (λ a. filled-ends p h _ a.1)
  body-ends map_kind ns leaf = pairs (first ns) _ h.operands_at (λ a. filled-ends p h _ a.1)
  body-ends comprehension_kind ns leaf =
      rw (← both (is_some (name_of (first ns))) (is_some (name_of (second ns))) (operands_of read p Nowhere h.end 5 h.operands_at) (Err (refusal_at WrongField p)))
      (field-ends p (name_of (first ns)) _ _
      (λ m. field-ends p (name_of (second ns)) _ _
      (λ n. operand _ _ h.operands_at
      (λ a. operand _ _ a.1 (λ b. operand _ _ b.1 (λ c. operand _ _ c.1 (λ d. operand _ _ d.1 (λ e. filled-ends p h _ e.1))))))))
  body-ends function_kind ns leaf = called-ends (numbered functions (first ns)) leaf

  -- the same of any record: where no mark may stand, and where one may
  pub expr-ends : (k : Kind) → (count_of k h.numbers ≡ 0 → h.operands_at ≡ h.end) →
      ends (as_expr text expr_at part_at p h k) ≡ cond (fields_fit text k h.numbers)
      (cond (misplaced_of k false) (Err (refusal_at MisplacedMark p)) (operands_of read p (marks_of k) h.end (count_of k h.numbers) h.operands_at)) (Err (refusal_at WrongField p))
  unfolding as_expr count_of fields_fit marks_of
  expr-ends mark leaf = refl
  expr-ends (expr k) leaf = body-ends k h.numbers leaf

  pub part-ends : (k : Kind) → (count_of k h.numbers ≡ 0 → h.operands_at ≡ h.end) →
      ends (as_part text expr_at part_at p h k) ≡ cond (fields_fit text k h.numbers)
      (cond (misplaced_of k true) (Err (refusal_at MisplacedMark p)) (operands_of read p (marks_of k) h.end (count_of k h.numbers) h.operands_at)) (Err (refusal_at WrongField p))
  unfolding as_part count_of fields_fit marks_of operands_of
  part-ends mark leaf = operand _ _ h.operands_at (λ a. filled-ends p h _ a.1)
  part-ends (expr k) leaf =
      bind-ends (body_at text expr_at part_at p h k h.numbers) _ (λ q. Ok q) (λ a. refl) ∙ onward-ends _ ∙ body-ends k h.numbers leaf
