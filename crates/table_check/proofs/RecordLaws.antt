-- A record and its operands: a law for each way through them. Assumes nothing.
use mathlib.Core.Path.{◌≡◌, refl, sym, ◌∙◌}
use mathlib.Core.Bool.{Bool, true, false, cond}
use mathlib.Core.List.{List}
use Prim.Native.Nat.{ℕ, zero, suc, ◌-◌, ◌<◌}
use native.Mathlib.Numerals.{sub-one}
use native.Mathlib.Omega.{arith}
use lib.ListN.{get_or}
use borrow.Author.Tests.{eq-eqb, ne_eqb}
use Rattle.meaning.specs.Errors.{refusal_at}
use Rattle.meaning.specs.declared.refusal.Refusal.{Refusal}
use Rattle.meaning.specs.declared.refusal.Reason.{Reason}
use Rattle.meaning.specs.declared.refusal.Reason.TheVariants.{RecordNesting, WrongExtent, WrongField, MisplacedMark}
use Rattle.meaning.specs.Heads.{refused, ◌>>=◌, ◌>>◌, head_at}
use Rattle.meaning.specs.Table.{expr_at, part_at, word_bytes}
use Rattle.std.specs.Prelude.{Result, Ok, Err}
use Rattle.table_check.specs.declared.faults.Marks.{Marks}
use Rattle.table_layout.specs.Kinds.{byte_of}
use Rattle.table_check.specs.declared.heads.Head.{Head}
use Rattle.table_layout.specs.Layout.{row_of}
use Rattle.table_check.specs.Shapes.{numbers_of, head_of}
use Rattle.table_check.specs.Faults.{marks_of, may_mark, misplaced_of, fault_of}
use Rattle.table_check.specs.Fits.{fields_fit}
use Rattle.table_check.specs.Reading.{Read, read_of, operands_of}
use Rattle.table_check.proofs.HeadLaws.{Here, head_here, count_here, found, not_found}
use Rattle.table_check.proofs.OperandLaws.{expr-ends, part-ends}

-- ---- operands

abbrev Fault : Type 0
Fault = Result (Unit {0}) Refusal

module _ (read : Bool → ℕ → ℕ → Read) (p : ℕ) (marks : Marks) (end : ℕ) where
  pub operands-stop : (left q : ℕ) {f : Refusal} → 0 < left → read (may_mark marks left) q end ≡ Err f → Err f ≡ operands_of read p marks end left q
  unfolding operands_of
  operands-stop zero q h e = absurd (omega arith)
  operands-stop (suc left) q h e = rw e

  pub operands-again : (left rest q : ℕ) {r : ℕ} → left ≡ suc rest → read (may_mark marks left) q end ≡ Ok r →
      operands_of read p marks end rest r ≡ operands_of read p marks end left q
  unfolding operands_of
  operands-again zero rest q h e = absurd (omega arith)
  operands-again (suc left) rest q {r} h e = let f : rest ≡ left = omega arith in rw (e, f)

  pub operands-met : (q : ℕ) → q ≡ end → Ok q ≡ operands_of read p marks end 0 q
  unfolding operands_of
  operands-met q e = rw (eq-eqb q end e)

  pub operands-unmet : (q : ℕ) → (q ≡ end → ⊥) → Err (refusal_at WrongExtent p) ≡ operands_of read p marks end 0 q
  unfolding operands_of
  operands-unmet q e = rw (ne_eqb q end e)

refused-for : (fits wrong : Bool) (a b : Refusal) (o : Read) {f : Refusal} → ◌≡◌ {A = Fault} (Err f) (cond fits (cond wrong (Err a) (Ok tt)) (Err b)) →
    ◌≡◌ {A = Read} (Err f) (cond fits (cond wrong (Err a) o) (Err b))
refused-for true true a b o {f} e = let g : f ≡ a = cc in rw g
refused-for true false a b o e = let z : ◌≡◌ {A = ℕ} 0 1 = cc in absurd (omega arith)
refused-for false wrong a b o {f} e = let g : f ≡ b = cc in rw g

not-refused : (fits wrong : Bool) (a b : Refusal) (o : Read) → ◌≡◌ {A = Fault} (cond fits (cond wrong (Err a) (Ok tt)) (Err b)) (Ok tt) →
    o ≡ cond fits (cond wrong (Err a) o) (Err b)
not-refused true true a b o e = let z : ◌≡◌ {A = ℕ} 0 1 = cc in absurd (omega arith)
not-refused true false a b o e = refl
not-refused false wrong a b o e = let z : ◌≡◌ {A = ℕ} 0 1 = cc in absurd (omega arith)

-- ---- a record

module _ (t x : List ℕ) (p end : ℕ) where
  pub refused-there : (r : Reason) → head_at word_bytes t p end ≡ refused r p → (levels : ℕ) (marked : Bool) →
      Err (refusal_at r p) ≡ read_of t x levels marked p end
  unfolding read_of expr_at part_at ◌>>=◌ ◌>>◌
  refused-there r e zero true = rw e
  refused-there r e zero false = rw e
  refused-there r e (suc levels) true = rw e
  refused-there r e (suc levels) false = rw e

  pub refused-head : {f : Refusal} (levels : ℕ) (marked : Bool) → Err f ≡ head_of t p end → Err f ≡ read_of t x levels marked p end
  refused-head levels marked w = let f = not_found t p end w in rw f.1 (refused-there f.0 f.2 levels marked)

  pub no-level : (marked : Bool) → Here t p end → Err (refusal_at RecordNesting p) ≡ read_of t x 0 marked p end
  unfolding read_of expr_at part_at ◌>>=◌ ◌>>◌
  no-level true h = rw h.is
  no-level false h = rw h.is

  abbrev pub step_of : ℕ → Bool → (k n a b : ℕ) → Read
  step_of left marked k n a b =
      cond (fields_fit x (row_of k).kind (numbers_of t p k))
      (cond (misplaced_of (row_of k).kind marked) (Err (refusal_at MisplacedMark p)) (operands_of (λ m q e. read_of t x left m q e) p (marks_of (row_of k).kind) b n a))
      (Err (refusal_at WrongField p))

  pub here-step : (left : ℕ) (marked : Bool) (h : Here t p end) → read_of t x (suc left) marked p end ≡ step_of left marked (get_or t p 0) (count_here t p)
      (head_here t p).operands_at (head_here t p).end
  unfolding read_of expr_at part_at ◌>>=◌
  here-step left true h =
      rw h.is
      (part-ends x (λ q e. expr_at word_bytes t x left q e) (λ q e. part_at word_bytes t x left q e) (λ m q e. read_of t x left m q e) (λ q r. refl) (λ q r. refl)
      p (head_here t p) (row_of (get_or t p 0)).kind h.leaf)
  here-step left false h =
      rw h.is
      (expr-ends x (λ q e. expr_at word_bytes t x left q e) (λ q e. part_at word_bytes t x left q e) (λ m q e. read_of t x left m q e) (λ q r. refl) (λ q r. refl)
      p (head_here t p) (row_of (get_or t p 0)).kind h.leaf)

  module _ {h : Head} (w : Ok h ≡ head_of t p end) (marked : Bool) where
    abbrev fault_there : ℕ → Fault
    fault_there levels = fault_of x p (row_of (byte_of h.kind)).kind (numbers_of t p (byte_of h.kind)) levels marked

    step : (left : ℕ) → read_of t x (suc left) marked p end ≡ step_of left marked (byte_of h.kind) h.count h.first h.after
    step left = let o = found t p end w in rw (o.byte, o.count, o.first, o.after) (here-step left marked o.here)

    -- a record with a fault is refused for it
    pub faulty : (levels : ℕ) {f : Refusal} → Err f ≡ fault_there levels → Err f ≡ read_of t x levels marked p end
    faulty zero {f} e = let g : f ≡ refusal_at RecordNesting p = cc in rw g (no-level marked (found t p end w).here)
    faulty (suc left) e =
        refused-for (fields_fit x (row_of (byte_of h.kind)).kind (numbers_of t p (byte_of h.kind))) (misplaced_of (row_of (byte_of h.kind)).kind marked)
        (refusal_at MisplacedMark p) (refusal_at WrongField p) _ e ∙ sym (step left)

    -- of one without, there is a level left for its operands, which are read
    pub level-left : (levels : ℕ) → Ok tt ≡ fault_there levels → levels ≡ 0 → ⊥
    level-left zero e f = let z : ◌≡◌ {A = ℕ} 0 1 = cc in omega arith
    level-left (suc left) e f = omega arith

    pub goes_on : (levels : ℕ) → Ok tt ≡ fault_there levels →
        operands_of (λ m q e. read_of t x (levels - 1) m q e) p (marks_of (row_of (byte_of h.kind)).kind) h.after h.count h.first ≡ read_of t x levels marked p end
    goes_on zero e = let z : ◌≡◌ {A = ℕ} 0 1 = cc in absurd (omega arith)
    goes_on (suc left) e =
        rw (sub-one, step left)
        (not-refused (fields_fit x (row_of (byte_of h.kind)).kind (numbers_of t p (byte_of h.kind))) (misplaced_of (row_of (byte_of h.kind)).kind marked)
        (refusal_at MisplacedMark p) (refusal_at WrongField p) _ (sym e))

    -- without operands it ends where its head does
    pub leaf-ends : (levels : ℕ) → Ok tt ≡ fault_there levels → h.count ≡ 0 → Ok h.after ≡ read_of t x levels marked p end
    unfolding operands_of
    leaf-ends levels e z =
        let o = found t p end w in
        let f : h.first ≡ h.after = o.first ∙ o.here.leaf (sym o.count ∙ z) ∙ sym o.after in
        let g : operands_of (λ m q e. read_of t x (levels - 1) m q e) p (marks_of (row_of (byte_of h.kind)).kind) h.after 0 h.first ≡ Ok h.after =
        rw (f, eq-eqb h.after h.after refl) in
        sym g ∙ (rw z at (goes_on levels e))
