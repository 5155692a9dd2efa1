-- What an accepted record is made of: where it ends, and its operands one after the other, each accepted. Assumes nothing.
use mathlib.Core.Path.{◌≡◌, refl, sym, ◌∙◌, ap}
use mathlib.Core.Bool.{Bool, true, false, cond}
use mathlib.Core.List.{List}
use Prim.Native.Nat.{ℕ, zero, suc, ◌≤◌}
use native.Mathlib.Omega.{arith}
use lib.Dec.{eqb}
use lib.ListN.{length, get_or}
use borrow.Author.Tests.{eqb-true}
use Rattle.meaning.specs.Errors.{refusal_at}
use Rattle.meaning.specs.declared.refusal.Refusal.{Refusal}
use Rattle.meaning.specs.declared.refusal.Reason.TheVariants.{WrongExtent, WrongField, MisplacedMark}
use Rattle.meaning.specs.Expr.{Expr}
use Rattle.meaning.specs.Heads.{Got, got, refused}
use Rattle.meaning.specs.Table.{Part, expr_at, part_at, word_bytes}
use Rattle.std.specs.Prelude.{Ok, Err}
use Rattle.table_check.specs.declared.faults.Marks.{Marks}
use Rattle.table_layout.specs.Layout.{row_of, after}
use Rattle.table_check.specs.Shapes.{numbers_of}
use Rattle.table_check.specs.Faults.{marks_of, may_mark, misplaced_of}
use Rattle.table_check.specs.Fits.{fields_fit}
use Rattle.table_check.specs.Reading.{Read, ends, read_of, onward, closed, operands_of}
use Rattle.table_check.specs.Records.{expr_in, part_in, expr_of, part_of, Sound, SoundPart, Operand, Row}
use Rattle.table_check.proofs.HeadLaws.{Here, HeadView, good, bad, head-view, head_here, count_here}
use Rattle.table_check.proofs.RecordLaws.{refused-there, no-level, here-step}
use Rattle.table_check.proofs.LevelLaws.{expr-deeper, part-deeper}

-- ---- what ended, ended somewhere

got_of : {A : Type 0} (g : Got (A × ℕ)) {q : ℕ} → ends g ≡ Ok q → (a : A) × (g ≡ got (a, q))
got_of (got a) {q} e = let f : a.1 ≡ q = cc in (a.0, ap (λ n. got (a.0, n)) f)
got_of (refused r p) e = let z : ◌≡◌ {A = ℕ} 0 1 = cc in absurd (omega arith)

onward-ended : (o : Read) (k : ℕ → Read) {q : ℕ} → onward o k ≡ Ok q → (r : ℕ) × (o ≡ Ok r) × (k r ≡ Ok q)
onward-ended (Ok r) k e = (r, refl, e)
onward-ended (Err f) k e = let z : ◌≡◌ {A = ℕ} 0 1 = cc in absurd (omega arith)

no_end : {A : Type 0} {f : Refusal} {q : ℕ} → ◌≡◌ {A = Read} (Err f) (Ok q) → A
no_end e = let z : ◌≡◌ {A = ℕ} 0 1 = cc in absurd (omega arith)

pub cond-ended : (b : Bool) (o : Read) (f : Refusal) {q : ℕ} → cond b o (Err f) ≡ Ok q → (b ≡ true) × (o ≡ Ok q)
cond-ended true o f e = (refl, e)
cond-ended false o f e = no_end e

cond-went : (b : Bool) (o : Read) (f : Refusal) {q : ℕ} → cond b (Err f) o ≡ Ok q → (b ≡ false) × (o ≡ Ok q)
cond-went true o f e = no_end e
cond-went false o f e = (refl, e)

closed-ended : (p end q : ℕ) {r : ℕ} → closed p end q ≡ Ok r → (q ≡ end) × (r ≡ end)
closed-ended p end q {r} e =
    let f = cond-ended (eqb q end) (Ok q) (refusal_at WrongExtent p) e in
    let g = eqb-true q end f.0 in
    let h = f.1 in
    (g, cc)

operands-ended : (read : Bool → ℕ → ℕ → Read) (p : ℕ) (marks : Marks) (end n q : ℕ) {r : ℕ} → operands_of read p marks end n q ≡ Ok r → r ≡ end
unfolding operands_of
operands-ended read p marks end zero q e = (closed-ended p end q e).1
operands-ended read p marks end (suc n) q e =
    let f = onward-ended (read (may_mark marks (suc n)) q end) _ e in
    operands-ended read p marks end n f.0 f.2

-- ---- a record that ended

module _ (t x : List ℕ) where
  -- the record is there, and its end is what its extent says
  ended_by : (p end left : ℕ) (marked : Bool) → HeadView t p end → {q : ℕ} → read_of t x left marked p end ≡ Ok q → Here t p end × (q ≡ after t p)
  ended_by p end zero marked (good h) e = no_end (no-level t x p end marked h ∙ e)
  ended_by p end (suc left) marked (good h) e =
      let f = sym (here-step t x p end left marked h) ∙ e in
      let g = cond-ended (fields_fit x (row_of (get_or t p 0)).kind (numbers_of t p (get_or t p 0))) _ (refusal_at WrongField p) f in
      let i = cond-went (misplaced_of (row_of (get_or t p 0)).kind marked) _ (refusal_at MisplacedMark p) g.1 in (
        h,
        operands-ended (λ m q e. read_of t x left m q e) p (marks_of (row_of (get_or t p 0)).kind) (after t p) (count_here t p) (head_here t p).operands_at
            i.1,
      )
  ended_by p end left marked (bad r f) e = no_end (refused-there t x p end r f left marked ∙ e)

  pub ended : (p end left : ℕ) (marked : Bool) {q : ℕ} → read_of t x left marked p end ≡ Ok q → Here t p end × (q ≡ after t p)
  ended p end left marked e = ended_by p end left marked (head-view t p end) e

  -- ---- operands, as their record reads them

  abbrev pub Low : ℕ → Bool → ℕ → Type 0
  Low end true q = part_at word_bytes t x 63 q end ≡ got (part_of t x q, after t q)
  Low end false q = expr_at word_bytes t x 63 q end ≡ got (expr_of t x q, after t q)

  abbrev pub LowRow : Marks → (end count place : ℕ) → Type 0
  LowRow marks end zero q = q ≡ end
  LowRow marks end (suc n) q = Low end (may_mark marks (suc n)) q × LowRow marks end n (after t q)

  pub expr-is : (q : ℕ) {e : Expr} {r : ℕ} → expr_at word_bytes t x 64 q (length t) ≡ got (e, r) → expr_of t x q ≡ e
  unfolding expr_of expr_in
  expr-is q f = rw f

  part-is : (q : ℕ) {e : Part} {r : ℕ} → part_at word_bytes t x 64 q (length t) ≡ got (e, r) → part_of t x q ≡ e
  unfolding part_of part_in
  part-is q f = rw f

  low : (end : ℕ) (marked : Bool) (q : ℕ) {r : ℕ} → end ≤ length t → read_of t x 63 marked q end ≡ Ok r → Low end marked q × (r ≡ after t q)
  unfolding read_of
  low end true q {r} le e =
      let f = got_of (part_at word_bytes t x 63 q end) e in
      let g = part-is q (part-deeper t x 63 q end (length t) le (f.0, r) f.1) in
      let h = (ended q end 63 true e).1 in
      (f.1 ∙ (cc), h)
  low end false q {r} le e =
      let f = got_of (expr_at word_bytes t x 63 q end) e in
      let g = expr-is q (expr-deeper t x 63 q end (length t) le (f.0, r) f.1) in
      let h = (ended q end 63 false e).1 in
      (f.1 ∙ (cc), h)

  pub low-row : (p : ℕ) (marks : Marks) (end n q : ℕ) {r : ℕ} → end ≤ length t → operands_of (λ m q e. read_of t x 63 m q e) p marks end n q ≡ Ok r →
      LowRow marks end n q
  unfolding operands_of
  low-row p marks end zero q le e = (closed-ended p end q e).0
  low-row p marks end (suc n) q le e =
      let f = onward-ended (read_of t x 63 (may_mark marks (suc n)) q end) _ e in
      let g = low end (may_mark marks (suc n)) q le f.1 in
      (g.0, low-row p marks end n (after t q) le (rw g.1 at f.2))

  up : (end : ℕ) (marked : Bool) (q : ℕ) → end ≤ length t → Low end marked q → Operand t x marked q
  unfolding Sound SoundPart
  up end true q le e = part-deeper t x 63 q end (length t) le (part_of t x q, after t q) e
  up end false q le e = expr-deeper t x 63 q end (length t) le (expr_of t x q, after t q) e

  pub up-row : (marks : Marks) (end n q : ℕ) → end ≤ length t → LowRow marks end n q → Row t x marks end n q
  up-row marks end zero q le e = e
  up-row marks end (suc n) q le e = (up end (may_mark marks (suc n)) q le e.0, up-row marks end n (after t q) le e.1)

  -- ---- bounds

  pub sound-here : (p : ℕ) → Sound t x p → Here t p (length t)
  unfolding Sound read_of
  sound-here p s = (ended p (length t) 64 false (ap ends s)).0

  pub part-here : (p : ℕ) → SoundPart t x p → Here t p (length t)
  unfolding SoundPart read_of
  part-here p s = (ended p (length t) 64 true (ap ends s)).0
