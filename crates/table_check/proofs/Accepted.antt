-- An accepted table: what its reader gives is the expression at its start, whose record is accepted and is all of the table. Assumes nothing.
use mathlib.Core.Path.{◌≡◌, refl, sym, ◌∙◌, ap}
use mathlib.Core.Bool.{Bool, true, false, ◌&&◌}
use mathlib.Core.List.{List}
use Prim.Native.Nat.{ℕ}
use native.Mathlib.Omega.{arith}
use lib.Dec.{eqb, leb}
use lib.ListN.{length}
use borrow.Author.Tests.{eq-eqb, eqb-true}
use Rattle.meaning.specs.declared.refusal.Reason.{Reason}
use Rattle.meaning.specs.declared.refusal.Reason.TheVariants.{TableLength, BytesAfterRoot}
use Rattle.meaning.specs.Expr.{Expr}
use Rattle.meaning.specs.Heads.{Got, got, refused, ◌>>=◌, ◌>>◌, demand, start}
use Rattle.meaning.specs.Table.{expr_at, root_at, read_table, word_bytes}
use Rattle.std.specs.Prelude.{Ok}
use Rattle.table_check.specs.Reading.{ends, read_of}
use Rattle.table_layout.specs.Layout.{after}
use Rattle.table_check.specs.Records.{expr_of, Sound}
use Rattle.table_check.specs.Opened.{AcceptedTable}
use Rattle.table_check.specs.Check.{verdict, check_of}
use Rattle.table_check.proofs.AcceptedRecordLaws.{expr-is, ended}

met : (b : Bool) (r : Reason) (p : ℕ) (g : Got Expr) → verdict (◌>>◌ (demand b r p) g) ≡ Ok tt → (b ≡ true) × (verdict g ≡ Ok tt)
unfolding ◌>>◌ ◌>>=◌ demand
met true r p g e = (refl, e)
met false r p g e = let z : ◌≡◌ {A = ℕ} 0 1 = cc in absurd (omega arith)

root-got : (end : ℕ) (g : Got (Expr × ℕ)) → verdict (◌>>=◌ g (λ a. ◌>>◌ (demand (eqb a.1 end) BytesAfterRoot a.1) (got a.0))) ≡ Ok tt →
    (e : Expr) × (g ≡ got (e, end))
unfolding ◌>>=◌
root-got end (got a) e = let f = eqb-true a.1 end (met (eqb a.1 end) BytesAfterRoot a.1 (got a.0) e).0 in (a.0, ap (λ n. got (a.0, n)) f)
root-got end (refused r p) e = let z : ◌≡◌ {A = ℕ} 0 1 = cc in absurd (omega arith)

met-got : (b : Bool) (r : Reason) (p : ℕ) {g h : Got Expr} → b ≡ true → g ≡ h → ◌>>◌ (demand b r p) g ≡ h
unfolding ◌>>◌ ◌>>=◌ demand
met-got b r p e f = rw (e, f)

root-gives : (end : ℕ) {g : Got (Expr × ℕ)} {e : Expr} → g ≡ got (e, end) →
    ◌>>=◌ g (λ a. ◌>>◌ (demand (eqb a.1 end) BytesAfterRoot a.1) (got a.0)) ≡ got e
unfolding ◌>>◌ ◌>>=◌ demand
root-gives end f = rw (f, eq-eqb end end refl)

module _ (t x : List ℕ) (a : check_of t x ≡ Ok tt) where
  long : Bool
  long = leb 1 (length t) && leb (length t) 16384

  lengths : (long ≡ true) × (verdict (root_at word_bytes t x start) ≡ Ok tt)
  unfolding check_of read_table long
  lengths = met long TableLength start (root_at word_bytes t x start) a

  root-read : (e : Expr) × (expr_at word_bytes t x 64 0 (length t) ≡ got (e, length t))
  unfolding root_at
  root-read = root-got (length t) (expr_at word_bytes t x 64 0 (length t)) lengths.1

  root_ends : length t ≡ after t 0
  unfolding read_of
  root_ends = (ended t x 0 (length t) 64 false (ap ends root-read.1)).1

  same : expr_of t x 0 ≡ root-read.0
  same = expr-is t x 0 root-read.1

  gives : read_table t x ≡ got (expr_of t x 0)
  unfolding read_table root_at long
  gives = met-got long TableLength start lengths.0 (root-gives (length t) root-read.1 ∙ ap (λ e. got e) (sym same))

  pub accepted : AcceptedTable t x
  unfolding Sound
  accepted = record {
    root = rw same (root-read.1 ∙ ap (λ n. got (root-read.0, n)) root_ends);
    whole = sym root_ends;
    is = gives;
  }
