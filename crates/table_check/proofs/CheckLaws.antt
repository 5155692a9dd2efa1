-- A whole table: a law for each way through its check. Assumes nothing.
use mathlib.Core.Path.{◌≡◌, refl, sym}
use mathlib.Core.Bool.{Bool, true, false, cond}
use mathlib.Core.List.{List}
use Prim.Native.Nat.{ℕ, ◌<◌, ◌≤◌}
use native.Mathlib.Omega.{arith}
use lib.Dec.{eqb}
use lib.ListN.{length}
use borrow.Author.Tests.{eq-eqb, ne_eqb, le-leb, lt-leb}
use Rattle.meaning.specs.declared.refusal.Reason.TheVariants.{TableLength, BytesAfterRoot}
use Rattle.meaning.specs.Expr.{Expr}
use Rattle.meaning.specs.Heads.{Got, got, refused, ◌>>=◌, ◌>>◌, demand}
use Rattle.meaning.specs.Table.{expr_at, root_at, read_table, word_bytes}
use Rattle.std.specs.Prelude.{Result, Ok, Err}
use Rattle.meaning.specs.declared.refusal.Refusal.{Refusal}
use Rattle.meaning.specs.Errors.{refusal_at}
use Rattle.table_check.specs.Reading.{Read, ends, read_of}
use Rattle.table_check.specs.Check.{verdict, check_of}

-- the root, and nothing behind it
abbrev Checked : Type 0
Checked = Result (Unit {0}) Refusal

abbrev root_of : ℕ → Read → Checked
root_of end (Ok q) = cond (eqb q end) (Ok tt) (Err (refusal_at BytesAfterRoot q))
root_of end (Err f) = Err f

ended : (b : Bool) (e : Expr) (q : ℕ) → verdict (◌>>◌ (demand b BytesAfterRoot q) (got e)) ≡ cond b (Ok tt) (Err (refusal_at BytesAfterRoot q))
unfolding ◌>>◌ ◌>>=◌ demand
ended true e q = refl
ended false e q = refl

root_ends : (end : ℕ) (g : Got (Expr × ℕ)) → verdict (◌>>=◌ g (λ a. ◌>>◌ (demand (eqb a.1 end) BytesAfterRoot a.1) (got a.0))) ≡ root_of end (ends g)
unfolding ◌>>=◌
root_ends end (got a) = ended (eqb a.1 end) a.0 a.1
root_ends end (refused r p) = refl

module _ (t x : List ℕ) where
  pub too_short : length t ≡ 0 → Err (refusal_at TableLength 0) ≡ check_of t x
  unfolding check_of read_table ◌>>◌ ◌>>=◌ demand
  too_short e = rw (lt-leb 1 (length t) (omega arith))

  pub too_long : 16384 < length t → Err (refusal_at TableLength 0) ≡ check_of t x
  unfolding check_of read_table ◌>>◌ ◌>>=◌ demand
  too_long h = rw (le-leb 1 (length t) (omega arith), lt-leb (length t) 16384 h)

  module _ (some : length t ≡ 0 → ⊥) (few : length t ≤ 16384) {root : Read} (is : root ≡ read_of t x 64 false 0 (length t)) where
    by-root : root_of (length t) root ≡ check_of t x
    unfolding check_of read_table root_at read_of ◌>>◌ ◌>>=◌ demand
    by-root = rw (is, le-leb 1 (length t) (omega arith), le-leb (length t) 16384 few) (sym (root_ends (length t) (expr_at word_bytes t x 64 0 (length t))))

    pub root-refused : {f : Refusal} → root ≡ Err f → Err f ≡ check_of t x
    root-refused e = rw e at by-root

    pub root-whole : {q : ℕ} → root ≡ Ok q → q ≡ length t → Ok tt ≡ check_of t x
    root-whole {q} e h = rw (e, eq-eqb q (length t) h) at by-root

    pub root-cut : {q : ℕ} → root ≡ Ok q → (q ≡ length t → ⊥) → Err (refusal_at BytesAfterRoot q) ≡ check_of t x
    root-cut {q} e h = rw (e, ne_eqb q (length t) h) at by-root
