-- What is read at a place, without the expression: where it ends, or why and where it is refused.
use Rattle.std.specs.Prelude.{ℕ, zero, suc, Bool, true, false, cond, List, eqb, Result, Ok, Err}
use Rattle.meaning.specs.Errors.{refusal_at}
use Rattle.meaning.specs.declared.refusal.Refusal.{Refusal}
use Rattle.meaning.specs.declared.refusal.Reason.TheVariants.{WrongExtent}
use Rattle.meaning.specs.Heads.{Got, got, refused}
use Rattle.meaning.specs.Table.{expr_at, part_at, word_bytes}
use Rattle.table_check.specs.declared.faults.Marks.{Marks}
use Rattle.table_check.specs.Faults.{may_mark}

abbrev pub Read : Type 0
Read = Result ℕ Refusal

abbrev pub ends : {A : Type 0} → Got (A × ℕ) → Read
ends (got a) = Ok a.1
ends (refused r p) = Err (refusal_at r p)

-- the record at p, inside a parent that ends at `end`, with `levels` levels left; the Bool says whether a mark may stand there
unfoldable pub read_of : (table text : List ℕ) → (levels : ℕ) → Bool → ℕ → ℕ → Read
read_of table text levels true p end = ends (part_at word_bytes table text levels p end)
read_of table text levels false p end = ends (expr_at word_bytes table text levels p end)

-- go on from where it ends
abbrev pub onward : Read → (ℕ → Read) → Read
onward (Ok q) k = k q
onward (Err f) k = Err f

-- the operands have to end where their record does
abbrev pub closed : ℕ → ℕ → ℕ → Read
closed p end q = cond (eqb q end) (Ok q) (Err (refusal_at WrongExtent p))

-- `count` operands from `first` on, of the record at p
unfoldable pub operands_of : (Bool → ℕ → ℕ → Read) → (p : ℕ) → Marks → (end count first : ℕ) → Read
operands_of read p marks end zero q = closed p end q
operands_of read p marks end (suc n) q = onward (read (may_mark marks (suc n)) q end) (λ r. operands_of read p marks end n r)
