-- What an accepted table, a record in it and a mark are, opened: where their parts lie, and which expression they are.
use Rattle.std.specs.Prelude.{ℕ, ◌+◌, ◌≤◌, ◌≡◌, true, List, length, get_or}
use Rattle.meaning.specs.Kinds.{ExprKind}
use Rattle.meaning.specs.Heads.{got}
use Rattle.meaning.specs.Table.{marked, read_table}
use Rattle.table_layout.specs.Layout.{head_bytes, after, fields_at}
use Rattle.table_check.specs.Shapes.{expr_count}
use Rattle.table_check.specs.Faults.{expr_marks}
use Rattle.table_check.specs.Fits.{expr_fits}
use Rattle.table_check.specs.Records.{expr_of, part_of, Sound, Row, head_of_kind, numbers_in, node}

-- the record at 0 is accepted and is all of the table, which reads as its expression
pub record AcceptedTable (t x : List ℕ) : Type 0 where
  pub root : Sound t x 0
  pub whole : after t 0 ≡ length t
  pub is : read_table t x ≡ got (expr_of t x 0)

-- the record at p, of a kind
pub record Opened (t x : List ℕ) (p : ℕ) (k : ExprKind) : Type 0 where
  -- its fields and its extent lie in the table
  pub body : p + head_of_kind k ≤ length t
  pub room : after t p ≤ length t
  pub least : p + head_of_kind k ≤ after t p
  -- its operands, or what follows it, begin where `first_operand` says
  pub first : p + head_bytes (get_or t p 0) ≡ p + head_of_kind k
  -- its fields are right
  pub fits : expr_fits x k (numbers_in t x p k) ≡ true
  -- its operands are accepted, and end where it does
  pub row : Row t x (expr_marks k) (after t p) (expr_count k (numbers_in t x p k)) (p + head_of_kind k)
  pub is : expr_of t x p ≡ node t x p k

-- the mark at p, about an accepted record that ends where it does
pub record Marked (t x : List ℕ) (p : ℕ) : Type 0 where
  pub body : p + fields_at ≤ length t
  pub room : after t p ≤ length t
  pub first : p + head_bytes (get_or t p 0) ≡ p + fields_at
  pub operand : Sound t x (p + fields_at)
  pub ends : after t (p + fields_at) ≡ after t p
  pub is : part_of t x p ≡ marked p (expr_of t x (p + fields_at))
