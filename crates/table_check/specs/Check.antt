-- What is said of a whole table: what the definition's reader says, without the expression.
use Rattle.std.specs.Prelude.{ℕ, List, Result, Ok, Err}
use Rattle.meaning.specs.Errors.{refusal_at}
use Rattle.meaning.specs.declared.refusal.Refusal.{Refusal}
use Rattle.meaning.specs.Expr.{Expr}
use Rattle.meaning.specs.Heads.{Got, got, refused}
use Rattle.meaning.specs.Table.{read_table}

abbrev pub verdict : Got Expr → Result (Unit {0}) Refusal
verdict (got e) = Ok tt
verdict (refused r p) = Err (refusal_at r p)

unfoldable pub check_of : (table text : List ℕ) → Result (Unit {0}) Refusal
check_of table text = verdict (read_table table text)
