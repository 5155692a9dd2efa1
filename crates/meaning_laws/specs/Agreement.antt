-- Binding rooms over which a table has the same answer, and bindings that a rule does not name.
use Rattle.std.specs.Prelude.{ℕ, ◌≡◌, List, [], ◌∷◌}
use Rattle.meaning.specs.Limits.{Counts}
use Rattle.meaning.specs.Value.{Value}
use Rattle.meaning.specs.Expr.{Expr}
use Rattle.meaning.specs.Bindings.{BindingRoom}
use Rattle.meaning.specs.Answer.{answer_of}
use Rattle.meaning_laws.specs.Names.{Names}

-- over both rooms the table has one answer, with the same counts and the same evaluation rooms afterwards, for everything that can be lent
abbrev pub SameAnswers : (table text : List ℕ) → BindingRoom → BindingRoom → Type 0
SameAnswers table text room other = (lent : Counts) → answer_of table text room lent ≡ answer_of table text other lent

-- none of these bindings is under a name of the rule
unfoldable pub NoneNamed : Expr → List (ℕ × Value) → Type 0
NoneNamed e [] = Unit {0}
NoneNamed e (b ∷ bs) = (Names e b.0 → ⊥) × NoneNamed e bs
