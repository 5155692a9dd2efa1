-- `copying::byte_at` meets its contract. Assumes nothing.
use Rattle.rooms_taking.proofs.copying.byte_at.Goals as goal

pub returns-in-Literal : goal.returns-in-Literal
returns-in-Literal c = simp (c.in-Literal.is, ← c.byte_in.ensures)

pub returns-in-Binding : goal.returns-in-Binding
returns-in-Binding c = simp (c.in-Binding.is, ← c.byte_in-in-Binding.ensures)

pub returns-in-Evaluation : goal.returns-in-Evaluation
returns-in-Evaluation c = simp (c.in-Evaluation.is, ← c.byte_in-in-Evaluation.ensures)
