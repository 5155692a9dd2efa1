-- `equality::verdict` meets its contract. Assumes nothing.
use Rattle.rooms_comparison.proofs.equality.verdict.Goals as goal

pub returns-then-same : goal.returns-then-same
returns-then-same c = simp c.if-same.true

pub returns-else-same : goal.returns-else-same
returns-else-same c = simp c.if-same.false
