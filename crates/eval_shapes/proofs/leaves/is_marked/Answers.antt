-- `leaves::is_marked` meets its contract. Assumes nothing.
use Rattle.eval_shapes.proofs.leaves.is_marked.Goals as goal

pub returns : goal.returns
returns c = rw c.kind_at.ensures
