-- `leaves::is_leaf` meets its contract. Assumes nothing.
use Rattle.eval_shapes.proofs.leaves.is_leaf.Goals as goal

pub returns : goal.returns
returns c = rw c.kind_at.ensures
