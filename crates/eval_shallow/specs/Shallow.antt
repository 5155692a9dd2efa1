-- The slots of a record within reach: a literal or a name, or one that is near.
use Rattle.std.specs.Prelude.{ℕ, cond, Option, None, Some}
use Rattle.meaning.specs.Expr.{Expr}
use Rattle.eval_shapes.specs.Leaves.{slot_in}
use Rattle.eval_shallow.specs.declared.slots.Pair.{Pair}
use Rattle.eval_shallow.specs.Slots.{is_leaf, pair, near_of}

abbrev pub reach_of : Expr → Option (Pair (Pair ℕ))
reach_of e = cond (is_leaf e) (Some (record { first = pair (slot_in e) 0; second = pair 0 0 })) (near_of e)
