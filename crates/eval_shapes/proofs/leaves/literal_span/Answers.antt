-- `leaves::literal_span` meets its contract. Assumes nothing.
use Prim.Native.Nat.{◌+◌}
use native.Mathlib.Omega.{arith}
use Rattle.eval_shapes.proofs.LeafLaws.{word_fits}
use Rattle.eval_shapes.proofs.leaves.literal_span.Goals as goal

pub overflow_cast-result : goal.overflow_cast-result
overflow_cast-result c = record { fits = word_fits c.args.table.now (λ i. omega (arith, c.shared_slice_known-1.given i)) (c.args.at + 3) c.span_at-span.ensures.0 }

pub overflow_cast-result-2 : goal.overflow_cast-result-2
overflow_cast-result-2 c = record { fits = word_fits c.args.table.now (λ i. omega (arith, c.shared_slice_known-1.given i)) (c.args.at + 5) c.span_at-span.ensures.1 }
