-- `field_value` meets its contract. Assumes nothing.
use Prim.Native.Nat.{◌+◌}
use native.Mathlib.Omega.{arith}
use Rattle.eval_shapes.proofs.LeafLaws.{word_fits}
use Rattle.eval_operands.proofs.field_value.Goals as goal

pub overflow_cast-result : goal.overflow_cast-result
overflow_cast-result c = record { fits = word_fits c.args.table.now (λ i. omega (arith, c.shared_slice_known-1.given i)) (c.args.at + 4) c.field_at-span.ensures.0 }

pub overflow_cast-result-2 : goal.overflow_cast-result-2
overflow_cast-result-2 c = record { fits = word_fits c.args.table.now (λ i. omega (arith, c.shared_slice_known-1.given i)) (c.args.at + 6) c.field_at-span.ensures.1 }

pub returns : goal.returns
returns c = rw (c.field_at-span.ensures.0, c.field_at-span.ensures.1)
