-- `append_result::add_run` meets its contract. Assumes nothing.
use borrow.Author.Tests.{ne_eqb}
use Rattle.eval_comprehension.proofs.append_result.add_run.Goals as goal

pub returns : goal.returns
returns c = simp (c.store_number.ensures, c.store_number-2.ensures, c.max-nesting.ensures, ne_eqb _ _ c.if-run-eq0.false)
