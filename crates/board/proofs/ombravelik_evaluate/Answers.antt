-- `ombravelik_evaluate`. Assumes nothing.
use native.Mathlib.Omega.{arith}
use Rattle.board.proofs.EvaluationSteps.{evaluates-so}
use Rattle.board.proofs.ombravelik_evaluate.Goals as goal

pub returns : goal.returns
returns c = evaluates-so (omega arith) c.evaluate_over-said.ensures c.put_answer.ensures
