-- Laws for those who call: a comprehension's decisions are the machine's (`StepLaws`), and so is what a turn gathers (`AppendTurnLaws`). For the
-- functions' proofs: runs of cells copied one after the other (`AppendResultLaws`). Assume nothing.
pub mod StepLaws
pub mod AppendTurnLaws
pub mod AppendResultLaws
