-- What the proof of an evaluation uses.
pub mod EvaluationSteps
