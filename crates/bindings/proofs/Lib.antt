-- The laws that the functions' proofs cite: what is laid down (`LayLaws`), and the ways through laying (`LaySteps`); the ways through admission and
-- bringing in (`BringSteps`), and what is known of a binding that is accepted (`AcceptedLaws`).
pub mod LayLaws
pub mod LaySteps
pub mod BringSteps
pub mod AcceptedLaws
