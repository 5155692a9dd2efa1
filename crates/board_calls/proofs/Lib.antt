-- What is put into a state of the right length (`IntakeSteps`), for the proof of `intake::empty`.
pub mod IntakeSteps
