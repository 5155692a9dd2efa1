-- The steps of the code, which functions' proofs cite (`TakingSteps`; `OneSlice` for the copies). The theorems: what is built stands, and touches
-- no other value (`Built`, `Copied`, `Pasted`), and clearing clears what was used and nothing else (`Zeroed`).
pub mod TakingSteps
pub mod Built
pub mod Copied
pub mod Pasted
pub mod Zeroed
pub mod OneSlice
pub mod CopySteps
pub mod Cleared
