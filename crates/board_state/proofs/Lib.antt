-- What the functions' proofs use: slots read and written (`SlotSteps`), and bringing in over a state (`BringingSteps`). The theorems: a state gives
-- back the bindings put into it (`RoundTrip`), and no room is sound with words that are no state (`NoState`).
pub mod SlotSteps
pub mod RoundTrip
pub mod NoState
pub mod BringingSteps
