-- What the functions' proofs share: words laid over lent ones, a cell by itself (`OverlaySteps`).
pub mod OverlaySteps
