-- The laws that functions' proofs cite: places (`Places`), numbers (`Numerals`), bytes (`Pairs`), one piece (`Parts`), pieces (`Pieces`) and
-- words (`Words`); a line and what is read off it (`ReadingSteps`).
pub mod Places
pub mod Numerals
pub mod Pairs
pub mod Parts
pub mod Pieces
pub mod Words
pub mod ReadingSteps
