-- The laws that functions' proofs cite: text put into memory (`Putting`), numbers (`Numerals`), quoted text (`QuotedText`). And what the memory
-- holds then (`Split`).
pub mod Putting
pub mod Split
pub mod Numerals
pub mod QuotedText
