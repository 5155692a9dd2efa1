-- Two texts one after the other (`JoinedTexts`), and arithmetic on what is no number (`NoNumber`). Assume nothing.
pub mod JoinedTexts
pub mod NoNumber
