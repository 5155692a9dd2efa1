-- What the contracts cite: the order of texts (`Bytes`); UTF-8 (`Utf8`), one sequence of its table (`Sequence`), and what the code's steps through
-- a text stand for (`Passing`).
pub mod Bytes
pub mod Utf8
pub mod Sequence
pub mod Passing
