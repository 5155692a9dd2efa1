-- What the contracts cite: how text goes into lent memory (`Page`); numbers and text as ASCII (`Spelled`); what a function does to the memory of
-- a writer (`Writes`).
pub mod Page
pub mod Spelled
pub mod Writes
