-- Worked examples, which the definition computes.
pub mod Sample
pub mod Compute
pub mod Examples
pub mod Refusals
pub mod Corners
pub mod Operators
pub mod Selections
pub mod Loops
pub mod Brought
