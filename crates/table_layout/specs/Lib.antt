-- What the contracts cite: words, heads and long numbers, in terms of the definition's fields and kinds (`Layout`); the code's kinds (`Kinds`).
pub mod Layout
pub mod Kinds
