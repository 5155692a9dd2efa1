-- What the contracts cite: what a binding leaves of the program's memory (`Leaves`).
pub mod Leaves
