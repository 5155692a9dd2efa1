-- The theorem that the readers show all of a value (`Showing`).
pub mod Showing
