-- A Bool beside true and beside false. Assumes nothing.
pub mod Bools
