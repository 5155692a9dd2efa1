-- An index that falls on an element. Assumes nothing.
pub mod Places
