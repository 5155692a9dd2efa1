-- A step of the code: the size of a Double cut to a whole number.
pub mod Size
