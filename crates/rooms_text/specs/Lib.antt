-- What the contracts cite: the size of a value, and where an index falls (`Sizes`). What both must answer (`Indexed`).
pub mod Sizes
pub mod Indexed
