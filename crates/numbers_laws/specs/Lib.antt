-- What the theorems speak of: the size of a point (`Sizes`), and arithmetic on Doubles over whole numbers (`Rounding`).
pub mod Sizes
pub mod Rounding
