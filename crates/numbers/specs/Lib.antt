-- What contracts cite: arithmetic and the numbers of its errors, the bits of a Double, and the order of numbers.
pub mod Double
pub mod Error
pub mod Int
pub mod Order
pub mod Uint
