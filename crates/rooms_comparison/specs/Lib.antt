-- What the contracts cite: two values without parts (`Seen`); with their counts of pairs the look-up of a key (`LookUp`), equality and `in`
-- (`Equality`); the order of two values (`Order`). What theorems speak of: which keys match (`Matches`), and what a look-up must come to (`Finds`).
pub mod Seen
pub mod LookUp
pub mod Matches
pub mod Equality
pub mod Finds
pub mod Order
