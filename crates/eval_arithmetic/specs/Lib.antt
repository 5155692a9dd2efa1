-- What the contracts cite beside the machine: two texts one after the other (`TextSums`), `+` of what has parts (`ListSums`), and `+` of what is no
-- number (`Sums`).
pub mod TextSums
pub mod ListSums
pub mod Sums
