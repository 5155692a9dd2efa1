-- What the contracts cite beside the machine: the form of a contract with lent memory (`Gives`), the code's enums as the machine's views (`Seen`).
pub mod Gives
pub mod Seen
