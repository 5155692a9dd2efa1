-- What the contracts cite: a value's parts (`Value`), a value as two words (`Cells`), the lent memory (`Rooms`, and as the code
-- has it `Memory`); and what a value stands
-- for, as a function (`Reading`) and as the relation that proofs use (`Stands`, `Scope`).
pub mod Spans
pub mod Value
pub mod Cells
pub mod Rooms
pub mod Memory
pub mod Reading
pub mod Stands
pub mod Scope
