-- What the contracts cite beside the machine: a comprehension's decisions (`Steps`); on the append path a turn's elements (`AppendTurn`), and what
-- is collected (`AppendResult`).
pub mod Steps
pub mod AppendTurn
pub mod AppendResult
