-- What the proof of the cycle rests on: a law for each way through a member, over plain variables.
pub mod SlotReads
pub mod OperandLaws
pub mod Lists
pub mod Maps
pub mod Turns
pub mod Appends
pub mod Evals
pub mod Comprehends
