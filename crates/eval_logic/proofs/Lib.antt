-- For those who call: what a condition decides is what the machine does (`ConditionLaws`), and which left errors stay (`LeftErrors`). Assume nothing.
pub mod ConditionLaws
pub mod LeftErrors
