-- Operators on two values (`TwoValueLaws`), and what the machine joins where the operand that is begun last has no value (`BothOperandLaws`).
-- Assume nothing.
pub mod TwoValueLaws
pub mod BothOperandLaws
