-- The laws that functions' proofs cite, in each group from the leaves up.

-- the literals of a table
pub mod Heads
pub mod Rows
pub mod LiteralLaws
pub mod PartLaws
-- the keys of a Map
pub mod KeySteps
pub mod KeyLaws
-- what a table comes to; and that what is found of keys is what the definition's spelling finds (`SpelledLaws`)
pub mod JudgeLaws
pub mod JudgingSteps
pub mod JudgeSteps
pub mod SpelledLaws
