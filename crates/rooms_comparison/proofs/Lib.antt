-- Laws on values that stand for values of the definition. SeenMeaning: what the code sees of them is what the definition sees. KeyMatches: when a
-- key is found. EqualMeaning, OrderMeaning: equality and order are the definition's. The others are steps to those and to the contracts.

-- values without parts, and the look-up of a key
pub mod AskedFirst
pub mod Classes
pub mod KeyMatches
pub mod LookUpSteps
pub mod ScalarLaws
pub mod SeenMeaning
-- equality: what a count comes to under a limit, and what equality means
pub mod Charges
pub mod EqualMeaning
-- the ways through the functions: equality, then `in` a list
pub mod EqualitySteps
pub mod PairSteps
pub mod AmongSteps
pub mod PlainSteps
-- order
pub mod OrderMeaning
