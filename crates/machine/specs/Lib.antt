-- The evaluator on rooms: lists of words, exact to the bit, in the order of the modules of the definition.
pub mod Outcomes
pub mod Views
pub mod Literals
pub mod Numbers
pub mod Comparison
pub mod Selection
pub mod Logic
pub mod Calls
pub mod Containers
pub mod Comprehension
pub mod Machine
pub mod Refines
pub mod Accepted
pub mod Answer
