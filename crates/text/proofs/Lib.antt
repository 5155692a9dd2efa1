-- The laws of texts. For callers: `BytesLaws` and `Utf8Laws`. `Table` is what the table's shape gives, and `SequenceLaws` has one sequence of it,
-- with a law for each answer of the code. `BytesSteps` and `Utf8Steps` are what the loops' proofs cite.
pub mod BytesLaws
pub mod Table
pub mod Utf8Laws
pub mod SequenceLaws
pub mod Utf8Steps
