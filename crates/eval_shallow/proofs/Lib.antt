-- Laws on shallow records, over plain variables, for the functions' proofs. The proofs of the record evaluator cite `Stops`, `FixedOperands`,
-- `SlotLaws`, `BeginLaws` and `ListLaws` too.

-- the operands of a record: by its form and its kind, and as the machine begins them
pub mod SideLaws
pub mod OperandLaws
-- a result and its rooms as one equation with what the machine does; a record's step and its fixed operands; an operand without a scope
pub mod Stops
pub mod FixedOperands
pub mod SlotLaws
-- records of literals and names, records of those, and any record within reach
pub mod OneLevelLaws
pub mod TwoLevelLaws
pub mod ShallowLaws
-- the cells of a container that begins; the elements of a List record, one at a time; a List record of one element
pub mod BeginLaws
pub mod ListLaws
pub mod SingleListLaws
