-- Laws on the check of a table, which the functions' proofs rest on, and on accepted tables, for the crates above.

-- the check: kinds (`KindLaws`), a law for each way through a head (`HeadLaws`), fields (`FieldLaws`, its end for callers too: what right fields
-- say), the definition's reader without the expression (`OperandLaws`), a law for each way through a record and its operands (`RecordLaws`) and
-- through a whole table (`CheckLaws`)
pub mod KindLaws
pub mod HeadLaws
pub mod FieldLaws
pub mod OperandLaws
pub mod RecordLaws
pub mod CheckLaws
-- accepted tables: a table (`Accepted`), a record of one and its operands (`Opened`), marks, kinds and rows (`Parts`), and the walk over all
-- records (`Walk`); the others are what those rest on
pub mod LevelLaws
pub mod AcceptedRecordLaws
pub mod Opened
pub mod Parts
pub mod Accepted
pub mod Walk
