-- What the contracts cite, in terms of the definition: heads of records (`Shapes`), whether fields are right (`Fits`), marks and the first fault of
-- a record (`Faults`), what is read at a place (`Reading`), and what is said of a whole table (`Check`). What theorems on accepted tables speak of:
-- the records of one (`Records`), what each is when it is opened (`Opened`), and a walk over them (`Walk`).
pub mod Shapes
pub mod Fits
pub mod Faults
pub mod Reading
pub mod Check
pub mod Records
pub mod Opened
pub mod Walk
