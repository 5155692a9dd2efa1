-- What the contracts cite: records of one operand or two, and the slots that they read (`Slots`); the slots of a record within reach (`Shallow`); a
-- List record of one element without a mark, with the slots that it reads (`SingleLists`).
pub mod Slots
pub mod Shallow
pub mod SingleLists
