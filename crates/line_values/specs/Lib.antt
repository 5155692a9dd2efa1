-- Values as text (`Written`), which is the format that a reader has to believe; the same text from the rooms that values lie in (`Shown`).
pub mod Written
pub mod Shown
