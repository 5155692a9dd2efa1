-- What the contracts cite: the line of an answer (`Written`), which is the format that a reader has to believe; and the same line from the
-- rooms that the answer's value lies in (`Shown`).
pub mod Written
pub mod Shown
