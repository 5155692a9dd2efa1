-- The ways through the functions that put values (`Steps`); and the theorem that what is shown is the text of what is read (`ReadOut`).
pub mod Steps
pub mod ReadOut
