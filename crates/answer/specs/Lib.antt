-- What contracts and theorems cite: the numbers that errors and limits are known by (`Numbers`); what an evaluation does on words (`Evaluated`);
-- what the definition says of it, and what an answer says (`Meant`); what two answers are compared by (`Alike`), and what else theorems speak of
-- (`Promised`).
pub mod Numbers
pub mod Evaluated
pub mod Meant
pub mod Alike
pub mod Promised
