-- What can be lent (`Lending`). How a run ends (`Ends`), and the ways through an evaluation (`Deciding`). The theorems about answers: that they are
-- the definition's (`Answering`), and what follows from that (`Promises`).
pub mod Lending
pub mod Ends
pub mod Deciding
pub mod Answering
pub mod Promises
