-- The law that carries what is proved of the definition's answers (`Carried`); counts and limits (`UnderLimits`); the worked examples
-- (`Examples`); values well formed (`FormedAnswers`), and such as words can hold (`FittingAnswers`).
pub mod Carried
pub mod UnderLimits
pub mod Examples
pub mod FormedAnswers
pub mod FittingAnswers
