-- The words of a state come back (`CellWords`, `WordsAgain`), those of values are read as them (`ReadWords`), those of a name as its binding
-- (`BindingWords`); settled bindings hold the same values and have the same answers (`SettledValues`, `SettledAnswers`); bringing in, emptying and
-- evaluating over a state are the definition's (`FitSlots`, `BroughtOver`, `RuledOver`), for any number of calls (`MadeStates`).
pub mod CellWords
pub mod WordsAgain
pub mod ReadWords
pub mod BindingWords
pub mod SettledValues
pub mod SettledAnswers
pub mod FitSlots
pub mod BroughtOver
pub mod RuledOver
pub mod MadeStates
