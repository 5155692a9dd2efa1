-- What the theorems speak of: words that are in order as a state (`InOrder`); the words of a value (`ValueWords`); what a call does (`Called`).
pub mod InOrder
pub mod ValueWords
pub mod Called
