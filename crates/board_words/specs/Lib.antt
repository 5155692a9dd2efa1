-- What the contracts cite: words laid over lent ones (`Overlay`); the words that say what a value is by itself, and those of a part (`Shapes`); an
-- answer as words (`Answers`), and what an evaluation over a state's words returns and leaves (`Evaluation`).
pub mod Overlay
pub mod Shapes
pub mod Answers
pub mod Evaluation
