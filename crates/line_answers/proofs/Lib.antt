-- The ways through the functions: parts of a line (`PhraseSteps`), a value that is cut (`Cut`), a whole line (`Steps`). And the theorem that a line
-- says what the answer says (`Said`).
pub mod PhraseSteps
pub mod Cut
pub mod Steps
pub mod Said
