-- The ways through the functions, which their proofs cite: keys (`KeySteps`), what a cell refers to (`ReferenceSteps`), a whole room
-- (`SoundSteps`). And what follows for values and cells of a sound room (`FitLaws`), and what such a room holds (`HeldLaws`, `SoundScope`).
pub mod KeySteps
pub mod ReferenceSteps
pub mod SoundSteps
pub mod FitLaws
pub mod HeldLaws
pub mod SoundScope
