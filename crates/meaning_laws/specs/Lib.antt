-- What the theorems speak of, beside the definition of evaluation itself.
-- To read a statement: `x ≡ y` says that both are the same, `A × B` that both hold, `A ⊎ B` that one does, `A → B` that A leads to B,
-- `A ↔ B` that each leads to the other, `A → ⊥` that A does not hold, `(x : A) → B` that B holds of every x, and `(x : A) × B` of some.
-- the names that a rule names, and bindings that it does not
pub mod Names
pub mod Agreement
-- charges added up; which operands a record begins, and where the steps of a run come from
pub mod Charges
pub mod Begins
pub mod Steps
-- whole answers; before them what holds of each of a list and of what is read
pub mod Each
pub mod Answers
-- expressions and rooms that are formed as they should be, and a binding brought in
pub mod Formed
pub mod Accepted
pub mod Brought
-- how an expression is written as records, and where they stand
pub mod Written
pub mod Places
