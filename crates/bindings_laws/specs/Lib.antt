-- What the theorems speak of: what bringing a binding in says of a lent room and of the definition's room that it stands for (`Brings`); what a
-- sound room holds, and what the place of an unsound one names (`Verdicts`).
pub mod Brings
pub mod Verdicts
