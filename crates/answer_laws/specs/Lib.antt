-- What the theorems speak of: a binding room that holds a scope (`HoldsScope`); the worked examples of the meaning, evaluated (`Rows`);
-- answers that are not exhaustion (`UnderLimits`).
pub mod HoldsScope
pub mod Rows
pub mod UnderLimits
