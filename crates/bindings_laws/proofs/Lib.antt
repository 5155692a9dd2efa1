-- The theorems on binding rooms, in each group from the leaves up.

-- bringing in: what laying literals down keeps, the values that were there, the values that are laid down, the theorem, and what follows for the
-- names
pub mod LayingKeeps
pub mod OlderValues
pub mod LaidScalars
pub mod LaidValues
pub mod Brought
pub mod AfterBringing
-- the verdict on a room: values that stand and fit, the first bad cell, the theorem
pub mod Formed
pub mod FirstBad
pub mod Verdicts
