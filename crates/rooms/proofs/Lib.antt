-- Laws. CellLaws: a cell gives back what was written; CellCopies: a copy of a cell is that cell. Frame: rooms that agree on what a value reaches
-- hold the same value. ReadBack: what stands for a value reads as it. Scopes: what a scope stands for. The others are steps to those, and to laws
-- of the crates above.
pub mod CellCopies
pub mod CellLaws
pub mod Depths
pub mod Frame
pub mod ReadBack
pub mod Scopes
pub mod Variants
pub mod Words
