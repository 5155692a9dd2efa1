-- What the contracts cite beside the machine: what follows the first operand, and what the second makes of it (`Next`; the contracts of
-- eval_operands cite it too); literals, names and marks (`Leaves`); a comprehension's operands (`Comprehensions`); records at places (`Shapes`).
pub mod Next
pub mod Leaves
pub mod Comprehensions
pub mod Shapes
