-- Theorems on numbers. For callers: their order (OrderLaws, WholeLaws), and what arithmetic is (RoundingLaws, DivisionLaws). The others are steps
-- to those and to the comparison of numbers.

-- the order of numbers
pub mod BitsOne
pub mod OrderLaws
pub mod PointLaws
pub mod SignedOrder
pub mod WholeLaws
-- arithmetic
pub mod DivisionLaws
pub mod Nearest
pub mod NearestOne
pub mod NearestScale
pub mod ProductPoints
pub mod RoundPoints
pub mod RoundingLaws
pub mod Stands
pub mod SumPoints
