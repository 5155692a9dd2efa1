-- Laws. Parts: where a part of a text begins and ends. SizeMeaning: the size and the element of values that stand are the definition's. The others
-- are steps to that and to the contracts.
pub mod Parts
pub mod OtherKinds
pub mod Positions
pub mod CodePointLaws
pub mod SizeMeaning
