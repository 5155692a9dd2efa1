-- What the proofs of cells share: a head that is a kind alone (`BareCells`).
pub mod BareCells
pub mod CastLaws
