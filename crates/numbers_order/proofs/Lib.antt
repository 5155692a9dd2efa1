-- Steps of the proofs of the functions.
pub mod SizeLaws
