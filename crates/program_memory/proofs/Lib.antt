-- The laws that functions' proofs cite: memory filled, and tested in parts (`Testing`).
pub mod Testing
