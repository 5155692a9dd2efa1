-- What the contracts cite: what a condition or a guard decides.
pub mod Conditions
