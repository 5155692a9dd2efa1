-- What the contracts cite: the rooms of a run, and what they hold afterwards (`Taking`).
pub mod Taking
