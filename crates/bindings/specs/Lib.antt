-- What the contracts cite: bringing in (`Bringing`), and what laying does with a lent room (`Lays`).
pub mod Bringing
pub mod Lays
