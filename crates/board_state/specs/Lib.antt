-- What the contracts cite: the bindings that words stand for, and the words of bindings (`State`); a binding room with its state, and bringing in
-- (`Bringing`). What the theorem that the words come back speaks of (`Settled`).
pub mod State
pub mod Settled
pub mod Bringing
