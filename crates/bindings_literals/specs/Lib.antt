-- What contracts and laws cite: the literals of a table (`Literals`), how they are laid down (`Laying`), and a table judged as a binding
-- (`Judging`).
pub mod Literals
pub mod Laying
pub mod Judging
