-- What the functions' proofs and the crates above rest on: kinds (`KindLaws`), words and numbers of 8 bytes (`WordLaws`).
pub mod KindLaws
pub mod WordLaws
