-- What the contracts cite: where a byte stands (`Place`), numbers (`Decimal`), bytes and words (`Hexadecimal`). What those of the programs'
-- readers cite: a word read off a line (`Reading`).
pub mod Place
pub mod Decimal
pub mod Hexadecimal
pub mod Reading
