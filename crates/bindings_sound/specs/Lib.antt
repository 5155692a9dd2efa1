-- What the contracts cite: the keys of a Map where they lie (`Keys`), what a cell or a slot may hold (`Fits`), and a whole room (`Sound`). What
-- theorems speak of: what a sound room is (`SoundRoom`), and what it holds (`Held`).
pub mod Keys
pub mod Fits
pub mod Sound
pub mod SoundRoom
pub mod Held
