-- What the code's steps through a text stand for: a block of bytes, and what is left of a text.
use Rattle.std.specs.Prelude.{◌≡◌, Bool, List, ℕ, ltb, ◌≤◌, length}
use Rattle.text.specs.Utf8.{well_formed}

-- a byte that is a sequence by itself
abbrev pub is_ascii : ℕ → Bool
is_ascii byte = ltb byte 0x80

-- what is left of a text is well formed exactly if the text is
pub record Passes (text rest : List ℕ) : Type 0 where
  pub within : length rest ≤ length text
  pub formed : well_formed rest ≡ well_formed text
