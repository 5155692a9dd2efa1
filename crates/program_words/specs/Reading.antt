-- A word read off a line.
use Rattle.std.specs.Prelude.{ℕ, List, ◌≡◌, ◌++◌}

-- the word lies in the line before what is left of it; bytes that are neither may stand in front and between
pub record ReadOff (line word left : List ℕ) : Type 0 where
  pub before : List ℕ
  pub between : List ℕ
  pub whole : before ++ (word ++ (between ++ left)) ≡ line
