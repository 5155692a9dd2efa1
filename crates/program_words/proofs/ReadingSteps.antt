-- A line that is cut is its parts, one after the other. Assumes nothing.
use Prim.Native.Nat.{ℕ}
use mathlib.Core.Path.{◌≡◌, ap, ◌∙◌}
use mathlib.Core.List.{List, [], ◌++◌}
use lib.ListN.{take, drop}
use Rattle.std.proofs.lemmas.List.{take-append-drop}
use Rattle.program_words.specs.Reading.{ReadOff}

-- a word behind n bytes, up to its k-th byte
pub read_behind : (line word left : List ℕ) (n k : ℕ) → word ≡ take k (drop n line) → left ≡ drop k (drop n line) → ReadOff line word left
read_behind line word left n k e f = record {
  before = take n line;
  between = [];
  whole = ap (λ w. take n line ++ (w ++ left)) e ∙ ap (λ l. take n line ++ (take k (drop n line) ++ l)) f ∙ ap (λ l. take n line ++ l) (take-append-drop k (drop n line)) ∙ take-append-drop n line;
}

-- a word of k bytes; m bytes behind it are passed over
pub read_up_to : (line word rest left : List ℕ) (k m : ℕ) → word ≡ take k line → rest ≡ drop k line → left ≡ drop m rest → ReadOff line word left
read_up_to line word rest left k m e f g = record {
  before = [];
  between = take m rest;
  whole = ap (λ w. w ++ (take m rest ++ left)) e ∙ ap (λ l. take k line ++ (take m rest ++ l)) g ∙ ap (λ l. take k line ++ l) (take-append-drop m rest ∙ f) ∙ take-append-drop k line;
}
