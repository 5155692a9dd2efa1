-- Pieces, one behind the other. Assumes nothing.
use Rattle.std.proofs.Common.{◌≡◌, sym, ap, ◌∙◌, ℕ, suc, ◌<◌, Bool, true, false, cond, List, [], ◌∷◌, ◌++◌, length, get_or, eqb, arith}
use Rattle.std.specs.Bool.{MatchBool}
use Rattle.std.specs.List.{IsFirstMatchOrLen}
use Rattle.std.proofs.lemmas.List.{get_or_append_left, append_assoc, append-nil, length-append}
use lib.Seq.{get_or-append_seam}
use Rattle.line_pieces.specs.Page.{Page, puts}
use Rattle.line_pieces.proofs.Putting.{puts_none, puts_joined}
use Rattle.program_words.specs.Hexadecimal.{piece_of, pieces_of, spelled_by}

-- what an iterator over pieces has left to spell
abbrev pub left_of : Bool → List ℕ → List ℕ
left_of true rest = []
left_of false rest = spelled_by rest

-- no `+` in it
abbrev Whole : List ℕ → Type 0
Whole part = (k : ℕ) → k < length part → eqb (get_or part k 0) 43 ≡ false

whole_tail : (x : ℕ) (part : List ℕ) → Whole (x ∷ part) → Whole part
whole_tail x part h = λ k m. h (suc k) (omega arith)

-- a piece that the word ends with, and one that a `+` ends; p is what was read of it
last_piece : (p part : List ℕ) → Whole part → pieces_of p part ≡ piece_of (p ++ part)
unfolding pieces_of
last_piece p [] h = ap piece_of (sym (append-nil p))
last_piece p (x ∷ part) h =
    ap (λ t. cond t (piece_of p ++ pieces_of [] part) (pieces_of (p ++ x ∷ []) part)) (h 0 (omega arith))
    ∙ last_piece (p ++ x ∷ []) part (whole_tail x part h)
    ∙ ap piece_of (append_assoc p (x ∷ []) part)

first_piece : (p part : List ℕ) (y : ℕ) (next : List ℕ) → Whole part → eqb y 43 ≡ true → pieces_of p (part ++ y ∷ next) ≡ piece_of (p ++ part) ++ spelled_by next
unfolding pieces_of
first_piece p [] y next h e =
    ap (λ t. cond t (piece_of p ++ pieces_of [] next) (pieces_of (p ++ y ∷ []) next)) e
    ∙ ap (λ s. piece_of s ++ spelled_by next) (sym (append-nil p))
first_piece p (x ∷ part) y next h e =
    ap (λ t. cond t (piece_of p ++ pieces_of [] (part ++ y ∷ next)) (pieces_of (p ++ x ∷ []) (part ++ y ∷ next))) (h 0 (omega arith))
    ∙ first_piece (p ++ x ∷ []) part y next (whole_tail x part h) e
    ∙ ap (λ s. piece_of s ++ spelled_by next) (append_assoc p (x ∷ []) part)

-- a turn of the loop: rest is what was left before it, next what is left after it
module _ (rest part next : List ℕ) (found : IsFirstMatchOrLen (λ y. eqb y 43) rest (length part)) where
  split_at : (done : Bool) → MatchBool done (rest ≡ part) ((y : ℕ) × (rest ≡ part ++ (y ∷ next))) → spelled_by rest ≡ piece_of part ++ left_of done next
  split_at true e = ap spelled_by e ∙ last_piece [] part (λ k m. ap (λ l. eqb (get_or l k 0) 43) (sym e) ∙ found.0 k 0 (omega arith) m) ∙ sym (append-nil (piece_of part))
  split_at false (y, e) = ap spelled_by e ∙ first_piece [] part y next whole plus
    where
      whole : Whole part
      whole k m = ap (λ b. eqb b 43) (sym (get_or_append_left part (y ∷ next) 0 k m)) ∙ ap (λ l. eqb (get_or l k 0) 43) (sym e) ∙ found.0 k 0 (omega arith) m

      shorter : length part < length rest
      shorter = omega (arith, ap length e, length-append part (y ∷ next))

      plus : eqb y 43 ≡ true
      plus = ap (λ b. eqb b 43) (sym (get_or-append_seam part y next 0)) ∙ ap (λ l. eqb (get_or l (length part) 0) 43) (sym e) ∙ found.1 shorter 0

  pub pieces_on : {before : Bool} (done : Bool) (q : Page) {o r : Page} → before ≡ false → MatchBool done (rest ≡ part) ((y : ℕ) × (rest ≡ part ++ (y ∷ next)))
      → o ≡ puts (piece_of part) q → puts (left_of before rest) q ≡ r → puts (left_of done next) o ≡ r
  pieces_on done q b e f g =
      ap (puts (left_of done next)) f
      ∙ sym (puts_joined (piece_of part) (left_of done next) q)
      ∙ ap (λ s. puts s q) (sym (split_at done e))
      ∙ ap (λ t. puts (left_of t rest) q) (sym b)
      ∙ g

pub pieces_end : (rest : List ℕ) {done : Bool} (q : Page) {r : Page} → done ≡ true → puts (left_of done rest) q ≡ r → q ≡ r
pieces_end rest q b g = sym (puts_none q) ∙ ap (λ t. puts (left_of t rest) q) (sym b) ∙ g
