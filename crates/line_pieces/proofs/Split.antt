-- What the memory holds once a text was put: the text as far as it fits, and behind it what was there. Assumes nothing.
use Prim.Native.Nat.{ℕ, ◌≤◌, ◌<◌}
use mathlib.Core.Path.{◌≡◌, sym, ap, ◌∙◌, subst}
use mathlib.Core.List.{List, [], ◌∷◌, ◌++◌, append-nil, append_assoc}
use native.Mathlib.Omega.{arith}
use lib.ListN.{length, take, drop, length-append}
use lib.Seq.{set-append_seam}
use Rattle.line_pieces.specs.Page.{put, puts, between}
use Rattle.line_pieces.proofs.Putting.{put_in, puts_full}

-- what stood there does not matter
pub put-between : (c d : ℕ) (w b : List ℕ) → put c (between w (d ∷ b)) ≡ between (w ++ c ∷ []) b
put-between c d w b =
    sym (put_in c (length w) (w ++ d ∷ b) (subst (λ n. length w < n) (sym (length-append w (d ∷ b))) (omega arith)))
    ∙ (λ i. (sym (length-append w (c ∷ [])) i, (set-append_seam w d b c ∙ sym (append_assoc w (c ∷ []) b)) i))

nothing-more : (w b : List ℕ) → between w b ≡ between (w ++ []) b
nothing-more w b = ap (λ x. between x b) (sym (append-nil w))

no_room : (w : List ℕ) → length (w ++ []) ≤ length w
no_room w = subst (λ x. length x ≤ length w) (sym (append-nil w)) (omega arith)

pub puts-between : (s w b : List ℕ) → puts s (between w b) ≡ between (w ++ take (length b) s) (drop (length s) b)
unfolding puts
puts-between [] w [] = nothing-more w []
puts-between [] w (d ∷ b) = nothing-more w (d ∷ b)
puts-between (c ∷ s) w [] = puts_full (c ∷ s) (length w, w ++ []) (no_room w) ∙ nothing-more w []
puts-between (c ∷ s) w (d ∷ b) =
    ap (puts s) (put-between c d w b) ∙ puts-between s (w ++ c ∷ []) b ∙ ap (λ x. between x (drop (length s) b)) (append_assoc w (c ∷ []) (take (length b) s))

-- from the start
pub puts-start : (s out : List ℕ) → puts s (0, out) ≡ between (take (length out) s) (drop (length s) out)
puts-start s out = puts-between s [] out
