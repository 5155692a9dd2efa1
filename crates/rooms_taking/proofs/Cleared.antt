-- What `fill` writes into a part of a list is what the definition clears. Assumes nothing.
use Prim.Native.Nat.{ℕ, zero, suc, ◌+◌, ◌≤◌}
use mathlib.Core.Path.{◌≡◌, refl, sym, ap, ◌∙◌}
use mathlib.Core.List.{List, []}
use native.Mathlib.Omega.{arith}
use native.Mathlib.Numerals.{add-one}
use lib.ListN.{length, set, take, drop}
use lib.Seq.{paste, paste-zero}
use borrow.Rule.Slice.PartMut.{put_mid}
use Rattle.std.specs.Prelude.{replicate}
use Rattle.std.proofs.lemmas.List.{length-replicate, length-take-le, length-drop}
use Rattle.std.proofs.lemmas.List.Edits.{fill_from_more}
use Rattle.std.proofs.lemmas.Slice.{put_mid-paste}
use Rattle.rooms_taking.specs.Taking.{zeroed}

one-more : (w : List ℕ) (a n : ℕ) → set (zeroed w a n) (a + n) 0 ≡ zeroed w a (suc n)
unfolding zeroed
one-more w a zero = ap (λ i. set w i 0) (omega arith)
one-more w a (suc n) = ap (λ i. set (zeroed (set w a 0) (suc a) n) i 0) (omega arith) ∙ one-more (set w a 0) (suc a) n

filled : (w : List ℕ) (a n : ℕ) → a + n ≤ length w → paste w a (replicate n 0) n ≡ zeroed w a n
unfolding zeroed
filled w a zero h = sym (paste-zero w a [])
filled w a (suc n) h =
    (λ i. paste w a (replicate (sym (add-one n) i) 0) (sym (add-one n) i)) ∙ sym (fill_from_more w a n 0 (omega arith))
    ∙ ap (λ l. set l (a + n) 0) (filled w a n (omega arith)) ∙ one-more w a n

-- `ys` is what `fill` makes of the k elements from a on
pub cleared : (w ys : List ℕ) (a k n : ℕ) → n ≡ k → a + k ≤ length w → ys ≡ replicate (length (take k (drop a w))) 0 → put_mid a k w ys ≡ zeroed w a n
cleared w ys a k n same h e =
    put_mid-paste a k w ys (replicate k 0) k (e ∙ ap (λ m. replicate m 0) (length-take-le k (drop a w) (omega (arith, length-drop a w)))) refl (sym (length-replicate k 0))
    ∙ filled w a k h ∙ ap (zeroed w a) (sym same)
