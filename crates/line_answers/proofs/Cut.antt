-- A value at the start of the memory, or its first k bytes and a mark that it goes on. One byte more than k is enough to see which.
-- Assumes nothing.
use Prim.Native.Nat.{ℕ, suc, ◌+◌, ◌≤◌, ◌<◌}
use mathlib.Core.Path.{◌≡◌, refl, sym, ap, ◌∙◌, subst}
use mathlib.Core.Bool.{Bool, true, false, cond}
use mathlib.Core.List.{List, [], ◌∷◌, ◌++◌, append-nil, append_assoc}
use native.Mathlib.Numerals.{add-one}
use native.Mathlib.Omega.{arith}
use lib.Dec.{leb}
use lib.ListN.{length, take, drop, get_or, length-append, take-append-drop, drop_of_length-le}
use lib.Seq.{take_all, take-take, take-suc, take-append-le, drop-cons, drop-append-le}
use borrow.Author.Tests.{leb-true, leb-false}
use Rattle.std.proofs.lemmas.List.{length-take-le}
use Rattle.line_pieces.specs.Page.{Page, puts, between}
use Rattle.line_pieces.specs.Spelled.{ascii}
use Rattle.line_pieces.proofs.Putting.{puts_joined}
use Rattle.line_pieces.proofs.Split.{put-between, puts-start}
use Rattle.line_answers.specs.Written.{shortened}

module _ (k : ℕ) (c : ℕ) (dots : List ℕ) (s out : List ℕ) where
  abbrev cut_as : Bool → List ℕ
  cut_as t = cond t s (take k s ++ c ∷ dots)

  -- ---- a memory with no room for more than k bytes

  long-enough : k < length s → length out ≤ k → length out ≤ length (take k s ++ c ∷ dots)
  long-enough h m = subst (λ n. length out ≤ n) (sym (length-append (take k s) (c ∷ dots))) (omega (arith, length-take-le k s (omega arith)))

  full : (t : Bool) → leb (length s) k ≡ t → length out ≤ k → puts s (0, out) ≡ puts (cut_as t) (0, out)
  full true h m = refl
  full false h m =
      puts-start s out
      ∙ (λ i. between (start i) (rest i))
      ∙ sym (puts-start (take k s ++ c ∷ dots) out)
    where
      more : k < length s
      more = leb-false (length s) k h

      start : take (length out) s ≡ take (length out) (take k s ++ c ∷ dots)
      start = sym (take-append-le (length out) (take k s) (c ∷ dots) (omega (arith, m, length-take-le k s (omega (arith, more)))) ∙ take-take (length out) k s m)

      rest : drop (length s) out ≡ drop (length (take k s ++ c ∷ dots)) out
      rest = drop_of_length-le out {i = length s} (omega (arith, m, more)) ∙ sym (drop_of_length-le out {i = length (take k s ++ c ∷ dots)} (long-enough more m))

  -- ---- a memory with more room, of which the value gets k + 1 bytes

  module _ (room : suc k ≤ length out) (next : ℕ) (e : List ℕ) (put : ◌≡◌ {A = Page} (next, e) (puts s (0, take (suc k) out))) where
    seen : ◌≡◌ {A = Page} (next, e) (between (take (suc k) s) (drop (length s) (take (suc k) out)))
    seen = put ∙ puts-start s (take (suc k) out) ∙ ap (λ n. between (take n s) (drop (length s) (take (suc k) out))) (length-take-le (suc k) out room)

    length_seen : next ≡ length (take (suc k) s)
    length_seen = ap (λ (p : Page). p.0) seen

    whole : (t : Bool) → leb (length s) k ≡ t → next ≤ k → ◌≡◌ {A = Page} (next, e ++ drop (suc k) out) (puts (cut_as t) (0, out))
    whole true h m =
        ap (λ (p : Page). (p.0, p.1 ++ drop (suc k) out)) (seen ∙ ap (λ w. between w (drop (length s) (take (suc k) out))) (take_all (suc k) s (omega (arith, fits))))
        ∙ ap (λ l. (length s, l)) (append_assoc s (drop (length s) (take (suc k) out)) (drop (suc k) out) ∙ ap (λ l. s ++ l) behind)
        ∙ ap (λ w. between w (drop (length s) out)) (sym (take_all (length out) s (omega (arith, fits, room))))
        ∙ sym (puts-start s out)
      where
        fits : length s ≤ k
        fits = leb-true (length s) k h

        behind : drop (length s) (take (suc k) out) ++ drop (suc k) out ≡ drop (length s) out
        behind = sym (drop-append-le (length s) (take (suc k) out) (drop (suc k) out) (omega (arith, fits, length-take-le (suc k) out room))) ∙ ap (drop (length s)) (take-append-drop (suc k) out)
    whole false h m = absurd (never (leb-false (length s) k h))
      where
        never : k < length s → ⊥
        never more = omega (arith, m, length-take-le (suc k) s more, length_seen)

    longer : (t : Bool) → leb (length s) k ≡ t → k < next → (r : Page) → r ≡ puts (c ∷ dots) (k, e ++ drop (suc k) out) → r ≡ puts (cut_as t) (0, out)
    unfolding puts
    longer true h m r g = absurd (never (leb-true (length s) k h))
      where
        never : length s ≤ k → ⊥
        never fits = omega (arith, m, fits, length_seen ∙ ap length (take_all (suc k) s (omega (arith, fits))))
    longer false h m r g =
        g ∙ ap (puts (c ∷ dots)) here ∙ ap (puts dots) (put-between c (get_or s k 0) (take k s) (drop (suc k) out))
        ∙ sym (ap (puts dots) (put-between c (get_or out k 0) (take k s) (drop (suc k) out)))
        ∙ sym (ap (puts (c ∷ dots)) there) ∙ sym (puts_joined (take k s) (c ∷ dots) (0, out))
      where
        more : k < length s
        more = leb-false (length s) k h

        size : length (take k s) ≡ k
        size = length-take-le k s (omega (arith, more))

        text : e ≡ take k s ++ get_or s k 0 ∷ []
        text =
            ap (λ (p : Page). p.1) seen
            ∙ ap (λ l. take (suc k) s ++ l) (drop_of_length-le (take (suc k) out) {i = length s} (omega (arith, more, length-take-le (suc k) out room)))
            ∙ append-nil (take (suc k) s) ∙ take-suc s k 0 more

        here : ◌≡◌ {A = Page} (k, e ++ drop (suc k) out) (between (take k s) (get_or s k 0 ∷ drop (suc k) out))
        here = λ i. (sym size i, (ap (λ l. l ++ drop (suc k) out) text ∙ append_assoc (take k s) (get_or s k 0 ∷ []) (drop (suc k) out)) i)

        there : puts (take k s) (0, out) ≡ between (take k s) (get_or out k 0 ∷ drop (suc k) out)
        there =
            puts-start (take k s) out
            ∙ (λ i. between (take_all (length out) (take k s) (omega (arith, size, room)) i) ((ap (λ n. drop n out) size ∙ drop-cons out k 0 room) i))

-- ---- with the text that says that it goes on

pub prefix : (n : ℕ) (l : List ℕ) → n ≤ length l → n ≡ length (take n l)
prefix n l h = sym (length-take-le n l h)

pub cut_full : (k : ℕ) (s out : List ℕ) (r : Page) → length out ≤ k → r ≡ puts s (0, out) → r ≡ puts (shortened k s) (0, out)
unfolding shortened
cut_full k s out r m e = e ∙ full k 32 (46 ∷ 46 ∷ 46 ∷ []) s out (leb (length s) k) refl m

pub cut_whole : (k : ℕ) (s out : List ℕ) (next : ℕ) (e : List ℕ) → k < length out → ◌≡◌ {A = Page} (next, e) (puts s (0, take (k + 1) out)) → next ≤ k → ◌≡◌ {A = Page} (next, e ++ drop (k + 1) out) (puts (shortened k s) (0, out))
unfolding shortened
cut_whole k s out next e room put m =
    ap (λ n. (next, e ++ drop n out)) (add-one k)
    ∙ whole k 32 (46 ∷ 46 ∷ 46 ∷ []) s out room next e (put ∙ ap (λ n. puts s (0, take n out)) (add-one k)) (leb (length s) k) refl m

pub cut_longer : (k : ℕ) (s out : List ℕ) (next : ℕ) (e : List ℕ) → k < length out → ◌≡◌ {A = Page} (next, e) (puts s (0, take (k + 1) out)) → k < next → puts (ascii " ...") (k, e ++ drop (k + 1) out) ≡ puts (shortened k s) (0, out)
unfolding shortened
cut_longer k s out next e room put m =
    ap (λ n. puts (ascii " ...") (k, e ++ drop n out)) (add-one k)
    ∙ longer k 32 (46 ∷ 46 ∷ 46 ∷ []) s out room next e (put ∙ ap (λ n. puts s (0, take n out)) (add-one k)) (leb (length s) k) refl m _ refl
