-- Text put into memory, a byte or a text after the other. Assumes nothing.
use Prim.Native.Nat.{ℕ, suc, ◌+◌, ◌≤◌, ◌<◌}
use mathlib.Core.Path.{◌≡◌, refl, sym, ap, ◌∙◌, subst}
use mathlib.Core.Bool.{Bool, true, false, cond}
use mathlib.Core.List.{List, [], ◌∷◌, ◌++◌}
use native.Mathlib.Numerals.{add-one}
use lib.Dec.{ltb}
use lib.ListN.{length, set, length-set, get_or, take}
use lib.Seq.{take-suc}
use borrow.Author.Tests.{lt-ltb, le-ltb, ltb-true}
use Rattle.line_pieces.specs.Page.{Page, put, puts}

-- ---- a byte

pub put_in : (b at : ℕ) (out : List ℕ) → at < length out → ◌≡◌ {A = Page} (at + 1, set out at b) (put b (at, out))
unfolding put
put_in b at out h = (λ i. (add-one at i, set out at b)) ∙ ap (λ t. cond t (suc at, set out at b) (at, out)) (sym (lt-ltb at (length out) h))

pub put-out : (b at : ℕ) (out : List ℕ) → length out ≤ at → ◌≡◌ {A = Page} (at, out) (put b (at, out))
unfolding put
put-out b at out h = ap (λ t. cond t (suc at, set out at b) (at, out)) (sym (le-ltb at (length out) h))

pub puts_one : (b : ℕ) (p : Page) → puts (b ∷ []) p ≡ put b p
unfolding puts
puts_one b p = refl

-- ---- texts

pub puts_none : (p : Page) → puts [] p ≡ p
unfolding puts
puts_none p = refl

pub puts_joined : (s t : List ℕ) (p : Page) → puts (s ++ t) p ≡ puts t (puts s p)
unfolding puts
puts_joined [] t p = refl
puts_joined (b ∷ s) t p = puts_joined s t (put b p)

pub puts-two : (s t : List ℕ) (p q r : Page) → q ≡ puts s p → r ≡ puts t q → r ≡ puts (s ++ t) p
puts-two s t p q r e f = f ∙ ap (puts t) e ∙ sym (puts_joined s t p)

pub puts-three : (s t u : List ℕ) (p q l r : Page) → q ≡ puts s p → l ≡ puts t q → r ≡ puts u l → r ≡ puts (s ++ t ++ u) p
puts-three s t u p q l r e f g = puts-two (s ++ t) u p l r (puts-two s t p q l e f) g

-- where the memory is full nothing is put
pub puts_full : (s : List ℕ) (p : Page) → length p.1 ≤ p.0 → puts s p ≡ p
unfolding puts
puts_full [] p h = refl
puts_full (b ∷ s) p h = ap (puts s) (sym (put-out b p.0 p.1 h)) ∙ puts_full s p h

-- ---- lengths

put_same : (t : Bool) (b at : ℕ) (out : List ℕ) → length (cond {A = Page} t (suc at, set out at b) (at, out)).1 ≡ length out
put_same true b at out = length-set out at b
put_same false b at out = refl

pub puts-same : (s : List ℕ) (p : Page) → length (puts s p).1 ≡ length p.1
unfolding put puts
puts-same [] p = refl
puts-same (b ∷ s) p = puts-same s (put b p) ∙ put_same (ltb p.0 (length p.1)) b p.0 p.1

pub kept-length : (s : List ℕ) (p q : Page) → q ≡ puts s p → length q.1 ≡ length p.1
kept-length s p q e = ap (λ (x : Page). length x.1) e ∙ puts-same s p

put-within : (t : Bool) (b at : ℕ) (out : List ℕ) → ltb at (length out) ≡ t → at ≤ length out → (cond {A = Page} t (suc at, set out at b) (at, out)).0 ≤ length (cond {A = Page} t (suc at, set out at b) (at, out)).1
put-within true b at out e h = subst (λ n. suc at ≤ n) (sym (length-set out at b)) (ltb-true at (length out) e)
put-within false b at out e h = h

-- the next byte never goes beyond the memory's end
pub puts-within : (s : List ℕ) (p : Page) → p.0 ≤ length p.1 → (puts s p).0 ≤ length (puts s p).1
unfolding put puts
puts-within [] p h = h
puts-within (b ∷ s) p h = puts-within s (put b p) (put-within (ltb p.0 (length p.1)) b p.0 p.1 refl h)

-- ---- a turn of a loop over a text

pub word_on : (w : List ℕ) (i : ℕ) (p : Page) → i < length w → puts (take (i + 1) w) p ≡ put (get_or w i 0) (puts (take i w) p)
unfolding puts
word_on w i p h = ap (λ s. puts s p) (ap (λ k. take k w) (add-one i) ∙ take-suc w i 0 h) ∙ puts_joined (take i w) (get_or w i 0 ∷ []) p
