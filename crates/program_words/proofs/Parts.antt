-- Pieces: repeated as often as they say. Assumes nothing.
use Rattle.std.proofs.Common.{◌≡◌, refl, sym, ap, ◌∙◌, ℕ, zero, suc, ◌+◌, ◌-◌, ◌≤◌, ◌<◌, Bool, true, false, cond, Option, List, [], ◌∷◌, length, set, take, drop, length-drop, ltb, arith}
use Rattle.std.specs.Option.{unwrap_or}
use lib.Seq.{take_all}
use borrow.Author.Tests.{ltb-true, ltb-false}
use Rattle.line_pieces.specs.Page.{Page, put, puts}
use Rattle.line_pieces.proofs.Putting.{put_in, puts_none, puts_joined, puts_full}
use Rattle.program_words.specs.Place.{place_of, place_from}
use Rattle.program_words.specs.Decimal.{number_of}
use Rattle.program_words.specs.Hexadecimal.{bytes_of, repeated, count_of, times_of, piece_of}

-- ---- putting what puts nothing

put-grows : (t : Bool) (b at : ℕ) (out : List ℕ) → at ≤ (cond {A = Page} t (suc at, set out at b) (at, out)).0
put-grows true b at out = omega arith
put-grows false b at out = omega arith

puts-grow : (s : List ℕ) (p : Page) → p.0 ≤ (puts s p).0
unfolding put puts
puts-grow [] p = omega arith
puts-grow (b ∷ s) p = let h = put-grows (ltb p.0 (length p.1)) b p.0 p.1 in let k = puts-grow s (put b p) in omega arith

moved : (s : List ℕ) (b : ℕ) (p : Page) {at : ℕ} {out : List ℕ} → ◌≡◌ {A = Page} (at + 1, out) (put b p) → (puts s (put b p)).0 ≡ at → ⊥
moved s b p {at} {out} f e = let h = puts-grow s (at + 1, out) in let k = ap (λ (q : Page). (puts s q).0) f in omega arith

-- where the next byte goes to the same place, there was nothing to put or no room for it
puts-stuck : (s : List ℕ) (p : Page) → (puts s p).0 ≡ p.0 → puts s p ≡ p
unfolding puts
puts-stuck [] p e = puts_none p
puts-stuck (b ∷ s) p e = go (ltb p.0 (length p.1)) refl
  where
    go : (t : Bool) → ltb p.0 (length p.1) ≡ t → puts (b ∷ s) p ≡ p
    go true f = absurd (moved s b p (put_in b p.0 p.1 (ltb-true _ _ f)) e)
    go false f = puts_full (b ∷ s) p (ltb-false _ _ f)

repeat_stuck : (n : ℕ) (s : List ℕ) (p : Page) → puts s p ≡ p → puts (repeated n s) p ≡ p
unfolding repeated
repeat_stuck zero s p e = puts_none p
repeat_stuck (suc n) s p e = puts_joined s (repeated n s) p ∙ ap (puts (repeated n s)) e ∙ repeat_stuck n s p e

-- ---- a piece, time after time: i of the times are over

one_more : (n : ℕ) {left : ℕ} (s : List ℕ) (q : Page) → left ≡ suc n → puts (repeated left s) q ≡ puts (repeated n s) (puts s q)
unfolding repeated
one_more n s q e = ap (λ k. puts (repeated k s) q) e ∙ puts_joined s (repeated n s) q

pub repeat_on : (s : List ℕ) (count i : ℕ) (q : Page) {o r : Page} → i < count → o ≡ puts s q → puts (repeated (count - i) s) q ≡ r → puts (repeated (count - (i + 1)) s) o ≡ r
repeat_on s count i q h e f = ap (puts (repeated (count - (i + 1)) s)) e ∙ sym (one_more (count - (i + 1)) s q (omega arith)) ∙ f

pub repeat_full : (s : List ℕ) (count i : ℕ) (q : Page) {o r : Page} → i < count → o ≡ puts s q → o.0 ≡ q.0 → puts (repeated (count - i) s) q ≡ r → o ≡ r
repeat_full s count i q h e same f =
    let stuck = puts-stuck s q (sym (ap (λ (x : Page). x.0) e) ∙ same) in
    e ∙ stuck ∙ sym (repeat_stuck (count - i) s q stuck) ∙ f

pub repeat_end : (s : List ℕ) (count i : ℕ) (q : Page) {r : Page} → count ≤ i → puts (repeated (count - i) s) q ≡ r → q ≡ r
unfolding repeated
repeat_end s count i q h f = let none : count - i ≡ 0 = omega arith in sym (puts_none q) ∙ ap (λ k. puts (repeated k s) q) (sym none) ∙ f

-- ---- a piece

pub times_once : (l : List ℕ) → length l < 1 → 1 ≡ times_of l
unfolding times_of
times_once [] h = refl
times_once (x ∷ xs) h = absurd (omega arith)

pub times_counted : (l : List ℕ) {n : Option ℕ} {r : ℕ} → 1 ≤ length l → n ≡ number_of (take (length l - 1) (drop 1 l)) → r ≡ unwrap_or n 0 → r ≡ times_of l
unfolding times_of
times_counted [] h e f = absurd (omega arith)
times_counted (x ∷ xs) h e f = f ∙ ap count_of (e ∙ ap number_of (take_all (length (x ∷ xs) - 1) xs (omega arith)))

pub a_piece : (part : List ℕ) (p : Page) {star count : ℕ} {q : Page} → star ≡ place_from 42 part 0 → count ≡ times_of (take (length part - star) (drop star part)) → q ≡ puts (repeated count (bytes_of (take star part))) p → q ≡ puts (piece_of part) p
unfolding piece_of
a_piece part p {star} e f g =
    let place : star ≡ place_of 42 part = omega arith in
    g ∙ ap (λ n. puts (repeated n (bytes_of (take star part))) p) (f ∙ ap times_of (take_all (length part - star) (drop star part) (omega (arith, length-drop star part)))) ∙ ap (λ k. puts (repeated (times_of (drop k part)) (bytes_of (take k part))) p) place
