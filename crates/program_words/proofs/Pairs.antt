-- Hexadecimal digits, read two at a time. Assumes nothing.
use Rattle.std.proofs.Common.{◌≡◌, refl, sym, ap, subst, ◌∙◌, ℕ, ◌+◌, ◌-◌, ◌≤◌, ◌<◌, Option, Some, None, List, [], ◌∷◌, ◌++◌, length, get_or, length-take-le, arith}
use Rattle.std.specs.Counts.{IsPrefixLen}
use Rattle.line_pieces.specs.Page.{Page, put, puts}
use Rattle.line_pieces.proofs.Putting.{puts_none, puts-within, kept-length}
use Rattle.program_words.specs.Hexadecimal.{digit_of, joined, in_front, bytes_of}
use Rattle.program_words.proofs.Numerals.{inside, outside}

-- ---- a digit

pub digit_ten : (x : ℕ) → 48 ≤ x → x ≤ 57 → Some (x - 48) ≡ digit_of x
unfolding digit_of
digit_ten x h k = rw (inside 48 57 x h k)

pub digit_lower : (x : ℕ) → 97 ≤ x → x ≤ 102 → Some (x - 97 + 10) ≡ digit_of x
unfolding digit_of
digit_lower x h k = rw (outside 48 57 x (λ a b. omega arith), inside 97 102 x h k)

pub digit_upper : (x : ℕ) → 65 ≤ x → x ≤ 70 → Some (x - 65 + 10) ≡ digit_of x
unfolding digit_of
digit_upper x h k = rw (outside 48 57 x (λ a b. omega arith), outside 97 102 x (λ a b. omega arith), inside 65 70 x h k)

pub no_digit : (x : ℕ) → (48 ≤ x → x ≤ 57 → ⊥) → (97 ≤ x → x ≤ 102 → ⊥) → (65 ≤ x → x ≤ 70 → ⊥) → None ≡ digit_of x
unfolding digit_of
no_digit x m n o = rw (outside 48 57 x m, outside 97 102 x n, outside 65 70 x o)

-- ---- two digits a turn: s is what is left of the word before the turn, t behind its pair

too_few : (s : List ℕ) → length s < 2 → bytes_of s ≡ []
unfolding bytes_of
too_few [] h = refl
too_few (x ∷ []) h = refl
too_few (x ∷ y ∷ s) h = absurd (omega arith)

a_pair : (pair t : List ℕ) → length pair ≡ 2 → bytes_of (pair ++ t) ≡ in_front (joined (digit_of (get_or pair 0 0)) (digit_of (get_or pair 1 0))) (bytes_of t)
unfolding bytes_of
a_pair [] t h = absurd (omega arith)
a_pair (x ∷ []) t h = absurd (omega arith)
a_pair (x ∷ y ∷ []) t h = refl
a_pair (x ∷ y ∷ z ∷ rest) t h = absurd (omega arith)

nothing_put : (s : List ℕ) {q r : Page} → bytes_of s ≡ [] → puts (bytes_of s) q ≡ r → q ≡ r
nothing_put s {q} e f = sym (puts_none q) ∙ ap (λ l. puts l q) (sym e) ∙ f

pub pairs_over : (s : List ℕ) {q r : Page} → length s < 2 → puts (bytes_of s) q ≡ r → q ≡ r
pairs_over s h f = nothing_put s (too_few s h) f

module _ (s pair t : List ℕ) {byte : Option ℕ} (e : s ≡ pair ++ t) (h : length pair ≡ 2) (f : byte ≡ joined (digit_of (get_or pair 0 0)) (digit_of (get_or pair 1 0))) where
  this_pair : bytes_of s ≡ in_front byte (bytes_of t)
  this_pair = ap bytes_of e ∙ a_pair pair t h ∙ ap (λ o. in_front o (bytes_of t)) (sym f)

  pub no_pair : {q r : Page} → byte ≡ None → puts (bytes_of s) q ≡ r → q ≡ r
  no_pair n g = nothing_put s (this_pair ∙ ap (λ o. in_front o (bytes_of t)) n) g

  pub pair_put : {b : ℕ} (q : Page) {o r : Page} → byte ≡ Some b → o ≡ put b q → puts (bytes_of s) q ≡ r → puts (bytes_of t) o ≡ r
  unfolding puts
  pair_put q n g k = ap (puts (bytes_of t)) g ∙ ap (λ l. puts l q) (sym (this_pair ∙ ap (λ o. in_front o (bytes_of t)) n)) ∙ k

-- ---- all of it, from the start of the memory
pub counted : (s out : List ℕ) {r : ℕ} {after : List ℕ} → ◌≡◌ {A = Page} (r, after) (puts s (0, out)) → (x : List ℕ) → length x ≡ length out → IsPrefixLen r x
counted s out {r} {after} e x h =
    let within = subst (λ (q : Page). q.0 ≤ length q.1) (sym e) (puts-within s (0, out) (omega arith)) in
    let fits : r ≤ length x = omega (arith, within, h, kept-length s (0, out) (r, after) e) in
    (fits, sym (length-take-le r x fits))
