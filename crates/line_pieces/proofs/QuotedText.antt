-- Quoted text: a byte as it is written, and the loop over a text. Assumes nothing.
use Prim.Native.Nat.{ℕ, ◌+◌, ◌≤◌, ◌<◌}
use mathlib.Core.Path.{◌≡◌, refl, sym, ap, ◌∙◌}
use mathlib.Core.Bool.{true, false, cond}
use mathlib.Core.List.{List, [], ◌∷◌, ◌++◌, append-nil, append_assoc}
use native.Mathlib.Numerals.{add-one}
use lib.ListN.{length, get_or, take}
use lib.Seq.{take-suc, take_all}
use Rattle.line_pieces.specs.Page.{Page, put, puts}
use Rattle.line_pieces.specs.Spelled.{ascii, hexadecimal, is_plain, escaped, escaped_all, quoted}
use Rattle.line_pieces.proofs.Putting.{puts_joined}

-- ---- a byte

pub escaped_plain : (b : ℕ) (p : Page) → is_plain b ≡ true → puts (escaped b) p ≡ put b p
unfolding escaped puts
escaped_plain b p e = ap (λ t. puts (cond t (b ∷ []) (ascii "\\x" ++ hexadecimal 2 b)) p) e

pub escaped_other : (b : ℕ) (p : Page) → is_plain b ≡ false → puts (escaped b) p ≡ puts (hexadecimal 2 b) (puts (ascii "\\x") p)
unfolding escaped
escaped_other b p e = ap (λ t. puts (cond t (b ∷ []) (ascii "\\x" ++ hexadecimal 2 b)) p) e ∙ puts_joined (ascii "\\x") (hexadecimal 2 b) p

-- ---- a text

all-joined : (s t : List ℕ) → escaped_all (s ++ t) ≡ escaped_all s ++ escaped_all t
unfolding escaped_all
all-joined [] t = refl
all-joined (b ∷ s) t = ap (λ u. escaped b ++ u) (all-joined s t) ∙ sym (append_assoc (escaped b) (escaped_all s) (escaped_all t))

all-one : (b : ℕ) → escaped_all (b ∷ []) ≡ escaped b
unfolding escaped_all
all-one b = append-nil (escaped b)

pub escapes_none : (p : Page) → puts (escaped_all []) p ≡ p
unfolding escaped_all puts
escapes_none p = refl

pub escapes_on : (s : List ℕ) (i : ℕ) (p : Page) → i < length s → puts (escaped_all (take (i + 1) s)) p ≡ puts (escaped (get_or s i 0)) (puts (escaped_all (take i s)) p)
escapes_on s i p h =
    ap (λ t. puts (escaped_all t) p) (ap (λ k. take k s) (add-one i) ∙ take-suc s i 0 h)
    ∙ ap (λ t. puts t p) (all-joined (take i s) (get_or s i 0 ∷ []) ∙ ap (λ t. escaped_all (take i s) ++ t) (all-one (get_or s i 0)))
    ∙ puts_joined (escaped_all (take i s)) (escaped (get_or s i 0)) p

-- with the quotes, once the whole text was gone over
pub quoted_whole : (s : List ℕ) (i : ℕ) (p : Page) → length s ≤ i → puts (quoted s) p ≡ put 34 (puts (escaped_all (take i s)) (put 34 p))
unfolding quoted puts
quoted_whole s i p h = puts_joined (escaped_all s) (34 ∷ []) (put 34 p) ∙ ap (λ t. put 34 (puts (escaped_all t) (put 34 p))) (sym (take_all i s h))
