-- Lent memory filled and tested: every element one and the same, in the parts that the counts bound. Assumes nothing.
use Rattle.std.proofs.Common.{◌≡◌, refl, sym, ap, ◌∙◌, ℕ, zero, suc, ◌-◌, ◌<◌, min, Bool, true, false, ◌&&◌, IsTrue, ◌↔◌, List, [], ◌∷◌, length, take, drop, length-drop, replicate, eqb, slice_index_or, arith}
use Rattle.std.specs.List.{EachIndex}
use Rattle.std.proofs.lemmas.List.{drop_min, take_min}
use lib.Seq.{take_all}
use borrow.Author.Tests.{eq-eqb}
use Rattle.program_memory.specs.BeforeRun.{all_are}

all_of_it : (x n : ℕ) → all_are x (replicate n x) ≡ true
unfolding all_are
all_of_it x zero = refl
all_of_it x (suc n) = rw (eq-eqb x x refl) (all_of_it x n)

pub filled : (x n : ℕ) {l : List ℕ} → l ≡ replicate n x → all_are x l ≡ true
filled x n e = ap (all_are x) e ∙ all_of_it x n

-- what a test by index says of a list
abbrev pub Each : ℕ → List ℕ → Type 0
Each x l = EachIndex l (λ k. IsTrue (eqb (slice_index_or l k x) x))

each_first : (x y : ℕ) (l : List ℕ) → Each x (y ∷ l) → eqb y x ≡ true
each_first x y l h = h 0 (omega arith)

each_other : (x y : ℕ) (l : List ℕ) → Each x (y ∷ l) → Each x l
each_other x y l h = λ k m. h (suc k) (omega arith)

all_each : (x : ℕ) (l : List ℕ) → Each x l → all_are x l ≡ true
unfolding all_are
all_each x [] h = refl
all_each x (y ∷ l) h = rw (each_first x y l h) (all_each x l (each_other x y l h))

and_true : (a b : Bool) → (a && b) ≡ true → (a ≡ true) × (b ≡ true)
and_true true b e = (refl, e)
and_true false b e = cc

each_more : (x y : ℕ) (l : List ℕ) → eqb y x ≡ true → Each x l → (k : ℕ) → k < length (y ∷ l) → eqb (slice_index_or (y ∷ l) k x) x ≡ true
each_more x y l e h zero m = e
each_more x y l e h (suc k) m = h k (omega arith)

each_all : (x : ℕ) (l : List ℕ) → all_are x l ≡ true → Each x l
unfolding all_are
each_all x [] h = λ k m. absurd (omega arith)
each_all x (y ∷ l) h = let parts = and_true (eqb y x) (all_are x l) h in each_more x y l parts.0 (each_all x l parts.1)

same_truth : (a b : Bool) → (a ≡ true → b ≡ true) → (b ≡ true → a ≡ true) → a ≡ b
same_truth true b f g = sym (f refl)
same_truth false true f g = g refl
same_truth false false f g = refl

said : {r : Bool} (x : ℕ) (l : List ℕ) → IsTrue r ↔ Each x l → r ≡ all_are x l
said {r} x l s = same_truth r (all_are x l) (λ t. all_each x l (s.0 t)) (λ t. s.1 (each_all x l t))

-- the two parts, which a count cut to the length bounds
pub below : {r : Bool} (x n : ℕ) {m : ℕ} (l : List ℕ) → m ≡ min n (length l) → IsTrue r ↔ Each x (take m l) → r ≡ all_are x (take n l)
below x n {m} l e s = said x (take m l) s ∙ ap (λ k. all_are x (take k l)) e ∙ ap (all_are x) (take_min n l)

pub above : {r : Bool} (x n : ℕ) {m : ℕ} (l : List ℕ) → m ≡ min n (length l) → IsTrue r ↔ Each x (take (length l - m) (drop m l)) → r ≡ all_are x (drop n l)
above x n {m} l e s =
    said x (take (length l - m) (drop m l)) s
    ∙ ap (all_are x) (take_all (length l - m) (drop m l) (omega (arith, length-drop m l)) ∙ ap (λ k. drop k l) e ∙ drop_min n l)

-- two tests, the second only where the first says yes
pub both : {r s a b : Bool} → r ≡ a → r ≡ true → s ≡ b → s ≡ (a && b)
both {b = b} e t f = f ∙ ap (λ x. x && b) (sym t ∙ e)

pub first_not : {r a : Bool} (b : Bool) → r ≡ a → r ≡ false → r ≡ (a && b)
first_not b e t = t ∙ ap (λ x. x && b) (sym t ∙ e)
