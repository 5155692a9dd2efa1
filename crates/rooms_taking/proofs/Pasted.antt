-- Text that was copied spells the same bytes as the text that it was copied from. Assumes nothing.
use Prim.Native.Nat.{ℕ, zero, suc, ◌+◌, ◌≤◌, ◌<◌}
use mathlib.Core.Path.{◌≡◌, refl, sym, ap, ap₂, ◌∙◌, subst}
use mathlib.Core.List.{List, [], ◌∷◌, ◌++◌}
use native.Mathlib.Omega.{arith}
use lib.ListN.{length, get_or, set, take, drop, length-set, length-append, length-take, length-drop}
use lib.Seq.{get_or-set_same, take-set-le, get_or-take, take-add, drop-drop}
use Rattle.rooms.specs.declared.value.TextSpace.{TextSpace}
use Rattle.rooms.specs.declared.value.TextSpace.TheVariants as Text
use Rattle.rooms.specs.Rooms.{Rooms, cell_at, text_of, part, with_text}
use Rattle.rooms_taking.specs.Taking.{pasted}
use Rattle.rooms.specs.Stands.{Alive, Within, TextAt, Agrees}
use Rattle.rooms.proofs.Frame.{part_same, part-first}

-- the bytes up to `end` of a space are none of those from `to` on that are written
abbrev pub Ahead : TextSpace → (end to : ℕ) → Type 0
Ahead Text.Literal end to = Unit {0}
Ahead Text.Binding end to = Unit {0}
Ahead Text.Evaluation end to = end ≤ to

ahead-on : (s : TextSpace) (end to : ℕ) → Ahead s end to → Ahead s end (suc to)
ahead-on Text.Literal end to h = tt
ahead-on Text.Binding end to h = tt
ahead-on Text.Evaluation end to h = omega arith

ahead-same : (l b t : List ℕ) (s : TextSpace) (a n to x : ℕ) → Ahead s (a + n) to → part (text_of l b (set t to x) s) a n ≡ part (text_of l b t s) a n
ahead-same l b t Text.Literal a n to x h = refl
ahead-same l b t Text.Binding a n to x h = refl
ahead-same l b t Text.Evaluation a n to x h = part_same to a n t (set t to x) h (take-set-le to t to x (omega arith))

source-length : (l b t : List ℕ) (s : TextSpace) (to x : ℕ) → length (text_of l b (set t to x) s) ≡ length (text_of l b t s)
source-length l b t Text.Literal to x = refl
source-length l b t Text.Binding to x = refl
source-length l b t Text.Evaluation to x = length-set t to x

pub pasted_below : (l b : List ℕ) (s : TextSpace) (t : List ℕ) (a to n k : ℕ) → k ≤ to → take k (pasted l b s t a to n) ≡ take k t
unfolding pasted
pasted_below l b s t a to zero k h = refl
pasted_below l b s t a to (suc n) k h = pasted_below l b s (set t to (get_or (text_of l b t s) a 0)) (suc a) (suc to) n k (omega arith) ∙ take-set-le k t to (get_or (text_of l b t s) a 0) h

pub pasted_length : (l b : List ℕ) (s : TextSpace) (t : List ℕ) (a to n : ℕ) → length (pasted l b s t a to n) ≡ length t
unfolding pasted
pasted_length l b s t a to zero = refl
pasted_length l b s t a to (suc n) = pasted_length l b s (set t to (get_or (text_of l b t s) a 0)) (suc a) (suc to) n ∙ length-set t to (get_or (text_of l b t s) a 0)

pub pasted-part : (l b : List ℕ) (s : TextSpace) (t : List ℕ) (a to n : ℕ) → to + n ≤ length t → a + n ≤ length (text_of l b t s) → Ahead s (a + n) to → part (pasted l b s t a to n) to n ≡ part (text_of l b t s) a n
unfolding pasted
pasted-part l b s t a to zero f g h = refl
pasted-part l b s t a to (suc n) f g h =
    part-first done to n (omega (arith, pasted_length l b s wrote (suc a) (suc to) n, length-set t to byte))
    ∙ ap₂ (λ x xs. x ∷ xs) first (pasted-part l b s wrote (suc a) (suc to) n (omega (arith, length-set t to byte)) (omega (arith, source-length l b t s to byte)) (ahead-on s (suc a + n) to further) ∙ ahead-same l b t s (suc a) n to byte further)
    ∙ sym (part-first (text_of l b t s) a n (omega arith))
  where
    byte : ℕ
    byte = get_or (text_of l b t s) a 0

    wrote : List ℕ
    wrote = set t to byte

    done : List ℕ
    done = pasted l b s wrote (suc a) (suc to) n

    further : Ahead s (suc a + n) to
    further = subst (λ k. Ahead s k to) (shift a n) h
      where
        shift : (k i : ℕ) → k + suc i ≡ suc k + i
        shift k i = omega arith

    first : get_or done to 0 ≡ byte
    first =
        sym (get_or-take (suc to) done to 0 (omega arith))
        ∙ ap (λ k. get_or k to 0) (pasted_below l b s wrote (suc a) (suc to) n (suc to) (omega arith))
        ∙ get_or-take (suc to) wrote to 0 (omega arith)
        ∙ get_or-set_same t to byte 0 (omega arith)

-- a text that is spelled lies within its space
spelled-within : (t s : List ℕ) (a : ℕ) → 0 < length s → part t a (length s) ≡ s → a + length s ≤ length t
spelled-within t s a h e = omega (arith, ap length e, length-take (length s) (drop a t), length-drop a t, h)

-- Two texts, one behind the other, are their joined text.
pub text-joined : (L : Alive) (r : Rooms) (x y : List ℕ) (s : TextSpace) (a : ℕ) → TextAt x L r s a → TextAt y L r s (a + length x) → TextAt (x ++ y) L r s a
text-joined L r x y s a h g = record { within = subst (λ n. Within L s n) (further a (length x) (length y) ∙ ap (λ n. a + n) (sym (length-append x y))) g.within; spells = ap (part t a) (length-append x y) ∙ take-add (length x) (length y) (drop a t) ∙ ap₂ (λ u v. u ++ v) h.spells (ap (take (length y)) (drop-drop (length x) a t) ∙ g.spells) }
  where
    t : List ℕ
    t = text_of r.literal r.binding_text r.text s

    further : (i j k : ℕ) → i + j + k ≡ i + (j + k)
    further i j k = omega arith

module _ (L : Alive) (r : Rooms) (to : ℕ) (below : L.bytes ≤ to) where
  -- Text copied to behind the text in use leaves every value as it was.
  pub pasted-agrees : (s : TextSpace) (a n : ℕ) → Agrees L L r (with_text r (pasted r.literal r.binding_text s r.text a to n))
  unfolding cell_at
  pasted-agrees s a n = record { sub = λ space i l. l; same = λ space i l. refl; longer = omega arith; texts = pasted_below r.literal r.binding_text s r.text a to n L.bytes below; literals = refl; binding_texts = refl }

  ahead : (s : TextSpace) (end : ℕ) → Within L s end → Ahead s end to
  ahead Text.Literal end h = tt
  ahead Text.Binding end h = tt
  ahead Text.Evaluation end h = omega (arith, h, below)

  -- The copy spells what was copied, for any M that has its bytes.
  pub pasted-text : (M : Alive) (x : List ℕ) (s : TextSpace) (a : ℕ) → to + length x ≤ length r.text → to + length x ≤ M.bytes → TextAt x L r s a → TextAt x M (with_text r (pasted r.literal r.binding_text s r.text a to (length x))) Text.Evaluation to
  pasted-text M [] s a f g h = record { within = g; spells = refl }
  pasted-text M (y ∷ x) s a f g h = record { within = g; spells = pasted-part r.literal r.binding_text s r.text a to (length (y ∷ x)) f (spelled-within (text_of r.literal r.binding_text r.text s) (y ∷ x) a (omega arith) h.spells) (ahead s (a + length (y ∷ x)) h.within) ∙ h.spells }
