-- The steps through a text: what a block's bytes joined say, and what is left behind a block and behind a sequence.
use Rattle.std.proofs.Common.{◌≡◌, refl, sym, ◌∙◌, Bool, true, false, ◌&&◌, ℕ, ◌+◌, ◌-◌, ◌<◌, ◌≤◌, ltb, List, [], ◌∷◌, ◌++◌, length, take, drop, length-drop, length-take, take-suc, take_all, add-zero, fold, None, Some, arith, add-one, get_or, take-append-drop}
use Rattle.std.specs.Int.Bits.{bit_or}
use Rattle.std.specs.List.{list_all}
use Rattle.std.proofs.lemmas.Nat.{or_lt}
use lib.Bits.{or_add_and, and_le_l, and_le_r}
use mathlib.Core.Bool.{and-eq-true_iff}
use borrow.Author.Tests.{lt-ltb, le-ltb, ltb-true, ltb-false}
use Rattle.text.specs.Utf8.{◌to◌, inside, well_formed, code_points}
use Rattle.text.specs.Passing.{is_ascii, Passes}
use Rattle.text.specs.Sequence.{sequence_of}
use Rattle.text.proofs.SequenceLaws.{by-test, within, positive, sequence-some, sequence-none}
use Rattle.text.proofs.Utf8Laws.{ascii-well-formed, empty-well-formed, append-code-points, code-points-length}

-- ---- a block
or-ascii : (a b : ℕ) → is_ascii (bit_or a b) ≡ (is_ascii a && is_ascii b)
or-ascii a b =
    let e = or_add_and a b in
    let f = and_le_l a b in
    let g = and_le_r a b in
    by-test (ltb a 0x80)
    (λ s. by-test (ltb b 0x80)
    (λ t. rw (s, t) (lt-ltb (bit_or a b) 0x80 (or_lt 7 a b (ltb-true a 0x80 s) (ltb-true b 0x80 t))))
    (λ t. let k = ltb-false b 0x80 t in rw (s, t) (le-ltb (bit_or a b) 0x80 (omega (arith, e, f)))))
    (λ s. let k = ltb-false a 0x80 s in rw s (le-ltb (bit_or a b) 0x80 (omega (arith, e, g))))

pub joined-ascii : (seen : ℕ) (bytes : List ℕ) → is_ascii (fold bit_or seen bytes) ≡ (is_ascii seen && list_all is_ascii bytes)
joined-ascii seen [] = ends (is_ascii seen)
  where
    ends : (t : Bool) → t ≡ (t && true)
    ends true = refl
    ends false = refl
joined-ascii seen (byte ∷ bytes) = joined-ascii (bit_or seen byte) bytes ∙ (rw (or-ascii seen byte) (grouped (is_ascii seen) (is_ascii byte) (list_all is_ascii bytes)))
  where
    grouped : (s t u : Bool) → ((s && t) && u) ≡ (s && (t && u))
    grouped true t u = refl
    grouped false t u = refl

ascii-passes : (bytes rest : List ℕ) → list_all is_ascii bytes ≡ true → well_formed (bytes ++ rest) ≡ well_formed rest
ascii-passes [] rest e = refl
ascii-passes (byte ∷ bytes) rest e =
    let a = (and-eq-true_iff (is_ascii byte) (list_all is_ascii bytes)).0 e in
    ascii-well-formed byte (bytes ++ rest) (ltb-true byte 0x80 a.0) ∙ ascii-passes bytes rest a.1

-- ---- what is left
pub passes_block : (text rest : List ℕ) (n : ℕ) → Passes text rest → list_all is_ascii (take n rest) ≡ true → Passes text (drop n rest)
passes_block text rest n a e = record {
  within = let l = length-drop n rest in omega (arith, l, a.within);
  formed = sym (ascii-passes (take n rest) (drop n rest) e) ∙ (rw (take-append-drop n rest) a.formed);
}

pub passes_sequence : (text rest : List ℕ) (n m : ℕ) → Passes text rest → sequence_of rest ≡ Some n → m ≡ length rest - n → Passes text (take m (drop n rest))
passes_sequence text rest n m a e h =
    let l = length-drop n rest in
    rw (take_all m (drop n rest) (omega arith)) (record { within = omega (arith, l, a.within); formed = (sequence-some rest n e).formed ∙ a.formed })

pub passes_nowhere : (text rest : List ℕ) → Passes text rest → 0 < length rest → sequence_of rest ≡ None → well_formed text ≡ false
passes_nowhere text rest a h e = sym a.formed ∙ sequence-none rest h e

pub empty_formed : (text : List ℕ) → length text ≡ 0 → well_formed text ≡ true
empty_formed [] h = empty-well-formed
empty_formed (byte ∷ bytes) h = absurd (omega (arith, h))

pub ruleset sequence_steps = (within, positive, passes_sequence, passes_nowhere)

-- ---- the count
module _ (bytes : List ℕ) (i : ℕ) where
  pub few : code_points (take i bytes) ≤ i
  few = let l = code-points-length (take i bytes) in let k = length-take i bytes in omega (arith, l, k)

  pub more-first : i < length bytes → inside (0x80 to 0xBF) (get_or bytes i 0) ≡ false → code_points (take (i + 1) bytes) ≡ code_points (take i bytes) + 1
  unfolding code_points
  more-first h e = rw (add-one i, take-suc bytes i 0 h, append-code-points (take i bytes) (get_or bytes i 0 ∷ []), e) refl

  pub more-continued : i < length bytes → inside (0x80 to 0xBF) (get_or bytes i 0) ≡ true → code_points (take (i + 1) bytes) ≡ code_points (take i bytes)
  unfolding code_points
  more-continued h e = rw (add-one i, take-suc bytes i 0 h, append-code-points (take i bytes) (get_or bytes i 0 ∷ []), e, add-zero)

pub ruleset counting = (few, more-first, more-continued)
