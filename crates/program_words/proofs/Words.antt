-- Words of eight bytes. Assumes nothing.
use Rattle.std.proofs.Common.{◌≡◌, ◌∙◌, refl, ap, ℕ, zero, suc, ◌+◌, ◌-◌, ◌*◌, ◌≤◌, ◌<◌, List, length, get_or, take, drop, w64, arith}
use Rattle.std.specs.Int.{from_be_bytes}
use Rattle.std.specs.Array.{IsFirstChunk}
use Rattle.std.proofs.lemmas.List.{get_or-drop, get_or-take}
use Rattle.program_words.specs.Hexadecimal.{big_endian}

-- w holds what l holds from a place on
shifted : (n v : ℕ) (l w : List ℕ) (at i : ℕ) → ((k : ℕ) → k < i + n → get_or w k 0 ≡ get_or l (at + k) 0) → big_endian v w n i ≡ big_endian v l n (at + i)
unfolding big_endian
shifted zero v l w at i h = refl
shifted (suc n) v l w at i h =
    let next : at + suc i ≡ suc (at + i) = omega arith in
    ap (λ b. big_endian (v * 256 + b) w n (suc i)) (h i (omega arith))
    ∙ shifted n (v * 256 + get_or l (at + i) 0) l w at (suc i) (λ k m. h k (omega arith))
    ∙ ap (big_endian (v * 256 + get_or l (at + i) 0) l n) next

-- the bytes of a chunk, each where it stands in the list
byte_in : (l : List ℕ) (at : ℕ) {w : List ℕ} → at + 8 ≤ length l → IsFirstChunk (take (length l - at) (drop at l)) w 8 → (k : ℕ) → k < 8 → get_or w k 0 ≡ get_or l (at + k) 0
byte_in l at h e k m =
    ap (λ s. get_or s k 0) e.same ∙ get_or-take 8 (take (length l - at) (drop at l)) k 0 m ∙ get_or-take (length l - at) (drop at l) k 0 (omega arith) ∙ get_or-drop at l k 0

here : (w : List ℕ) → from_be_bytes w64 w ≡ big_endian 0 w 8 0
unfolding big_endian
here w = omega arith

pub word_is : (l : List ℕ) (at : ℕ) {w : List ℕ} → at + 8 ≤ length l → IsFirstChunk (take (length l - at) (drop at l)) w 8 → from_be_bytes w64 w ≡ big_endian 0 l 8 at
word_is l at {w} h e = here w ∙ shifted 8 0 l w at 0 (λ k m. byte_in l at h e k m) ∙ ap (big_endian 0 l 8) (omega arith)
