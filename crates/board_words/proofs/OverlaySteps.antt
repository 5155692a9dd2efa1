-- Words laid over those that are lent; a cell by itself. Assumes nothing.
use Prim.Native.Nat.{ℕ, ◌≤◌, ◌<◌}
use mathlib.Core.Path.{◌≡◌, refl, ap}
use mathlib.Core.List.{List, [], ◌∷◌}
use lib.ListN.{length}
use borrow.Author.Tests.{lt-ltb, le-ltb}
use Rattle.rooms.specs.declared.value.Value.{Value}
use Rattle.rooms.specs.Cells.{head_of, payload_of, cell_of, cell_in, written_in}
use Rattle.board_words.specs.Overlay.{over, no_room, handed}

-- too few words are lent, or as many as there are or more
pub too_few : (number : ℕ) (w l : List ℕ) → length l < length w → ◌≡◌ {A = ℕ × List ℕ} (no_room, l) (handed number w l)
too_few number w l h = rw (lt-ltb (length l) (length w) h) refl

pub enough : (number : ℕ) (w l m : List ℕ) → length w ≤ length l → m ≡ over w l → ◌≡◌ {A = ℕ × List ℕ} (number, m) (handed number w l)
enough number w l m h e = rw (le-ltb (length l) (length w) h) (ap (λ (x : List ℕ). (number, x)) e)

-- a cell that is lent by itself
pub cell_alone : (h p : ℕ) → cell_in (h ∷ p ∷ []) 0 ≡ cell_of h p
unfolding cell_in
cell_alone h p = refl

pub written_alone : (v : Value) (a b : ℕ) → written_in (a ∷ b ∷ []) 0 v ≡ head_of v ∷ payload_of v ∷ []
unfolding written_in
written_alone v a b = refl
