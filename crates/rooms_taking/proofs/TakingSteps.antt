-- The turns of the loops that take, clear and copy, over plain variables. Assumes nothing.
use Prim.Native.Nat.{ℕ, zero, suc, ◌+◌, ◌-◌, ◌*◌, ◌/◌, ◌≤◌, ◌<◌, min}
use mathlib.Core.Path.{◌≡◌, refl, sym, ap, ◌∙◌}
use mathlib.Core.List.{List, [], ◌∷◌}
use native.Mathlib.Omega.{arith}
use native.Mathlib.Numerals.{add-one}
use lib.ListN.{length, get_or, set}
use borrow.Author.Tests.{le-leb, lt-leb, leb-true, leb-false}
use Rattle.rooms.specs.declared.value.CellSpace.{CellSpace}
use Rattle.rooms.specs.declared.value.TextSpace.{TextSpace}
use Rattle.rooms.specs.Cells.{cell_in, written_in}
use Rattle.rooms.specs.Rooms.{words_of, text_of}
use Rattle.rooms_taking.specs.Taking.{cell_room, taken_of, zeroed, cells_taken, cells_cleared, bytes_cleared, copied, pasted}
use Rattle.std.specs.Prelude.{Option, None, Some, leb, cond}
use mathlib.Core.Bool.{Bool, true, false}

one_more : (n : ℕ) → 0 < n → n ≡ suc (n - 1)
one_more n h = omega arith

no_more : (n : ℕ) → n ≤ 0 → n ≡ 0
no_more n h = omega arith

pub taken-over : (room used count : ℕ) → room < used → None ≡ taken_of room used count
unfolding taken_of
taken-over room used count h = rw (lt-leb (used + count) room (omega arith)) refl

pub taken-full : (room used count : ℕ) → used ≤ room → room - used < count → None ≡ taken_of room used count
unfolding taken_of
taken-full room used count h l = rw (lt-leb (used + count) room (omega arith)) refl

pub taken-to : (room used count : ℕ) → used ≤ room → count ≤ room - used → Some (used + count) ≡ taken_of room used count
unfolding taken_of
taken-to room used count h l = rw (le-leb (used + count) room (omega arith)) refl

-- what was taken fits the room
pub taken-in : (room used count t : ℕ) → taken_of room used count ≡ Some t → (t ≡ used + count) × (used + count ≤ room)
unfolding taken_of
taken-in room used count t e = go (leb (used + count) room) refl e
  where
    go : (b : Bool) → leb (used + count) room ≡ b → ◌≡◌ {A = Option ℕ} (cond b (Some (used + count)) None) (Some t) → (t ≡ used + count) × (used + count ≤ room)
    go true l f = (cc, leb-true (used + count) room l)
    go false l f = absurd (cc)

pub taken-none : (room used count : ℕ) → taken_of room used count ≡ None → room < used + count
unfolding taken_of
taken-none room used count e = go (leb (used + count) room) refl e
  where
    go : (b : Bool) → leb (used + count) room ≡ b → ◌≡◌ {A = Option ℕ} (cond b (Some (used + count)) None) None → room < used + count
    go true l f = absurd (cc)
    go false l f = leb-false (used + count) room l

pub cells-kept : (w : List ℕ) (used count : ℕ) → cell_room w < used + count → w ≡ cells_taken w used count
unfolding cells_taken
cells-kept w used count h = rw (lt-leb (used + count) (cell_room w) h) refl

pub cells-taken : (w : List ℕ) (used count : ℕ) → used + count ≤ cell_room w → zeroed w (used * 2) (count * 2) ≡ cells_taken w used count
unfolding cells_taken
cells-taken w used count h = rw (le-leb (used + count) (cell_room w) h) refl

pub cells-cleared : (w : List ℕ) (used n : ℕ) → n ≡ min used (length w / 2) * 2 → zeroed w 0 n ≡ cells_cleared w used
unfolding cells_cleared
cells-cleared w used n e = ap (zeroed w 0) e

pub bytes-cleared : (t : List ℕ) (used n : ℕ) → n ≡ min used (length t) → zeroed t 0 n ≡ bytes_cleared t used
unfolding bytes_cleared
bytes-cleared t used n e = ap (zeroed t 0) e

pub copy-on : (b : List ℕ) (space : CellSpace) (w u : List ℕ) (a to n : ℕ) → 0 < n → u ≡ written_in w to (cell_in (words_of b w space) a) → copied b space u (a + 1) (to + 1) (n - 1) ≡ copied b space w a to n
unfolding copied
copy-on b space w u a to n h e = (λ i. copied b space (e i) (add-one a i) (add-one to i) (n - 1)) ∙ ap (λ m. copied b space w a to m) (sym (one_more n h))

pub copy-none : (b : List ℕ) (space : CellSpace) (w : List ℕ) (a to n : ℕ) → n ≤ 0 → w ≡ copied b space w a to n
unfolding copied
copy-none b space w a to n h = ap (λ m. copied b space w a to m) (sym (no_more n h))

pub paste-on : (l b : List ℕ) (space : TextSpace) (t u : List ℕ) (a to n : ℕ) → 0 < n → u ≡ set t to (get_or (text_of l b t space) a 0) → pasted l b space u (a + 1) (to + 1) (n - 1) ≡ pasted l b space t a to n
unfolding pasted
paste-on l b space t u a to n h e = (λ i. pasted l b space (e i) (add-one a i) (add-one to i) (n - 1)) ∙ ap (λ m. pasted l b space t a to m) (sym (one_more n h))

pub paste_none : (l b : List ℕ) (space : TextSpace) (t : List ℕ) (a to n : ℕ) → n ≤ 0 → t ≡ pasted l b space t a to n
unfolding pasted
paste_none l b space t a to n h = ap (λ m. pasted l b space t a to m) (sym (no_more n h))

-- past its end a list reads as 0
pub beyond : (t : List ℕ) (i : ℕ) → length t ≤ i → get_or t i 0 ≡ 0
beyond [] i h = refl
beyond (x ∷ t) zero h = absurd (omega arith)
beyond (x ∷ t) (suc i) h = beyond t i (omega arith)
