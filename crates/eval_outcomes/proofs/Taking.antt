-- Room that was taken: how much there is. Assumes nothing.
use Prim.Native.Nat.{ℕ, ◌+◌, ◌≤◌}
use mathlib.Core.Path.{◌≡◌, refl}
use mathlib.Core.Bool.{Bool, true, false, cond}
use mathlib.Core.List.{List}
use native.Mathlib.Omega.{arith}
use lib.Dec.{leb}
use borrow.Author.Tests.{leb-true}
use Rattle.rooms_taking.specs.Taking.{cell_room, text_room, taken_of}
use Rattle.std.specs.Prelude.{None, Some}

by-test : (b : Bool) (m e : ℕ) → Some e ≡ cond b (Some m) None → b ≡ true
by-test true m e h = refl
by-test false m e h = let z : ◌≡◌ {A = ℕ} 0 1 = cc in absurd (omega arith)

pub taken-within : (room used n e : ℕ) → Some e ≡ taken_of room used n → used + n ≤ room
unfolding taken_of
taken-within room used n e h = leb-true (used + n) room (by-test (leb (used + n) room) (used + n) e h)

-- there are at most 4,096 cells, and 16,384 bytes of text
pub cells-within : (w : List ℕ) (used n e : ℕ) → Some e ≡ taken_of (cell_room w) used n → used + n ≤ 4096
cells-within w used n e h = omega (arith, taken-within (cell_room w) used n e h)

pub text-within : (t : List ℕ) (used n e : ℕ) → Some e ≡ taken_of (text_room t) used n → used + n ≤ 16384
text-within t used n e h = omega (arith, taken-within (text_room t) used n e h)
