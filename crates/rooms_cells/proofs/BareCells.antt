-- A head below the first kind that has fields is a kind alone. Assumes nothing.
use Prim.Native.Nat.{ℕ, ◌<◌, ◌%◌}
use mathlib.Core.Path.{◌≡◌, refl}
use native.Mathlib.Omega.{arith}
use borrow.Author.Tests.{eq-eqb, ne_eqb}
use Rattle.rooms.specs.Cells.{cell_of, value_of, bare_of}

pub bare-first : (h x : ℕ) → h < 5 → bare_of h x ≡ cell_of h x
unfolding cell_of value_of
bare-first h x l =
    let e : h % 256 ≡ h = omega arith in
    rw (e, ne_eqb h 5 (omega arith), ne_eqb h 6 (omega arith), ne_eqb h 12 (omega arith), ne_eqb h 13 (omega arith), ne_eqb h 15 (omega arith), eq-eqb h h refl)
