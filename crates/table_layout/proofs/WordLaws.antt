-- Words, single bytes and numbers of 8 bytes, byte by byte. Assumes nothing.
use mathlib.Core.Path.{◌≡◌}
use mathlib.Core.List.{List}
use Prim.Native.Nat.{ℕ, ◌+◌, ◌*◌, ◌^◌}
use native.Mathlib.Numerals.{add-one, add-two, add-three, add-four, add_five, add_six, add_seven}
use native.Mathlib.Omega.{arith}
use lib.ListN.{get_or}
use Rattle.meaning.specs.Heads.{little_endian}
use Rattle.meaning.specs.Table.{word_bytes}
use Rattle.table_layout.specs.Layout.{word_at, long_at}

pub word_is : (t : List ℕ) (p : ℕ) → word_at t p ≡ get_or t p 0 + 256 * get_or t (p + 1) 0
unfolding word_at little_endian
word_is t p = rw (add-one p) (omega arith)

pub byte_is : (t : List ℕ) (p : ℕ) → little_endian word_bytes t 1 p ≡ get_or t p 0
unfolding little_endian
byte_is t p = omega arith

pub long_is : (t : List ℕ) (i : ℕ) → long_at t i ≡ get_or t i 0 + 256 * get_or t (i + 1) 0 + 256 ^ 2 * get_or t (i + 2) 0 + 256 ^ 3 * get_or t (i + 3) 0
    + 256 ^ 4 * get_or t (i + 4) 0 + 256 ^ 5 * get_or t (i + 5) 0 + 256 ^ 6 * get_or t (i + 6) 0 + 256 ^ 7 * get_or t (i + 7) 0
unfolding little_endian
long_is t i = rw (add-one i, add-two i, add-three i, add-four i, add_five i, add_six i, add_seven i) (omega arith)
