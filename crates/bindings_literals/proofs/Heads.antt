-- From a record's place to its first operand, by the kind byte. Assumes nothing.
use Prim.Native.Nat.{ℕ, suc, ◌+◌, ◌*◌}
use mathlib.Core.Path.{◌≡◌, refl}
use mathlib.Core.List.{List}
use native.Mathlib.Omega.{arith}
use lib.ListN.{get_or}
use Rattle.meaning.specs.Kinds.{kinds}
use Rattle.meaning.specs.Heads.{field_bytes, fields_bytes, little_endian}
use Rattle.table_layout.specs.Layout.{row_of, head_bytes, word_at}

pub bool-head : head_bytes 1 ≡ 4
unfolding head_bytes row_of kinds fields_bytes field_bytes
bool-head = refl

pub int-head : head_bytes 2 ≡ 11
unfolding head_bytes row_of kinds fields_bytes field_bytes
int-head = refl

pub uint-head : head_bytes 3 ≡ 11
unfolding head_bytes row_of kinds fields_bytes field_bytes
uint-head = refl

pub double-head : head_bytes 4 ≡ 11
unfolding head_bytes row_of kinds fields_bytes field_bytes
double-head = refl

pub string-head : head_bytes 5 ≡ 7
unfolding head_bytes row_of kinds fields_bytes field_bytes
string-head = refl

pub bytes-head : head_bytes 6 ≡ 7
unfolding head_bytes row_of kinds fields_bytes field_bytes
bytes-head = refl

pub list-head : head_bytes 12 ≡ 5
unfolding head_bytes row_of kinds fields_bytes field_bytes
list-head = refl

pub map-head : head_bytes 13 ≡ 5
unfolding head_bytes row_of kinds fields_bytes field_bytes
map-head = refl

-- a word is its two bytes
pub word-is : (t : List ℕ) (p : ℕ) → word_at t p ≡ get_or t p 0 + 256 * get_or t (suc p) 0
unfolding word_at little_endian
word-is t p = omega arith
