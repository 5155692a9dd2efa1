-- An index that falls on an element. Assumes nothing.
use Prim.Native.Nat.{ℕ, ◌<◌}
use mathlib.Core.Path.{◌≡◌, refl}
use mathlib.Core.Bool.{Bool, true, false, cond}
use native.Mathlib.Omega.{arith}
use lib.Dec.{ltb}
use lib.IntN.{ℤ, pos, negsuc}
use borrow.Author.Tests.{ltb-true}
use Rattle.rooms.specs.declared.value.Value.{Value}
use Rattle.rooms_text.specs.declared.sizes.Position.TheVariants as Position
use Rattle.rooms_text.specs.Sizes.{position_of, inside, inside_int}

by-test : (b : Bool) (i k : ℕ) → Position.At k ≡ cond b (Position.At i) Position.Outside → (b ≡ true) × (k ≡ i)
by-test true i k h = (refl, cc)
by-test false i k h = let z : ◌≡◌ {A = ℕ} 0 1 = cc in absurd (omega arith)

inside-length : (i n k : ℕ) → Position.At k ≡ inside i n → k < n
inside-length i n k h = let e = by-test (ltb i n) i k h in omega (arith, ltb-true i n e.0, e.1)

int-length : (z : ℤ) (n k : ℕ) → Position.At k ≡ inside_int z n → k < n
int-length (pos i) n k h = inside-length i n k h
int-length (negsuc i) n k h = let z : ◌≡◌ {A = ℕ} 0 1 = cc in absurd (omega arith)

pub position-length : (v : Value) (n k : ℕ) → Position.At k ≡ position_of v n → k < n
position-length Value.Null n k h = let z : ◌≡◌ {A = ℕ} 0 1 = cc in absurd (omega arith)
position-length (Value.Bool b) n k h = let z : ◌≡◌ {A = ℕ} 0 1 = cc in absurd (omega arith)
position-length (Value.Int z) n k h = int-length z n k h
position-length (Value.Uint i) n k h = inside-length i n k h
position-length (Value.Double x) n k h = let z : ◌≡◌ {A = ℕ} 0 1 = cc in absurd (omega arith)
position-length (Value.Nan b) n k h = let z : ◌≡◌ {A = ℕ} 0 1 = cc in absurd (omega arith)
position-length (Value.String sp) n k h = let z : ◌≡◌ {A = ℕ} 0 1 = cc in absurd (omega arith)
position-length (Value.Bytes sp) n k h = let z : ◌≡◌ {A = ℕ} 0 1 = cc in absurd (omega arith)
position-length (Value.List d ro) n k h = let z : ◌≡◌ {A = ℕ} 0 1 = cc in absurd (omega arith)
position-length (Value.Map d ro) n k h = let z : ◌≡◌ {A = ℕ} 0 1 = cc in absurd (omega arith)
position-length Value.OptionalNone n k h = let z : ◌≡◌ {A = ℕ} 0 1 = cc in absurd (omega arith)
position-length (Value.OptionalOf d s a) n k h = let z : ◌≡◌ {A = ℕ} 0 1 = cc in absurd (omega arith)
position-length Value.Absent n k h = let z : ◌≡◌ {A = ℕ} 0 1 = cc in absurd (omega arith)
