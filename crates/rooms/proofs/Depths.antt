-- How deep the parts of a value are, and that a value of the code carries the nesting of what it stands for. Assumes nothing.
use Prim.Native.Nat.{ℕ, suc, ◌<◌}
use mathlib.Core.Path.{◌≡◌, refl, ap, ◌∙◌}
use native.Mathlib.Omega.{arith}
use Rattle.numbers.specs.declared.double.Double.{Double}
use Rattle.numbers.specs.declared.double.Double.TheVariants as Bits
use Rattle.meaning.specs.Value as Meaning
use Rattle.meaning.specs.Value.{null, bool, int, uint, double, string, bytes, scalar, list, map, optional_none, optional_of, cons, entry, nesting, nesting_in, nesting_over}
use Rattle.rooms.specs.declared.value.Value.{Value}
use Rattle.rooms.specs.Value.{nesting_of, double_value}
use Rattle.rooms.specs.Rooms.{Rooms}
use Rattle.rooms.specs.Stands.{Alive, StandsScalar, Stands}

pub deeper-list : (vs : Meaning.Values) (n : ℕ) → nesting (list vs) < suc n → nesting_in vs < n
unfolding nesting
deeper-list vs n d = omega arith

pub deeper-map : (es : Meaning.Entries) (n : ℕ) → nesting (map es) < suc n → nesting_over es < n
unfolding nesting
deeper-map es n d = omega arith

pub deeper-part : (v : Meaning.Value) (n : ℕ) → nesting (optional_of v) < suc n → nesting v < n
unfolding nesting
deeper-part v n d = omega arith

pub first-less : (v : Meaning.Value) (vs : Meaning.Values) (n : ℕ) → nesting_in (cons v vs) < n → nesting v < n
unfolding nesting
first-less v vs n d = omega arith

pub others-less : (v : Meaning.Value) (vs : Meaning.Values) (n : ℕ) → nesting_in (cons v vs) < n → nesting_in vs < n
unfolding nesting
others-less v vs n d = omega arith

pub first-value : (key : Meaning.Key) (v : Meaning.Value) (es : Meaning.Entries) (n : ℕ) → nesting_over (entry key v es) < n → nesting v < n
unfolding nesting
first-value key v es n d = omega arith

pub other-values : (key : Meaning.Key) (v : Meaning.Value) (es : Meaning.Entries) (n : ℕ) → nesting_over (entry key v es) < n → nesting_over es < n
unfolding nesting
other-values key v es n d = omega arith

module _ (L : Alive) (r : Rooms) where
  scalar-flat : (x : Meaning.Scalar) (m : Value) → StandsScalar x L r m → nesting_of m ≡ 0
  unfolding StandsScalar
  scalar-flat null m h = ap nesting_of h
  scalar-flat (bool b) m h = ap nesting_of h
  scalar-flat (int z) m h = ap nesting_of h
  scalar-flat (uint n) m h = ap nesting_of h
  scalar-flat (double d) m h = ap nesting_of h.1 ∙ flat h.0
    where
      flat : (x : Double) → nesting_of (double_value x) ≡ 0
      flat (Bits.Plain x) = refl
      flat (Bits.Nan b) = refl
  scalar-flat (string s) m h = ap nesting_of h.2
  scalar-flat (bytes s) m h = ap nesting_of h.2

  -- the nesting that a value carries is its own
  pub stands-nesting : (v : Meaning.Value) (m : Value) → Stands v L r m → nesting_of m ≡ nesting v
  unfolding Stands nesting
  stands-nesting (scalar x) m h = scalar-flat x m h
  stands-nesting (list vs) m h = ap nesting_of h.2
  stands-nesting (map es) m h = ap nesting_of h.2
  stands-nesting optional_none m h = ap nesting_of h
  stands-nesting (optional_of v) m h = ap nesting_of h.2
