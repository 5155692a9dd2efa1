-- What the machine sees of a value is what the definition sees of what it stands for. Assumes nothing.
use Prim.Native.Nat.{ℕ}
use mathlib.Core.Path.{◌≡◌, refl, ap, ◌∙◌}
use mathlib.Core.List.{List}
use Rattle.std.specs.Prelude.{Option, None, Some}
use Rattle.meaning.specs.Options.{bind}
use mathlib.Core.Bool.{Bool, true, false}
use native.Mathlib.Omega.{arith}
use Rattle.numbers.specs.declared.double.Double.{Double}
use Rattle.numbers.specs.declared.double.Double.TheVariants as Bits
use Rattle.meaning.specs.Value as Meaning
use Rattle.meaning.specs.Value.{null, bool, int, uint, double, string, bytes, scalar, list, map, optional_none, optional_of, scalar_of, string_of, string_in, key_in, key_of, key_scalar, nesting}
use Rattle.meaning.specs.Maps.{probe_of, probe_in}
use Rattle.rooms.specs.declared.value.Value.{Value}
use Rattle.rooms.specs.Value.{double_value, is_key}
use Rattle.rooms.specs.Rooms.{Rooms}
use Rattle.rooms.specs.Stands.{Alive, StandsScalar, Stands, Holds}
use Rattle.machine.specs.Views.{bool_in, is_string, not_optional, optional_in}

-- ---- Bools

pub bool_is : (m : Value) (b : Bool) → bool_in m ≡ Some b → m ≡ Value.Bool b
bool_is Value.Null b e = cc
bool_is (Value.Bool x) b e = cc
bool_is (Value.Int z) b e = cc
bool_is (Value.Uint n) b e = cc
bool_is (Value.Double x) b e = cc
bool_is (Value.Nan x) b e = cc
bool_is (Value.String sp) b e = cc
bool_is (Value.Bytes sp) b e = cc
bool_is (Value.List d ro) b e = cc
bool_is (Value.Map d ro) b e = cc
bool_is Value.OptionalNone b e = cc
bool_is (Value.OptionalOf d s a) b e = cc
bool_is Value.Absent b e = cc

-- scalars that lie in no room
pub held-bool : (L : Alive) (r : Rooms) (b : Bool) → Holds (scalar (bool b)) L r (Value.Bool b)
unfolding Stands StandsScalar nesting
held-bool L r b = record { stands = refl; fits = tt; nests = omega arith }

pub held_none : (L : Alive) (r : Rooms) → Holds optional_none L r Value.OptionalNone
unfolding Stands nesting
held_none L r = record { stands = refl; fits = tt; nests = omega arith }

-- ---- values without parts

module _ (L : Alive) (r : Rooms) where
  double-optional : (x : Double) → optional_in (double_value x) ≡ not_optional
  double-optional (Bits.Plain x) = refl
  double-optional (Bits.Nan b) = refl

  pub scalar-optional : (x : Meaning.Scalar) (m : Value) → StandsScalar x L r m → optional_in m ≡ not_optional
  unfolding StandsScalar
  scalar-optional null m h = ap optional_in h
  scalar-optional (bool b) m h = ap optional_in h
  scalar-optional (int z) m h = ap optional_in h
  scalar-optional (uint n) m h = ap optional_in h
  scalar-optional (double d) m h = ap optional_in h.1 ∙ double-optional h.0
  scalar-optional (string s) m h = ap optional_in h.2
  scalar-optional (bytes s) m h = ap optional_in h.2

  -- ---- keys

  double-key : (x : Double) → is_key (double_value x) ≡ false
  double-key (Bits.Plain x) = refl
  double-key (Bits.Nan b) = refl

  -- what may be looked up, or not
  abbrev pub Probe : Option Meaning.Scalar → Value → Type 0
  Probe None m = is_key m ≡ false
  Probe (Some x) m = (is_key m ≡ true) × StandsScalar x L r m

  pub probe-view : (w : Meaning.Value) (m : Value) → Stands w L r m → Probe (probe_of w) m
  unfolding Stands StandsScalar probe_of scalar_of probe_in bind
  probe-view (scalar null) m h = ap is_key h
  probe-view (scalar (bool b)) m h = (ap is_key h, h)
  probe-view (scalar (int z)) m h = (ap is_key h, h)
  probe-view (scalar (uint n)) m h = (ap is_key h, h)
  probe-view (scalar (double d)) m h = ap is_key h.1 ∙ double-key h.0
  probe-view (scalar (string s)) m h = (ap is_key h.2, h)
  probe-view (scalar (bytes s)) m h = ap is_key h.2
  probe-view (list vs) m h = ap is_key h.2
  probe-view (map es) m h = ap is_key h.2
  probe-view optional_none m h = ap is_key h
  probe-view (optional_of v) m h = ap is_key h.2

  abbrev pub KeyView : Option Meaning.Key → Value → Type 0
  KeyView None m = is_key m ≡ false
  KeyView (Some k) m = (is_key m ≡ true) × StandsScalar (key_scalar k) L r m

  pub key-view : (w : Meaning.Value) (m : Value) → Stands w L r m → KeyView (key_of w) m
  unfolding Stands StandsScalar key_of scalar_of key_in key_scalar bind
  key-view (scalar null) m h = ap is_key h
  key-view (scalar (bool b)) m h = (ap is_key h, h)
  key-view (scalar (int z)) m h = (ap is_key h, h)
  key-view (scalar (uint n)) m h = (ap is_key h, h)
  key-view (scalar (double d)) m h = ap is_key h.1 ∙ double-key h.0
  key-view (scalar (string s)) m h = (ap is_key h.2, h)
  key-view (scalar (bytes s)) m h = ap is_key h.2
  key-view (list vs) m h = ap is_key h.2
  key-view (map es) m h = ap is_key h.2
  key-view optional_none m h = ap is_key h
  key-view (optional_of v) m h = ap is_key h.2

  -- ---- Strings

  double-string : (x : Double) → is_string (double_value x) ≡ false
  double-string (Bits.Plain x) = refl
  double-string (Bits.Nan b) = refl

  abbrev pub StringView : Option (List ℕ) → Value → Type 0
  StringView None m = is_string m ≡ false
  StringView (Some s) m = (is_string m ≡ true) × Stands (scalar (string s)) L r m

  pub string-view : (w : Meaning.Value) (m : Value) → Stands w L r m → StringView (string_of w) m
  unfolding Stands StandsScalar string_of scalar_of string_in bind
  string-view (scalar null) m h = ap is_string h
  string-view (scalar (bool b)) m h = ap is_string h
  string-view (scalar (int z)) m h = ap is_string h
  string-view (scalar (uint n)) m h = ap is_string h
  string-view (scalar (double d)) m h = ap is_string h.1 ∙ double-string h.0
  string-view (scalar (string s)) m h = (ap is_string h.2, h)
  string-view (scalar (bytes s)) m h = ap is_string h.2
  string-view (list vs) m h = ap is_string h.2
  string-view (map es) m h = ap is_string h.2
  string-view optional_none m h = ap is_string h
  string-view (optional_of v) m h = ap is_string h.2
