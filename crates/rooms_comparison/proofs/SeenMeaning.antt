-- What is seen of a value without looking into cells, where it stands for a value of the definition. Assumes nothing.
use mathlib.Core.Path.{◌≡◌, refl, ◌∙◌, ap}
use Rattle.numbers.specs.declared.double.Double.{Double}
use Rattle.numbers.specs.declared.double.Double.TheVariants as Bits
use Rattle.numbers.specs.Double.{bits_of}
use Rattle.meaning.specs.Value as Meaning
use Rattle.meaning.specs.Value.{null, bool, int, uint, double, string, bytes, scalar, list, map, optional_none, optional_of, scalar_of, is_none}
use Rattle.meaning.specs.Comparison as Comparison
use Rattle.meaning.specs.Comparison.{scalar_equal, against}
use Rattle.rooms.specs.declared.value.Value.{Value}
use Rattle.rooms.specs.declared.value.Parts.TheVariants as Parts
use Rattle.rooms.specs.Value.{parts_of, double_value}
use Rattle.rooms.specs.Rooms.{Rooms}
use Rattle.rooms.specs.Stands.{Alive, StandsScalar, Stands}
use Rattle.rooms_comparison.specs.Seen.{Seen, seen_scalar, seen_none, seen_other, same_seen, seen_in}

abbrev pub seen_value : Meaning.Value → Seen
seen_value (scalar x) = seen_scalar x
seen_value (list vs) = seen_other
seen_value (map es) = seen_other
seen_value optional_none = seen_none
seen_value (optional_of v) = seen_other

pub scalar-tally : (x : Meaning.Scalar) (w : Meaning.Value) → against (λ y. Comparison.decided (scalar_equal x y)) (scalar_of w) ≡ (0, same_seen (seen_scalar x) (seen_value w))
unfolding against scalar_of
scalar-tally x (scalar y) = refl
scalar-tally x (list vs) = refl
scalar-tally x (map es) = refl
scalar-tally x optional_none = refl
scalar-tally x (optional_of v) = refl

pub none-tally : (w : Meaning.Value) → is_none w ≡ same_seen seen_none (seen_value w)
unfolding is_none
none-tally (scalar y) = refl
none-tally (list vs) = refl
none-tally (map es) = refl
none-tally optional_none = refl
none-tally (optional_of v) = refl

module _ (L : Alive) (r : Rooms) where
  double-seen : (x : Double) → seen_in r (double_value x) ≡ seen_scalar (double (bits_of x))
  unfolding seen_in
  double-seen (Bits.Plain x) = refl
  double-seen (Bits.Nan b) = refl

  double-parts : (x : Double) → parts_of (double_value x) ≡ Parts.Nothing
  double-parts (Bits.Plain x) = refl
  double-parts (Bits.Nan b) = refl

  pub scalar-seen : (x : Meaning.Scalar) (m : Value) → StandsScalar x L r m → seen_in r m ≡ seen_scalar x
  unfolding StandsScalar seen_in
  scalar-seen null m h = ap (seen_in r) h
  scalar-seen (bool b) m h = ap (seen_in r) h
  scalar-seen (int z) m h = ap (seen_in r) h
  scalar-seen (uint n) m h = ap (seen_in r) h
  scalar-seen (double d) m h = ap (seen_in r) h.1 ∙ double-seen h.0 ∙ ap (λ b. seen_scalar (double b)) h.2
  scalar-seen (string s) m h = ap (seen_in r) h.2 ∙ ap (λ t. seen_scalar (string t)) h.3.spells
  scalar-seen (bytes s) m h = ap (seen_in r) h.2 ∙ ap (λ t. seen_scalar (bytes t)) h.3.spells

  pub scalar-parts : (x : Meaning.Scalar) (m : Value) → StandsScalar x L r m → parts_of m ≡ Parts.Nothing
  unfolding StandsScalar
  scalar-parts null m h = ap parts_of h
  scalar-parts (bool b) m h = ap parts_of h
  scalar-parts (int z) m h = ap parts_of h
  scalar-parts (uint n) m h = ap parts_of h
  scalar-parts (double d) m h = ap parts_of h.1 ∙ double-parts h.0
  scalar-parts (string s) m h = ap parts_of h.2
  scalar-parts (bytes s) m h = ap parts_of h.2

  pub seen-stands : (w : Meaning.Value) (m : Value) → Stands w L r m → seen_in r m ≡ seen_value w
  unfolding Stands seen_in
  seen-stands (scalar x) m h = scalar-seen x m h
  seen-stands (list vs) m h = ap (seen_in r) h.2
  seen-stands (map es) m h = ap (seen_in r) h.2
  seen-stands optional_none m h = ap (seen_in r) h
  seen-stands (optional_of v) m h = ap (seen_in r) h.2
