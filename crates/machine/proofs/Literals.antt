-- Literals and names refine what they mean. Rests on Numbers. Assumes nothing.
use Prim.Native.Nat.{ℕ, ◌+◌}
use mathlib.Core.Path.{◌≡◌, refl, sym, ap, ◌∙◌, subst}
use mathlib.Core.List.{List}
use Rattle.std.specs.Prelude.{Option, None, Some}
use native.Mathlib.Omega.{arith}
use Rattle.numbers.specs.declared.double.Double.{Double}
use Rattle.numbers.specs.declared.double.Double.TheVariants as Bits
use Rattle.meaning.specs.Limits.{Counts}
use Rattle.meaning.specs.Errors.{UndeclaredReference}
use Rattle.meaning.specs.Value as Meaning
use Rattle.meaning.specs.Value.{Scalar, null, bool, int, uint, double, string, bytes, scalar, list, map, optional_none, optional_of, nesting}
use Rattle.meaning.specs.Run.{pure, fail, or_fail}
use Rattle.meaning.specs.Comprehension as Comprehension
use Rattle.rooms.specs.declared.value.Value.{Value}
use Rattle.rooms.specs.declared.value.TextSpace.TheVariants as Text
use Rattle.rooms.specs.declared.scope.Scope.{Scope}
use Rattle.rooms.specs.Value.{double_value}
use Rattle.rooms.specs.Rooms.{Rooms, part}
use Rattle.rooms.specs.Scope.{slot_of, StandsSlot}
use Rattle.rooms.specs.Stands.{Alive, TextAt, StandsScalar, Stands, Holds}
use Rattle.machine.specs.declared.outcome.Used.{Used}
use Rattle.machine.specs.declared.outcome.Outcome.TheVariants as Outcome
use Rattle.table_layout.specs.Layout.{word_at}
use Rattle.machine.specs.Literals.{literal_value, name_out}
use Rattle.machine.specs.Accepted.{Spells, AcceptedLiteral}
use Rattle.machine.specs.Refines.{used_of, Start}
use Rattle.machine.proofs.Match.{Says, value-now, error-now}
use Rattle.machine.proofs.Seen.{held-bool}
use Rattle.machine.proofs.Numbers.{held-int, held-uint, held-double}
use Rattle.rooms.specs.Spans.{span}

-- ---- texts that the table spells

module _ (table src : List ℕ) (L : Alive) (r : Rooms) (e : r.literal ≡ src) where
  spelled_at : (s : List ℕ) (a n : ℕ) → Spells table src s a n → TextAt s L r Text.Literal a
  spelled_at s a n h = record { within = tt; spells = subst (λ k. part r.literal a k ≡ s) h.long (ap (λ x. part x a n) e ∙ h.spelled) }

  pub held-string : (s : List ℕ) (a n : ℕ) → Spells table src s a n → Holds (scalar (string s)) L r (Value.String (span Text.Literal a n))
  unfolding Stands StandsScalar nesting
  held-string s a n h = record { stands = (Text.Literal, a, ap (λ k. Value.String (span Text.Literal a k)) h.long, spelled_at s a n h); fits = (h.offset_fits, h.size_fits); nests = omega arith }

  held_bytes : (s : List ℕ) (a n : ℕ) → Spells table src s a n → Holds (scalar (bytes s)) L r (Value.Bytes (span Text.Literal a n))
  unfolding Stands StandsScalar nesting
  held_bytes s a n h = record { stands = (Text.Literal, a, ap (λ k. Value.Bytes (span Text.Literal a k)) h.long, spelled_at s a n h); fits = (h.offset_fits, h.size_fits); nests = omega arith }

  held-null : Holds (scalar null) L r Value.Null
  unfolding Stands StandsScalar nesting
  held-null = record { stands = refl; fits = tt; nests = omega arith }

  pub held-literal : (p : ℕ) (x : Scalar) → AcceptedLiteral table src p x → Holds (scalar x) L r (literal_value table p x)
  held-literal p null h = held-null
  held-literal p (bool b) h = held-bool L r b
  held-literal p (int z) h = held-int L r z h
  held-literal p (uint n) h = held-uint L r n h
  held-literal p (double d) h = held-double L r d h
  held-literal p (string s) h = held-string s (word_at table (p + 3)) (word_at table (p + 5)) h
  held-literal p (bytes s) h = held_bytes s (word_at table (p + 3)) (word_at table (p + 5)) h

-- ---- names

double-named : (p : ℕ) (x : Double) (u : Used) → name_out p (double_value x) u ≡ Outcome.Value (double_value x) u
double-named p (Bits.Plain x) u = refl
double-named p (Bits.Nan b) u = refl

-- a value is never absent
value-named : (L : Alive) (r : Rooms) (p : ℕ) (u : Used) (v : Meaning.Value) (m : Value) → Stands v L r m → name_out p m u ≡ Outcome.Value m u
unfolding Stands StandsScalar
value-named L r p u (scalar null) m h = subst (λ x. name_out p x u ≡ Outcome.Value x u) (sym h) refl
value-named L r p u (scalar (bool b)) m h = subst (λ x. name_out p x u ≡ Outcome.Value x u) (sym h) refl
value-named L r p u (scalar (int z)) m h = subst (λ x. name_out p x u ≡ Outcome.Value x u) (sym h) refl
value-named L r p u (scalar (uint n)) m h = subst (λ x. name_out p x u ≡ Outcome.Value x u) (sym h) refl
value-named L r p u (scalar (double d)) m h = subst (λ x. name_out p x u ≡ Outcome.Value x u) (sym h.1) (double-named p h.0 u)
value-named L r p u (scalar (string s)) m h = subst (λ x. name_out p x u ≡ Outcome.Value x u) (sym h.2) refl
value-named L r p u (scalar (bytes s)) m h = subst (λ x. name_out p x u ≡ Outcome.Value x u) (sym h.2) refl
value-named L r p u (list vs) m h = subst (λ x. name_out p x u ≡ Outcome.Value x u) (sym h.2) refl
value-named L r p u (map es) m h = subst (λ x. name_out p x u ≡ Outcome.Value x u) (sym h.2) refl
value-named L r p u optional_none m h = subst (λ x. name_out p x u ≡ Outcome.Value x u) (sym h) refl
value-named L r p u (optional_of v) m h = subst (λ x. name_out p x u ≡ Outcome.Value x u) (sym h.2) refl

module _ (l : Counts) (src : List ℕ) {L : Alive} {u : Counts} {r : Rooms} {s : Scope} {t : Comprehension.Scope} (st : Start l src L u r s t) (p : ℕ) where
  slot-says : (o : Option Meaning.Value) (m : Value) → StandsSlot o L r m → Says l src p L u r (name_out p m (used_of u), r) (or_fail UndeclaredReference o)
  unfolding or_fail
  slot-says None m h = subst (λ x. Says l src p L u r (name_out p x (used_of u), r) (fail UndeclaredReference)) (sym h) (error-now l src st p UndeclaredReference)
  slot-says (Some v) m h = subst (λ x. Says l src p L u r (x, r) (pure v)) (sym (value-named L r p (used_of u) v m h.stands)) (value-now l src st p m v h)

  pub name-says : (n : ℕ) → Says l src p L u r (name_out p (slot_of s n) (used_of u), r) (or_fail UndeclaredReference (t n))
  name-says n = slot-says (t n) (slot_of s n) (st.scope.each n)
