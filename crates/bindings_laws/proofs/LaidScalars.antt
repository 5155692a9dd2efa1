-- A scalar laid down: it fits the room, it stands for the scalar of the table, and a cell gives it back. And the keys of a Map, which do
-- not match. Assumes nothing.
use Prim.Native.Nat.{ℕ, suc, ◌+◌, ◌≤◌}
use mathlib.Core.Path.{◌≡◌, refl, ap, ap₂, ◌∙◌}
use mathlib.Core.Logic.{inl}
use mathlib.Core.List.{List, [], ◌∷◌}
use Rattle.std.specs.Prelude.{None}
use mathlib.Core.Bool.{true, false, not}
use native.Mathlib.Omega.{arith}
use lib.ListN.{length, set, take, length-set}
use lib.Seq.{get_or-set_same}
use Rattle.numbers.specs.declared.double.Double.{Double}
use Rattle.numbers.specs.Double.{bits_of, double_of}
use Rattle.numbers.proofs.IntLaws.{range_small}
use Rattle.numbers.proofs.DoubleLaws.{bits_back}
use Rattle.text.specs.Utf8.{well_formed}
use Rattle.meaning.specs.Value as Meaning
use Rattle.meaning.specs.Value.{Scalar, null, bool, int, uint, double, string, bytes, scalar, Key, int_key, uint_key, bool_key, string_key, key_scalar, empty, entry, count_entries}
use Rattle.meaning.specs.Comparison.{scalar_equal, find}
use Rattle.meaning.specs.WellFormed.{SoundScalar, SoundEntries}
use Rattle.meaning_laws.proofs.MatchingKeys.{not_found}
use Rattle.rooms.specs.declared.value.Value.{Value}
use Rattle.rooms.specs.declared.value.TextSpace.TheVariants as Text
use Rattle.rooms.specs.declared.value.CellSpace.TheVariants as Cells
use Rattle.rooms.specs.Value.{double_value, is_key}
use Rattle.rooms.specs.Cells.{cell_in, settled}
use Rattle.rooms.specs.Rooms.{Rooms, rooms, cell_at, part}
use Rattle.rooms.specs.Stands.{Alive, TextAt, StandsScalar, Stands, StandsEntries}
use Rattle.rooms.proofs.CellLaws.{Small}
use Rattle.rooms.proofs.Frame.{part_same}
use Rattle.rooms_comparison.specs.Seen.{same_seen, seen_in}
use Rattle.rooms_comparison.proofs.SeenMeaning.{scalar-seen}
use Rattle.bindings_sound.specs.Keys as Keys
use Rattle.bindings_sound.specs.Keys.{repeated_in, keys_fit}
use Rattle.bindings_sound.specs.Fits.{value_fits}
use Rattle.bindings_sound.specs.Held.{alive_below}
use Rattle.bindings_literals.specs.Laying.{Room, typed, laid_scalar}
use Rattle.rooms.proofs.Frame.{part-first}
use Rattle.bindings_laws.proofs.LayingKeeps.{typed_long, typed-away}
use Rattle.bindings_laws.proofs.OlderValues.{all_true, span_fits_lem, string-fits}

-- ---- text

typed-part : (t : List ℕ) (to : ℕ) (s : List ℕ) → to + length s ≤ length t → part (typed t to s) to (length s) ≡ s
unfolding typed
typed-part t to [] h = refl
typed-part t to (b ∷ s) h =
    part-first (typed (set t to b) (suc to) s) to (length s) (omega (arith, typed_long (set t to b) (suc to) s, length-set t to b))
    ∙ ap₂ (λ x xs. x ∷ xs)
    (typed-away (set t to b) (suc to) s to (inl (omega arith)) ∙ get_or-set_same t to b 0 (omega arith))
    (typed-part (set t to b) (suc to) s (omega (arith, length-set t to b)))

-- ---- numbers

double-settled : (x : Double) → settled (double_value x) ≡ double_value (double_of (bits_of x))
double-settled (Double.Plain x) = refl
double-settled (Double.Nan b) = refl

double-small : (x : Double) → Small (double_value x)
double-small (Double.Plain x) = tt
double-small (Double.Nan b) = tt

-- ---- in a room as it is at the end

module _ (w t : List ℕ) (used bytes : ℕ) where
  pub record Good (v : Meaning.Value) (least : ℕ) (m : Value) : Type 0 where
    pub fits : value_fits w t used bytes least m ≡ true
    pub stands : (l e x : List ℕ) → Stands v (alive_below used) (rooms l w t e x) m
    pub small : Small m
    pub same : settled m ≡ m

  double-fits : (least : ℕ) (x : Double) → value_fits w t used bytes least (double_value x) ≡ true
  double-fits least (Double.Plain x) = refl
  double-fits least (Double.Nan b) = refl

  -- the text that was laid down is there at the end
  module _ (r : Room) (s : List ℕ) (lent : r.bytes + length s ≤ length r.text) (within : r.bytes + length s ≤ bytes)
      (kept : take (r.bytes + length s) t ≡ take (r.bytes + length s) (typed r.text r.bytes s)) where
    spelled-there : part t r.bytes (length s) ≡ s
    spelled-there =
        part_same (r.bytes + length s) r.bytes (length s) (typed r.text r.bytes s) t (omega arith) kept ∙ typed-part r.text r.bytes s lent

    text-there : (L : Alive) (l e x : List ℕ) → TextAt s L (rooms l w t e x) Text.Binding r.bytes
    text-there L l e x = record { within = tt; spells = spelled-there }

  module _ (few : bytes ≤ 16384) (least : ℕ) (r : Room) where
    -- what is used then is within the room, and the same as it is at the end
    pub scalar-laid : (x : Scalar) → SoundScalar x → (laid_scalar x r).1.bytes ≤ bytes → (laid_scalar x r).1.bytes ≤ length r.text →
        take (laid_scalar x r).1.bytes t ≡ take (laid_scalar x r).1.bytes (laid_scalar x r).1.text → Good (scalar x) least (laid_scalar x r).0
    unfolding laid_scalar Stands StandsScalar
    scalar-laid null f h i k = record { fits = refl; stands = λ l e x. refl; small = tt; same = refl }
    scalar-laid (bool b) f h i k = record { fits = refl; stands = λ l e x. refl; small = tt; same = refl }
    scalar-laid (int z) f h i k = record { fits = refl; stands = λ l e x. refl; small = range_small z f; same = refl }
    scalar-laid (uint n) f h i k = record { fits = refl; stands = λ l e x. refl; small = tt; same = refl }
    scalar-laid (double d) f h i k =
        record {
          fits = double-fits least (double_of d);
          stands = λ l e x. (double_of d, refl, bits_back d f);
          small = double-small (double_of d);
          same = double-settled (double_of d) ∙ ap (λ b. double_value (double_of b)) (bits_back d f);
        }
    scalar-laid (string s) f h i k =
        record {
          fits = string-fits t bytes r.bytes (length s) h (ap well_formed (spelled-there r s i h k) ∙ f.1);
          stands = λ l e x. (Text.Binding, r.bytes, refl, text-there r s i h k (alive_below used) l e x);
          small = (omega arith, omega arith);
          same = refl;
        }
    scalar-laid (Meaning.bytes s) f h i k =
        record {
          fits = span_fits_lem bytes r.bytes (length s) h;
          stands = λ l e x. (Text.Binding, r.bytes, refl, text-there r s i h k (alive_below used) l e x);
          small = (omega arith, omega arith);
          same = refl;
        }

  -- ---- keys

  key-kind : (L : Alive) (r : Rooms) (k : Key) (m : Value) → StandsScalar (key_scalar k) L r m → is_key m ≡ true
  unfolding StandsScalar key_scalar
  key-kind L r (int_key z) m h = ap is_key h
  key-kind L r (uint_key n) m h = ap is_key h
  key-kind L r (bool_key b) m h = ap is_key h
  key-kind L r (string_key s) m h = ap is_key h.2

  abbrev R : Rooms
  R = rooms [] w t [] []

  seen-match : (L : Alive) (x y : Scalar) (u v : Value) → StandsScalar x L R u → StandsScalar y L R v → Keys.match w t u v ≡ scalar_equal x y
  unfolding Keys.match seen_in
  seen-match L x y u v h i = ap₂ same_seen (scalar-seen L R x u h) (scalar-seen L R y v i)

  none-repeated : (L : Alive) (x : Scalar) (u : Value) → StandsScalar x L R u → (es : Meaning.Entries) (a : ℕ) → StandsEntries es L R Cells.Binding a →
      (find x es).1 ≡ None → repeated_in w t u a (count_entries es) ≡ false
  unfolding repeated_in StandsEntries count_entries cell_at
  none-repeated L x u h empty a g e = refl
  none-repeated L x u h (entry k v es) a g e =
      let f = not_found x k v es e in
      rw (seen-match L x (key_scalar k) u (cell_in w a) h g.1 ∙ f.0) (none-repeated L x u h es (suc (suc a)) g.4 f.1)

  -- the keys of entries that stand, none found under one before it
  pub keys-laid : (L : Alive) (es : Meaning.Entries) (a : ℕ) → StandsEntries es L R Cells.Binding a → SoundEntries es → keys_fit w t a (count_entries es) ≡ true
  unfolding keys_fit StandsEntries count_entries cell_at
  keys-laid L empty a g f = refl
  keys-laid L (entry k v es) a g f =
      all_true (key-kind L R k (cell_in w a) g.1)
      (all_true (ap not (none-repeated L (key_scalar k) (cell_in w a) g.1 es (suc (suc a)) g.4 f.2)) (keys-laid L es (suc (suc a)) g.4 f.3))
