-- A value that fits a room with good cells, and stands for a value of the definition, stands for a sound one. By recursion on the latter.
-- In order: text and numbers; scalars; keys; any value. Assumes nothing.
use Prim.Native.Nat.{ℕ, zero, suc, ◌^◌, ◌<◌}
use mathlib.Core.Path.{◌≡◌, refl, sym, ap, ap₂, ◌∙◌, subst}
use mathlib.Core.List.{List, [], ◌∷◌}
use Rattle.std.specs.Prelude.{None}
use mathlib.Core.Bool.{Bool, true, false, not, ◌||◌, true≢false}
use lib.Ieee.{binary64}
use lib.Ieee.Bits.{to_bits-lt}
use lib.ListN.{length, get_or}
use Rattle.numbers.specs.declared.double.Double.{Double}
use Rattle.numbers.specs.Double.{bits_of}
use Rattle.numbers.proofs.IntLaws.{in-range}
use Rattle.text.specs.Utf8.{well_formed}
use Rattle.meaning.specs.Value as Meaning
use Rattle.meaning.specs.Value.{Scalar, null, bool, int, uint, double, string, scalar, list, map, optional_none, optional_of, nil, cons, empty, entry, key_scalar, count, count_entries}
use Rattle.meaning.specs.Comparison.{scalar_equal, tick, find}
use Rattle.meaning.specs.WellFormed.{AllBytes, SoundScalar, Sound, SoundElements, SoundEntries}
use Rattle.rooms.specs.declared.value.Value.{Value}
use Rattle.rooms.specs.declared.value.TextSpace.{TextSpace}
use Rattle.rooms.specs.declared.value.CellSpace.{CellSpace}
use Rattle.rooms.specs.declared.value.CellSpace.TheVariants as Cells
use Rattle.rooms.specs.Value.{double_value, is_key}
use Rattle.rooms.specs.Cells.{Fits, cell_in}
use Rattle.rooms.specs.Rooms.{Rooms, cell_at, part}
use Rattle.rooms.specs.Stands.{Alive, TextAt, StandsScalar, Stands, StandsCells, StandsEntries}
use Rattle.rooms_comparison.specs.Seen.{same_seen, seen_in}
use Rattle.rooms_comparison.proofs.SeenMeaning.{scalar-seen}
use Rattle.bindings_sound.specs.Keys as Keys
use Rattle.bindings_sound.specs.Keys.{repeated_in, keys_fit}
use Rattle.bindings_sound.specs.Fits.{value_fits}
use Rattle.bindings_sound.specs.Held.{binding_rooms, alive_below}
use Rattle.bindings_sound.proofs.FitLaws.{both_true, Span, span-good, string-good, row-good, map-good}
use Rattle.machine.proofs.AnyCells.{cell-fits}

neither : (a b : Bool) → (a || b) ≡ false → (a ≡ false) × (b ≡ false)
neither true b e = absurd (true≢false e)
neither false b e = (refl, e)

not-true : (a : Bool) → not a ≡ true → a ≡ false
not-true true e = absurd (true≢false (sym e))
not-true false e = refl

-- ---- text and numbers

part_bytes : (t : List ℕ) → AllBytes t → (a n : ℕ) → AllBytes (part t a n)
part_bytes [] h zero zero = tt
part_bytes [] h zero (suc n) = tt
part_bytes [] h (suc a) zero = tt
part_bytes [] h (suc a) (suc n) = tt
part_bytes (b ∷ t) h zero zero = tt
part_bytes (b ∷ t) h zero (suc n) = (h.0, part_bytes t h.1 zero n)
part_bytes (b ∷ t) h (suc a) n = part_bytes t h.1 a n

double-in : (x : Double) → Fits (double_value x) → bits_of x < 2 ^ 64
double-in (Double.Plain x) f = to_bits-lt binary64 x f
double-in (Double.Nan b) f = f

module _ (w t : List ℕ) (used bytes : ℕ) (words : (i : ℕ) → get_or w i 0 < 2 ^ 64) (text : AllBytes t) where
  abbrev R : Rooms
  R = binding_rooms w t

  abbrev L : Alive
  L = alive_below used

  abbrev Good : ℕ → Value → Type 0
  Good least m = value_fits w t used bytes least m ≡ true

  -- ---- scalars

  text-is : (s : List ℕ) (space : TextSpace) (a : ℕ) → Span bytes space a (length s) → TextAt s L R space a → part t a (length s) ≡ s
  text-is s space a g h = rw g.bound at h.spells

  text-bytes : (s : List ℕ) (a : ℕ) → part t a (length s) ≡ s → AllBytes s
  text-bytes s a e = subst AllBytes e (part_bytes t text a (length s))

  scalar-formed : (x : Scalar) (m : Value) (least : ℕ) → StandsScalar x L R m → Good least m → Fits m → SoundScalar x
  unfolding StandsScalar
  scalar-formed null m least h e f = tt
  scalar-formed (bool b) m least h e f = tt
  scalar-formed (int z) m least h e f = in-range z (subst Fits h f)
  scalar-formed (uint n) m least h e f = subst Fits h f
  scalar-formed (double d) m least h e f = subst (λ b. b < 2 ^ 64) h.2 (double-in h.0 (subst Fits h.1 f))
  scalar-formed (string s) m least h e f =
      let g = string-good t bytes h.0 h.1 (length s) (subst (Good least) h.2 e) in
      let k = text-is s h.0 h.1 g.0 h.3 in
      (text-bytes s h.1 k, sym (ap well_formed k) ∙ g.1)
  scalar-formed (Meaning.bytes s) m least h e f =
      text-bytes s h.1 (text-is s h.0 h.1 (span-good bytes h.0 h.1 (length s) (subst (Good least) h.2 e)) h.3)

  -- ---- keys

  seen-match : (x y : Scalar) (u v : Value) → StandsScalar x L R u → StandsScalar y L R v → scalar_equal x y ≡ Keys.match w t u v
  unfolding Keys.match seen_in
  seen-match x y u v h i = sym (ap₂ same_seen (scalar-seen L R x u h) (scalar-seen L R y v i))

  no-two-match : (a n : ℕ) → keys_fit w t a (suc n) ≡ true → (repeated_in w t (cell_in w a) (suc (suc a)) n ≡ false) × (keys_fit w t (suc (suc a)) n ≡ true)
  unfolding keys_fit
  no-two-match a n e =
      let f = both_true {a = is_key (cell_in w a)} e in
      let g = both_true {a = not (repeated_in w t (cell_in w a) (suc (suc a)) n)} f.1 in
      (not-true (repeated_in w t (cell_in w a) (suc (suc a)) n) g.0, g.1)

  -- where no key of the cells matches, none of the entries is found
  none_found : (x : Scalar) (u : Value) → StandsScalar x L R u → (es : Meaning.Entries) (a : ℕ) → StandsEntries es L R Cells.Binding a →
      repeated_in w t u a (count_entries es) ≡ false → (find x es).1 ≡ None
  unfolding repeated_in StandsEntries count_entries cell_at find tick
  none_found x u h empty a g e = refl
  none_found x u h (entry k v es) a g e =
      let f = neither (Keys.match w t u (cell_in w a)) (repeated_in w t u (suc (suc a)) (count_entries es)) e in
      rw (seen-match x (key_scalar k) u (cell_in w a) h g.1 ∙ f.0) (none_found x u h es (suc (suc a)) g.4 f.1)

  -- ---- any value

  module _ (good : (i : ℕ) → i < used → Good (suc i) (cell_in w i)) where
    mutual
      unfolding Stands cell_at count count_entries

      pub formed : (v : Meaning.Value) (m : Value) (least : ℕ) → Stands v L R m → Good least m → Fits m → Sound v
      formed (scalar x) m least h e f = scalar-formed x m least h e f
      formed (list vs) m least h e f =
          let r = row-good w used least _ h.0 h.1 (count vs) (subst (Good least) h.2 e) in
          elements-formed vs h.1 (subst (λ (s : CellSpace). StandsCells vs L R s h.1) r.bound h.3)
      formed (map es) m least h e f =
          let r = map-good w t used least _ h.0 h.1 (count_entries es) (subst (Good least) h.2 e) in
          entries-formed es h.1 (subst (λ (s : CellSpace). StandsEntries es L R s h.1) r.0.bound h.3) r.1
      formed optional_none m least h e f = tt
      formed (optional_of v) m least h e f = absurd (true≢false (sym (subst (Good least) h.2 e)))

      elements-formed : (vs : Meaning.Values) (a : ℕ) → StandsCells vs L R Cells.Binding a → SoundElements vs
      elements-formed nil a g = tt
      elements-formed (cons v vs) a g =
          (formed v (cell_in w a) (suc a) g.1 (good a g.0) (cell-fits w words a), elements-formed vs (suc a) g.2)

      entries-formed : (es : Meaning.Entries) (a : ℕ) → StandsEntries es L R Cells.Binding a → keys_fit w t a (count_entries es) ≡ true → SoundEntries es
      entries-formed empty a g e = tt
      entries-formed (entry k v es) a g e =
          let f = no-two-match a (count_entries es) e in (
            scalar-formed (key_scalar k) (cell_in w a) (suc a) g.1 (good a g.0) (cell-fits w words a),
            formed v (cell_in w (suc a)) (suc (suc a)) g.3 (good (suc a) g.2) (cell-fits w words (suc a)),
            none_found (key_scalar k) (cell_in w a) g.1 es (suc (suc a)) g.4 f.0,
            entries-formed es (suc (suc a)) g.4 f.1,
          )
