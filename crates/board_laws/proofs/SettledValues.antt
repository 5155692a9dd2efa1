-- Bindings with each Double in the one spelling that words give it hold the same values: a room is sound with them as it was, and they stand
-- for the same room of the definition. Assumes nothing.
use Prim.Native.Nat.{ℕ, zero, suc, ◌^◌, ◌<◌}
use mathlib.Core.Path.{◌≡◌, refl, sym, ap, ap₂, ◌∙◌}
use mathlib.Core.Bool.{true, false, ◌&&◌, ◌||◌}
use mathlib.Core.List.{List, [], ◌∷◌, ◌++◌, map}
use Rattle.std.specs.Prelude.{Some}
use lib.Ieee.{binary64}
use lib.Ieee.Bits.{to_bits-lt}
use lib.ListN.{get_or-map}
use Rattle.numbers.specs.declared.double.Double.{Double}
use Rattle.numbers.specs.declared.double.Double.TheVariants.{Plain, Nan}
use Rattle.numbers.specs.Double.{bits_of, double_of}
use Rattle.numbers.proofs.DoubleLaws.{bits_back, proper, double-back}
use Rattle.meaning.specs.Value.{scalar, double}
use Rattle.rooms.specs.declared.value.Value.{Value}
use Rattle.rooms.specs.declared.scope.Slot.{Slot}
use Rattle.rooms.specs.Value.{nesting_of, double_value}
use Rattle.rooms.specs.Cells.{head_of, payload_of, Fits, settled}
use Rattle.rooms.specs.Rooms.{Rooms}
use Rattle.rooms.specs.Reading.{Reader, read_by, read_to, reading}
use Rattle.rooms.specs.Scope.{absent, slot_of}
use Rattle.bindings_sound.specs.declared.Bindings.{Bindings}
use Rattle.bindings_sound.specs.Fits.{value_fits, is_absent, slot_fits}
use Rattle.bindings_sound.specs.Sound.{slots_fit, sound_of}
use Rattle.bindings_sound.specs.Held.{binding_rooms, held_scope, bound_from, room_of}
use Rattle.board_state.specs.State.{slot_words, state_of}
use Rattle.board_state.specs.Settled.{settled_slot, settled_bindings, AllFit}

-- ---- a Double

abbrev bits_in : (d : Double) → Fits (double_value d) → bits_of d < 2 ^ 64
bits_in (Plain x) f = to_bits-lt binary64 x f
bits_in (Nan b) f = f

double-absent : (d : Double) → is_absent (double_value d) ≡ false
double-absent (Plain x) = refl
double-absent (Nan b) = refl

double-fits : (w t : List ℕ) (used bytes least : ℕ) (d : Double) → value_fits w t used bytes least (double_value d) ≡ true
double-fits w t used bytes least (Plain x) = refl
double-fits w t used bytes least (Nan b) = refl

double-nesting : (d : Double) → nesting_of (double_value d) ≡ 0
double-nesting (Plain x) = refl
double-nesting (Nan b) = refl

double-read : (f : Reader) (r : Rooms) (d : Double) → read_by f r (double_value d) ≡ Some (scalar (double (bits_of d)))
double-read f r (Plain x) = refl
double-read f r (Nan b) = refl

double-reading : (r : Rooms) (d e : Double) → bits_of d ≡ bits_of e → reading r (double_value d) ≡ reading r (double_value e)
unfolding reading read_to
double-reading r d e h =
    double-at d ∙ ap (λ (n : ℕ). Some (scalar (double n))) h ∙ sym (double-at e)
  where
    double-at : (d : Double) → read_to (suc (nesting_of (double_value d))) r (double_value d) ≡ Some (scalar (double (bits_of d)))
    double-at (Plain x) = refl
    double-at (Nan b) = refl

double-settled : (d : Double) → settled (double_value d) ≡ double_value (double_of (bits_of d))
double-settled (Plain x) = refl
double-settled (Nan b) = refl

-- a Double that bits were read as is settled
pub read-settled : (n : ℕ) → settled (double_value (double_of n)) ≡ double_value (double_of n)
read-settled n = double-settled (double_of n) ∙ ap double_value (double-back (double_of n) (proper n))

-- ---- a value

pub settled-absent : (v : Value) → is_absent (settled v) ≡ is_absent v
settled-absent Value.Null = refl
settled-absent (Value.Bool b) = refl
settled-absent (Value.Int z) = refl
settled-absent (Value.Uint n) = refl
settled-absent (Value.Double x) = double-absent (double_of (bits_of (Plain x)))
settled-absent (Value.Nan b) = double-absent (double_of b)
settled-absent (Value.String sp) = refl
settled-absent (Value.Bytes sp) = refl
settled-absent (Value.List d ro) = refl
settled-absent (Value.Map d ro) = refl
settled-absent Value.OptionalNone = refl
settled-absent (Value.OptionalOf d s a) = refl
settled-absent Value.Absent = refl

settled-fits : (w t : List ℕ) (used bytes least : ℕ) (v : Value) → value_fits w t used bytes least (settled v) ≡ value_fits w t used bytes least v
settled-fits w t used bytes least Value.Null = refl
settled-fits w t used bytes least (Value.Bool b) = refl
settled-fits w t used bytes least (Value.Int z) = refl
settled-fits w t used bytes least (Value.Uint n) = refl
settled-fits w t used bytes least (Value.Double x) = double-fits w t used bytes least (double_of (bits_of (Plain x)))
settled-fits w t used bytes least (Value.Nan b) = double-fits w t used bytes least (double_of b)
settled-fits w t used bytes least (Value.String sp) = refl
settled-fits w t used bytes least (Value.Bytes sp) = refl
settled-fits w t used bytes least (Value.List d ro) = refl
settled-fits w t used bytes least (Value.Map d ro) = refl
settled-fits w t used bytes least Value.OptionalNone = refl
settled-fits w t used bytes least (Value.OptionalOf d s a) = refl
settled-fits w t used bytes least Value.Absent = refl

-- A settled value reads as the value did.
pub settled-reading : (r : Rooms) (v : Value) → Fits v → reading r (settled v) ≡ reading r v
settled-reading r Value.Null f = refl
settled-reading r (Value.Bool b) f = refl
settled-reading r (Value.Int z) f = refl
settled-reading r (Value.Uint n) f = refl
settled-reading r (Value.Double x) f = double-reading r (double_of (bits_of (Plain x))) (Plain x) (bits_back (bits_of (Plain x)) (bits_in (Plain x) f))
settled-reading r (Value.Nan b) f = double-reading r (double_of b) (Nan b) (bits_back b (bits_in (Nan b) f))
settled-reading r (Value.String sp) f = refl
settled-reading r (Value.Bytes sp) f = refl
settled-reading r (Value.List d ro) f = refl
settled-reading r (Value.Map d ro) f = refl
settled-reading r Value.OptionalNone f = refl
settled-reading r (Value.OptionalOf d s a) f = refl
settled-reading r Value.Absent f = refl

-- ---- its words

double-words : (d e : Double) → bits_of d ≡ bits_of e → (head_of (double_value d) ≡ head_of (double_value e)) × (payload_of (double_value d) ≡ payload_of (double_value e))
double-words (Plain x) (Plain y) h = (refl, h)
double-words (Plain x) (Nan c) h = (refl, h)
double-words (Nan b) (Plain y) h = (refl, h)
double-words (Nan b) (Nan c) h = (refl, h)

settled-words : (v : Value) → Fits v → (head_of (settled v) ≡ head_of v) × (payload_of (settled v) ≡ payload_of v)
settled-words Value.Null f = (refl, refl)
settled-words (Value.Bool b) f = (refl, refl)
settled-words (Value.Int z) f = (refl, refl)
settled-words (Value.Uint n) f = (refl, refl)
settled-words (Value.Double x) f = double-words (double_of (bits_of (Plain x))) (Plain x) (bits_back (bits_of (Plain x)) (bits_in (Plain x) f))
settled-words (Value.Nan b) f = double-words (double_of b) (Nan b) (bits_back b (bits_in (Nan b) f))
settled-words (Value.String sp) f = (refl, refl)
settled-words (Value.Bytes sp) f = (refl, refl)
settled-words (Value.List d ro) f = (refl, refl)
settled-words (Value.Map d ro) f = (refl, refl)
settled-words Value.OptionalNone f = (refl, refl)
settled-words (Value.OptionalOf d s a) f = (refl, refl)
settled-words Value.Absent f = (refl, refl)

slots-words : (l : List Slot) → AllFit l → slot_words (map settled_slot l) ≡ slot_words l
unfolding slot_words
slots-words [] f = refl
slots-words (s ∷ l) f = λ i. (settled-words s.value f.0).0 i ∷ (settled-words s.value f.0).1 i ∷ slots-words l f.1 i

-- Settled bindings are written as the bindings themselves are.
pub settled-written : (b : Bindings) → AllFit b.scope.slots → state_of (settled_bindings b) ≡ state_of b
unfolding state_of
settled-written b f = ap (λ (l : List ℕ). l ++ b.cells ∷ b.bytes ∷ 128 ∷ []) (slots-words b.scope.slots f)

-- ---- slots

pub settled-slot : (b : Bindings) (n : ℕ) → slot_of (settled_bindings b).scope n ≡ settled (slot_of b.scope n)
settled-slot b n = ap (λ (s : Slot). s.value) (get_or-map settled_slot b.scope.slots n absent)

slots-settled : (w t : List ℕ) (used bytes : ℕ) (b : Bindings) (i n : ℕ) → slots_fit w t used bytes (settled_bindings b).scope i n ≡ slots_fit w t used bytes b.scope i n
unfolding slots_fit slot_fits
slots-settled w t used bytes b i zero = refl
slots-settled w t used bytes b i (suc n) =
    ap₂ ◌&&◌
    (ap (slot_fits w t used bytes) (settled-slot b i) ∙ ap₂ ◌||◌ (settled-absent (slot_of b.scope i)) (settled-fits w t used bytes 0 (slot_of b.scope i)))
    (slots-settled w t used bytes b (suc i) n)

-- ---- the theorems

-- A room is sound with settled bindings exactly as it was: the same verdict, with the same place.
pub settled-sound : (w t : List ℕ) (b : Bindings) → sound_of w t (settled_bindings b) ≡ sound_of w t b
unfolding sound_of
settled-sound w t b = rw (slots-settled w t _ _ b 0 128) refl

module _ (w t : List ℕ) (b : Bindings) (fit : (n : ℕ) → Fits (slot_of b.scope n)) where
  -- Each name holds what it held.
  pub settled-held : (n : ℕ) → held_scope w t (settled_bindings b) n ≡ held_scope w t b n
  unfolding held_scope
  settled-held n = ap (reading (binding_rooms w t)) (settled-slot b n) ∙ settled-reading (binding_rooms w t) (slot_of b.scope n) (fit n)

  -- Settled bindings stand for the same room of the definition.
  pub settled-room : room_of w t (settled_bindings b) ≡ room_of w t b
  unfolding room_of
  settled-room = λ i. record { bound = bound_from (λ n. settled-held n i) 0 128; used_cells = b.cells; used_bytes = b.bytes }
