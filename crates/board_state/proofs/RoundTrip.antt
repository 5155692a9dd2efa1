-- The words of bindings stand for those bindings again, with each Double in the one spelling that words give it. Assumes nothing.
use Prim.Native.Nat.{ℕ, suc, ◌+◌, ◌*◌, ◌/◌, ◌<◌}
use mathlib.Core.Path.{◌≡◌, refl, sym, ap, ◌∙◌}
use mathlib.Core.Bool.{true, false}
use mathlib.Core.List.{List, [], ◌∷◌, ◌++◌, append_assoc, map}
use native.Mathlib.Omega.{arith}
use lib.ListN.{length, get_or, length-append}
use lib.Seq.{get_or_at, append_snoc}
use borrow.Author.Tests.{lt-ltb}
use Rattle.numbers.specs.declared.double.Double.{Double}
use Rattle.numbers.specs.declared.double.Double.TheVariants.{Plain, Nan}
use Rattle.numbers.specs.Double.{bits_of, double_of}
use Rattle.rooms.specs.declared.value.Value.{Value}
use Rattle.rooms.specs.declared.scope.Slot.{Slot}
use Rattle.rooms.specs.Value.{double_value}
use Rattle.rooms.specs.Cells.{head_of, payload_of, cell_of, cell_in, Fits, settled}
use Rattle.rooms.proofs.CellLaws.{read_back}
use Rattle.bindings_sound.specs.declared.Bindings.{Bindings}
use Rattle.bindings_sound.specs.Fits.{is_absent}
use Rattle.board_state.specs.State.{says_absent, slot_in, slots_in, scope_in, bindings_in, slot_words, state_of}
use Rattle.board_state.specs.Settled.{settled_slot, settled_bindings, AllFit}
use Rattle.board_state.proofs.SlotSteps.{slot-words-length, slot-value, slot-absent, is_state}

-- ---- one slot

double-there : (d : Double) → is_absent (double_value d) ≡ false
double-there (Plain x) = refl
double-there (Nan b) = refl

module _ (p r : List ℕ) (i : ℕ) (e : length p ≡ i * 2) where
  -- the cell behind some words
  abbrev behind : Value → List ℕ
  behind v = p ++ head_of v ∷ payload_of v ∷ r

  head_at : (v : Value) → get_or (behind v) (i * 2) 0 ≡ head_of v
  head_at v = get_or_at p (head_of v) (payload_of v ∷ r) 0 (i * 2) e

  payload-at : (v : Value) → get_or (behind v) (i * 2 + 1) 0 ≡ payload_of v
  payload-at v =
      ap (λ (l : List ℕ). get_or l (i * 2 + 1) 0) (sym (append_snoc p (head_of v) (payload_of v ∷ r)))
      ∙ get_or_at (p ++ head_of v ∷ []) (payload_of v) r 0 (i * 2 + 1) (omega (arith, e, length-append p (head_of v ∷ [])))

  there : (v : Value) → i < length (behind v) / 2
  there v = omega (arith, e, length-append p (head_of v ∷ payload_of v ∷ r))

  cell-again : (v : Value) → Fits v → cell_in (behind v) i ≡ settled v
  unfolding cell_in
  cell-again v f = rw (lt-ltb i (length (behind v) / 2) (there v)) ((λ k. cell_of (head_at v k) (payload-at v k)) ∙ read_back v f)

  value-again : (v : Value) → Fits v → is_absent (settled v) ≡ false → slot_in (behind v) i ≡ settled v
  value-again v f h = sym (slot-value (behind v) i (settled v) (sym (cell-again v f)) h)

  says_so : says_absent (behind Value.Absent) i ≡ true
  unfolding says_absent
  says_so = rw (lt-ltb i (length (behind Value.Absent) / 2) (there Value.Absent)) (rw (head_at Value.Absent) (rw (payload-at Value.Absent) refl))

  pub slot-again : (v : Value) → Fits v → slot_in (behind v) i ≡ settled v
  slot-again Value.Null f = value-again Value.Null f refl
  slot-again (Value.Bool b) f = value-again (Value.Bool b) f refl
  slot-again (Value.Int z) f = value-again (Value.Int z) f refl
  slot-again (Value.Uint n) f = value-again (Value.Uint n) f refl
  slot-again (Value.Double x) f = value-again (Value.Double x) f (double-there (double_of (bits_of (Plain x))))
  slot-again (Value.Nan b) f = value-again (Value.Nan b) f (double-there (double_of b))
  slot-again (Value.String sp) f = value-again (Value.String sp) f refl
  slot-again (Value.Bytes sp) f = value-again (Value.Bytes sp) f refl
  slot-again (Value.List d ro) f = value-again (Value.List d ro) f refl
  slot-again (Value.Map d ro) f = value-again (Value.Map d ro) f refl
  slot-again Value.OptionalNone f = value-again Value.OptionalNone f refl
  slot-again (Value.OptionalOf d s a) f = value-again (Value.OptionalOf d s a) f refl
  slot-again Value.Absent f = sym (slot-absent (behind Value.Absent) i says_so)

-- ---- all of them

slots-again : (l : List Slot) (p r : List ℕ) (i : ℕ) → length p ≡ i * 2 → AllFit l → slots_in (p ++ (slot_words l ++ r)) i (length l) ≡ map settled_slot l
unfolding slots_in slot_words
slots-again [] p r i e f = refl
slots-again (s ∷ l) p r i e f =
    λ k. record { value = slot-again p (slot_words l ++ r) i e s.value f.0 k }
    ∷ (ap (λ (w : List ℕ). slots_in w (suc i) (length l)) (sym (append_assoc p (head_of s.value ∷ payload_of s.value ∷ []) (slot_words l ++ r)))
    ∙ slots-again l (p ++ head_of s.value ∷ payload_of s.value ∷ []) r (suc i) (omega (arith, e, length-append p (head_of s.value ∷ payload_of s.value ∷ []))) f.1) k

-- the three words behind the slots
module _ (b : Bindings) (whole : length b.scope.slots ≡ 128) where
  slots-take : length (slot_words b.scope.slots) ≡ 256
  slots-take = omega (arith, slot-words-length b.scope.slots, whole)

  state-long : length (state_of b) ≡ 259
  unfolding state_of
  state-long = omega (arith, length-append (slot_words b.scope.slots) (b.cells ∷ b.bytes ∷ 128 ∷ []), slots-take)

  cells_at : get_or (state_of b) 256 0 ≡ b.cells
  unfolding state_of
  cells_at = get_or_at (slot_words b.scope.slots) b.cells (b.bytes ∷ 128 ∷ []) 0 256 slots-take

  bytes-at : get_or (state_of b) 257 0 ≡ b.bytes
  unfolding state_of
  bytes-at =
      ap (λ (l : List ℕ). get_or l 257 0) (sym (append_assoc (slot_words b.scope.slots) (b.cells ∷ []) (b.bytes ∷ 128 ∷ [])))
      ∙ get_or_at (slot_words b.scope.slots ++ b.cells ∷ []) b.bytes (128 ∷ []) 0 257 (omega (arith, length-append (slot_words b.scope.slots) (b.cells ∷ []), slots-take))

  count_at : get_or (state_of b) 258 0 ≡ 128
  unfolding state_of
  count_at =
      ap (λ (l : List ℕ). get_or l 258 0) (sym (append_assoc (slot_words b.scope.slots) (b.cells ∷ b.bytes ∷ []) (128 ∷ [])))
      ∙ get_or_at (slot_words b.scope.slots ++ b.cells ∷ b.bytes ∷ []) 128 [] 0 258 (omega (arith, length-append (slot_words b.scope.slots) (b.cells ∷ b.bytes ∷ []), slots-take))

  scope-again : AllFit b.scope.slots → scope_in (state_of b) ≡ record { slots = map settled_slot b.scope.slots }
  unfolding scope_in state_of
  scope-again f =
      ap (λ (l : List Slot). record { slots = l })
      (ap (slots_in (state_of b) 0) (sym whole) ∙ slots-again b.scope.slots [] (b.cells ∷ b.bytes ∷ 128 ∷ []) 0 refl f)

  -- What is put into a state is what it stands for.
  pub round_trip : AllFit b.scope.slots → bindings_in (state_of b) ≡ settled_bindings b
  round_trip f =
      sym (is_state (state_of b) (scope_in (state_of b)) state-long count_at refl)
      ∙ (λ i. record { scope = scope-again f i; cells = cells_at i; bytes = bytes-at i })
