-- Words 2n and 2n + 1 of a state are the value of name n: they read as what it has in the room that the state stands for. Rests on WordsAgain and
-- on SoundScope (crate bindings_sound). Assumes nothing.
use Prim.Native.Nat.{ℕ, ◌+◌, ◌*◌, ◌<◌}
use mathlib.Core.Path.{◌≡◌, refl, sym, ap, ap₂, ◌∙◌}
use mathlib.Core.Logic.{◌⊎◌, inl, inr, ◌↔◌}
use mathlib.Core.Bool.{Bool, true, false, ◌||◌, true≢false}
use mathlib.Core.List.{List, []}
use Rattle.std.specs.Prelude.{None, Some}
use native.Mathlib.Omega.{arith}
use lib.ListN.{get_or}
use Rattle.meaning.specs.Value.{Value as Meant}
use Rattle.meaning.specs.Bindings as Meaning
use Rattle.meaning.specs.Bindings.{scope_of}
use Rattle.rooms.specs.declared.value.Value.{Value}
use Rattle.rooms.specs.Cells.{bare_of, value_of, cell_of, cell_in}
use Rattle.rooms.specs.Rooms.{Rooms, rooms}
use Rattle.rooms.specs.Reading.{read_to, reading}
use Rattle.rooms.specs.Scope.{slot_of}
use Rattle.rooms.proofs.ReadBack.{reads}
use Rattle.bindings_sound.specs.declared.Bindings.{Bindings}
use Rattle.bindings_sound.specs.Fits.{value_fits, is_absent, slot_fits}
use Rattle.bindings_sound.specs.Held.{held_scope, alive_below}
use Rattle.bindings_sound.proofs.FitLaws.{sound-room}
use Rattle.bindings_sound.proofs.HeldLaws.{HeldBy}
use Rattle.bindings_sound.proofs.SoundScope.{absent-is, beyond, fits-held, held-read}
use Rattle.board_state.specs.State.{says_absent, is_state, bindings_in}
use Rattle.board_state.proofs.SlotSteps.{slot-absent, slot-value}
use Rattle.board_state.specs.Bringing.{BindingRoom}
use Rattle.board_laws.specs.Called.{Stands}
use Rattle.board_laws.proofs.WordsAgain.{cell-there, says-words, slot-in, sound-state, sound-order}

-- the words of no value
absent-words : cell_of 16 0 ≡ Value.Absent
unfolding cell_of value_of bare_of
absent-words = refl

absent-reads : (lent : Rooms) → reading lent Value.Absent ≡ None
unfolding reading read_to
absent-reads lent = refl

module _ (r : BindingRoom) (room : Meaning.BindingRoom) (stands : Stands r room) (n : ℕ) (h : n < 128) where
  abbrev bindings : Bindings
  bindings = bindings_in r.state

  abbrev slot : Value
  slot = slot_of bindings.scope n

  abbrev head : ℕ
  head = get_or r.state (2 * n) 0

  abbrev payload : ℕ
  payload = get_or r.state (2 * n + 1) 0

  is : is_state r.state ≡ true
  is = sound-state r.state r.cells r.text stands.sound

  twice : n * 2 ≡ 2 * n
  twice = omega arith

  -- ---- the two words are the name's slot

  -- a value's, or those of no value
  record SlotWords : Type 0 where
    pub is-slot : cell_of head payload ≡ slot
    pub absent : is_absent slot ≡ true → (head ≡ 16) × (payload ≡ 0)

  slot-words : SlotWords
  slot-words = by_order ((sound-order r.state r.cells r.text stands.sound).slots n h)
    where
      by_order : (is_absent (cell_in r.state n) ≡ false) ⊎ (says_absent r.state n ≡ true) → SlotWords
      by_order (inl e) =
          let f = slot-value r.state n (cell_in r.state n) refl e ∙ sym (slot-in r.state is n h) in
          record {
            is-slot = ap (λ (k : ℕ). cell_of (get_or r.state k 0) (get_or r.state (k + 1) 0)) (sym twice) ∙ sym (cell-there r.state is n h) ∙ f;
            absent = λ a. absurd (true≢false (sym a ∙ ap is_absent (sym f) ∙ e));
          }
      by_order (inr e) =
          let (f, g) = says-words r.state is n e in
          let first : head ≡ 16 = ap (λ (k : ℕ). get_or r.state k 0) (sym twice) ∙ f in
          let second : payload ≡ 0 = ap (λ (k : ℕ). get_or r.state (k + 1) 0) (sym twice) ∙ g in
          record {
            is-slot = ap₂ cell_of first second ∙ absent-words ∙ slot-absent r.state n e ∙ sym (slot-in r.state is n h);
            absent = λ a. (first, second);
          }

  -- ---- the slot reads as what it holds, whatever is lent to an evaluation

  -- there is no value, or one that is held
  slot_held : (slot ≡ Value.Absent) ⊎ HeldBy r.cells r.text bindings.cells bindings.bytes slot
  unfolding slot_fits
  slot_held = by-slot (is_absent slot) refl ((sound-room r.cells r.text bindings stands.sound).slots n h)
    where
      by-slot : (b : Bool) → is_absent slot ≡ b → (b || value_fits r.cells r.text bindings.cells bindings.bytes 0 slot) ≡ true
          → (slot ≡ Value.Absent) ⊎ HeldBy r.cells r.text bindings.cells bindings.bytes slot
      by-slot true e f = inl (absent-is slot e)
      by-slot false e f = inr (fits-held r.cells r.text bindings stands.sound slot 0 f)

  -- Words 2n and 2n + 1 of a state that stands for a room read as what name n has there, whatever is lent to an evaluation.
  pub binding-read-out : (literal cells text : List ℕ)
      → reading (rooms literal r.cells r.text cells text) (cell_of (get_or r.state (2 * n) 0) (get_or r.state (2 * n + 1) 0)) ≡ scope_of room n
  binding-read-out literal cells text = ap (reading lent) slot-words.is-slot ∙ by-held slot_held ∙ stands.scope n
    where
      lent : Rooms
      lent = rooms literal r.cells r.text cells text

      by-held : (slot ≡ Value.Absent) ⊎ HeldBy r.cells r.text bindings.cells bindings.bytes slot → reading lent slot ≡ held_scope r.cells r.text bindings n
      by-held (inl a) = ap (reading lent) a ∙ absent-reads lent ∙ sym (beyond r.cells r.text bindings n a)
      by-held (inr k) =
          reads (alive_below bindings.cells) lent k.value slot (k.stands literal cells text) ∙ sym (held-read r.cells r.text bindings stands.sound n k)

  -- A name that has no value there has the words 16 and 0, and no other name has.
  pub unbound-words : (scope_of room n ≡ None) ↔ ((get_or r.state (2 * n) 0 ≡ 16) × (get_or r.state (2 * n + 1) 0 ≡ 0))
  unbound-words = (λ e. slot-words.absent (by-held e slot_held), λ w. sym (binding-read-out [] [] []) ∙ ap (reading none_lent) (ap₂ cell_of w.0 w.1 ∙ absent-words) ∙ absent-reads none_lent)
    where
      none_lent : Rooms
      none_lent = rooms [] r.cells r.text [] []

      unlike : (v : Meant) → Some v ≡ None → ⊥
      unlike v e = let z : ◌≡◌ {A = ℕ} 0 1 = cc in omega arith

      by-held : scope_of room n ≡ None → (slot ≡ Value.Absent) ⊎ HeldBy r.cells r.text bindings.cells bindings.bytes slot → is_absent slot ≡ true
      by-held e (inl a) = ap is_absent a
      by-held e (inr k) = absurd (unlike k.value (sym (held-read r.cells r.text bindings stands.sound n k) ∙ stands.scope n ∙ e))
