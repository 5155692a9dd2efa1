-- The words of a state come back as they were when what they stand for is written again: exactly of words that are in order. Assumes nothing.
use Prim.Native.Nat.{ℕ, zero, suc, ◌+◌, ◌*◌, ◌/◌, ◌<◌, ◌≤◌}
use mathlib.Core.Path.{◌≡◌, refl, sym, ap, ap₂, ◌∙◌}
use mathlib.Core.Logic.{◌⊎◌, inl, inr, ◌↔◌}
use mathlib.Core.Bool.{Bool, true, false, true≢false}
use mathlib.Core.List.{List, [], ◌∷◌, ◌++◌}
use native.Mathlib.Omega.{arith}
use lib.Dec.{eqb}
use lib.ListN.{length, get_or, drop, drop_of_length-le}
use lib.Seq.{drop-cons}
use borrow.Author.Tests.{lt-ltb, eqb-true}
use Rattle.rooms.specs.declared.value.Value.TheVariants as Value
use Rattle.rooms.specs.declared.scope.Slot.{Slot}
use Rattle.rooms.specs.Cells.{head_of, payload_of, bare_of, value_of, cell_of, has_cell, cell_in}
use Rattle.rooms.specs.Scope.{slot_of}
use Rattle.bindings_sound.specs.declared.Bindings.{Bindings}
use Rattle.std.specs.Prelude.{Result, Ok, Err}
use Rattle.bindings_sound.specs.Fits.{is_absent, slot_fits}
use Rattle.bindings_sound.specs.Sound.{sound_of}
use Rattle.bindings_sound.proofs.FitLaws.{both_true, sound-room}
use Rattle.board_state.specs.State.{says_absent, slot_in, slots_in, scope_in, no_bindings, is_state, bindings_in, slot_words, state_of}
use Rattle.board_state.proofs.SlotSteps.{slot-absent, slot-value, slot-wrong}
use Rattle.board_state.proofs.NoState.{no-state}
use Rattle.board_laws.specs.InOrder.{Words, InOrder}
use Rattle.board_laws.proofs.CellWords.{cell-written}

-- ---- a state's own words

module _ (w : List ℕ) (s : is_state w ≡ true) where
  pub state-long : length w ≡ 259
  state-long = eqb-true (length w) 259 (both_true s).0

  slot-count : get_or w 258 0 ≡ 128
  slot-count = eqb-true (get_or w 258 0) 128 (both_true {a = eqb (length w) 259} s).1

  pub is-bindings : bindings_in w ≡ record { scope = scope_in w; cells = get_or w 256 0; bytes = get_or w 257 0 }
  unfolding bindings_in
  is-bindings = rw s refl

  pub cell-there : (n : ℕ) → n < 128 → cell_in w n ≡ cell_of (get_or w (n * 2) 0) (get_or w (n * 2 + 1) 0)
  unfolding cell_in
  cell-there n h = rw (lt-ltb n (length w / 2) (omega (arith, h, state-long))) refl

  pub says-words : (n : ℕ) → says_absent w n ≡ true → (get_or w (n * 2) 0 ≡ 16) × (get_or w (n * 2 + 1) 0 ≡ 0)
  unfolding says_absent
  says-words n e = let f = both_true {a = eqb (get_or w (n * 2) 0) 16} (both_true {a = has_cell w n} e).1 in (eqb-true (get_or w (n * 2) 0) 16 f.0, eqb-true (get_or w (n * 2 + 1) 0) 0 f.1)

  -- ---- in order, it comes back

  module _ (words : Words w) (slots : (n : ℕ) → n < 128 → (is_absent (cell_in w n) ≡ false) ⊎ (says_absent w n ≡ true)) where
    slot-words : (n : ℕ) → n < 128 → (head_of (slot_in w n) ≡ get_or w (n * 2) 0) × (payload_of (slot_in w n) ≡ get_or w (n * 2 + 1) 0)
    slot-words n h = by-words (slots n h)
      where
        by-words : (is_absent (cell_in w n) ≡ false) ⊎ (says_absent w n ≡ true) → (head_of (slot_in w n) ≡ get_or w (n * 2) 0) × (payload_of (slot_in w n) ≡ get_or w (n * 2 + 1) 0)
        by-words (inl e) =
            let f = (cell-written (get_or w (n * 2) 0) (get_or w (n * 2 + 1) 0) (words (n * 2 + 1))).words (ap is_absent (sym (cell-there n h)) ∙ e) in
            let g = sym (slot-value w n (cell_in w n) refl e) ∙ cell-there n h in
            (ap head_of g ∙ f.0, ap payload_of g ∙ f.1)
        by-words (inr e) =
            let f = says-words n e in
            let g = sym (slot-absent w n e) in
            (ap head_of g ∙ sym f.0, ap payload_of g ∙ sym f.1)

    -- n slots from i on, with all that is behind them
    slots-again : (i n : ℕ) → i + n ≤ 128 → slot_words (slots_in w i n) ++ drop ((i + n) * 2) w ≡ drop (i * 2) w
    unfolding slots_in slot_words
    slots-again i zero h = ap (λ (k : ℕ). drop (k * 2) w) {x = i + 0} {y = i} (omega arith)
    slots-again i (suc n) h =
        ap (λ (k : ℕ). head_of (slot_in w i) ∷ payload_of (slot_in w i) ∷ slot_words (slots_in w (suc i) n) ++ drop (k * 2) w) {x = i + suc n} {y = suc i + n} (omega arith)
        ∙ ap (λ (l : List ℕ). head_of (slot_in w i) ∷ payload_of (slot_in w i) ∷ l) (slots-again (suc i) n (omega (arith, h)) ∙ ap (λ (k : ℕ). drop k w) {x = suc i * 2} {y = suc (suc (i * 2))} (omega arith))
        ∙ (λ k. (slot-words i (omega (arith, h))).0 k ∷ ((slot-words i (omega (arith, h))).1 ∙ ap (λ (m : ℕ). get_or w m 0) {x = i * 2 + 1} {y = suc (i * 2)} (omega arith)) k ∷ drop (suc (suc (i * 2))) w)
        ∙ ap (λ (l : List ℕ). get_or w (i * 2) 0 ∷ l) (sym (drop-cons w (suc (i * 2)) 0 (omega (arith, h, state-long))))
        ∙ sym (drop-cons w (i * 2) 0 (omega (arith, h, state-long)))

    behind : drop 256 w ≡ get_or w 256 0 ∷ get_or w 257 0 ∷ 128 ∷ []
    behind =
        drop-cons w 256 0 (omega (arith, state-long))
        ∙ ap (λ (l : List ℕ). get_or w 256 0 ∷ l) (drop-cons w 257 0 (omega (arith, state-long)))
        ∙ ap (λ (l : List ℕ). get_or w 256 0 ∷ get_or w 257 0 ∷ l) (drop-cons w 258 0 (omega (arith, state-long)))
        ∙ (λ i. get_or w 256 0 ∷ get_or w 257 0 ∷ slot-count i ∷ drop_of_length-le w {i = 259} (omega (arith, state-long)) i)

    all-again : state_of (bindings_in w) ≡ w
    unfolding state_of scope_in
    all-again = ap state_of is-bindings ∙ ap (λ (l : List ℕ). slot_words (slots_in w 0 128) ++ l) (sym behind) ∙ slots-again 0 128 (omega arith)

  -- ---- where it comes back, it is in order

  -- the words of a slot that was written
  slot_at : (i n k : ℕ) (r : List ℕ) → k < n
      → (get_or (slot_words (slots_in w i n) ++ r) (k * 2) 0 ≡ head_of (slot_in w (i + k))) × (get_or (slot_words (slots_in w i n) ++ r) (k * 2 + 1) 0 ≡ payload_of (slot_in w (i + k)))
  unfolding slots_in slot_words
  slot_at i zero k r h = absurd (omega (arith, h))
  slot_at i (suc n) zero r h = (ap (λ (m : ℕ). head_of (slot_in w m)) {x = i} {y = i + 0} (omega arith), ap (λ (m : ℕ). payload_of (slot_in w m)) {x = i} {y = i + 0} (omega arith))
  slot_at i (suc n) (suc k) r h =
      let f = slot_at (suc i) n k r (omega (arith, h)) in
      let l = head_of (slot_in w i) ∷ payload_of (slot_in w i) ∷ slot_words (slots_in w (suc i) n) ++ r in (
        ap (λ (m : ℕ). get_or l m 0) {x = suc k * 2} {y = suc (suc (k * 2))} (omega arith) ∙ f.0 ∙ ap (λ (m : ℕ). head_of (slot_in w m)) {x = suc i + k} {y = i + suc k} (omega arith),
        ap (λ (m : ℕ). get_or l m 0) {x = suc k * 2 + 1} {y = suc (suc (k * 2 + 1))} (omega arith) ∙ f.1 ∙ ap (λ (m : ℕ). payload_of (slot_in w m)) {x = suc i + k} {y = i + suc k} (omega arith),
      )

  module _ (again : state_of (bindings_in w) ≡ w) (n : ℕ) (h : n < 128) where
    words_at : (get_or w (n * 2) 0 ≡ head_of (slot_in w n)) × (get_or w (n * 2 + 1) 0 ≡ payload_of (slot_in w n))
    unfolding state_of scope_in
    words_at =
        let f = slot_at 0 128 n (get_or w 256 0 ∷ get_or w 257 0 ∷ 128 ∷ []) h in
        let g = sym again ∙ ap state_of is-bindings in (
          ap (λ (l : List ℕ). get_or l (n * 2) 0) g ∙ f.0 ∙ ap (λ (m : ℕ). head_of (slot_in w m)) {x = 0 + n} {y = n} (omega arith),
          ap (λ (l : List ℕ). get_or l (n * 2 + 1) 0) g ∙ f.1 ∙ ap (λ (m : ℕ). payload_of (slot_in w m)) {x = 0 + n} {y = n} (omega arith),
        )

    -- words of neither are written as an Optional's, which are a value's
    never-wrong : is_absent (cell_in w n) ≡ true → says_absent w n ≡ false → ⊥
    unfolding cell_of value_of bare_of
    never-wrong e f =
        let v = sym (slot-wrong w n (cell_in w n) refl e f) in
        let c : cell_in w n ≡ Value.OptionalNone = cell-there n h ∙ ap₂ cell_of (words_at.0 ∙ ap head_of v) (words_at.1 ∙ ap payload_of v) in
        true≢false (sym e ∙ ap is_absent c)

    slot-order : (is_absent (cell_in w n) ≡ false) ⊎ (says_absent w n ≡ true)
    slot-order = by-test (is_absent (cell_in w n)) refl (says_absent w n) refl
      where
        by-test : (a : Bool) → is_absent (cell_in w n) ≡ a → (b : Bool) → says_absent w n ≡ b → (is_absent (cell_in w n) ≡ false) ⊎ (says_absent w n ≡ true)
        by-test false e b f = inl e
        by-test true e true f = inr f
        by-test true e false f = absurd (never-wrong e f)

-- words that are no state are not what they stand for
other-never : (w : List ℕ) → is_state w ≡ false → state_of (bindings_in w) ≡ w → ⊥
unfolding bindings_in state_of no_bindings slot_words
other-never w e f = true≢false (sym (ap is_state (sym f ∙ ap state_of none)) ∙ e)
  where
    none : bindings_in w ≡ no_bindings
    none = rw e refl

-- ---- the theorems

-- The words of a state come back as they were when what they stand for is written again, exactly if they are in order.
pub words-again : (w : List ℕ) → Words w → InOrder w ↔ (state_of (bindings_in w) ≡ w)
words-again w words = (λ o. all-again w o.state words o.slots, λ e. by_state e (is_state w) refl)
  where
    by_state : state_of (bindings_in w) ≡ w → (b : Bool) → is_state w ≡ b → InOrder w
    by_state e true s = record { state = s; slots = slot-order w s e }
    by_state e false s = absurd (other-never w s e)

-- ---- a state that is accepted

or-absent : (w : List ℕ) (cells text : List ℕ) (used bytes n : ℕ) → slot_fits cells text used bytes (slot_in w n) ≡ true → (is_absent (cell_in w n) ≡ false) ⊎ (says_absent w n ≡ true)
unfolding slot_fits
or-absent w cells text used bytes n f = by-test (is_absent (cell_in w n)) refl (says_absent w n) refl
  where
    by-test : (a : Bool) → is_absent (cell_in w n) ≡ a → (b : Bool) → says_absent w n ≡ b → (is_absent (cell_in w n) ≡ false) ⊎ (says_absent w n ≡ true)
    by-test false e b g = inl e
    by-test true e true g = inr g
    by-test true e false g = absurd (true≢false (sym f ∙ ap (slot_fits cells text used bytes) (sym (slot-wrong w n (cell_in w n) refl e g))))

slot_is : (w : List ℕ) (i n k : ℕ) (d : Slot) → k < n → (get_or (slots_in w i n) k d).value ≡ slot_in w (i + k)
unfolding slots_in
slot_is w i zero k d h = absurd (omega (arith, h))
slot_is w i (suc n) zero d h = ap (slot_in w) {x = i} {y = i + 0} (omega arith)
slot_is w i (suc n) (suc k) d h = slot_is w (suc i) n k d (omega (arith, h)) ∙ ap (slot_in w) {x = suc i + k} {y = i + suc k} (omega arith)

-- what a name has in what a state stands for
pub slot-in : (w : List ℕ) → is_state w ≡ true → (n : ℕ) → n < 128 → slot_of (bindings_in w).scope n ≡ slot_in w n
unfolding scope_in
slot-in w s n h = ap (λ (b : Bindings). slot_of b.scope n) (is-bindings w s) ∙ slot_is w 0 128 n _ h ∙ ap (slot_in w) {x = 0 + n} {y = n} (omega arith)

-- words that some room is sound with are a state
pub sound-state : (w cells text : List ℕ) → sound_of cells text (bindings_in w) ≡ Ok tt → is_state w ≡ true
sound-state w cells text s = by_state (is_state w) refl
  where
    unlike : ◌≡◌ {A = Result (Unit {0}) ℕ} (Ok tt) (Err 0) → ⊥
    unlike e = let z : ◌≡◌ {A = ℕ} 0 1 = cc in omega arith

    by_state : (b : Bool) → is_state w ≡ b → is_state w ≡ true
    by_state true e = e
    by_state false e = absurd (unlike (sym s ∙ no-state w cells text e))

-- A state that is accepted over some cells and text is in order.
pub sound-order : (w cells text : List ℕ) → sound_of cells text (bindings_in w) ≡ Ok tt → InOrder w
sound-order w cells text s =
    let t = sound-state w cells text s in
    let r = sound-room cells text (bindings_in w) s in
    record { state = t; slots = λ n h. or-absent w cells text (bindings_in w).cells (bindings_in w).bytes n (ap (slot_fits cells text (bindings_in w).cells (bindings_in w).bytes) (sym (slot-in w t n h)) ∙ r.slots n h) }

-- So its words come back as they were.
pub accepted-again : (w cells text : List ℕ) → Words w → sound_of cells text (bindings_in w) ≡ Ok tt → state_of (bindings_in w) ≡ w
accepted-again w cells text words s = (words-again w words).0 (sound-order w cells text s)
