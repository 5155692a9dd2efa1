-- One more slot read, and one more written. Assumes nothing.
use Prim.Native.Nat.{ℕ, zero, suc, ◌+◌, ◌-◌, ◌*◌, ◌/◌, ◌≤◌, ◌<◌}
use mathlib.Core.Bool.{Bool, true, false, cond, ◌&&◌}
use mathlib.Core.Path.{◌≡◌, refl, sym, ap, ◌∙◌}
use mathlib.Core.List.{List, [], ◌∷◌, ◌++◌, append_assoc, append-nil}
use native.Mathlib.Omega.{arith}
use lib.ListN.{length, get_or, set, take, drop, replicate, length-append, length-drop, drop_of_length-le}
use lib.Dec.{eqb}
use lib.Seq.{set_at, append_snoc, take-suc, drop-cons, length-take-le, take_all, take_at, sets-eq}
use borrow.Author.Tests.{lt-ltb, le-ltb, eq-eqb, ne_eqb, eqb-true}
use Rattle.rooms.specs.declared.value.Value.{Value}
use Rattle.rooms.specs.declared.scope.Slot.{Slot}
use Rattle.rooms.specs.declared.scope.Scope.{Scope}
use Rattle.rooms.specs.Cells.{head_of, payload_of, value_of, bare_of, cell_of, has_cell, cell_in, written_in}
use Rattle.rooms.specs.Scope.{absent}
use Rattle.rooms.proofs.CellLaws.{written-length}
use Rattle.bindings_sound.specs.declared.Bindings.{Bindings}
use Rattle.bindings_sound.specs.Fits.{is_absent}
use Rattle.bindings_sound.proofs.FitLaws.{both_true}
use Rattle.board_state.specs.State.{says_absent, slot_in, slots_in, scope_in, no_bindings, bindings_in, slot_words, state_of, state_put}

abbrev slot_at : List ℕ → ℕ → Slot
slot_at w i = record { value = slot_in w i }

pub slots_length : (w : List ℕ) (i n : ℕ) → length (slots_in w i n) ≡ n
unfolding slots_in
slots_length w i zero = refl
slots_length w i (suc n) = ap suc (slots_length w (suc i) n)

-- n slots and the one behind them
slots-suc : (w : List ℕ) (i n : ℕ) → slots_in w i (suc n) ≡ slots_in w i n ++ slot_at w (i + n) ∷ []
unfolding slots_in
slots-suc w i zero = ap (λ (k : ℕ). slot_at w k ∷ []) (omega arith)
slots-suc w i (suc n) = ap (λ (l : List Slot). slot_at w i ∷ l) (slots-suc w (suc i) n ∙ ap (λ (k : ℕ). slots_in w (suc i) n ++ slot_at w k ∷ []) (omega arith))

-- the next slot with those read so far
next-read : (w : List ℕ) (at left : ℕ) → slots_in w 0 at ++ slot_at w at ∷ replicate left absent ≡ slots_in w 0 (suc at) ++ replicate left absent
next-read w at left =
    sym (append_snoc (slots_in w 0 at) (slot_at w at) (replicate left absent))
    ∙ ap (λ (l : List Slot). l ++ replicate left absent) (ap (λ (k : ℕ). slots_in w 0 at ++ slot_at w k ∷ []) {x = at} {y = 0 + at} (omega arith) ∙ sym (slots-suc w 0 at))

-- the slots read so far, with absent ones behind them
abbrev pub slots_so_far : List ℕ → (at left : ℕ) → List Slot
slots_so_far w at left = slots_in w 0 at ++ replicate left absent

-- one slot more
so-far-on : (w : List ℕ) (at left : ℕ) → slots_so_far w (suc at) left ≡ slots_so_far w (at + 1) (suc left - 1)
so-far-on w at left = (λ i. slots_so_far w (one i) (less i))
  where
    one : suc at ≡ at + 1
    one = omega arith

    less : left ≡ suc left - 1
    less = omega arith

-- the next one stored
pub slot-stored : (w : List ℕ) (l : List Slot) (v : Value) (at left : ℕ) → 0 < left → l ≡ slots_so_far w at left → v ≡ slot_in w at
    → set l at (record { value = v }) ≡ slots_so_far w (at + 1) (left - 1)
slot-stored w l v at zero h e f = absurd (omega (arith, h))
slot-stored w l v at (suc left) h e f =
    (λ i. set (e i) at (record { value = f i }))
    ∙ set_at (slots_in w 0 at) absent (replicate left absent) (slot_at w at) at (slots_length w 0 at)
    ∙ next-read w at left
    ∙ so-far-on w at left

-- or absent, as it stands there already
pub slot_kept : (w : List ℕ) (l : List Slot) (at left : ℕ) → 0 < left → l ≡ slots_so_far w at left → Value.Absent ≡ slot_in w at → l ≡ slots_so_far w (at + 1) (left - 1)
slot_kept w l at zero h e f = absurd (omega (arith, h))
slot_kept w l at (suc left) h e f =
    e
    ∙ (λ i. slots_in w 0 at ++ record { value = f i } ∷ replicate left absent)
    ∙ next-read w at left
    ∙ so-far-on w at left

pub slots-none : (w : List ℕ) (l : List Slot) → l ≡ replicate 128 absent → l ≡ slots_so_far w 0 128
unfolding slots_in
slots-none w l e = e

pub slots-all : (w : List ℕ) (s : Scope) (at left : ℕ) → left ≤ 0 → at + left ≡ 128 → s.slots ≡ slots_so_far w at left → s ≡ scope_in w
unfolding scope_in
slots-all w s at left h e f =
    ap (λ (l : List Slot). record { slots = l }) (f ∙ (λ i. slots_so_far w (all i) (none i)) ∙ append-nil (slots_in w 0 128))
  where
    all : at ≡ 128
    all = omega (arith, h, e)

    none : left ≡ 0
    none = omega (arith, h)

-- ---- written

pub slot-words-length : (l : List Slot) → length (slot_words l) ≡ length l * 2
unfolding slot_words
slot-words-length [] = refl
slot-words-length (s ∷ l) = omega (arith, slot-words-length l)

slot-words-snoc : (l : List Slot) (s : Slot) → slot_words (l ++ s ∷ []) ≡ slot_words l ++ head_of s.value ∷ payload_of s.value ∷ []
unfolding slot_words
slot-words-snoc [] s = refl
slot-words-snoc (x ∷ l) s = ap (λ (r : List ℕ). head_of x.value ∷ payload_of x.value ∷ r) (slot-words-snoc l s)

-- two words in a row
set-two : (p : List ℕ) (x y : ℕ) (r : List ℕ) (a b i : ℕ) → length p ≡ i → set (set (p ++ x ∷ y ∷ r) i a) (i + 1) b ≡ p ++ a ∷ b ∷ r
set-two p x y r a b i e =
    ap (λ (l : List ℕ). set l (i + 1) b) (set_at p x (y ∷ r) a i e ∙ sym (append_snoc p a (y ∷ r)))
    ∙ set_at (p ++ a ∷ []) y r b (i + 1) (omega (arith, length-append p (a ∷ []), e))
    ∙ append_snoc p a (b ∷ r)

-- the first j slots, over lent words
abbrev pub slots_over : List Slot → List ℕ → (j : ℕ) → List ℕ
slots_over l w j = slot_words (take j l) ++ drop (j * 2) w

pub slot-written : (l : List Slot) (w : List ℕ) (j : ℕ) (d : Slot) → j < length l → length l * 2 ≤ length w
    → written_in (slots_over l w j) j (get_or l j d).value ≡ slots_over l w (j + 1)
unfolding written_in
slot-written l w j d h k =
    rw (lt-ltb j (length (slots_over l w j) / 2) room)
    (ap (λ (r : List ℕ). set (set (before ++ r) (j * 2) head) (j * 2 + 1) payload) split
    ∙ set-two before (get_or w (j * 2) 0) (get_or w (suc (j * 2)) 0) behind head payload (j * 2) long
    ∙ sym (append_assoc before (head ∷ payload ∷ []) behind)
    ∙ ap (λ (r : List ℕ). r ++ behind) (sym (slot-words-snoc (take j l) (get_or l j d)) ∙ ap slot_words (sym (take-suc l j d h)))
    ∙ (λ i. slot_words (take (one i) l) ++ drop (two i) w))
  where
    before : List ℕ
    before = slot_words (take j l)

    behind : List ℕ
    behind = drop (suc (suc (j * 2))) w

    head : ℕ
    head = head_of (get_or l j d).value

    payload : ℕ
    payload = payload_of (get_or l j d).value

    long : length before ≡ j * 2
    long = slot-words-length (take j l) ∙ ap (λ (n : ℕ). n * 2) (length-take-le j l (omega (arith, h)))

    room : j < length (slots_over l w j) / 2
    room = omega (arith, h, k, length-append before (drop (j * 2) w), long, length-drop (j * 2) w)

    split : drop (j * 2) w ≡ get_or w (j * 2) 0 ∷ get_or w (suc (j * 2)) 0 ∷ behind
    split = drop-cons w (j * 2) 0 (omega (arith, h, k)) ∙ ap (λ (r : List ℕ). get_or w (j * 2) 0 ∷ r) (drop-cons w (suc (j * 2)) 0 (omega (arith, h, k)))

    one : suc j ≡ j + 1
    one = omega arith

    two : suc (suc (j * 2)) ≡ (j + 1) * 2
    two = omega arith

pub over_none : (l : List Slot) (w : List ℕ) → w ≡ slots_over l w 0
unfolding slot_words
over_none l w = refl

-- a turn of the loop
pub over-on : (l : List Slot) (w m n : List ℕ) (j : ℕ) (d : Slot) → length l ≡ 128 → 256 ≤ length w → j < 128
    → length m ≡ length w → m ≡ slots_over l w j → n ≡ written_in m j (get_or l j d).value → (length n ≡ length w) × (n ≡ slots_over l w (j + 1))
over-on l w m n j d e k h a b f = (
  ap length f ∙ written-length m j (get_or l j d).value ∙ a,
  f ∙ ap (λ (x : List ℕ). written_in x j (get_or l j d).value) b ∙ slot-written l w j d (omega (arith, e, h)) (omega (arith, e, k)),
)

pub over-all : (l : List Slot) (w : List ℕ) (j : ℕ) → length l ≡ 128 → j ≡ 128 → slots_over l w j ≡ slot_words l ++ drop 256 w
over-all l w j e h = ap (slots_over l w) h ∙ ap (λ (x : List Slot). slot_words x ++ drop 256 w) (take_all 128 l (omega (arith, e)))

-- the three words behind the slots
pub slots-long : (l : List Slot) (w m : List ℕ) → length l ≡ 128 → length w ≡ 259 → m ≡ slot_words l ++ drop 256 w → length m ≡ 259
slots-long l w m e h f = ap length f ∙ omega (arith, length-append (slot_words l) (drop 256 w), slot-words-length l, length-drop 256 w, e, h)

pub state-written : (w m : List ℕ) (b : Bindings) → length b.scope.slots ≡ 128 → length w ≡ 259 → m ≡ slot_words b.scope.slots ++ drop 256 w
    → set (set (set m 256 b.cells) 257 b.bytes) 258 128 ≡ state_put w b
unfolding state_put state_of
state-written w m b e h f = sets-eq behind m 256 (omega (arith, long)) ∙ (λ i. front i ++ behind ++ none i) ∙ append-nil (slot_words b.scope.slots ++ behind) ∙ rw (eq-eqb (length w) 259 h) refl
  where
    behind : List ℕ
    behind = b.cells ∷ b.bytes ∷ 128 ∷ []

    long : length m ≡ 259
    long = slots-long b.scope.slots w m e h f

    front : take 256 m ≡ slot_words b.scope.slots
    front = ap (take 256) f ∙ take_at (slot_words b.scope.slots) (drop 256 w) 256 (omega (arith, slot-words-length b.scope.slots, e))

    none : drop 259 m ≡ []
    none = drop_of_length-le m {i = 259} (omega (arith, long))

pub no-state-written : (w : List ℕ) (b : Bindings) → (length w ≡ 259 → ⊥) → w ≡ state_put w b
unfolding state_put
no-state-written w b h = rw (ne_eqb (length w) 259 h) refl

-- ---- what a slot's words say

pub says_two : (w : List ℕ) (i : ℕ) → i < length w / 2 → get_or w (i * 2) 0 ≡ 16 → eqb (get_or w (i * 2 + 1) 0) 0 ≡ says_absent w i
unfolding says_absent
says_two w i h e = rw (lt-ltb i (length w / 2) h) (rw (eq-eqb (get_or w (i * 2) 0) 16 e) refl)

pub says_other : (w : List ℕ) (i : ℕ) → i < length w / 2 → (get_or w (i * 2) 0 ≡ 16 → ⊥) → false ≡ says_absent w i
unfolding says_absent
says_other w i h e = rw (lt-ltb i (length w / 2) h) (rw (ne_eqb (get_or w (i * 2) 0) 16 e) refl)

pub says_none : (w : List ℕ) (i : ℕ) → length w / 2 ≤ i → false ≡ says_absent w i
unfolding says_absent
says_none w i h = rw (le-ltb i (length w / 2) h) refl

-- words that say so are those of no value
says-cell : (has : Bool) (h p : ℕ) → (has && (eqb h 16 && eqb p 0)) ≡ true → cond has (cell_of h p) Value.Absent ≡ Value.Absent
unfolding cell_of value_of bare_of
says-cell true h p e = let f = both_true e in (λ i. cell_of (eqb-true h 16 f.0 i) (eqb-true p 0 f.1 i))
says-cell false h p e = refl

absent-cell : (w : List ℕ) (i : ℕ) → says_absent w i ≡ true → cell_in w i ≡ Value.Absent
unfolding says_absent cell_in
absent-cell w i e = says-cell (has_cell w i) (get_or w (i * 2) 0) (get_or w (i * 2 + 1) 0) e

-- what a slot's words hold: that it is absent, a value, or neither
pub slot-absent : (w : List ℕ) (i : ℕ) → says_absent w i ≡ true → Value.Absent ≡ slot_in w i
unfolding slot_in
slot-absent w i e = rw (ap is_absent (absent-cell w i e)) (rw e refl)

pub slot-value : (w : List ℕ) (i : ℕ) (v : Value) → v ≡ cell_in w i → is_absent v ≡ false → v ≡ slot_in w i
unfolding slot_in
slot-value w i v e f = e ∙ rw (ap is_absent (sym e) ∙ f) refl

pub slot-wrong : (w : List ℕ) (i : ℕ) (v : Value) → v ≡ cell_in w i → is_absent v ≡ true → says_absent w i ≡ false → Value.OptionalNone ≡ slot_in w i
unfolding slot_in
slot-wrong w i v e f g = rw (ap is_absent (sym e) ∙ f) (rw g refl)

-- ---- whether words are a state

pub other_length : (w : List ℕ) → (length w ≡ 259 → ⊥) → no_bindings ≡ bindings_in w
unfolding bindings_in
other_length w h = rw (ne_eqb (length w) 259 h) refl

pub other-count : (w : List ℕ) → length w ≡ 259 → (get_or w 258 0 ≡ 128 → ⊥) → no_bindings ≡ bindings_in w
unfolding bindings_in
other-count w e h = rw (eq-eqb (length w) 259 e) (rw (ne_eqb (get_or w 258 0) 128 h) refl)

pub is_state : (w : List ℕ) (s : Scope) → length w ≡ 259 → get_or w 258 0 ≡ 128 → s ≡ scope_in w → record { scope = s; cells = get_or w 256 0; bytes = get_or w 257 0 } ≡ bindings_in w
unfolding bindings_in
is_state w s e h f = ap (λ (x : Scope). record { scope = x; cells = get_or w 256 0; bytes = get_or w 257 0 }) f ∙ rw (eq-eqb (length w) 259 e) (rw (eq-eqb (get_or w 258 0) 128 h) refl)
