-- The slots of bindings hold values that words can hold: those that a state stands for, and those that bringing in makes of them. Assumes nothing.
use Prim.Native.Nat.{ℕ, zero, suc, ◌+◌, ◌≤◌}
use mathlib.Core.Path.{◌≡◌, refl}
use mathlib.Core.Bool.{Bool, true, false, cond}
use mathlib.Core.List.{List, [], ◌∷◌}
use native.Mathlib.Omega.{arith}
use lib.ListN.{length, get_or, set, replicate, length-set}
use Rattle.numbers.proofs.IntLaws.{range_small}
use Rattle.meaning.specs.Value.{Scalar, null, bool, int, uint, double, string, bytes}
use Rattle.meaning.specs.Spelling.{Literal, scalar_at, list_at, map_at, Literals, no_literals, literals, LiteralPairs, no_literal_pairs, literal_pairs, literal_nesting}
use Rattle.meaning.specs.Heads.{Got, got, refused}
use Rattle.meaning.specs.Bindings.{text_bytes}
use Rattle.meaning.specs.WellFormed.{AllBytes, SoundScalar}
use Rattle.meaning_laws.proofs.Reading.{was_read}
use Rattle.meaning_laws.proofs.TableFormed.{table-formed}
use Rattle.meaning_laws.proofs.Spelled.{SoundLiteral, literal-sound}
use Rattle.table_check.specs.Records.{expr_of}
use Rattle.rooms.specs.declared.value.Value.{Value}
use Rattle.rooms.specs.declared.scope.Slot.{Slot}
use Rattle.rooms.specs.Cells as Cells
use Rattle.rooms.specs.Cells.{cell_in}
use Rattle.rooms.specs.Scope.{absent, empty_slots}
use Rattle.bindings_sound.specs.declared.Bindings.{Bindings}
use Rattle.bindings_sound.specs.Fits.{is_absent}
use Rattle.bindings_literals.specs.Judging.{cells_for, cells_among, cells_over, bytes_for}
use Rattle.bindings_literals.specs.Laying.{Room, room, laid_scalar, count_literals, count_pairs, laid}
use Rattle.bindings.specs.Bringing.{accepted, after, outcome_of}
use Rattle.bindings.proofs.AcceptedLaws.{Fits, accepted-fits}
use Rattle.machine.proofs.Words.{bits_fit}
use Rattle.machine.proofs.AnyCells.{cell-fits}
use Rattle.board_state.specs.State.{says_absent, slot_in, slots_in, scope_in, no_bindings, is_state, bindings_in}
use Rattle.board_state.specs.Settled.{AllFit}
use Rattle.board_state.proofs.SlotSteps.{slots_length}
use Rattle.board_laws.specs.InOrder.{Words}

-- ---- rows of slots

set-fits : (l : List Slot) (n : ℕ) (v : Value) → AllFit l → Cells.Fits v → AllFit (set l n (record { value = v }))
set-fits [] n v f g = tt
set-fits (s ∷ l) zero v f g = (g, f.1)
set-fits (s ∷ l) (suc n) v f g = (f.0, set-fits l n v f.1 g)

pub absent-fit : (n : ℕ) → AllFit (replicate n absent)
absent-fit zero = tt
absent-fit (suc n) = (tt, absent-fit n)

-- ---- those of a state

module _ (w : List ℕ) (words : Words w) where
  slot-fits : (i : ℕ) → Cells.Fits (slot_in w i)
  unfolding slot_in
  slot-fits i = by_tests (is_absent (cell_in w i)) (says_absent w i)
    where
      by_tests : (a b : Bool) → Cells.Fits (cond a (cond b Value.Absent Value.OptionalNone) (cell_in w i))
      by_tests true true = tt
      by_tests true false = tt
      by_tests false b = cell-fits w words i

  slots-fit : (i n : ℕ) → AllFit (slots_in w i n)
  unfolding slots_in
  slots-fit i zero = tt
  slots-fit i (suc n) = (slot-fits i, slots-fit (suc i) n)

  -- the slots that words stand for hold such values, whether they are a state or not
  pub state-fits : AllFit (bindings_in w).scope.slots
  unfolding bindings_in scope_in no_bindings
  state-fits = by_state (is_state w)
    where
      by_state : (b : Bool) → AllFit (cond b (record { scope = scope_in w; cells = get_or w 256 0; bytes = get_or w 257 0 }) no_bindings).scope.slots
      by_state true = slots-fit 0 128
      by_state false = set-fits empty_slots.slots 0 Value.OptionalNone (absent-fit 128) tt

-- there are as many as names
pub state-slots : (w : List ℕ) → length (bindings_in w).scope.slots ≡ 128
unfolding bindings_in scope_in no_bindings
state-slots w = by_state (is_state w)
  where
    by_state : (b : Bool) → length (cond b (record { scope = scope_in w; cells = get_or w 256 0; bytes = get_or w 257 0 }) no_bindings).scope.slots ≡ 128
    by_state true = slots_length w 0 128
    by_state false = refl

-- ---- what is laid down

scalar_fits : (x : Scalar) (r : Room) → SoundScalar x → r.bytes + text_bytes x ≤ 16384 → Cells.Fits (laid_scalar x r).0
unfolding laid_scalar text_bytes
scalar_fits null r s h = tt
scalar_fits (bool b) r s h = tt
scalar_fits (int z) r s h = range_small z s
scalar_fits (uint n) r s h = s
scalar_fits (double d) r s h = bits_fit d s
scalar_fits (string t) r s h = (omega (arith, h), omega (arith, h))
scalar_fits (bytes t) r s h = (omega (arith, h), omega (arith, h))

-- a container takes a cell for each part at least
row-cells : (ls : Literals) → count_literals ls ≤ cells_among ls
unfolding count_literals cells_among
row-cells no_literals = omega arith
row-cells (literals l ls) = let h = row-cells ls in omega arith

pair-cells : (ls : LiteralPairs) → count_pairs ls ≤ cells_over ls
unfolding count_pairs cells_over
pair-cells no_literal_pairs = omega arith
pair-cells (literal_pairs l m ls) = let h = pair-cells ls in omega arith

literal-fits : (l : Literal) (r : Room) → SoundLiteral l → literal_nesting l ≤ 32 → r.cells + cells_for l ≤ 4096 → r.bytes + bytes_for l ≤ 16384 → Cells.Fits (laid l r).0
unfolding laid literal_nesting cells_for bytes_for
literal-fits (scalar_at p x) r s n c b = scalar_fits x r s b
literal-fits (list_at p ls) r s n c b = (omega (arith, n), omega (arith, c), omega (arith, c, row-cells ls))
literal-fits (map_at p ls) r s n c b = (omega (arith, n), omega (arith, c), omega (arith, c, pair-cells ls))

-- ---- those that bringing in leaves

module _ (w t : List ℕ) (b : Bindings) (name : ℕ) (table literal : List ℕ) (table_bytes : AllBytes table) (text_bytes : AllBytes literal) (fit : AllFit b.scope.slots) where
  laid-fits : (l : Literal) → Fits w t b name table literal l → Cells.Fits (laid l (room w t b.cells b.bytes)).0
  laid-fits l f =
      literal-fits l (room w t b.cells b.bytes) (was_read (literal-sound (expr_of table literal 0) (was_read (table-formed table literal table_bytes text_bytes) f.read.is)) f.literals)
      f.nests (omega (arith, f.cells)) (omega (arith, f.bytes))

  after-fits : (g : Got Literal) → accepted w t b name table literal ≡ g → AllFit (after w t b name g).bindings.scope.slots
  after-fits (refused r p) e = fit
  after-fits (got l) e = set-fits b.scope.slots name (laid l (room w t b.cells b.bytes)).0 fit (laid-fits l (was_read (accepted-fits w t b name table literal) e))

  -- The slots after bringing in hold values that words can hold.
  pub outcome_fits : AllFit (outcome_of w t b name table literal).bindings.scope.slots
  unfolding outcome_of
  outcome_fits = after-fits (accepted w t b name table literal) refl

-- and are as many as before
pub outcome-slots : (w t : List ℕ) (b : Bindings) (name : ℕ) (table literal : List ℕ) → length (outcome_of w t b name table literal).bindings.scope.slots ≡ length b.scope.slots
unfolding outcome_of
outcome-slots w t b name table literal = by_read (accepted w t b name table literal)
  where
    by_read : (g : Got Literal) → length (after w t b name g).bindings.scope.slots ≡ length b.scope.slots
    by_read (refused r p) = refl
    by_read (got l) = length-set b.scope.slots name _
