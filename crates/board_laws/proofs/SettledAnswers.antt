-- Bringing in and evaluating over settled bindings come to what they come to over the bindings themselves; so do they over a state that
-- bindings were put into. Rests on SettledValues. Assumes nothing.
use Prim.Native.Nat.{ℕ, zero, suc}
use mathlib.Core.Path.{◌≡◌, refl, sym, ap, ◌∙◌, subst}
use mathlib.Core.Logic.{◌↔◌}
use mathlib.Core.List.{List, [], ◌∷◌, map}
use lib.ListN.{length, get_or, set}
use Rattle.meaning.specs.declared.refusal.Reason.TheVariants.{WrongField, NameBound}
use Rattle.meaning.specs.Value.{Scalar, null, bool, int, uint, double, string, bytes}
use Rattle.meaning.specs.Kinds.{name_of}
use Rattle.meaning.specs.Heads.{Got, got, refused, ◌>>=◌, ◌>>◌, demand, or_refuse, start}
use Rattle.meaning.specs.Table.{read_table}
use Rattle.meaning.specs.Spelling.{Literal, scalar_at, list_at, map_at}
use Rattle.meaning.specs.Bindings.{BindingRoom, scope_of}
use Rattle.meaning.specs.Answer.{Answered, answer_read}
use Rattle.rooms.specs.declared.value.Value.{Value}
use Rattle.rooms.specs.declared.scope.Slot.{Slot}
use Rattle.rooms.specs.Cells.{Fits, settled}
use Rattle.rooms.specs.Rooms.{Rooms}
use Rattle.rooms.specs.Scope.{absent, slot_of}
use Rattle.rooms_taking.specs.Taking.{cell_room, text_room}
use Rattle.bindings_sound.specs.declared.Bindings.{Bindings}
use Rattle.bindings_sound.specs.Fits.{is_absent}
use Rattle.bindings_literals.specs.Laying.{Room, room, laid_scalar, laid}
use Rattle.bindings_sound.specs.Sound.{if_sound}
use Rattle.bindings.specs.Bringing as Bringing
use Rattle.bindings.specs.Bringing.{literal_for, after, outcome_of}
use Rattle.bindings_laws.specs.Brings.{StandsFor}
use Rattle.answer.specs.Evaluated as Evaluated
use Rattle.answer.specs.declared.Answer.{Answer}
use Rattle.answer.specs.Meant.{Says, limits, meant, Evaluates}
use Rattle.answer.specs.Alike.{Alike}
use Rattle.answer.proofs.Promises.{says-alike}
use Rattle.board_state.specs.State.{bindings_in, state_of}
use Rattle.board_state.specs.Settled.{settled_slot, settled_bindings, AllFit}
use Rattle.board_state.proofs.RoundTrip.{round_trip}
use Rattle.board_laws.specs.ValueWords.{settled_outcome}
use Rattle.board_laws.proofs.SettledValues.{read-settled, settled-absent, settled-slot, settled-written, settled-sound, settled-held, settled-room}

-- ---- what is laid down is settled

scalar-settled : (x : Scalar) (r : Room) → settled (laid_scalar x r).0 ≡ (laid_scalar x r).0
unfolding laid_scalar
scalar-settled null r = refl
scalar-settled (bool b) r = refl
scalar-settled (int z) r = refl
scalar-settled (uint n) r = refl
scalar-settled (double d) r = read-settled d
scalar-settled (string s) r = refl
scalar-settled (bytes s) r = refl

pub laid-settled : (l : Literal) (r : Room) → settled (laid l r).0 ≡ (laid l r).0
unfolding laid
laid-settled (scalar_at p x) r = scalar-settled x r
laid-settled (list_at p ls) r = refl
laid-settled (map_at p ls) r = refl

set-settled : (l : List Slot) (n : ℕ) (s : Slot) → map settled_slot (set l n s) ≡ set (map settled_slot l) n (settled_slot s)
set-settled [] n s = refl
set-settled (x ∷ l) zero s = refl
set-settled (x ∷ l) (suc n) s = ap (λ (r : List Slot). settled_slot x ∷ r) (set-settled l n s)

-- ---- bringing in

module _ (w t : List ℕ) (b : Bindings) (name : ℕ) (table literal : List ℕ) where
  accepted-alike : Bringing.accepted w t (settled_bindings b) name table literal ≡ Bringing.accepted w t b name table literal
  unfolding Bringing.accepted
  accepted-alike =
      λ i. if_sound (settled-sound w t b i)
      (◌>>=◌ (or_refuse WrongField start (name_of name))
      (λ n. ◌>>◌ (demand ((ap is_absent (settled-slot b n) ∙ settled-absent (slot_of b.scope n)) i) NameBound start)
      (◌>>=◌ (read_table table literal) (λ e. literal_for (cell_room w) (text_room t) b.cells b.bytes e))))

  after-alike : (g : Got Literal) → after w t (settled_bindings b) name g ≡ settled_outcome (after w t b name g)
  after-alike (refused r p) = refl
  after-alike (got l) =
      λ i. record {
        answer = Bringing.said (got l);
        bindings =
            record {
              scope = record { slots = (ap (λ (v : Value). set (map settled_slot b.scope.slots) name (record { value = v })) (sym (laid-settled l r)) ∙ sym (set-settled b.scope.slots name (record { value = (laid l r).0 }))) i };
              cells = (laid l r).1.cells;
              bytes = (laid l r).1.bytes;
            };
        words = (laid l r).1.words;
        text = (laid l r).1.text;
      }
    where
      r : Room
      r = room w t b.cells b.bytes

  -- Bringing in over settled bindings: the same answer, the same cells and text, and the bindings that come of it, settled.
  pub settled-brings : outcome_of w t (settled_bindings b) name table literal ≡ settled_outcome (outcome_of w t b name table literal)
  unfolding outcome_of
  settled-brings = ap (after w t (settled_bindings b) name) accepted-alike ∙ after-alike (Bringing.accepted w t b name table literal)

-- ---- evaluating

module _ (table : List ℕ) (b : Bindings) (fit : (n : ℕ) → Fits (slot_of b.scope n)) (steps : ℕ) (lent : Rooms) where
  accepted-too : Evaluated.accepted table (settled_bindings b) lent ≡ Evaluated.accepted table b lent
  unfolding Evaluated.accepted
  accepted-too = λ i. ◌>>=◌ (read_table table lent.literal) (λ e. if_sound (settled-sound lent.binding_cells lent.binding_text b i) (got e))

  -- Evaluating over settled bindings: the definition's answer is the one over the bindings themselves.
  pub settled-meant : meant table (settled_bindings b) steps lent ≡ meant table b steps lent
  unfolding meant
  settled-meant = λ i. answer_read (limits steps lent) (scope_of (settled-room lent.binding_cells lent.binding_text b fit i)) (accepted-too i)

-- So evaluations over the two come to the same: what is told, what each cell below the counts holds, every other word and byte.
pub settled-alike : (table : List ℕ) (b : Bindings) → ((n : ℕ) → Fits (slot_of b.scope n)) → (steps : ℕ) (lent : Rooms) (answer other : Answer) (left left_other : Rooms)
    → Evaluates table (settled_bindings b) steps lent answer left → Evaluates table b steps lent other left_other → Alike answer left other left_other
settled-alike table b fit steps lent answer other left left_other h k =
    says-alike (meant table b steps lent) lent lent answer other left left_other refl refl
    (subst (λ (m : Answered). Says m lent answer left) (settled-meant table b fit steps lent) h.says) k.says

-- ---- rooms of the definition

-- Settled bindings stand for a room of the definition exactly if the bindings themselves do.
pub settled-stands : (w t : List ℕ) (b : Bindings) → ((n : ℕ) → Fits (slot_of b.scope n)) → (room : BindingRoom) → StandsFor w t (settled_bindings b) room ↔ StandsFor w t b room
settled-stands w t b fit room = (
  λ s. record { sound = sym (settled-sound w t b) ∙ s.sound; cells = s.cells; bytes = s.bytes; scope = λ n. sym (settled-held w t b fit n) ∙ s.scope n },
  λ s. record { sound = settled-sound w t b ∙ s.sound; cells = s.cells; bytes = s.bytes; scope = λ n. settled-held w t b fit n ∙ s.scope n },
)

-- ---- over a state

pub each_fits : (l : List Slot) → AllFit l → (n : ℕ) → Fits (get_or l n absent).value
each_fits [] f n = tt
each_fits (s ∷ l) f zero = f.0
each_fits (s ∷ l) f (suc n) = each_fits l f.1 n

module _ (b : Bindings) (whole : length b.scope.slots ≡ 128) (fit : AllFit b.scope.slots) where
  -- The words of a state that bindings were put into come back as they were.
  pub put-again : state_of (bindings_in (state_of b)) ≡ state_of b
  put-again = ap state_of (round_trip b whole fit) ∙ settled-written b fit

  -- Evaluating over a state that bindings were put into: the definition's answer is the one over those bindings.
  pub state-meant : (table : List ℕ) (steps : ℕ) (lent : Rooms) → meant table (bindings_in (state_of b)) steps lent ≡ meant table b steps lent
  state-meant table steps lent = ap (λ (c : Bindings). meant table c steps lent) (round_trip b whole fit) ∙ settled-meant table b (each_fits b.scope.slots fit) steps lent

  -- Bringing in over it: what bringing in over those bindings comes to, settled.
  pub state-brings : (w t : List ℕ) (name : ℕ) (table literal : List ℕ) → outcome_of w t (bindings_in (state_of b)) name table literal ≡ settled_outcome (outcome_of w t b name table literal)
  state-brings w t name table literal = ap (λ (c : Bindings). outcome_of w t c name table literal) (round_trip b whole fit) ∙ settled-brings w t b name table literal
