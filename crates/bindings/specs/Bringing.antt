-- Bringing in a binding: the refusals in their order, and what the room is afterwards.
use Rattle.std.specs.Prelude.{ℕ, ◌+◌, List, ◌&&◌, leb, Result, Ok, Err}
use Rattle.meaning.specs.Errors.{refusal_at}
use Rattle.meaning.specs.declared.refusal.Refusal.{Refusal}
use Rattle.meaning.specs.declared.refusal.Reason.TheVariants.{WrongField, BindingRoomFull, NameBound}
use Rattle.meaning.specs.Expr.{Expr}
use Rattle.meaning.specs.Kinds.{name_of}
use Rattle.meaning.specs.Heads.{Got, got, refused, ◌>>=◌, ◌>>◌, demand, or_refuse, start}
use Rattle.meaning.specs.Table.{read_table}
use Rattle.meaning.specs.Bindings.{cells_of, bytes_of}
use Rattle.meaning.specs.Spelling.{Literal, literal_of, spelled_root}
use Rattle.rooms.specs.declared.value.Value.{Value}
use Rattle.rooms_taking.specs.Taking.{cell_room, text_room}
use Rattle.rooms.specs.Scope.{empty_slots, slot_of, stored}
use Rattle.bindings_sound.specs.declared.Bindings.{Bindings}
use Rattle.bindings_sound.specs.Fits.{is_absent}
use Rattle.bindings_sound.specs.Sound.{sound_of, if_sound}
use Rattle.bindings_literals.specs.Laying.{Room, room, laid}

-- what a table may be laid down as, in rooms of so many cells and bytes of which some are used
unfoldable pub literal_for : (room_cells room_bytes cells bytes : ℕ) → Expr → Got Literal
literal_for room_cells room_bytes cells bytes e = do
  l ← literal_of e
  v ← spelled_root l
  demand (leb (cells + cells_of v) room_cells && leb (bytes + bytes_of v) room_bytes) BindingRoomFull start
  got l

-- first the room; then the name, the table, and what it spells
unfoldable pub accepted : (words text : List ℕ) → Bindings → (name : ℕ) → (table literal : List ℕ) → Got Literal
accepted w t b name table literal =
    if_sound (sound_of w t b) do
      n ← or_refuse WrongField start (name_of name)
      demand (is_absent (slot_of b.scope n)) NameBound start
      e ← read_table table literal
      literal_for (cell_room w) (text_room t) b.cells b.bytes e

abbrev pub said : {A : Type 0} → Got A → Result (Unit {0}) Refusal
said (got a) = Ok tt
said (refused r p) = Err (refusal_at r p)

-- the answer, and afterwards the bindings, and the lent words and text
pub record Outcome : Type 0 where
  pub answer : Result (Unit {0}) Refusal
  pub bindings : Bindings
  pub words : List ℕ
  pub text : List ℕ

abbrev pub bound : Bindings → ℕ → Value × Room → Bindings
bound b name a = record { scope = stored b.scope name a.0; cells = a.1.cells; bytes = a.1.bytes }

-- a refusal changes nothing
abbrev pub after : (words text : List ℕ) → Bindings → ℕ → Got Literal → Outcome
after w t b name (refused r p) = record { answer = Err (refusal_at r p); bindings = b; words = w; text = t }
after w t b name (got l) =
    record {
      answer = Ok tt;
      bindings = bound b name (laid l (room w t b.cells b.bytes));
      words = (laid l (room w t b.cells b.bytes)).1.words;
      text = (laid l (room w t b.cells b.bytes)).1.text;
    }

unfoldable pub outcome_of : (words text : List ℕ) → Bindings → (name : ℕ) → (table literal : List ℕ) → Outcome
outcome_of w t b name table literal = after w t b name (accepted w t b name table literal)

abbrev pub emptied : Bindings
emptied = record { scope = empty_slots; cells = 0; bytes = 0 }
