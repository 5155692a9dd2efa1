-- What the promises about an evaluation speak of: an answer without a value; binding rooms that agree where a rule names something; all that
-- can be lent.
use Rattle.std.specs.Prelude.{ℕ, ◌^◌, ◌<◌, ◌≡◌, List, length, get_or}
use Rattle.meaning.specs.Limits.{Counts, names}
use Rattle.meaning.specs.Expr.{Expr}
use Rattle.meaning.specs.Listing.{Listed, names_in, names_of}
use Rattle.meaning.specs.Heads.{got}
use Rattle.meaning.specs.Table.{read_table}
use Rattle.meaning.specs.Bindings.{BindingRoom, scope_of}
use Rattle.meaning.specs.WellFormed.{AllBytes}
use Rattle.meaning_laws.specs.Names.{Agree, In}
use Rattle.table_check.specs.Walk.{Walk}
use Rattle.rooms.specs.Cells.{Fits}
use Rattle.rooms.specs.Rooms.{Rooms}
use Rattle.rooms.specs.Scope.{slot_of}
use Rattle.bindings_sound.specs.declared.Bindings.{Bindings}
use Rattle.answer.specs.Meant.{Told}

-- an answer without a value, of a rule that ran, with these counts
abbrev pub WithoutValue : Told → Counts → Type 0
WithoutValue (Told.refused number place) c = ⊥
WithoutValue (Told.value v d) c = ⊥
WithoutValue (Told.error number place d) c = d ≡ c
WithoutValue (Told.exhausted x d) c = d ≡ c

-- over one table and literal text
module _ (table literal : List ℕ) where
  -- both hold the same value, or both none, under each name that the rule contains; elsewhere, and in size, they may differ
  abbrev pub AgreeWhereNamed : BindingRoom → BindingRoom → Type 0
  AgreeWhereNamed room other = (e : Expr) → read_table table literal ≡ got e → Agree (In (names_of e)) (scope_of room) (scope_of other)

  -- the same, for each name that a walk through the table meets
  abbrev pub AgreeWhereMet : BindingRoom → BindingRoom → Type 0
  AgreeWhereMet room other = (rs : List Listed) → Walk table (length table) 0 rs → Agree (In (names_in rs)) (scope_of room) (scope_of other)

-- any contents: bytes, words of 64 bits, and a slot for each name
pub record Lent (table : List ℕ) (bindings : Bindings) (lent : Rooms) : Type 0 where
  pub table_bytes : AllBytes table
  pub words : (i : ℕ) → get_or lent.cells i 0 < 2 ^ 64
  pub binding_words : (i : ℕ) → get_or lent.binding_cells i 0 < 2 ^ 64
  pub slots : length bindings.scope.slots ≡ names
  pub values : (n : ℕ) → Fits (slot_of bindings.scope n)
