-- What is proved of the definition's answers holds of what `evaluate` answers. Rests on Promises (crate answer). Assumes nothing.
use Prim.Native.Nat.{ℕ}
use mathlib.Core.Path.{◌≡◌, sym, ◌∙◌, subst}
use mathlib.Core.List.{List}
use Rattle.meaning.specs.Limits.{cut}
use Rattle.meaning.specs.Table.{read_table}
use Rattle.meaning.specs.Bindings.{BindingRoom, scope_of}
use Rattle.meaning.specs.Answer.{Answered, answer_read, answer_of}
use Rattle.rooms.specs.Rooms.{Rooms}
use Rattle.bindings_sound.specs.declared.Bindings.{Bindings}
use Rattle.bindings_sound.proofs.SoundScope.{room-scope}
use Rattle.answer.specs.declared.Answer.{Answer}
use Rattle.answer.specs.Meant.{lent_by, Told, told, told_by, Says, meant, Evaluates}
use Rattle.answer.proofs.Promises.{meant-sound}
use Rattle.answer_laws.specs.HoldsScope.{HoldsScope}

module _ (table : List ℕ) (bindings : Bindings) (steps : ℕ) (lent : Rooms) (room : BindingRoom)
    (holds : HoldsScope lent.binding_cells lent.binding_text bindings (scope_of room)) where
  -- The definition's answer to an evaluation is its answer over any room of its own that has the same scope.
  pub meant-over : meant table bindings steps lent ≡ answer_of table lent.literal room (lent_by steps lent)
  unfolding answer_of
  meant-over =
      meant-sound table bindings steps lent holds.sound
      ∙ (λ i. answer_read (cut (lent_by steps lent))
      (λ n. (room-scope lent.binding_cells lent.binding_text bindings holds.slots n ∙ holds.scope n) i) (read_table table lent.literal))

  module _ (answer : Answer) (left : Rooms) (h : Evaluates table bindings steps lent answer left) where
    -- What `evaluate` answers, and the rooms that it leaves, say what the definition answers over that room.
    pub says-over : Says (answer_of table lent.literal room (lent_by steps lent)) lent answer left
    says-over = subst (λ (m : Answered). Says m lent answer left) meant-over h.says

    -- So whatever holds of the definition's answer holds of what `evaluate` tells.
    pub carried : (P : Told → Type 0) → P (told_by (answer_of table lent.literal room (lent_by steps lent)).answer) → P (told left answer)
    carried P p = subst P (sym says-over.tells) p
