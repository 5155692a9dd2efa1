-- Bringing in over a state, from what is said of the bindings. Assumes nothing.
use Prim.Native.Nat.{ℕ}
use mathlib.Core.Path.{◌≡◌, sym, ap, ◌∙◌}
use mathlib.Core.List.{List}
use Rattle.std.specs.Prelude.{Result}
use Rattle.bindings_sound.specs.declared.Bindings.{Bindings}
use Rattle.meaning.specs.declared.refusal.Refusal.{Refusal}
use Rattle.bindings.specs.Bringing.{Outcome, outcome_of}
use Rattle.board_state.specs.State.{bindings_in}
use Rattle.board_state.specs.Bringing.{BindingRoom, binding_room, state_after, stowed, stows}

pub stows-so : (room : BindingRoom) (name : ℕ) (table literal : List ℕ) {before bindings : Bindings} {words text left : List ℕ} {answer said : Result (Unit {0}) Refusal}
    → before ≡ bindings_in room.state
    → ◌≡◌ {A = Outcome} (record { answer = answer; bindings = bindings; words = words; text = text }) (outcome_of room.cells room.text before name table literal)
    → answer ≡ said → left ≡ state_after said bindings room.state
    → ◌≡◌ {A = Result (Unit {0}) Refusal × BindingRoom} (said, binding_room left words text) (stows room name table literal)
unfolding stows
stows-so room name table literal {before} {bindings} {words} {text} {left} {answer} {said} e o a g =
    (λ i. (said, binding_room (g i) words text))
    ∙ ap (λ (k : Result (Unit {0}) Refusal). (k, binding_room (state_after k bindings room.state) words text)) (sym a)
    ∙ ap (λ (k : Outcome). stowed k room.state) (o ∙ ap (λ (b : Bindings). outcome_of room.cells room.text b name table literal) e)
