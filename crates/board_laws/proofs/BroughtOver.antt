-- Bringing in over a state is what the definition brings in. Rests on Brought (crate bindings_laws), SettledAnswers and FitSlots. Assumes nothing.
use Prim.Native.Nat.{ℕ, ◌*◌, ◌/◌, ◌≤◌, ◌<◌}
use mathlib.Core.Path.{◌≡◌, refl, sym, ap, ap₂, ◌∙◌, subst}
use mathlib.Core.Bool.{Bool, true, false, cond}
use mathlib.Core.List.{List}
use lib.Dec.{ltb}
use lib.ListN.{length}
use borrow.Author.Tests.{lt-ltb, le-ltb, eq-eqb}
use Rattle.meaning.specs.Errors.{refusal_number, refusal_at}
use Rattle.meaning.specs.declared.refusal.Reason.{Reason}
use Rattle.meaning.specs.declared.refusal.Reason.TheVariants.{UnsoundBinding}
use Rattle.meaning.specs.Heads.{Got, got, refused}
use Rattle.meaning.specs.Spelling.{Literal}
use Rattle.meaning.specs.Bindings as Meaning
use Rattle.meaning.specs.Bindings.{bring}
use Rattle.meaning.specs.WellFormed.{AllBytes}
use Rattle.bindings_sound.specs.declared.Bindings.{Bindings}
use Rattle.std.specs.Prelude.{Result, Ok, Err}
use Rattle.meaning.specs.declared.refusal.Refusal.{Refusal}
use Rattle.bindings.specs.Bringing.{accepted, Outcome, after, outcome_of}
use Rattle.bindings_laws.specs.Brings as Lower
use Rattle.bindings_laws.specs.Brings.{StandsFor, Kept}
use Rattle.bindings_laws.proofs.Brought.{brings-in}
use Rattle.board_words.specs.Overlay.{over, no_room}
use Rattle.board_words.specs.Answers.{which_done, which_refused, done, refusal}
use Rattle.board_state.specs.State.{is_state, bindings_in, state_of, state_put}
use Rattle.board_state.specs.Settled.{AllFit}
use Rattle.board_state.proofs.RoundTrip.{round_trip}
use Rattle.board_state.specs.Bringing.{BindingRoom, binding_room, state_after, stowed, stows}
use Rattle.board_calls.specs.Intake.{hands_brought, brought_into, brings}
use Rattle.board_laws.specs.InOrder.{Words}
use Rattle.board_laws.specs.Called.{Stands, Left, left_by, BroughtIn, RefusedAt, AsMeant, BringsIn}
use Rattle.board_laws.proofs.WordsAgain.{state-long, sound-state}
use Rattle.board_laws.proofs.SettledAnswers.{each_fits, settled-stands}
use Rattle.board_laws.proofs.FitSlots.{state-fits, state-slots, outcome_fits, outcome-slots}

module _ (before : BindingRoom) (name : ℕ) (table literal : List ℕ) where
  abbrev b : Bindings
  b = bindings_in before.state

  abbrev o : Outcome
  o = outcome_of before.cells before.text b name table literal

  -- a refusal of the bindings is one of the state
  refused_over : (why : Reason) (p : ℕ) → o ≡ Lower.refusal before.cells before.text b why p → ◌≡◌ {A = Result (Unit {0}) Refusal × BindingRoom} (stows before name table literal) (Err (refusal_at why p), before)
  unfolding stows
  refused_over why p e = ap (λ (x : Outcome). stowed x before.state) e

  -- what is written back stands for what the bindings became
  module _ (words : Words before.state) (table_bytes : AllBytes table) (text_bytes : AllBytes literal) (room : Meaning.BindingRoom) (stands : Stands before room)
      (more : Meaning.BindingRoom) (holds : Lower.Holds before.cells before.text b more o) where
    is : is_state before.state ≡ true
    is = sound-state before.state before.cells before.text stands.sound

    slots : length o.bindings.scope.slots ≡ 128
    slots = outcome-slots before.cells before.text b name table literal ∙ state-slots before.state

    fit : AllFit o.bindings.scope.slots
    fit = outcome_fits before.cells before.text b name table literal table_bytes text_bytes (state-fits before.state words)

    written : binding_room (state_after o.answer o.bindings before.state) o.words o.text ≡ binding_room (state_of o.bindings) o.words o.text
    unfolding state_put
    written =
        ap (λ (a : Result (Unit {0}) Refusal). binding_room (state_after a o.bindings before.state) o.words o.text) holds.done
        ∙ (rw (eq-eqb (length before.state) 259 (state-long before.state is)) refl)

    done-over : ◌≡◌ {A = Result (Unit {0}) Refusal × BindingRoom} (stows before name table literal) (Ok tt, binding_room (state_of o.bindings) o.words o.text)
    unfolding stows
    done-over = ap₂ (λ (a : Result (Unit {0}) Refusal) (r : BindingRoom). (a, r)) holds.done written

    stands-over : Stands (binding_room (state_of o.bindings) o.words o.text) more
    stands-over =
        subst (λ (c : Bindings). StandsFor o.words o.text c more) (sym (round_trip o.bindings slots fit))
        ((settled-stands o.words o.text o.bindings (each_fits o.bindings.scope.slots fit) more).1 holds.stands)

  -- ---- the call

  module _ (answer : List ℕ) where
    short-brings : length answer < 8 → brings before name table literal answer ≡ ((no_room, answer), before)
    unfolding brings
    short-brings h = rw (lt-ltb (length answer) 8 h) refl

    module _ (long : 8 ≤ length answer) where
      long-brings : brings before name table literal answer ≡ brought_into (stows before name table literal) answer
      unfolding brings
      long-brings = rw (le-ltb (length answer) 8 long) refl

      done-handed : hands_brought (Ok tt) answer ≡ (which_done, over done answer)
      done-handed = rw (le-ltb (length answer) 8 long) refl

      refused-handed : (why : Reason) (p : ℕ) → hands_brought (Err (refusal_at why p)) answer ≡ (which_refused, over (refusal (refusal_number why) p) answer)
      refused-handed why p = rw (le-ltb (length answer) 8 long) refl

      module _ (left : Left) (e : left ≡ left_by (brings before name table literal answer)) where
        refused-left : (why : Reason) (p : ℕ) → o ≡ Lower.refusal before.cells before.text b why p → RefusedAt (refusal_number why) p before answer left
        refused-left why p f =
            let g : left ≡ record { returned = which_refused; answer = over (refusal (refusal_number why) p) answer; room = before } =
            e ∙ ap left_by (long-brings ∙ ap (λ (x : Result (Unit {0}) Refusal × BindingRoom). brought_into x answer) (refused_over why p f)) ∙ ap (λ (h : ℕ × List ℕ). left_by (h, before)) (refused-handed why p) in
            record { returns = ap (λ (l : Left). l.returned) g; answers = ap (λ (l : Left). l.answer) g; unchanged = ap (λ (l : Left). l.room) g }

        module _ (words : Words before.state) (table_bytes : AllBytes table) (text_bytes : AllBytes literal) (room : Meaning.BindingRoom) (stands : Stands before room) where
          done-left : (more : Meaning.BindingRoom) → Lower.Holds before.cells before.text b more o → BroughtIn before room more answer left
          done-left more h =
              let r = binding_room (state_of o.bindings) o.words o.text in
              let g : left ≡ record { returned = which_done; answer = over done answer; room = r } =
              e ∙ ap left_by (long-brings ∙ ap (λ (x : Result (Unit {0}) Refusal × BindingRoom). brought_into x answer) (done-over words table_bytes text_bytes room stands more h)) ∙ ap (λ (k : ℕ × List ℕ). left_by (k, r)) done-handed in
              record {
                returns = ap (λ (l : Left). l.returned) g;
                answers = ap (λ (l : Left). l.answer) g;
                stands = subst (λ (l : Left). Stands l.room more) (sym g) (stands-over words table_bytes text_bytes room stands more h);
                cells =
                    subst (λ (l : Left). Kept (2 * room.used_cells) (2 * more.used_cells) before.cells l.room.cells) (sym g)
                    (subst (λ (n : ℕ). Kept (2 * n) (2 * more.used_cells) before.cells o.words) stands.cells h.words);
                text =
                    subst (λ (l : Left). Kept room.used_bytes more.used_bytes before.text l.room.text) (sym g)
                    (subst (λ (n : ℕ). Kept n more.used_bytes before.text o.text) stands.bytes h.text);
              }

          as-meant : (g : Got Meaning.BindingRoom) → Lower.Brings before.cells before.text b g o → AsMeant g before room answer left
          as-meant (got more) h = done-left more h
          as-meant (refused why p) h = refused-left why p h

-- Bringing in over a state: refused where the definition refuses, with its number and place, and nothing has changed; and where the definition
-- gives a room, the state with its cells and text stands for it, and nothing is written but what it takes.
pub bring-in-means : (before : BindingRoom) (name : ℕ) (table literal answer : List ℕ) (left : Left) → left ≡ left_by (brings before name table literal answer)
    → Words before.state → AllBytes table → AllBytes literal → BringsIn before name table literal answer left
bring-in-means before name table literal answer left e words table_bytes text_bytes =
    record {
      short = λ h. e ∙ ap left_by (short-brings before name table literal answer h);
      unsound = λ h p u. refused-left before name table literal answer h left e UnsoundBinding p (means.unsound p u);
      sound = λ h room s. as-meant before name table literal answer h left e words table_bytes text_bytes room s (bring (length before.cells / 2) (length before.text) room name table literal) (means.sound room s);
    }
  where
    means : Lower.BringsIn before.cells before.text (bindings_in before.state) name table literal
    means = brings-in before.cells before.text (bindings_in before.state) (state-slots before.state) name table literal table_bytes text_bytes

-- Whatever is lent, a call that does not return 0 has changed no state, no cell and no byte.
pub undone-unchanged : (before : BindingRoom) (name : ℕ) (table literal answer : List ℕ) (left : Left) → left ≡ left_by (brings before name table literal answer)
    → (left.returned ≡ which_done → ⊥) → left.room ≡ before
unfolding brings stows outcome_of
undone-unchanged before name table literal answer left e h =
    ap (λ (l : Left). l.room) e
    ∙ by_tests (ltb (length answer) 8) refl (accepted before.cells before.text (bindings_in before.state) name table literal)
    (λ d. h (ap (λ (l : Left). l.returned) e ∙ d))
  where
    leaves : Bool → Got Literal → Left
    leaves c g =
        left_by (cond c ((no_room, answer), before) (brought_into (stowed (after before.cells before.text (bindings_in before.state) name g) before.state) answer))

    by_tests : (c : Bool) → ltb (length answer) 8 ≡ c → (g : Got Literal) → ((leaves c g).returned ≡ which_done → ⊥) → (leaves c g).room ≡ before
    by_tests true f g k = refl
    by_tests false f (refused r p) k = refl
    by_tests false f (got l) k = absurd (k (rw f refl))
