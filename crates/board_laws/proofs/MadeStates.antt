-- Every state that calls make stands for the room that the definition makes by the same bindings. Rests on BroughtOver and RuledOver.
-- Assumes nothing.
use Prim.Native.Nat.{ℕ, ◌/◌, ◌≤◌}
use mathlib.Core.Path.{◌≡◌, refl, sym, ap, ◌∙◌, subst}
use mathlib.Core.Bool.{Bool, true, false}
use mathlib.Core.List.{List}
use native.Mathlib.Omega.{arith}
use lib.Dec.{ltb}
use lib.ListN.{length}
use borrow.Author.Tests.{ltb-true, ltb-false}
use Rattle.meaning.specs.Heads.{Got, got, refused}
use Rattle.meaning.specs.Bindings as Meaning
use Rattle.meaning.specs.Bindings.{bring}
use Rattle.meaning.specs.WellFormed.{AllBytes}
use Rattle.meaning_laws.specs.Accepted.{Accepted, fresh, brought}
use Rattle.board_words.specs.Overlay.{no_room}
use Rattle.board_state.specs.State.{bindings_in, state_of}
use Rattle.board_state.specs.Bringing.{BindingRoom}
use Rattle.board_words.specs.Answers.{which_done}
use Rattle.board_calls.specs.Intake.{brings}
use Rattle.board_laws.specs.InOrder.{Words}
use Rattle.board_laws.specs.Called as Called
use Rattle.board_laws.specs.Called.{Stands, Left, left_by, BroughtIn, AsMeant, BringsIn, Made}
use Rattle.board_laws.proofs.WordsAgain.{accepted-again}
use Rattle.board_laws.proofs.BroughtOver.{bring-in-means}
use Rattle.board_laws.proofs.RuledOver.{empty-means}

module _ (before : BindingRoom) (room : Meaning.BindingRoom) (stands : Stands before room) (name : ℕ) (table literal answer : List ℕ) (words : Words before.state)
    (table_bytes : AllBytes table) (text_bytes : AllBytes literal) (done : (brings before name table literal answer).0.0 ≡ which_done) where
  abbrev left : Left
  left = left_by (brings before name table literal answer)

  abbrev meant : Got Meaning.BindingRoom
  meant = bring (length before.cells / 2) (length before.text) room name table literal

  means : BringsIn before name table literal answer left
  means = bring-in-means before name table literal answer left refl words table_bytes text_bytes

  -- 0 is returned where there is room for an answer
  long : 8 ≤ length answer
  long = by-test (ltb (length answer) 8) refl
    where
      by-test : (b : Bool) → ltb (length answer) 8 ≡ b → 8 ≤ length answer
      by-test false e = ltb-false (length answer) 8 e
      by-test true e = let f : no_room ≡ which_done = sym (ap (λ (l : Left). l.returned) (means.short (ltb-true (length answer) 8 e))) ∙ done in absurd (omega (arith, f))

  -- and only where the definition brings in
  brings-too : (more : Meaning.BindingRoom) × (meant ≡ got more)
  brings-too = by-meaning meant refl (means.sound long room stands)
    where
      by-meaning : (g : Got Meaning.BindingRoom) → meant ≡ g → AsMeant g before room answer left → (more : Meaning.BindingRoom) × (meant ≡ got more)
      by-meaning (got more) e a = (more, e)
      by-meaning (refused why p) e a = let f = sym a.returns ∙ done in absurd (omega (arith, f))

  -- what it brings in is there
  brought-in : (more : Meaning.BindingRoom) → meant ≡ got more → BroughtIn before room more answer left
  brought-in more e = subst (λ (g : Got Meaning.BindingRoom). AsMeant g before room answer left) e (means.sound long room stands)

-- Every state that calls make, over its cells and text, stands for the room that the definition makes by the same bindings: so all that is proved of
-- such rooms and of evaluations over them is true of it.
pub made-stands : (r : BindingRoom) (room : Meaning.BindingRoom) → Made r room → Accepted (length r.cells / 2) (length r.text) room × Stands r room
made-stands r room (Called.emptied state cells text h) = (fresh, (empty-means state cells text h).1)
made-stands r more (Called.brought before room _ name table literal answer m words table_bytes text_bytes d e) =
    let (made, stands) = made-stands before room m in
    let a = brought-in before room stands name table literal answer words table_bytes text_bytes d more e in (
      subst (λ (n : ℕ). Accepted (n / 2) (length r.text) more) (sym a.cells.long)
          (subst (λ (n : ℕ). Accepted (length before.cells / 2) n more) (sym a.text.long) (brought name table literal made table_bytes text_bytes e)),
      a.stands,
    )

-- Over such a state 0 is returned only where the definition brings in: so every call that returns 0 makes one again.
pub made_more : (before : BindingRoom) (room : Meaning.BindingRoom) → Made before room → (name : ℕ) (table literal answer : List ℕ) → Words before.state → AllBytes table → AllBytes literal
    → (brings before name table literal answer).0.0 ≡ which_done
    → (more : Meaning.BindingRoom) × (bring (length before.cells / 2) (length before.text) room name table literal ≡ got more) × Made (brings before name table literal answer).1 more
made_more before room m name table literal answer words table_bytes text_bytes d =
    let (more, e) = brings-too before room (made-stands before room m).1 name table literal answer words table_bytes text_bytes d in
    (more, e, Called.brought before room more name table literal answer m words table_bytes text_bytes d e)

-- The words of such a state come back as they were when what they stand for is written again.
pub made_again : (r : BindingRoom) (room : Meaning.BindingRoom) → Made r room → Words r.state → state_of (bindings_in r.state) ≡ r.state
made_again r room m words = accepted-again r.state r.cells r.text words (made-stands r room m).1.sound
