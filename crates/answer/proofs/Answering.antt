-- An evaluation answers and leaves what the definition says, for every table, binding room, evaluation room and step limit. Rests on the
-- machine's answers and on what a sound binding room holds. Assumes nothing.
use Prim.Native.Nat.{ℕ, min}
use mathlib.Core.Path.{◌≡◌, refl, sym, ap, ◌∙◌, subst}
use mathlib.Core.List.{List}
use native.Mathlib.Omega.{arith}
use Rattle.meaning.specs.Limits.{nothing_yet, cut, most_steps}
use Rattle.meaning.specs.Errors as Errors
use Rattle.meaning.specs.Errors.{a_bool, an_iterable, error_number}
use Rattle.meaning.specs.Expr.{Expr}
use Rattle.meaning.specs.Run.{Trace}
use Rattle.meaning.specs.Comprehension as Comprehension
use Rattle.meaning.specs.Limited as Limited
use Rattle.meaning.specs.Limited.{limited, rooms_after}
use Rattle.meaning.specs.Meaning.{run}
use Rattle.meaning.specs.Heads.{Got, got, refused, ◌>>=◌}
use Rattle.meaning.specs.Table.{read_table}
use Rattle.meaning.specs.Bindings.{scope_of}
use Rattle.meaning.specs.Answer.{ran, answer_run, answer_read}
use Rattle.rooms.specs.Rooms.{Rooms}
use Rattle.rooms.specs.Scope.{StandsSlot, StandsScope, slot_of}
use Rattle.rooms.specs.Stands.{Alive}
use Rattle.bindings_sound.specs.declared.Bindings.{Bindings}
use Rattle.std.specs.Prelude.{Result, Ok, Err}
use Rattle.bindings_sound.specs.Sound.{sound_of, if_sound}
use Rattle.bindings_sound.specs.Held.{alive_below}
use Rattle.bindings_sound.proofs.SoundScope.{sound-scope, room-scope}
use Rattle.machine.specs.declared.outcome.Outcome.{Outcome}
use Rattle.machine.specs.Outcomes.{Res}
use Rattle.machine.specs.Refines.{error_of, limit_of, Below}
use Rattle.machine.specs.Answer.{Reads, Answers, answered}
use Rattle.machine.proofs.AnyCells.{words-fit}
use Rattle.machine.proofs.Answering.{table-answers}
use Rattle.answer.specs.Numbers.{error_meant, limit_meant}
use Rattle.answer.specs.declared.Answer.{Answer}
use Rattle.answer.specs.Evaluated.{as_answer, accepted, after, evaluated}
use Rattle.answer.specs.Meant.{Told, told, told_by, Says, limits, bound, meant, Evaluates}
use Rattle.answer.specs.Promised.{Lent}

-- ---- errors and limits, there and back

error-back : (e : Errors.Error) → error_meant (error_of e) ≡ e
error-back Errors.UndeclaredReference = refl
error-back (Errors.UnexpectedType a_bool) = refl
error-back (Errors.UnexpectedType an_iterable) = refl
error-back Errors.NoOverload = refl
error-back Errors.FunctionError = refl
error-back Errors.NoSuchKey = refl
error-back (Errors.Arithmetic e) = refl
error-back Errors.DuplicateKey = refl
error-back Errors.IndexOutOfBounds = refl
error-back Errors.UnsupportedKeyType = refl
error-back Errors.Unordered = refl

limit-back : (x : Errors.Exhausted) → limit_meant (limit_of x) ≡ x
limit-back Errors.Steps = refl
limit-back Errors.Cells = refl
limit-back Errors.Text = refl
limit-back Errors.Nesting = refl

-- what reads as the definition's outcome tells it
reads-tell : (q : Rooms) (o : Outcome) (end : Limited.Outcome) → Reads q o end → told q (as_answer o) ≡ told_by (ran end)
reads-tell q o (Limited.value v c) h = ap (λ x. told q (as_answer x)) h.1 ∙ ap (λ x. Told.value x c) h.2
reads-tell q o (Limited.error e c) h = ap (λ x. told q (as_answer x)) h ∙ ap (λ x. Told.error (error_number x) e.place c) (error-back e.error)
reads-tell q o (Limited.exhausted x c) h = ap (λ y. told q (as_answer y)) h ∙ ap (λ y. Told.exhausted y c) (limit-back x)

-- what the machine's answer says of a run
answers-say : (lent left : Rooms) (o : Outcome) (t : Trace) (end : Limited.Outcome) → Answers lent left o t end
    → Says (record { answer = ran end; rooms = rooms_after t end }) lent (as_answer o) left
answers-say lent left o t end a =
    record {
      tells = reads-tell left o end a.answer;
      cells = a.cells;
      cells_counted = a.counted;
      bytes = a.bytes;
      cells_above = a.cells_above;
      bytes_above = a.bytes_above;
      cells_lent = a.sized;
      bytes_lent = a.text_sized;
      literal = a.literals;
      binding_cells = a.binding_cells;
      binding_text = a.binding_texts;
    }

-- ---- what is accepted

-- a rule that is accepted was read, and its binding room is sound
pub was-accepted : (g : Got Expr) (s : Result (Unit {0}) ℕ) (e : Expr) → ◌>>=◌ g (λ x. if_sound s (got x)) ≡ got e → (g ≡ got e) × (s ≡ Ok tt)
unfolding ◌>>=◌
was-accepted (got x) (Ok u) e h = (h, refl)
was-accepted (got x) (Err p) e h = let z : ◌≡◌ {A = ℕ} 0 1 = cc in absurd (omega arith)
was-accepted (refused why p) s e h = let z : ◌≡◌ {A = ℕ} 0 1 = cc in absurd (omega arith)

-- ---- the answer

module _ (table : List ℕ) (bindings : Bindings) (steps : ℕ) (lent : Rooms) where
  abbrev alive : Alive
  alive = alive_below bindings.cells

  below : Below alive nothing_yet
  below = record { cells = λ i h. absurd h; bytes = omega arith }

  module _ (all : Lent table bindings lent) where
    -- the scope of a sound room stands for that of the definition's room
    scope : sound_of lent.binding_cells lent.binding_text bindings ≡ Ok tt → StandsScope (scope_of (bound bindings lent)) alive lent bindings.scope
    scope s =
        let h = sound-scope lent.binding_cells lent.binding_text bindings s all.slots all.values lent.literal lent.cells lent.text in
        record {
          long = h.long;
          each = λ n. subst (λ o. StandsSlot o alive lent (slot_of bindings.scope n)) (sym (room-scope lent.binding_cells lent.binding_text bindings all.slots n)) (h.each n);
        }

    ran_says : (e : Expr) → read_table table lent.literal ≡ got e → sound_of lent.binding_cells lent.binding_text bindings ≡ Ok tt
        → Says (answer_run (limits steps lent) (run e (scope_of (bound bindings lent)))) lent (after table bindings steps lent (got e)).0 (after table bindings steps lent (got e)).1
    unfolding answer_run cut
    ran_says e g s =
        let t : Comprehension.Scope = scope_of (bound bindings lent) in
        let x : Res = answered table (min steps most_steps) e bindings.scope lent in
        answers-say lent x.1 x.0 (run e t).0 (limited (limits steps lent) (run e t))
        (table-answers table all.table_bytes steps lent e g alive bindings.scope t below (words-fit lent all.words all.binding_words) (scope s))

    got-says : (g : Got Expr) → accepted table bindings lent ≡ g
        → Says (answer_read (limits steps lent) (scope_of (bound bindings lent)) g) lent (after table bindings steps lent g).0 (after table bindings steps lent g).1
    unfolding accepted answer_read
    got-says (refused why place) h =
        record {
          tells = refl;
          cells = tt;
          cells_counted = refl;
          bytes = refl;
          cells_above = refl;
          bytes_above = refl;
          cells_lent = refl;
          bytes_lent = refl;
          literal = refl;
          binding_cells = refl;
          binding_text = refl;
        }
    got-says (got e) h = let w = was-accepted (read_table table lent.literal) (sound_of lent.binding_cells lent.binding_text bindings) e h in ran_says e w.0 w.1

    -- Any table, binding room, evaluation room and step limit has an answer, and it is the definition's; what both rooms hold afterwards is
    -- what the definition says, below the counts and above them.
    pub evaluation-answers : Evaluates table bindings steps lent (evaluated table bindings steps lent).0 (evaluated table bindings steps lent).1
    unfolding evaluated meant
    evaluation-answers = record { exactly = refl; says = got-says (accepted table bindings lent) refl }

    -- so whatever equals it is
    pub evaluates : (answer : Answer) (left : Rooms) → ◌≡◌ {A = Answer × Rooms} (answer, left) (evaluated table bindings steps lent) → Evaluates table bindings steps lent answer left
    evaluates answer left h = subst (λ (x : Answer × Rooms). Evaluates table bindings steps lent x.0 x.1) (sym h) evaluation-answers
