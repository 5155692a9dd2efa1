-- Every table gets one answer: a refusal, a value, an error or exhaustion. With it, the counts stay within the limits in force, and the
-- rooms hold as many cells and bytes as the counts say. Rests on Exhausted. Assumes nothing.
use Prim.Native.Nat.{ℕ, min}
use mathlib.Core.Path.{◌≡◌, refl, sym, ◌∙◌, ap, subst}
use mathlib.Core.Logic.{inl, inr}
use mathlib.Core.List.{List, []}
use native.Mathlib.Omega.{arith}
use Rattle.meaning.specs.Limits.{Counts, most_steps, most_cells, most_bytes, cut}
use Rattle.meaning.specs.Errors.{ErrorAt}
use Rattle.meaning.specs.declared.refusal.Reason.{Reason}
use Rattle.meaning.specs.Value.{Value}
use Rattle.meaning.specs.Expr.{Expr}
use Rattle.meaning.specs.Run.{Result, Eval}
use Rattle.meaning.specs.Meaning.{run}
use Rattle.meaning.specs.Limited.{Outcome, value, error, exhausted, limited, rooms_after}
use Rattle.meaning.specs.Heads.{Got, got, refused}
use Rattle.meaning.specs.Table.{read_table}
use Rattle.meaning.specs.Bindings.{BindingRoom, scope_of}
use Rattle.meaning.specs.Answer.{Answer, refusal, ran, Answered, answer_run, answer_read, answer_of}
use Rattle.meaning_laws.specs.Charges.{total, AtMost}
use Rattle.meaning_laws.specs.Answers.{Fills, Ending, is_refused, gives_value, gives_error, is_exhausted, Answers, counts_in}
use Rattle.meaning_laws.proofs.Exhausted.{Fate, fate, exhausted-exactly, value-exactly, error-exactly, counts-at-most}
use Rattle.meaning_laws.proofs.Filled.{rooms-of-run}

-- ---- exactly one of them

abbrev ending_of : Answer → Ending
ending_of (refusal r p) = is_refused
ending_of (ran (value v c)) = gives_value
ending_of (ran (error e c)) = gives_error
ending_of (ran (exhausted x c)) = is_exhausted

module _ (table text : List ℕ) (room : BindingRoom) (lent : Counts) where
  ending_of_lem : (k : Ending) → Answers table text room lent k → k ≡ ending_of (answer_of table text room lent).answer
  ending_of_lem is_refused a = sym (ap (λ (x : Answered). ending_of x.answer) a.3)
  ending_of_lem gives_value a = sym (ap (λ (x : Answered). ending_of x.answer) a.5)
  ending_of_lem gives_error a = sym (ap (λ (x : Answered). ending_of x.answer) a.5)
  ending_of_lem is_exhausted a = sym (ap (λ (x : Answered). ending_of x.answer) a.5)

  -- A table that is not accepted is refused, with the reader's number and place, and the rooms are unchanged.
  pub refused-answer : (r : Reason) (p : ℕ) → read_table table text ≡ refused r p →
      answer_of table text room lent ≡ record { answer = refusal r p; rooms = record { cells = []; bytes = [] } }
  unfolding answer_of answer_read
  refused-answer r p e = ap (answer_read (cut lent) (scope_of room)) e

  -- One that is accepted is run.
  pub accepted-answer : (e : Expr) → read_table table text ≡ got e → answer_of table text room lent ≡ answer_run (cut lent) (run e (scope_of room))
  unfolding answer_of answer_read
  accepted-answer e q = ap (answer_read (cut lent) (scope_of room)) q

  answer-of-run : (e : Expr) → read_table table text ≡ got e → (o : Outcome) → limited (cut lent) (run e (scope_of room)) ≡ o →
      answer_of table text room lent ≡ record { answer = ran o; rooms = rooms_after (run e (scope_of room)).0 o }
  unfolding answer_run
  answer-of-run e q o h = accepted-answer e q ∙ (λ i. record { answer = ran (h i); rooms = rooms_after (run e (scope_of room)).0 (h i) })

  answers : (g : Got Expr) → read_table table text ≡ g → (k : Ending) × Answers table text room lent k
  unfolding rooms_after
  answers (refused r p) e = (is_refused, (r, p, e, refused-answer r p e))
  answers (got e) q = go r.1 refl (fate (cut lent) r.0)
    where
      r : Eval Value
      r = run e (scope_of room)

      go : (x : Result ErrorAt Value) → r.1 ≡ x → Fate (cut lent) r.0 →
          (k : Ending) × Answers table text room lent k
      go (Result.value v) h (inl w) =
          (gives_value, (e, v, q, h, w, answer-of-run e q (value v (total r.0)) ((value-exactly (cut lent) r v (total r.0)).1 (h, w, refl))))
      go (Result.error v) h (inl w) =
          (gives_error, (e, v, q, h, w, answer-of-run e q (error v (total r.0)) ((error-exactly (cut lent) r v (total r.0)).1 (h, w, refl))))
      go x h (inr s) =
          let a = answer-of-run e q (exhausted s.0 s.1) ((exhausted-exactly (cut lent) r s.0 s.1).1 s.2) in
          (is_exhausted, (e, s.0, s.1, q, s.2, a))

  -- Every table, with every text, binding room and limits, gets one of the four answers, and no other.
  pub one_answer : (k : Ending) × Answers table text room lent k × ((j : Ending) → Answers table text room lent j → j ≡ k)
  one_answer = let a = answers (read_table table text) refl in (a.0, a.1, λ j b. ending_of_lem j b ∙ sym (ending_of_lem a.0 a.1))

  -- ---- counts

  -- The counts of an answer are at most the limits in force ..
  pub answer-counts : AtMost (counts_in (answer_of table text room lent).answer) (cut lent)
  answer-counts = go (read_table table text) refl
    where
      go : (g : Got Expr) → read_table table text ≡ g → AtMost (counts_in (answer_of table text room lent).answer) (cut lent)
      go (refused r p) e = subst (λ (a : Answered). AtMost (counts_in a.answer) (cut lent)) (sym (refused-answer r p e)) (omega arith)
      go (got e) q =
          subst (λ (a : Answered). AtMost (counts_in a.answer) (cut lent)) (sym (answer-of-run e q _ refl))
          (counts-at-most (cut lent) (run e (scope_of room)))

-- .. and those are at most what was lent, and at most document 01's limits.
pub cut-at-most : (lent : Counts) → AtMost (cut lent) lent × AtMost (cut lent) (record { steps = most_steps; cells = most_cells; bytes = most_bytes })
unfolding cut
cut-at-most lent = (omega arith, omega arith)

-- They are the lesser of the two, each for itself ..
pub cut-least : (lent : Counts) → ((cut lent).steps ≡ min lent.steps most_steps) × ((cut lent).cells ≡ min lent.cells most_cells) ×
    ((cut lent).bytes ≡ min lent.bytes most_bytes)
unfolding cut
cut-least lent = (refl, refl, refl)

-- .. so limits that are at most document 01's are in force as they are lent ..
pub cut-unchanged : (lent : Counts) → AtMost lent (record { steps = most_steps; cells = most_cells; bytes = most_bytes }) → cut lent ≡ lent
unfolding cut
cut-unchanged lent h =
    let steps : min lent.steps most_steps ≡ lent.steps = omega arith in
    let cells : min lent.cells most_cells ≡ lent.cells = omega arith in
    let bytes : min lent.bytes most_bytes ≡ lent.bytes = omega arith in
    rw (steps, cells, bytes)

-- .. and higher ones count as those.
pub higher-limits : (table text : List ℕ) (room : BindingRoom) (lent : Counts) → answer_of table text room lent ≡ answer_of table text room (cut lent)
unfolding answer_of
higher-limits table text room lent =
    ap (λ (limits : Counts). answer_read limits (scope_of room) (read_table table text)) (sym (cut-unchanged (cut lent) (cut-at-most lent).1))

-- ---- rooms

-- Whatever the answer, the rooms hold as many cells and bytes as its counts say; after a refusal none.
pub rooms-filled : (table text : List ℕ) (room : BindingRoom) (lent : Counts) →
    Fills (answer_of table text room lent).rooms (counts_in (answer_of table text room lent).answer)
unfolding answer_run
rooms-filled table text room lent = go (read_table table text) refl
  where
    go : (g : Got Expr) → read_table table text ≡ g → Fills (answer_of table text room lent).rooms (counts_in (answer_of table text room lent).answer)
    go (refused r p) e =
        subst (λ (a : Answered). Fills a.rooms (counts_in a.answer)) (sym (refused-answer table text room lent r p e))
        (record { cells = refl; bytes = refl })
    go (got e) q =
        subst (λ (a : Answered). Fills a.rooms (counts_in a.answer)) (sym (accepted-answer table text room lent e q))
        (rooms-of-run (cut lent) (run e (scope_of room)) _ refl)
